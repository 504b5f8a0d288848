use Rattle.topic_tests.proofs.tests.shared_topic.receipts.receipts.Given as goal

abbrev pub ghosts-run-L-Ledger : goal.ghosts-run-L-Ledger
ghosts-run-L-Ledger g a = record { name = a.blank.name; parts = a.blank.parts }

abbrev pub ghosts-run-L-Opening : goal.ghosts-run-L-Opening
ghosts-run-L-Opening g a = record { opening = a.base }
