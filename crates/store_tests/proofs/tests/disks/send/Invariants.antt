use Rattle.store_tests.proofs.tests.disks.send.Given as goal

-- the history that was just opened
abbrev pub ghosts-run : goal.ghosts-run
ghosts-run g a = record { book = a.history }
