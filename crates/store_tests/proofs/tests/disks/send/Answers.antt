use Rattle.store_tests.proofs.tests.disks.send.Goals as goal

pub run-store-requires-clause-keyed : goal.run-store-requires-clause-keyed
run-store-requires-clause-keyed g c clean is_open = c.requires.keyed clean
