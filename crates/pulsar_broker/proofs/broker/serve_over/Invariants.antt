use Rattle.pulsar_broker.proofs.broker.serve_over.Given as goal

-- the history that was just opened
abbrev pub ghosts-serve_named : goal.ghosts-serve_named
ghosts-serve_named g a = record { book = a.history }
