use Rattle.session_core.proofs.serving.turn.Goals as goal

pub returns-clause-run : goal.returns-clause-run
returns-clause-run g c = rw c.in-Some.ensures.value at c.serve.ensures.run
