use Rattle.topic_core.proofs.restoring.restored.Goals as goal

pub returns-in-Ok-dispatchers_of-clause-settled : goal.returns-in-Ok-dispatchers_of-clause-settled
returns-in-Ok-dispatchers_of-clause-settled c = record {
  reached = c.in-Ok.ensures.reached;
  bound = record {
    numbers = c.in-Ok.ensures.numbers;
    tied = c.in-Ok.ensures.tied;
    told = c.in-Ok-dispatchers_of.ensures.ok;
  };
}
