use Rattle.number_sets.proofs.Front.{has_later}
use Rattle.number_sets.proofs.summed.Summed.lower.Goals as goal

pub returns-clause-has : goal.returns-clause-has
returns-clause-has g c = rw c.remove_front.ensures.items (has_later c.args.self.now.words.items c.args.count)
