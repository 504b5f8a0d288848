use Rattle.number_sets.proofs.Views.{not_there}
use Rattle.number_sets.proofs.hash_firsts.HashFirsts.take_out.Goals as goal

pub returns-else-node_of-lt-NO_NUMBER : goal.returns-else-node_of-lt-NO_NUMBER
returns-else-node_of-lt-NO_NUMBER c = not_there c.args.self.now c.args.hash c.node_of.result c.node_of.ensures.number c.if-node_of-lt-NO_NUMBER.false
