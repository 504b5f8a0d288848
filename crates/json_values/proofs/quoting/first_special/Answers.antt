use Rattle.json_values.proofs.Escapes.{position_splits}
use Rattle.json_values.proofs.quoting.first_special.Goals as goal

pub returns-clause-some : goal.returns-clause-some
returns-clause-some c = rw c.special_position.ensures (position_splits c.args.text.now).0

pub returns-clause-none : goal.returns-clause-none
returns-clause-none c = rw c.special_position.ensures (position_splits c.args.text.now).1
