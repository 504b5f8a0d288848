use Rattle.dead_letters.proofs.TrimExample.{may_go_then}
use Rattle.dead_letters.proofs.laws.trimmed_copy_example.Goals as goal

pub returns : goal.returns
returns c = may_go_then
