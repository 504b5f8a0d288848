use Rattle.std.proofs.Common.{◌≡◌, take}
use Rattle.std.specs.Prelude.{not}
use Rattle.std.specs.List.{filter}
use Rattle.topic_log.specs.Names.{is_numbered}
use Rattle.topic_log.proofs.names.left_of.Given as goal

abbrev pub invariant-loop-gap : goal.invariant-loop-gap
invariant-loop-gap l = l.left.items ≡ filter (λ g. not (is_numbered l.sequences g)) (take l.gap-index l.gaps)
