use Rattle.std.proofs.Common.{◌≡◌, take}
use Rattle.std.specs.List.{filter}
use Rattle.std.specs.Option.{option_copied}
use Rattle.delivery_machine.specs.Words.{active_of, is_at}
use Rattle.plain_queries.proofs.members.active_at.Given as goal

abbrev pub invariant-loop-member : goal.invariant-loop-member
invariant-loop-member l = option_copied l.best ≡ active_of (filter (is_at l.name) (take l.member-index l.members))
