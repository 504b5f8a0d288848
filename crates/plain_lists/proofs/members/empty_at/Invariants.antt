use Rattle.std.proofs.Common.{◌≡◌, ◌++◌, take, drop, map}
use Rattle.delivery_machine.specs.Words.{emptied_at}
use Rattle.plain_lists.proofs.members.empty_at.Given as goal

abbrev pub invariant-loop-member : goal.invariant-loop-member
invariant-loop-member l = l.members ≡ map (emptied_at l.name) (take l.member-index l.initial.members) ++ drop l.member-index l.initial.members
