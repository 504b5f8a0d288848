use Rattle.std.proofs.Common.{◌≡◌, ◌++◌, take, drop, map}
use Rattle.delivery_machine.specs.Acknowledging.{forgetting}
use Rattle.plain_lists.proofs.members.leave_out_at.Given as goal

abbrev pub invariant-loop-member : goal.invariant-loop-member
invariant-loop-member l = l.members ≡ map (forgetting l.name l.positions) (take l.member-index l.initial.members) ++ drop l.member-index l.initial.members
