use Rattle.std.proofs.Common.{◌≡◌, map, take}
use Rattle.topic_members.specs.Joined.{emptied_in}
use Rattle.topic_members.proofs.line.empty_those.Given as goal

abbrev pub invariant-loop-number : goal.invariant-loop-number
invariant-loop-number l = l.members.items ≡ map (emptied_in (take l.number-index l.line)) l.initial.members.items
