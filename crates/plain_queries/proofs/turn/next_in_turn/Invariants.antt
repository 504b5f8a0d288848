use Rattle.std.proofs.Common.{take}
use Rattle.std.specs.Option.{option_copied}
use Rattle.delivery_machine.specs.Words.{with_room_in}
use Rattle.plain_queries.specs.Turn.{IsBestLevel}
use Rattle.plain_queries.proofs.turn.next_in_turn.Given as goal

abbrev pub invariant-loop-member : goal.invariant-loop-member
invariant-loop-member l = IsBestLevel (with_room_in l.log (take l.member-index l.members) l.subscription) (option_copied l.best)
