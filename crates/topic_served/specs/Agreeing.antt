-- When a dispatcher agrees with the topic.
use Rattle.std.specs.Prelude.{◌≡◌, false, List, Option, Some, None}
use Rattle.position_core.specs.declared.ranges.HashRange.{HashRange}
use Rattle.delivery_machine.specs.Shares.{is_taken}
use Rattle.delivery_machine.specs.State.{State, Subscription}
use Rattle.dispatch_single.specs.InOrder as in_order
use Rattle.dispatch_shared.specs.Turn as in_turn
use Rattle.dispatch_keyed.specs.Agreeing as by_key
use Rattle.topic_served.specs.declared.dispatch.Dispatch.{Dispatch}
use Rattle.topic_served.specs.declared.dispatch.Dispatch.TheVariants.{InOrder, InTurn, ByKey}

-- its tables agree with the topic and the subscription
abbrev pub agrees : Dispatch → State → Subscription → Type 0
agrees (InOrder d) s sub = in_order.Agrees d s sub
agrees (InTurn d) s sub = in_turn.Agrees d s sub
agrees (ByKey d) s sub = by_key.Agrees d s sub

-- the consumer asks for no hash that is another's
abbrev pub AsksForFree : Dispatch → Option (List HashRange) → Type 0
AsksForFree (ByKey d) (Some ranges) = is_taken ranges d.owners.shares ≡ false
AsksForFree (ByKey d) None = Unit {0}
AsksForFree (InOrder d) ranges = Unit {0}
AsksForFree (InTurn d) ranges = Unit {0}
