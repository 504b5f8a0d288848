-- What is done to send a message, before its credit is taken, and how it is undone.
use Rattle.std.specs.Prelude.{◌≡◌, ℕ, List, Some, slice_get}
use Rattle.position_core.specs.declared.position.Position.{Position}
use Rattle.position_core.specs.declared.held.Held.{Held}
use Rattle.delivery_machine.specs.State.{State}
use Rattle.delivery_machine.specs.Words.{NoneEligible, changed, is_member, is_named}
use Rattle.delivery_machine.specs.Delivering.{given, holding}
use Rattle.delivery_machine.specs.declared.delivery.Delivery.{Delivery}
use Rattle.topic_members.specs.Members.{pushed, shortened}
use Rattle.dispatch_core.specs.Offers.{IsGoodOffer}
use Rattle.dispatch_core.specs.declared.dispatcher.Offer.{Offer}
use Rattle.topic_subscriptions.specs.Placed.{Placed, sub_in}
use Rattle.topic_parts.specs.Holding.{freeing}
use Rattle.topic_parts.specs.Parts.{log_of}
use Rattle.topic_served.specs.Served.{state_in}
use Rattle.topic_served.specs.declared.served.Served.{Served}

-- the message is pending at the member, and stands last in its out list; its credit is as it was
abbrev pub handed : State → List ℕ → Delivery → Held → State
handed s name delivery held = record s {
  subscriptions = changed (is_named name) (holding delivery.message.position held) s.subscriptions;
  members = changed (is_member held.consumer) (pushed delivery) s.members;
}

-- the message waits again, and the member's out list is without the last one
abbrev pub taken_back : State → List ℕ → Position → ℕ → State
taken_back s name position consumer = record s {
  subscriptions = changed (is_named name) (freeing position) s.subscriptions;
  members = changed (is_member consumer) shortened s.members;
}

-- the message is pending at the member, and stands last in its out list, and the member's credit is one less
abbrev pub paid : State → List ℕ → Delivery → Held → State
paid s name delivery held = record s {
  subscriptions = changed (is_named name) (holding delivery.message.position held) s.subscriptions;
  members = changed (is_member held.consumer) (given delivery) s.members;
}

-- the message and the member may be taken for the subscription at the place
abbrev pub IsOffer : Served → ℕ → Offer → Type 0
IsOffer c place offer = (p : Placed) → slice_get c.parts.subscriptions.items place ≡ Some p → IsGoodOffer (state_in c) (sub_in (log_of c.parts) p) offer

-- no message and member may be
abbrev pub NoOffer : Served → ℕ → Type 0
NoOffer c place = (p : Placed) → slice_get c.parts.subscriptions.items place ≡ Some p → NoneEligible (state_in c) (sub_in (log_of c.parts) p)
