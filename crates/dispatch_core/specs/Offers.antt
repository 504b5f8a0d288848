-- A member as it is seen, and what an offer names.
use Rattle.std.specs.Prelude.{◌≡◌, ℕ, List, map, Option, Some, slice_get}
use Rattle.std.specs.Option.{option_map}
use Rattle.position_core.specs.declared.message.Entry.{Entry}
use Rattle.delivery_machine.specs.State.{State, Member, Subscription}
use Rattle.delivery_machine.specs.Words.{has_room, members_of, visible, IsEligible}
use Rattle.dispatch_core.specs.declared.view.Seen.{Seen}
use Rattle.dispatch_core.specs.declared.dispatcher.Offer.{Offer}

abbrev pub seen_of : State → Subscription → Member → Seen
seen_of s sub m = record { consumer = m.number; level = m.level; room = has_room s sub m }

-- the members of the subscription, in the order of joining
abbrev pub seen_members : State → Subscription → List Seen
seen_members s sub = map (seen_of s sub) (members_of s sub.name)

-- the member at the place of the line
abbrev pub seen_at : State → Subscription → ℕ → Option Seen
seen_at s sub place = option_map (seen_of s sub) (slice_get (members_of s sub.name) place)

-- the offer names a visible message and a member that it may be sent to
pub record IsGoodOffer (s : State) (sub : Subscription) (offer : Offer) : Type 0 where
  pub message : Entry
  pub member : Member
  pub found : slice_get (visible s) offer.index ≡ Some message
  pub number : member.number ≡ offer.consumer
  pub eligible : IsEligible s sub message member
