-- A newcomer enters a subscription that is there.
use Rattle.std.specs.Prelude.{◌≡◌, ℕ, ◌+◌, ◌<◌, ◌^◌, false, List, [], ◌∷◌, ◌++◌, Option, Some, None, length, slice_get}
use Rattle.std.specs.List.{filter, list_any, position}
use Rattle.position_core.specs.declared.message.Entry.{Entry}
use Rattle.position_core.specs.declared.kind.Kind.{Kind}
use Rattle.position_core.specs.declared.ranges.HashRange.{HashRange}
use Rattle.position_core.specs.declared.topic_name.TopicName.{TopicName}
use Rattle.delivery_machine.specs.State.{State, Member}
use Rattle.delivery_machine.specs.Words.{changed, is_at, is_member, is_named, members_of}
use Rattle.delivery_machine.specs.Joining.{joining}
use Rattle.delivery_machine.specs.Refusals.{subscribing_refused}
use Rattle.delivery_machine.specs.Shares.{asks_taken, is_share_of, no_shares}
use Rattle.delivery_machine.specs.declared.event.Initial.{Initial}
use Rattle.delivery_machine.specs.declared.event.Initial.TheVariants.{Earliest, Latest}
use Rattle.dispatch_core.specs.Changes.{AgreesAfter, Joined}
use Rattle.topic_served.specs.Agreeing.{agrees}
use Rattle.topic_served.specs.declared.dispatch.Dispatch.{Dispatch}
use Rattle.topic_members.specs.declared.member.Terms.{Terms}
use Rattle.topic_subscriptions.specs.Placed.{KeepsPolicy, Placed, is_placed, made, sub_in}
use Rattle.topic_parts.specs.declared.parts.Parts.{Parts}
use Rattle.topic_parts.specs.Parts.{AreTied, log_of, state_of}
use Rattle.topic_served.specs.declared.served.Served.{Served}
use Rattle.topic_served.specs.Served.{IsSettled, state_in}
use Rattle.member_events.specs.Places.{AreOrdered, names_of}

-- without its first consumer
abbrev pub made_bare : List ℕ → Kind → ℕ → Placed
made_bare name kind end = record (made name kind None 0 end) { line = []; shares = no_shares }

-- so many messages are acknowledged at first
abbrev pub first_end : Initial → List Entry → ℕ
first_end Earliest log = 0
first_end Latest log = length log

-- the subscription at the place is of the kind, and has no members
pub record IsBareAt (t : Parts) (place : ℕ) (kind : Kind) : Type 0 where
  pub sub : Placed
  pub there : Some sub ≡ slice_get t.subscriptions.items place
  pub of_kind : kind ≡ sub.kind
  pub nobody : members_of (state_of t) sub.name ≡ []
  pub unshared : sub.shares ≡ no_shares

-- nobody has a share in the subscription at the place
abbrev pub HasNoShares : Parts → ℕ → Type 0
HasNoShares t place = (p : Placed) → Some p ≡ slice_get t.subscriptions.items place → p.shares ≡ no_shares

-- the dispatcher agrees with the subscription at the place
abbrev pub AgreesAt : Parts → ℕ → Dispatch → Type 0
AgreesAt t place d = (p : Placed) → Some p ≡ slice_get t.subscriptions.items place → agrees d (state_of t) (sub_in (log_of t) p)

-- the next consumer may enter the subscription at the place: nobody has its number, nor a share under it, and there is room
pub record MayEnter (t : Parts) (place : ℕ) (name : List ℕ) : Type 0 where
  pub tied : AreTied t
  pub ordered : AreOrdered t
  pub named : Some place ≡ position (is_placed name) t.subscriptions.items
  pub fresh : list_any (is_member t.members.next) t.members.members ≡ false
  pub few : length (filter (is_at name) t.members.members) < 64
  pub unshared : (p : Placed) → Some p ≡ slice_get t.subscriptions.items place → list_any (is_share_of t.members.next) p.shares.blocks ≡ false
  pub room : 0 < t.members.room
  pub left : t.members.next < 2 ^ 63

-- in the subscription at the place the next consumer asks for no hash that is taken, and keeps the policy
abbrev pub AsksWell : Parts → ℕ → Option (List HashRange) → Type 0
AsksWell t place ranges = (p : Placed) → Some p ≡ slice_get t.subscriptions.items place → (asks_taken p.kind ranges p.shares ≡ false) × KeepsPolicy ranges p.shares

-- the consumer is not turned away
abbrev pub IsAllowed : State → List ℕ → Kind → Terms → TopicName → Option (List HashRange) → Type 0
IsAllowed s name kind terms dead_topic ranges = None ≡ subscribing_refused s name kind terms.max_redeliver dead_topic ranges

-- between events, the next consumer is not turned away, and there is room for it
pub record IsWelcome (c : Served) (name : List ℕ) (kind : Kind) (terms : Terms) (dead_topic : TopicName) (ranges : Option (List HashRange)) : Type 0 where
  pub settled : IsSettled c
  pub allowed : IsAllowed (state_in c) name kind terms dead_topic ranges
  pub room : 0 < c.parts.members.room

-- the member is in its subscription, whose kind it has
abbrev pub entered : State → Option (List HashRange) → Member → State
entered s ranges m = record s {
  subscriptions = changed (is_named m.subscription) (λ sub. joining sub.kind ranges m.number sub) s.subscriptions;
  members = s.members ++ m ∷ [];
  next_consumer = s.next_consumer + 1;
}

-- the member entered, and the dispatcher was told
pub record LetsIn (place : ℕ) (ranges : Option (List HashRange)) (m : Member) (old new : Parts) (before after : Dispatch) : Type 0 where
  pub log : new.log ≡ old.log
  pub state : state_of new ≡ entered (state_of old) ranges m
  pub tied : AreTied new
  pub names : names_of new.subscriptions.items ≡ names_of old.subscriptions.items
  pub told : (p : Placed) → Some p ≡ slice_get new.subscriptions.items place → AgreesAfter (Joined ranges m.number) (agrees before) (agrees after) (state_of new) (sub_in (log_of new) p)

-- all is as it was, but for the room that is kept
pub record StaysAs (old new : Parts) : Type 0 where
  pub rest : new ≡ record old { members = new.members; subscriptions = new.subscriptions }
  pub members : new.members.members ≡ old.members.members
  pub next : new.members.next ≡ old.members.next
  pub items : new.subscriptions.items ≡ old.subscriptions.items
