-- Well-formed states and sound snapshots: what holds of every state that a run comes to, and of every snapshot of one.
use Rattle.std.specs.Prelude.{◌≡◌, ℕ, ◌+◌, ◌^◌, ◌<◌, ◌≤◌, ◌==◌, ◌&&◌, List, map, length, Bool, false, Some, IsTrue}
use Rattle.std.specs.List.{filter, list_any, flat_map, All, Contains, IsDistinct}
use Rattle.std.specs.List.Sorted.{IsStrictlyIncreasing, IsStrictlySortedBy}
use Rattle.std.specs.Str.{bytes_eq}
use Rattle.std.specs.FinSet as set
use Rattle.std.specs.FinMap as map_of
use Rattle.position_core.specs.declared.position.Position.{Position}
use Rattle.position_core.specs.declared.message.Entry.{Entry}
use Rattle.position_core.specs.declared.held.Held.{Held}
use Rattle.position_core.specs.declared.kind.Kind.TheVariants.{KeyShared}
use Rattle.position_core.specs.Kind.{same_kind}
use Rattle.position_core.specs.Position.{position_cmp, same_position}
use Rattle.position_core.specs.Name.{name_order}
use Rattle.delivery_machine.specs.State.{State, Author, Member, DeadLetter, Subscription}
use Rattle.delivery_machine.specs.Words.{has_position, has_subscription, is_member, is_live, is_held_at, members_of, visible}
use Rattle.delivery_machine.specs.Shares.{is_share_of}
use Rattle.delivery_machine.specs.Ticking.{most_count}
use Rattle.delivery_machine.specs.ShareSets.{AreShares}
use Rattle.delivery_machine.specs.Snapshot.{KeptSubscription, Snapshot}

-- ---- parts of both

-- the position is of one of the messages
abbrev pub has_message : List Entry → Position → Bool
has_message messages position = list_any (has_position position) messages

-- positions rise; each message is in a ledger up to the topic's and up to 2^62, at an entry below the size of a ledger
pub record IsWellFormedLog (ledger_size ledger : ℕ) (log : List Entry) : Type 0 where
  pub positions : IsStrictlySortedBy position_cmp (map (λ e. e.position) log)
  pub ledgers : All (λ e. (e.position.ledger ≤ ledger) × (e.position.ledger ≤ 2 ^ 62)) log
  pub entries : 0 < ledger_size → All (λ e. e.position.entry < ledger_size) log
  pub last_ledger : ledger ≤ 2 ^ 62 + 1

abbrev pub AreMessagesOf : List Entry → set.FinSet position_cmp → Type 0
AreMessagesOf log positions = (position : Position) → IsTrue (set.contains positions position) → IsTrue (has_message log position)

-- a subscription's dead letters are messages of the log, none of them twice, in the order in which they died
pub record AreDeadLettersOf (log : List Entry) (dead : List DeadLetter) : Type 0 where
  pub messages : All (λ d. IsTrue (has_message log d.position)) dead
  pub once : IsDistinct same_position (map (λ d. d.position) dead)
  pub ordinals : IsStrictlyIncreasing (map (λ d. d.ordinal) dead)

-- a message of the log that is neither acknowledged nor dead, and was redelivered: so often at most as is counted
pub record IsCountedWell (log : List Entry) (acknowledged : set.FinSet position_cmp) (dead : List DeadLetter) (position : Position) (times : ℕ) : Type 0 where
  pub message : IsTrue (has_message log position)
  pub waits : set.contains acknowledged position ≡ false
  pub lives : list_any (λ d. same_position d.position position) dead ≡ false
  pub redelivered : 0 < times
  pub most : times ≤ most_count

-- each count is such a message's
abbrev pub AreCountsOf : List Entry → set.FinSet position_cmp → List DeadLetter → map_of.FinMap position_cmp ℕ → Type 0
AreCountsOf log acknowledged dead counts = (position : Position) (times : ℕ) → map_of.get counts position ≡ Some times → IsCountedWell log acknowledged dead position times

-- no two dead letters of a topic have one ordinal, and the next ordinal is above them all; 2^62 is given to none
pub record HaveOrdinals (next : ℕ) (dead : List DeadLetter) : Type 0 where
  pub distinct : IsDistinct (λ a b. a == b) (map (λ d. d.ordinal) dead)
  pub below : All (λ d. d.ordinal < next) dead
  pub last_ordinal : next ≤ 2 ^ 62

-- names stand in their order, and none twice
abbrev pub NamesRise : List (List ℕ) → Type 0
NamesRise names = IsStrictlySortedBy name_order names

-- ---- states

-- numbers that were given in turn: each is above those before it, and the next above them all
pub record AreGiven (next : ℕ) (numbers : List ℕ) : Type 0 where
  pub rising : IsStrictlyIncreasing numbers
  pub below : All (λ n. n < next) numbers

-- each name is remembered once, in the order of their last messages, and these are gone
pub record AreAuthors (gone : ℕ) (authors : List Author) : Type 0 where
  pub names : IsDistinct bytes_eq (map (λ a. a.name) authors)
  pub indexes : AreGiven gone (map (λ a. a.index) authors)

-- a live message that is visible, pending at a member of the subscription
pub record IsPendingWell (s : State) (sub : Subscription) (position : Position) (consumer : ℕ) : Type 0 where
  pub message : IsTrue (has_message (filter (is_live sub) (visible s)) position)
  pub member : IsTrue (list_any (is_member consumer) (members_of s sub.name))

-- what a subscription keeps is of the log and of its members; in Key_Shared each of them has a share, and nobody else
pub record IsWellFormedIn (s : State) (sub : Subscription) : Type 0 where
  pub acknowledged : AreMessagesOf s.log sub.acknowledged
  pub pending : (position : Position) (held : Held) → map_of.get sub.pending position ≡ Some held → IsPendingWell s sub position held.consumer
  pub counted : AreCountsOf s.log sub.acknowledged sub.dead sub.counts
  pub dead : AreDeadLettersOf s.log sub.dead
  pub safe : sub.safe ≤ length sub.dead
  pub shares : AreShares sub.shares
  pub sharers : (number : ℕ) → list_any (is_share_of number) sub.shares.blocks ≡ (same_kind sub.kind KeyShared && list_any (is_member number) (members_of s sub.name))

-- what the member was sent and has not collected are messages of the log, pending at it
abbrev pub IsSentWell : State → Member → Type 0
IsSentWell s m = All (λ d. Contains s.log d.message × IsTrue (is_held_at s m.subscription m.number d.message.position)) m.out

-- at most 2^62 messages are gone
pub record IsWellFormed (s : State) : Type 0 where
  pub log : IsWellFormedLog s.ledger_size s.ledger s.log
  pub gone : s.gone ≤ 2 ^ 62
  pub authors : AreAuthors s.gone s.authors
  pub durable : s.durable ≤ length s.log
  pub producers : AreGiven s.next_producer (map (λ p. p.number) s.producers)
  pub producer_names : IsDistinct bytes_eq (map (λ p. p.name) s.producers)
  pub members : AreGiven s.next_consumer (map (λ m. m.number) s.members)
  pub at_subscriptions : All (λ m. IsTrue (has_subscription s m.subscription)) s.members
  pub names : NamesRise (map (λ sub. sub.name) s.subscriptions)
  pub subscriptions : All (IsWellFormedIn s) s.subscriptions
  pub ordinals : HaveOrdinals s.next_ordinal (flat_map (λ sub. sub.dead) s.subscriptions)
  pub sent : All (IsSentWell s) s.members

-- ---- snapshots

pub record IsSoundSubscription (log : List Entry) (sub : KeptSubscription) : Type 0 where
  pub acknowledged : AreMessagesOf log sub.acknowledged
  pub counted : AreCountsOf log sub.acknowledged sub.dead sub.counts
  pub dead : AreDeadLettersOf log sub.dead

pub record IsSound (kept : Snapshot) : Type 0 where
  pub log : IsWellFormedLog kept.ledger_size kept.ledger kept.log
  pub gone : kept.gone ≤ 2 ^ 62
  pub authors : AreAuthors kept.gone kept.authors
  pub names : NamesRise (map (λ sub. sub.name) kept.subscriptions)
  pub subscriptions : All (IsSoundSubscription kept.log) kept.subscriptions
  pub ordinals : HaveOrdinals kept.next_ordinal (flat_map (λ sub. sub.dead) kept.subscriptions)
