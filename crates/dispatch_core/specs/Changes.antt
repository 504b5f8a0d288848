-- What happens to a topic, as one of its subscriptions sees it: by indexes of the log, by the line of its members and by
-- their shares.
use Rattle.std.specs.Prelude.{◌≡◌, ◌≢◌, ℕ, ◌+◌, ◌-◌, ◌==◌, ◌<◌, ◌≤◌, true, false, not, List, [], ◌∷◌, ◌++◌, length, drop, Option, Some, None, IsSome}
use Rattle.std.specs.List.{filter, list_any}
use Rattle.position_core.specs.declared.message.Entry.{Entry}
use Rattle.position_core.specs.declared.ranges.HashRange.{HashRange}
use Rattle.delivery_machine.specs.State.{State, Subscription}
use Rattle.delivery_machine.specs.Words.{visible}
use Rattle.delivery_machine.specs.Shares.{shares_with, shares_without}
use Rattle.dispatch_core.specs.Log.{waits_at, holder_at, line_of}

-- ---- what stays

-- the message at the index waits as it did, and is pending where it was
pub record StaysAt (i : ℕ) (s : State) (sub : Subscription) (t : State) (new : Subscription) : Type 0 where
  pub waits : waits_at t new i ≡ waits_at s sub i
  pub holder : holder_at t new i ≡ holder_at s sub i

pub record LogStays (s : State) (sub : Subscription) (t : State) (new : Subscription) : Type 0 where
  pub kind : new.kind ≡ sub.kind
  pub log : t.log ≡ s.log
  pub durable : t.durable ≡ s.durable

-- nothing changes but the line and the shares
pub record OnlyLineChanges (s : State) (sub : Subscription) (t : State) (new : Subscription) : Type 0 where
  pub log : LogStays s sub t new
  pub messages : (i : ℕ) → StaysAt i s sub t new

-- nothing changes but at the index
pub record OnlyChangesAt (index : ℕ) (s : State) (sub : Subscription) (t : State) (new : Subscription) : Type 0 where
  pub log : LogStays s sub t new
  pub line : line_of t new ≡ line_of s sub
  pub shares : new.shares ≡ sub.shares
  pub others : (i : ℕ) → i ≢ index → StaysAt i s sub t new

-- ---- the log

-- a message was appended, which waits
pub record Appended (s : State) (sub : Subscription) (t : State) (new : Subscription) : Type 0 where
  pub kind : new.kind ≡ sub.kind
  pub message : Entry
  pub log : t.log ≡ s.log ++ message ∷ []
  pub durable : t.durable ≡ s.durable
  pub line : line_of t new ≡ line_of s sub
  pub shares : new.shares ≡ sub.shares
  pub others : (i : ℕ) → i < length s.log → StaysAt i s sub t new
  pub waits : waits_at t new (length s.log) ≡ true
  pub holder : holder_at t new (length s.log) ≡ None

-- the message that was appended last is taken back, before it was to be seen
pub record TakenBack (s : State) (sub : Subscription) (t : State) (new : Subscription) : Type 0 where
  pub appended : Appended t new s sub
  pub unseen : t.durable ≤ length t.log

-- the first messages of the log went, so many, which all had done with
pub record Trimmed (n : ℕ) (s : State) (sub : Subscription) (t : State) (new : Subscription) : Type 0 where
  pub kind : new.kind ≡ sub.kind
  pub log : t.log ≡ drop n s.log
  pub durable : t.durable ≡ s.durable - n
  pub seen : n ≤ length (visible s)
  pub line : line_of t new ≡ line_of s sub
  pub shares : new.shares ≡ sub.shares
  pub waits : (i : ℕ) → waits_at t new i ≡ waits_at s sub (n + i)
  pub holder : (i : ℕ) → holder_at t new i ≡ holder_at s sub (n + i)
  pub idle : (i : ℕ) → i < n → (waits_at s sub i ≡ false) × (holder_at s sub i ≡ None)

-- ---- the line

-- the consumer joined, as the last in line, and got its share in Key_Shared, where it may say which hashes it takes
pub record Joined (ranges : Option (List HashRange)) (consumer : ℕ) (s : State) (sub : Subscription) (t : State) (new : Subscription) : Type 0 where
  pub stays : OnlyLineChanges s sub t new
  pub level : ℕ
  pub line : line_of t new ≡ line_of s sub ++ (consumer, level) ∷ []
  pub shares : new.shares ≡ shares_with sub.kind ranges consumer sub.shares
  pub absent : list_any (λ m. m.0 == consumer) (line_of s sub) ≡ false
  pub few : length (line_of s sub) < 64

-- the consumer left, with nothing pending at it, and its share went from it
pub record Left (consumer : ℕ) (s : State) (sub : Subscription) (t : State) (new : Subscription) : Type 0 where
  pub stays : OnlyLineChanges s sub t new
  pub line : line_of t new ≡ filter (λ m. not (m.0 == consumer)) (line_of s sub)
  pub shares : new.shares ≡ shares_without consumer sub.shares
  pub idle : (i : ℕ) → holder_at s sub i ≢ Some consumer

-- ---- a message

-- the message at the index was sent to the consumer
pub record Sent (index consumer : ℕ) (s : State) (sub : Subscription) (t : State) (new : Subscription) : Type 0 where
  pub stays : OnlyChangesAt index s sub t new
  pub seen : index < length (visible s)
  pub waited : waits_at s sub index ≡ true
  pub waits : waits_at t new index ≡ false
  pub holder : holder_at t new index ≡ Some consumer

-- the message at the index was acknowledged, or died
pub record Gone (index : ℕ) (s : State) (sub : Subscription) (t : State) (new : Subscription) : Type 0 where
  pub stays : OnlyChangesAt index s sub t new
  pub waits : waits_at t new index ≡ false
  pub holder : holder_at t new index ≡ None

-- the message at the index, which was pending, waits again
pub record Released (index : ℕ) (s : State) (sub : Subscription) (t : State) (new : Subscription) : Type 0 where
  pub stays : OnlyChangesAt index s sub t new
  pub held : IsSome (holder_at s sub index)
  pub waits : waits_at t new index ≡ true
  pub holder : holder_at t new index ≡ None

-- ---- the whole

-- nothing is pending, and any messages may wait
pub record Reset (s : State) (sub : Subscription) (t : State) (new : Subscription) : Type 0 where
  pub log : LogStays s sub t new
  pub line : line_of t new ≡ line_of s sub
  pub shares : new.shares ≡ sub.shares
  pub idle : (i : ℕ) → holder_at t new i ≡ None

-- more of the log may be seen, and members may have gained or lost room
pub record Kept (s : State) (sub : Subscription) (t : State) (new : Subscription) : Type 0 where
  pub kind : new.kind ≡ sub.kind
  pub log : t.log ≡ s.log
  pub durable : s.durable ≤ t.durable
  pub line : line_of t new ≡ line_of s sub
  pub shares : new.shares ≡ sub.shares
  pub messages : (i : ℕ) → StaysAt i s sub t new

-- ---- agreement

-- what agreed with the topic before the change agrees with it now
abbrev pub AgreesAfter : (State → Subscription → State → Subscription → Type 0) → (State → Subscription → Type 0) → (State → Subscription → Type 0) → State → Subscription → Type 0
AgreesAfter Changes Before After t new = (s : State) (sub : Subscription) → Changes s sub t new → Before s sub → After t new

-- what agrees with the topic now will agree with it after the change
abbrev pub WillAgree : (State → Subscription → State → Subscription → Type 0) → (State → Subscription → Type 0) → (State → Subscription → Type 0) → State → Subscription → Type 0
WillAgree Changes Before After s sub = Before s sub → (t : State) (new : Subscription) → Changes s sub t new → After t new
