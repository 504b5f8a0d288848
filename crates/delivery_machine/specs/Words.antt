-- What the rules speak of: who is there, the log, live and waiting messages, room, hashes, the active member, eligible pairs.
use Rattle.std.specs.Prelude.{◌≡◌, ℕ, ◌+◌, ◌≤◌, ◌==◌, nat_lt, Bool, false, not, ◌&&◌, ◌||◌, List, [], ◌∷◌, ◌++◌, map, take, ℤ, Option, Some, None, is_some, if◌then◌else◌, IsTrue}
use Rattle.std.specs.List.{filter, count_by, list_any, find, All, Contains}
use Rattle.std.specs.Option.{option_map, option_map_or, option_and_then, unwrap_or}
use Rattle.std.specs.Int.{int_max}
use Rattle.std.specs.Str.{bytes_eq}
use Rattle.std.specs.FinSet as set
use Rattle.std.specs.FinMap as map_of
use Rattle.position_core.specs.declared.position.Position.{Position}
use Rattle.position_core.specs.declared.message.Entry.{Entry}
use Rattle.position_core.specs.declared.held.Held.{Held}
use Rattle.position_core.specs.declared.kind.Kind.{Kind}
use Rattle.position_core.specs.declared.kind.Kind.TheVariants.{Exclusive, Failover, Shared, KeyShared}
use Rattle.position_core.specs.Position.{same_position}
use Rattle.position_core.specs.Kind.{same_kind, is_in_order}
use Rattle.position_core.specs.Flow.{flow_has_room}
use Rattle.position_core.specs.Numbers.{ProducerNumber, ConsumerNumber}
use Rattle.murmur_core.specs.Sticky.{sticky_hash}
use Rattle.delivery_machine.specs.State.{State, Author, Producer, Member, Subscription}
use Rattle.delivery_machine.specs.Shares.{owner_of}

-- ---- lists

-- the list with the first element that passes changed
abbrev pub changed : {A : Type 0} → (A → Bool) → (A → A) → List A → List A
changed p f [] = []
changed p f (x ∷ xs) = if p x then f x ∷ xs else x ∷ changed p f xs

-- the list without the first element that passes
abbrev pub removed : {A : Type 0} → (A → Bool) → List A → List A
removed p [] = []
removed p (x ∷ xs) = if p x then xs else x ∷ removed p xs

-- the one that is picked from each pair
abbrev pub best_by : {A : Type 0} → (A → A → A) → List A → Option A
best_by pick [] = None
best_by pick (x ∷ xs) = Some (option_map_or (pick x) (best_by pick xs) x)

-- ---- who is there

abbrev pub is_producer : ProducerNumber → Producer → Bool
is_producer number p = p.number == number

abbrev pub is_member : ConsumerNumber → Member → Bool
is_member number m = m.number == number

abbrev pub is_named : List ℕ → Subscription → Bool
is_named name sub = bytes_eq sub.name name

-- the member is at the subscription of the name
abbrev pub is_at : List ℕ → Member → Bool
is_at name m = bytes_eq m.subscription name

abbrev pub members_of : State → List ℕ → List Member
members_of s name = filter (is_at name) s.members

abbrev pub has_member : State → ConsumerNumber → Bool
has_member s consumer = is_some (find (is_member consumer) s.members)

abbrev pub has_subscription : State → List ℕ → Bool
has_subscription s name = is_some (find (is_named name) s.subscriptions)

-- the subscription of the name is there, and of the kind
abbrev pub has_kind : State → List ℕ → Kind → Bool
has_kind s name kind = option_map_or (λ sub. same_kind sub.kind kind) (find (is_named name) s.subscriptions) false

-- one consumer of the subscription takes its messages in order
abbrev pub is_in_order_at : State → List ℕ → Bool
is_in_order_at s name = option_map_or (λ sub. is_in_order sub.kind) (find (is_named name) s.subscriptions) false

-- the member with nothing left to collect
abbrev pub emptied : Member → Member
emptied m = record m { out = [] }

-- so each member of the subscription
abbrev pub emptied_at : List ℕ → Member → Member
emptied_at name m = if is_at name m then emptied m else m

abbrev pub is_connected : State → List ℕ → Bool
is_connected s name = list_any (λ p. bytes_eq p.name name) s.producers

-- ---- the log

-- a sequence number under a producer's name
pub record Signed : Type 0 where
  pub name : List ℕ
  pub sequence : ℤ

abbrev pub signed : Entry → Signed
signed e = record { name = e.producer; sequence = e.sequence }

abbrev pub signed_by : Author → Signed
signed_by a = record { name = a.name; sequence = a.sequence }

-- what is known of the numbers of all messages: what is remembered of those that are gone, and those of the log
abbrev pub known : State → List Signed
known s = map signed_by s.authors ++ map signed s.log

abbrev pub is_by : List ℕ → Signed → Bool
is_by name n = bytes_eq n.name name

abbrev pub greatest : List ℤ → Option ℤ
greatest numbers = best_by int_max numbers

-- the greatest of the numbers under the name
abbrev pub greatest_under : List ℕ → List Signed → Option ℤ
greatest_under name numbers = greatest (map (λ n. n.sequence) (filter (is_by name) numbers))

-- the greatest sequence number that is known under the name, or the base where there is none
abbrev pub last_sequence : List Signed → List ℕ → ℤ → ℤ
last_sequence numbers name base = unwrap_or (greatest_under name numbers) base

-- how many entries of the ledger are used, where the last message of the log is the last that was published
abbrev pub used_after : ℕ → List Entry → ℕ
used_after ledger [] = 0
used_after ledger (e ∷ []) = if e.position.ledger == ledger then e.position.entry + 1 else 0
used_after ledger (e ∷ f ∷ log) = used_after ledger (f ∷ log)

-- a full ledger makes the next message begin the next ledger
abbrev pub next_position : State → Position
next_position s =
    let used = used_after s.ledger s.log in
    if nat_lt used s.ledger_size
    then record { ledger = s.ledger; entry = used }
    else record { ledger = s.ledger + 1; entry = 0 }

abbrev pub visible : State → List Entry
visible s = take s.durable s.log

abbrev pub has_position : Position → Entry → Bool
has_position position e = same_position e.position position

-- ---- a subscription's messages

abbrev pub is_dead : Subscription → Position → Bool
is_dead sub position = list_any (λ d. same_position d.position position) sub.dead

-- neither acknowledged nor dead
abbrev pub is_live : Subscription → Entry → Bool
is_live sub e = not (set.contains sub.acknowledged e.position) && not (is_dead sub e.position)

-- live, and pending at nobody
abbrev pub is_waiting : Subscription → Entry → Bool
is_waiting sub e = is_live sub e && not (map_of.contains_key sub.pending e.position)

abbrev pub first_waiting : State → Subscription → Option Entry
first_waiting s sub = find (is_waiting sub) (visible s)

-- how often the message was redelivered
abbrev pub count_of : Subscription → Position → ℕ
count_of sub position = unwrap_or (map_of.get sub.counts position) 0

-- ---- room

abbrev pub is_held_by : ConsumerNumber → Option Held → Bool
is_held_by consumer held = option_map_or (λ h. h.consumer == consumer) held false

-- how many messages of the log are pending at the consumer
abbrev pub pending_in : List Entry → Subscription → ConsumerNumber → ℕ
pending_in log sub consumer = count_by (λ e. is_held_by consumer (map_of.get sub.pending e.position)) log

abbrev pub pending_at : State → Subscription → ConsumerNumber → ℕ
pending_at s sub consumer = pending_in s.log sub consumer

-- the member may be sent a further message
abbrev pub has_room_in : List Entry → Subscription → Member → Bool
has_room_in log sub m = flow_has_room m.flow (pending_in log sub m.number)

abbrev pub has_room : State → Subscription → Member → Bool
has_room s sub m = has_room_in s.log sub m

-- the message is pending at the consumer of the subscription
abbrev pub is_held_at : State → List ℕ → ConsumerNumber → Position → Bool
is_held_at s name consumer position =
    option_map_or (λ sub. is_held_by consumer (map_of.get sub.pending position)) (find (is_named name) s.subscriptions) false

-- ---- hashes

-- the hash of the message's key
abbrev pub hash_of : Entry → ℕ
hash_of e = sticky_hash e.body.key

abbrev pub waits_with_hash : Subscription → ℕ → Entry → Bool
waits_with_hash sub hash e = is_waiting sub e && hash_of e == hash

-- the member in whose share the hash is
abbrev pub owner_in : List Member → Subscription → ℕ → Option Member
owner_in members sub hash = option_and_then (λ number. find (λ m. is_at sub.name m && is_member number m) members) (owner_of sub.shares hash)

abbrev pub owner_at : State → Subscription → ℕ → Option Member
owner_at s sub hash = owner_in s.members sub hash

-- the message is pending at another consumer
abbrev pub is_held_beside : ConsumerNumber → Option Held → Bool
is_held_beside consumer held = option_map_or (λ h. not (h.consumer == consumer)) held false

-- a message of the hash is pending at another consumer than the owner: the hash drains
abbrev pub is_draining_in : List Entry → Subscription → ℕ → ConsumerNumber → Bool
is_draining_in log sub hash owner = list_any (λ e. hash_of e == hash && is_held_beside owner (map_of.get sub.pending e.position)) log

abbrev pub is_draining : State → Subscription → ℕ → ConsumerNumber → Bool
is_draining s sub hash owner = is_draining_in s.log sub hash owner

-- ---- who is served

-- the first stands before the second by level, and then by number
abbrev pub comes_before : Member → Member → Bool
comes_before a b = nat_lt a.level b.level || (a.level == b.level && nat_lt a.number b.number)

abbrev pub earlier : Member → Member → Member
earlier a b = if comes_before b a then b else a

-- the member of the least level and number
abbrev pub active_of : List Member → Option Member
active_of members = best_by earlier members

-- the number of the active member
abbrev pub active_at : State → List ℕ → Option ConsumerNumber
active_at s name = option_map (λ m. m.number) (active_of (members_of s name))

-- the next message in topic order, and the active member
abbrev pub IsNextInOrder : State → Subscription → Entry → Member → Type 0
IsNextInOrder s sub e m = (first_waiting s sub ≡ Some e) × (active_of (members_of s sub.name) ≡ Some m)

-- the members of the subscription that have room
abbrev pub with_room_in : List Entry → List Member → Subscription → List Member
with_room_in log members sub = filter (λ m. is_at sub.name m && has_room_in log sub m) members

abbrev pub with_room : State → Subscription → List Member
with_room s sub = with_room_in s.log s.members sub

-- the next message in topic order, and a member of the best level among those with room
abbrev pub IsNextAtBestLevel : State → Subscription → Entry → Member → Type 0
IsNextAtBestLevel s sub e m =
    (first_waiting s sub ≡ Some e) × Contains (with_room s sub) m × All (λ other. m.level ≤ other.level) (with_room s sub)

-- the next message of its hash in topic order, and the member in whose share the hash is, which does not drain
abbrev pub IsNextOfItsHashIn : List Entry → List Entry → List Member → Subscription → Entry → Member → Type 0
IsNextOfItsHashIn log visible members sub e m =
    (find (waits_with_hash sub (hash_of e)) visible ≡ Some e)
    × (owner_in members sub (hash_of e) ≡ Some m)
    × (is_draining_in log sub (hash_of e) m.number ≡ false)

abbrev pub IsNextOfItsHash : State → Subscription → Entry → Member → Type 0
IsNextOfItsHash s sub e m = IsNextOfItsHashIn s.log (visible s) s.members sub e m

-- by the subscription's kind, the message may go to the member
abbrev pub ChoosesBy : Kind → State → Subscription → Entry → Member → Type 0
ChoosesBy Exclusive s sub e m = IsNextInOrder s sub e m
ChoosesBy Failover s sub e m = IsNextInOrder s sub e m
ChoosesBy Shared s sub e m = IsNextAtBestLevel s sub e m
ChoosesBy KeyShared s sub e m = IsNextOfItsHash s sub e m

-- the message may be sent to the member
abbrev pub IsEligible : State → Subscription → Entry → Member → Type 0
IsEligible s sub e m = IsTrue (has_room s sub m) × ChoosesBy sub.kind s sub e m

abbrev pub NoneEligible : State → Subscription → Type 0
NoneEligible s sub = (e : Entry) (m : Member) → IsEligible s sub e m → ⊥
