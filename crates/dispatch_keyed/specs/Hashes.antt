-- Whether the next message of a hash may be sent.
use Rattle.std.specs.Prelude.{◌≡◌, ℕ, ◌<◌, ◌==◌, Bool, false, not, ◌&&◌, Some, IsTrue}
use Rattle.std.specs.Option.{option_map_or}
use Rattle.delivery_machine.specs.State.{State, Subscription, Member}
use Rattle.delivery_machine.specs.Words.{has_room, is_draining, owner_at}
use Rattle.delivery_machine.specs.Shares.{owner_of}
use Rattle.dispatch_core.specs.Log.{holder_at, IsReadyAt}
use Rattle.hash_rows.specs.Hashes.{hash_at}

-- the message at the index has the hash, and is pending at another consumer
abbrev pub drains_at : State → Subscription → ℕ → ℕ → ℕ → Bool
drains_at s sub hash owner i = hash_at s i == hash && option_map_or (λ holder. not (holder == owner)) (holder_at s sub i) false

-- the consumer is a member that owns the hash, and has room
abbrev pub IsRoomyOwner : State → Subscription → ℕ → ℕ → Type 0
IsRoomyOwner s sub hash consumer =
    (m : Member) × (m.number ≡ consumer) × (owner_at s sub hash ≡ Some m) × IsTrue (has_room s sub m) × (owner_of sub.shares hash ≡ Some consumer)

abbrev pub HasNoRoomyOwner : State → Subscription → ℕ → Type 0
HasNoRoomyOwner s sub hash = (m : Member) → owner_at s sub hash ≡ Some m → IsTrue (has_room s sub m) → ⊥

-- the member owns the hash, which does not drain, and has room
pub record MayTake (s : State) (sub : Subscription) (hash : ℕ) (m : Member) : Type 0 where
  pub owner : owner_at s sub hash ≡ Some m
  pub room : IsTrue (has_room s sub m)
  pub still : is_draining s sub hash m.number ≡ false

-- the consumer may be sent the next message of the hash
abbrev pub IsFreeFor : State → Subscription → ℕ → ℕ → Type 0
IsFreeFor s sub hash consumer = (m : Member) × (m.number ≡ consumer) × MayTake s sub hash m

-- nobody may be sent a message of the hash
abbrev pub NoneFree : State → Subscription → ℕ → Type 0
NoneFree s sub hash = (m : Member) → MayTake s sub hash m → ⊥

-- of the hashes of the first messages that wait, none may be served
abbrev pub NoneFreeBefore : State → Subscription → ℕ → Type 0
NoneFreeBefore s sub from = (k : ℕ) → k < from → IsReadyAt s sub k → NoneFree s sub (hash_at s k)
