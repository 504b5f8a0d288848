-- What is known of a hash, and when it is right.
use Rattle.std.specs.Prelude.{◌≡◌, ◌==◌, ℕ, ◌<◌, nat_lt, Bool, true, ◌&&◌, Option, Some, None, is_some}
use Rattle.number_sets.specs.Places.{IsNext, NoneFrom}
use Rattle.delivery_machine.specs.State.{State, Subscription}
use Rattle.delivery_machine.specs.Shares.{owner_of}
use Rattle.dispatch_core.specs.Log.{waits_at, holder_at}
use Rattle.hash_rows.specs.Hashes.{hash_at}
use Rattle.hash_rows.specs.Standing.{Found, waits_there, holds_there, keeper_of, AllPlacedBefore}

-- all of the row that are pending are so at the consumer
abbrev pub AreHeldBy : Found → State → Subscription → ℕ → Type 0
AreHeldBy row s sub consumer = (i : ℕ) → holds_there row i ≡ true → holder_at s sub i ≡ Some consumer

abbrev pub KeeperIsRight : Found → State → Subscription → Type 0
KeeperIsRight row s sub = (consumer : ℕ) → keeper_of row ≡ Some consumer → AreHeldBy row s sub consumer

-- all of the row that wait stand before the index
abbrev pub WaitBefore : Found → ℕ → Type 0
WaitBefore row index = (i : ℕ) → waits_there row i ≡ true → i < index

-- the message was read, and has the hash
abbrev pub is_read : State → ℕ → ℕ → ℕ → Bool
is_read s hash read i = nat_lt i read && hash_at s i == hash

-- the row has the messages of the hash that were read, as they wait and are pending
pub record IsRowOf (known : Found) (hash read : ℕ) (s : State) (sub : Subscription) : Type 0 where
  pub places : AllPlacedBefore known read
  pub waits : (i : ℕ) → waits_there known i ≡ (is_read s hash read i && waits_at s sub i)
  pub holds : (i : ℕ) → holds_there known i ≡ (is_read s hash read i && is_some (holder_at s sub i))
  pub keeper : KeeperIsRight known s sub

-- the hash has an owner, who has all of the row that are pending
abbrev pub IsFreeRow : Found → Option ℕ → State → Subscription → Type 0
IsFreeRow row owner s sub = (consumer : ℕ) × (owner ≡ Some consumer) × AreHeldBy row s sub consumer

-- the first of the row that waits, where the row is free
pub record IsFirstOf (row : Found) (first : Option ℕ) (owner : Option ℕ) (s : State) (sub : Subscription) : Type 0 where
  pub some : (n : ℕ) → first ≡ Some n → IsNext (waits_there row) 0 n × IsFreeRow row owner s sub
  pub none : first ≡ None → IsFreeRow row owner s sub → NoneFrom (waits_there row) 0

-- what is known of the hash is right
pub record Knows (known : Found) (n : Option ℕ) (hash read : ℕ) (s : State) (sub : Subscription) : Type 0 where
  pub row : IsRowOf known hash read s sub
  pub first : IsFirstOf known n (owner_of sub.shares hash) s sub
