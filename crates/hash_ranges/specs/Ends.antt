-- The shares, by where they end: each begins where the one before it ends.
use Rattle.std.specs.Prelude.{◌≡◌, ℕ, ◌-◌, ◌<◌, nat_le, List, [], ◌∷◌, Option, Some, None, if◌then◌else◌}
use Rattle.std.specs.Ordering.{nat_cmp}
use Rattle.std.specs.BTreeMap.{insert_entry}
use Rattle.position_core.specs.declared.block.Block.{Block}
use Rattle.position_core.specs.Numbers.{ConsumerNumber}
use Rattle.delivery_machine.specs.Shares.{shared_out}

-- the hashes `from` up to but not `end`
abbrev pub share_between : ℕ → ℕ → ConsumerNumber → Block
share_between from end consumer = record { from = from; size = end - from; consumer = consumer }

-- the shares that end there, where the first begins at `from`
abbrev pub shares_from : ℕ → List (ℕ × ConsumerNumber) → List Block
shares_from from [] = []
shares_from from (e ∷ es) = share_between from e.0 e.1 ∷ shares_from e.0 es

abbrev pub shares_of : List (ℕ × ConsumerNumber) → List Block
shares_of ends = shares_from 0 ends

-- where the share of the hash begins: at the last end that is not behind it, or at `from`
abbrev pub begin_from : ℕ → ℕ → List (ℕ × ConsumerNumber) → ℕ
begin_from from hash [] = from
begin_from from hash (e ∷ es) = if nat_le e.0 hash then begin_from e.0 hash es else from

-- the ends rise above `from`, and the last is 65,536
abbrev pub Rise : ℕ → List (ℕ × ConsumerNumber) → Type 0
Rise from [] = from ≡ 65536
Rise from (e ∷ es) = (from < e.0) × Rise e.0 es

-- they do so, as soon as there are any
abbrev pub SplitFrom : ℕ → List (ℕ × ConsumerNumber) → Type 0
SplitFrom from [] = Unit {0}
SplitFrom from (e ∷ es) = Rise from (e ∷ es)

abbrev pub SplitAll : List (ℕ × ConsumerNumber) → Type 0
SplitAll ends = SplitFrom 0 ends

-- the share that has more hashes, or the first where both have as many
abbrev pub larger : Option Block → Block → Block
larger None b = b
larger (Some a) b = if nat_le b.size a.size then a else b

-- the largest of a share and the others, the first of equal ones
abbrev pub largest_with : Option Block → List Block → Option Block
largest_with largest [] = largest
largest_with largest (b ∷ bs) = largest_with (Some (larger largest b)) bs

abbrev pub largest_of : List Block → Option Block
largest_of shares = largest_with None shares

-- with this end more, the consumer has joined whose share ends there
pub record IsEndToJoin (ends : List (ℕ × ConsumerNumber)) (end : ℕ) : Type 0 where
  pub joins : (consumer : ConsumerNumber) → shares_of (insert_entry nat_cmp ends end consumer) ≡ shared_out consumer (shares_of ends)
  pub splits : (consumer : ConsumerNumber) → SplitAll (insert_entry nat_cmp ends end consumer)
