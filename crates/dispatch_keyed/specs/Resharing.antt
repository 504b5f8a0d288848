-- What changes as hashes get another owner.
use Rattle.std.specs.Prelude.{◌≡◌, ℕ, ◌+◌, ◌-◌, ◌^◌, ◌≤◌, ◌<◌, Option, Some, None}
use Rattle.std.specs.FinMap as map_of
use Rattle.position_core.specs.declared.block.Block.{Block}
use Rattle.delivery_machine.specs.State.{State, Subscription}
use Rattle.delivery_machine.specs.Shares.{owner_of}
use Rattle.hash_rows.specs.Knowing.{KeeperIsRight, WaitBefore, IsFirstOf}
use Rattle.dispatch_keyed.specs.Tables.{row_at}
use Rattle.dispatch_keyed.specs.declared.keyed.Keyed.{Keyed}

-- the hash is not in the share, if there is one
abbrev pub IsOutside : Option Block → ℕ → Type 0
IsOutside share h = (b : Block) → share ≡ Some b → b.from ≤ h → h < b.from + b.size → ⊥

-- nothing changes but the first messages
pub record SameButFirsts (d e : Keyed) : Type 0 where
  pub owners : e.owners ≡ d.owners
  pub read : e.read ≡ d.read
  pub sent : e.sent ≡ d.sent
  pub rows : e.rows ≡ d.rows

-- where its row is right, so is the first message that is kept of the hash
abbrev pub IsRenewed : Keyed → Keyed → ℕ → State → Subscription → Type 0
IsRenewed d e h s sub =
    KeeperIsRight (row_at e.rows h) s sub
    → WaitBefore (row_at e.rows h) (2 ^ 32 - 1)
    → ((row_at e.rows h).row ≡ None → map_of.get d.firsts.numbers h ≡ None)
    → IsFirstOf (row_at e.rows h) (map_of.get e.firsts.numbers h) (owner_of e.owners.shares h) s sub
