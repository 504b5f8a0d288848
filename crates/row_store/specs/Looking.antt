-- What a call leaves that only looks at the rows.
use Rattle.std.specs.Prelude.{◌≡◌, ◌⊎◌, true, Err, IfErr, IsTrue, Result}
use Rattle.position_core.specs.declared.fault.Fault.{Fault}
use Rattle.position_core.specs.declared.fault.Fault.TheVariants.{NoMemory, StoreFailed}
use Rattle.sqlite_trees.specs.declared.store.Store.{Ghosts}
use Rattle.sqlite.specs.State.{HasCleanDisk, Survives}
use Rattle.sqlite.specs.Held.{state}
use Rattle.row_store.specs.Keeping.{Keeping}

-- No row changes, a crash leaves no more than before, and all that the keeper has stays. It is refused for want of memory, and where the
-- store answers an error, now or before.
pub record OnlyLooks {S A : Type 0} (g : Ghosts S) (old new : Keeping S) (result : Result A Fault) : Type 0 where
  pub same : HasCleanDisk (state g new.conn) → IsTrue (state g new.conn).is_open → (state g new.conn).now ≡ (state g old.conn).now
  pub crash : Survives (state g old.conn) (state g new.conn) (λ _. ⊥)
  pub known : new.known ≡ old.known
  pub reading : new.reading ≡ old.reading
  pub written : new.written ≡ old.written
  pub failed : new.failed ≡ old.failed
  pub refused : old.failed ≡ true → (result ≡ Err StoreFailed) × (new ≡ old)
  pub faults : IfErr result (λ fault. (fault ≡ NoMemory) ⊎ (fault ≡ StoreFailed))
