use Rattle.std.proofs.Common.{◌≡◌, Option, Some, None, Result, Ok, Err, sym}
use Rattle.position_core.specs.declared.position.Position.{Position}
use Rattle.position_core.specs.declared.fault.Fault.{Fault}
use Rattle.wire_json.proofs.Ids.{id_is_read, none_is_read}
use Rattle.wire_json.proofs.commands.id_of.Goals as goal

none_ok : (fault : Fault) (p : Position) → (let r : Result Position Fault = Err fault in r ≡ Ok p) → (let r : Option Position = None in r ≡ Some p)
none_ok fault p is = cc

pub returns-in-Ok : goal.returns-in-Ok
returns-in-Ok c =
    let is = rw c.as_bytes.ensures.value at c.in-Ok.ensures.ok in
    sym (id_is_read _ c.in-Ok.position is)

pub returns-in-Err : goal.returns-in-Err
returns-in-Err c =
    let all = rw c.as_bytes.ensures.value at c.in-Err.ensures.all_read in
    none_is_read _ (λ p is. none_ok _ p (all p is))
