-- What a crash leaves while a version becomes the last one.
use Rattle.std.proofs.Common.{◌≡◌, inl, inr, IsTrue, sym, subst, arith}
use Rattle.sqlite.specs.Schema.{Schema}
use Rattle.sqlite.specs.Tree.{Trees}
use Rattle.sqlite.specs.Effect.{Database}
use Rattle.sqlite.specs.State.{State, HasCleanDisk, Survives}
use Rattle.sqlite.proofs.StateLemmas.{survives_then, survives_weaker}
use Rattle.row_forms.specs.Schema.{schema_7, schema_9}
use Rattle.row_tables.specs.Ready.{IsVersion1, IsVersion2, IsRaised, BecomesVersion2, BecomesVersion3}
use Rattle.row_schema.specs.Upgrading.{MayBecome}

-- what a crash may leave in one step
abbrev pub MayTake : (Database → Type 0) → (Database → Database → Type 0) → Schema → State → Trees → Type 0
MayTake IsVersion BecomesNext schema old db = IsTrue old.is_open × (IsVersion old.now → BecomesNext old.now (record { schema = schema; trees = db }))

-- or in one or both
abbrev pub MayRaise : (Database → Type 0) → State → Trees → Type 0
MayRaise IsVersion old db = IsTrue old.is_open × (IsVersion old.now → (schema : Schema) × IsRaised old.now (record { schema = schema; trees = db }))

pub crash_first : (a b : State) → Survives a b (MayTake IsVersion1 BecomesVersion2 schema_7 a) → Survives a b (MayRaise IsVersion1 a)
crash_first a b took = survives_weaker a b (MayTake IsVersion1 BecomesVersion2 schema_7 a) (MayRaise IsVersion1 a) (λ clean db h. (h.0, λ v. (schema_7, inl (h.1 v)))) took

pub crash_second : (a b : State) → Survives a b (MayTake IsVersion2 BecomesVersion3 schema_9 a) → Survives a b (MayRaise IsVersion2 a)
crash_second a b took = survives_weaker a b (MayTake IsVersion2 BecomesVersion3 schema_9 a) (MayRaise IsVersion2 a) (λ clean db h. (h.0, λ v. (schema_9, inr (inl (h.1 v))))) took

pub crash_both : (a b c : State) → Survives a b (MayTake IsVersion1 BecomesVersion2 schema_7 a) → (HasCleanDisk b → IsTrue a.is_open) → (HasCleanDisk b → IsVersion1 a.now → BecomesVersion2 a.now b.now)
    → Survives b c (MayTake IsVersion2 BecomesVersion3 schema_9 b) → Survives a c (MayRaise IsVersion1 a)
crash_both a b c first shown raised second =
    survives_then a b c (MayTake IsVersion1 BecomesVersion2 schema_7 a) (MayTake IsVersion2 BecomesVersion3 schema_9 b) (MayRaise IsVersion1 a) (λ clean db h. (h.0, λ v. (schema_7, inl (h.1 v))))
    (λ clean db h.
    let early : HasCleanDisk b = omega (arith, second.clean) in
    (shown early, λ v. let one = raised early v in (schema_9, inr (inr (b.now, one, h.1 one.is))))) first second

-- after a look that changed nothing
pub crash_looked : (IsVersion : Database → Type 0) (a b c : State) → Survives a b (λ _. ⊥) → (HasCleanDisk b → IsTrue b.is_open → b.now ≡ a.now) → (HasCleanDisk b → IsTrue b.is_open → IsTrue a.is_open × IsVersion a.now)
    → Survives b c (MayRaise IsVersion b) → Survives a c (MayBecome a)
crash_looked IsVersion a b c looked same was raised =
    survives_then a b c (λ _. ⊥) (MayRaise IsVersion b) (MayBecome a) (λ clean db none. absurd none)
    (λ clean db h.
    let early : HasCleanDisk b = omega (arith, raised.clean) in
    let is = same early h.0 in
    let had = was early h.0 in
    let it = h.1 (subst IsVersion (sym is) had.1) in
    (had.0, (it.0, subst (λ (d : Database). IsRaised d (record { schema = it.0; trees = db })) is it.1))) looked raised
