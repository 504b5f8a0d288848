-- The row of what is gone and of the rule, if there is one.
use Rattle.std.proofs.Common.{◌≡◌, ◌≤◌, Bool, true, false, Option, Some, None, List, [], ◌∷◌, length, get_or, pos, refl, ap, sym, arith}
use Rattle.std.specs.Prelude.{◌==◌, ◌&&◌, is_none, if◌then◌else◌, IfNone}
use Rattle.std.proofs.lemmas.List.{length-map}
use Rattle.sqlite.specs.declared.types.Value.TheVariants.{Int, Text as Words}
use Rattle.sqlite.specs.Order.{Row}
use Rattle.row_forms.specs.Forms.{retention_row, rule_cells}
use Rattle.row_reading.specs.declared.retention_rows.Front.{Front}
use Rattle.row_reading.specs.Reading.{IsFrontIn, IsRowOfFront}
use Rattle.row_reading.proofs.Authors.{retentions_few}

pub if_none : (o : Option Front) (P Q : Type 0) → (P → Q) → IfNone o P → IfNone o Q
if_none None P Q gives h = gives h
if_none (Some x) P Q gives h = h

pub one_only : (rows : List Row) (row : Row) → length rows ≡ 1 → row ≡ get_or rows 0 row → rows ≡ row ∷ []
one_only [] row long at = absurd (omega (arith, long))
one_only (r ∷ []) row long at = ap (λ (x : Row). x ∷ []) (sym at)
one_only (r ∷ s ∷ rows) row long at = absurd (omega (arith, long))

pub front_row : (row : Row) (front : Front) → IsFrontIn (row ∷ []) front → IsRowOfFront row front
front_row row front is =
    let parts = by (front.gone == 0 && is_none front.retention) refl (is.shown []) in
    record { shown = parts.0; says = parts.1; at_most = is.at_most; rule = is.rule }
  where
    by : (b : Bool) → (front.gone == 0 && is_none front.retention) ≡ b → (Words [] ∷ row) ∷ [] ≡ (if b then [] else retention_row [] front.gone front.retention ∷ [])
        → (row ≡ Int (pos front.gone) ∷ rule_cells front.retention) × ((front.gone == 0 && is_none front.retention) ≡ false)
    by true says e = absurd (cc)
    by false says e = (cc, says)

pub front_short : (rows : List Row) (front : Front) → 2 ≤ length rows → IsFrontIn rows front → ⊥
front_short rows front long is =
    let same = ap length (is.shown []) in
    absurd (omega (arith, long, same, length-map rows (λ (r : Row). Words [] ∷ r), retentions_few [] front.gone front.retention))
