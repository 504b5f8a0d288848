use Rattle.std.proofs.Common.{◌≡◌, ℕ, Bool, true, false, List, [], ◌∷◌, Some, None, Option, ap, ap₂, ◌∙◌, sym, refl, true≢false, arith}
use Rattle.std.specs.Prelude.{◌==◌, ◌&&◌, is_none, is_some, not, if◌then◌else◌}
use Rattle.std.proofs.lemmas.Bool.Decides.{nat_tests}
use Rattle.sqlite.specs.Order.{Row}
use Rattle.delivery_machine.specs.declared.retention.Retention.{Retention}
use Rattle.row_forms.specs.declared.change.RetentionRow.{RetentionRow}
use Rattle.row_forms.specs.Changes.{retention_cells}
use Rattle.row_forms.specs.Forms.{retention_row, retention_rows}
use Rattle.row_forms.proofs.retention_difference.row_of.Goals as goal
use Rattle.row_forms.proofs.retention_difference.row_of.Goals.{else-gone-eq0-via-then-gone-eq0+else-is_none, else-gone-eq0-via-else-gone-eq0}

none_of : (told rule : Option Retention) (is : Bool) → told ≡ rule → is_some told ≡ not is → is ≡ false → is_none rule ≡ false
none_of told None is same tells other = absurd (true≢false (ap not (sym other) ∙ sym tells ∙ ap is_some same))
none_of told (Some rule) is same tells other = refl

other_number : (a b : ℕ) → (a ≡ b → ⊥) → (a == b) ≡ false
other_number a b apart = grind (arith, nat_tests)

-- where the topic has a row, it is this one
one_row : (topic : List ℕ) (row : RetentionRow) (gone : ℕ) (rule : Option Retention) → retention_cells topic row ≡ retention_row topic gone rule → (gone == 0 && is_none rule) ≡ false → retention_cells topic row ∷ [] ≡ retention_rows topic gone rule
one_row topic row gone rule told some = ap (λ (r : Row). r ∷ []) told ∙ sym (ap (λ (b : Bool). if b then [] else retention_row topic gone rule ∷ []) some)

pub returns : goal.returns
returns c topic = elim c.else-gone-eq0.branch [
  | else-gone-eq0-via-then-gone-eq0+else-is_none w ↦ one_row topic c.row_with.result c.args.kept.now.gone c.args.kept.now.retention told (second (c.args.kept.now.gone == 0) _ (none_of c.retention-rule.result c.args.kept.now.retention w.is_none.result c.retention-rule.ensures w.is_none.ensures w.if-is_none.false))
  | else-gone-eq0-via-else-gone-eq0 w ↦ one_row topic c.row_with.result c.args.kept.now.gone c.args.kept.now.retention told (first _ (is_none c.args.kept.now.retention) (ap (λ (n : ℕ). n == 0) (sym c.gone-gone.ensures) ∙ other_number c.gone-gone.result 0 w.if-gone-eq0.false))
]
  where
    told : retention_cells topic c.row_with.result ≡ retention_row topic c.args.kept.now.gone c.args.kept.now.retention
    told = c.row_with.ensures topic ∙ ap₂ (retention_row topic) c.gone-gone.ensures c.retention-rule.ensures

    second : (a b : Bool) → b ≡ false → (a && b) ≡ false
    second true b f = f
    second false b f = refl

    first : (a b : Bool) → a ≡ false → (a && b) ≡ false
    first true b f = absurd (cc)
    first false b f = refl
