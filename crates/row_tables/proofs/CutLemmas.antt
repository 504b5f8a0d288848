-- What the DELETE of a topic's first messages takes.
use Rattle.std.proofs.Common.{◌≡◌, ℕ, pos, List, [], ◌∷◌, codes, Bool, true, false, not, Some, Ok, refl, ap, arith}
use Rattle.std.specs.Prelude.{◌&&◌}
use Rattle.std.specs.Ordering.{is_lt}
use Rattle.sqlite.specs.declared.types.Value.{Value}
use Rattle.sqlite.specs.declared.types.Value.TheVariants.{Null, Int, Real, Text, Blob}
use Rattle.sqlite.specs.Order.{Row, column, value_cmp}
use Rattle.sqlite.specs.Ops.{binary, is_true, is_null, from_truth}
use Rattle.sqlite_sql.specs.declared.ops.BinaryOp.TheVariants.{Compare}
use Rattle.sqlite_sql.specs.declared.ops.CompareOp.TheVariants.{Lt}
use Rattle.sqlite.specs.Collation.TheVariants.{Binary}
use Rattle.sqlite.specs.State.{State, ExecutesInside}
use Rattle.row_forms.specs.Cells.{ENTRY, is_of, is_placed_below}
use Rattle.row_tables.specs.Goes.{Goes, Cuts}
use Rattle.row_tables.proofs.Texts.{equals, place_under, cut_entry, cut_entry_is}
use Rattle.row_tables.proofs.TableLemmas.{text_test}
use Rattle.row_tables.proofs.StatementLemmas.{IsTestBy}
use Rattle.row_tables.proofs.PartLemmas.{deletes_rows}
use Rattle.row_tables.proofs.PerTable.{entry_columns}

truth_is : (b : Bool) → is_true (from_truth (Some b)) ≡ b
truth_is true = refl
truth_is false = refl

below_here : (v : Value) (n : ℕ) → is_true (binary (Compare Lt Binary) v (Int (pos n))) ≡ (not (is_null v) && is_lt (value_cmp v (Int (pos n))))
unfolding binary
below_here Null n = refl
below_here (Int k) n = truth_is (is_lt (value_cmp (Int k) (Int (pos n))))
below_here (Real x) n = truth_is (is_lt (value_cmp (Real x) (Int (pos n))))
below_here (Text t) n = truth_is (is_lt (value_cmp (Text t) (Int (pos n))))
below_here (Blob b) n = truth_is (is_lt (value_cmp (Blob b) (Int (pos n))))

-- the message is the topic's, and its place is below this one
abbrev of_first : List ℕ → ℕ → Row → Bool
of_first topic end body = is_of topic body && is_placed_below end body

first_test : (topic : List ℕ) (end : ℕ) → IsTestBy ENTRY (equals 0 ∷ place_under ∷ []) (Text topic ∷ Int (pos end) ∷ []) (of_first topic end)
first_test topic end r = both _ _ _ _ (text_test (column r 1) topic) (below_here (column r 2) end)
  where
    both : (a b d e : Bool) → a ≡ d → b ≡ e → (a && (b && true)) ≡ (d && e)
    both a true d e is too = rw is (ap (λ x. d && x) too)
    both a false d e is too = rw is (ap (λ x. d && x) too)

pub cuts_entry : (topic : List ℕ) (end : ℕ) (old new : State) (count : ℕ) → ExecutesInside 0 cut_entry (Text topic ∷ Int (pos end) ∷ []) old new (Ok count) → Goes (Cuts topic end) old new
cuts_entry topic end old new count h =
    let d = deletes_rows 2 (codes "entry") ENTRY entry_columns (1 ∷ 2 ∷ []) refl (λ _ _ _. refl) (λ _ all. all.1.1.0) (λ _ _ all. all.0 (λ e. omega (arith, e))) (λ _. refl) cut_entry (equals 0 ∷ place_under ∷ []) cut_entry_is.0 cut_entry_is.1
    (Text topic ∷ Int (pos end) ∷ []) (of_first topic end) (first_test topic end) old new count h in
    record {
      running = d.running;
      shown = d.shown;
      was_shown = d.was_shown;
      committed = d.committed;
      does = λ ready. let it = d.does ready in (it.0, record { rows = it.1.0; others = it.1.2 });
    }
