-- The line once one more stands in it.
use Rattle.std.proofs.Common.{◌≡◌, ◌≢◌, ℕ, ◌<◌, ◌≤◌, ◌==◌, false, List, [], ◌∷◌, ◌++◌, Option, Some, None, length, sym, ap, ◌∙◌, arith}
use Rattle.std.specs.List.{list_any}
use Rattle.std.proofs.lemmas.Bool.{eq-eqb, false≢true}
use Rattle.std.proofs.lemmas.List.{length-append, get_or_append_left}
use Rattle.std.proofs.lemmas.List.Folds.{list_any_at}
use Rattle.std.proofs.lemmas.List.Quantifiers.{all_pairs_push}
use Rattle.std.proofs.lemmas.Option.{slice_get-get_or, get_or_from_slice_get}
use Rattle.dispatch_single.specs.InOrder.{pair_of, comes_before, at, IsActiveIn, NumbersDiffer}
use Rattle.dispatch_single.specs.declared.active.Active.{Active}

-- a number that nobody has comes to the others
pub differ-joined : (line : List (ℕ × ℕ)) (consumer level : ℕ) → NumbersDiffer line → list_any (λ m. m.0 == consumer) line ≡ false → NumbersDiffer (line ++ (consumer, level) ∷ [])
differ-joined line consumer level differ absent =
    all_pairs_push (λ (a b : ℕ × ℕ). a.0 ≢ b.0) line (consumer, level) differ
    (λ k d below same. false≢true (sym absent ∙ list_any_at (λ (m : ℕ × ℕ). m.0 == consumer) line k d below (eq-eqb _ consumer same)))

-- who is active among the first stays so where the line goes on
pub active-append : (line more : List (ℕ × ℕ)) (n : ℕ) (active : Option Active) → n ≤ length line → IsActiveIn line n active → IsActiveIn (line ++ more) n active
active-append line more n None within none = none
active-append line more n (Some m) within was =
    let same : (k : ℕ) → k < length line → at (line ++ more) k ≡ at line k = λ k below. get_or_append_left line more (0, 0) k below in
    let here : m.place < length line = omega (arith, was.0.within, within) in (
      record {
        within = was.0.within;
        best = λ k below.
            ap (λ (y : ℕ × ℕ). comes_before (at (line ++ more) k) y) (same m.place here)
            ∙ ap (λ (x : ℕ × ℕ). comes_before x (at line m.place)) (same k (omega (arith, below, within)))
            ∙ was.0.best k below;
        first = λ k before.
            ap (λ (y : ℕ × ℕ). comes_before y (at (line ++ more) k)) (same m.place here)
            ∙ ap (comes_before (at line m.place)) (same k (omega (arith, before, here)))
            ∙ was.0.first k before;
      },
      slice_get-get_or (line ++ more) m.place (0, 0) (omega (arith, here, length-append line more))
          ∙ ap Some (same m.place here ∙ get_or_from_slice_get line m.place (pair_of m) (0, 0) was.1),
    )
