-- Runs and their rows.
use Rattle.std.proofs.Common.{◌≡◌, ℕ, ◌+◌, ◌<◌, ◌≤◌, false, inl, inr, List, [], ◌∷◌, ◌++◌, pos, true, refl, ap, sym, subst, ◌∙◌, arith}
use Rattle.std.specs.FinSet as set
use Rattle.std.specs.Ordering.{nat_cmp}
use Rattle.sqlite.specs.declared.types.Value.TheVariants.{Int, Text as Words}
use Rattle.sqlite.specs.Order.{Row}
use Rattle.ack_ranges.specs.Ranges.{AreRangesOf, MayFollow, from_to}
use Rattle.std.specs.Cmp.{nat_cmp_total}
use Rattle.ack_ranges.proofs.Covers.{contains_from_to, either}
use Rattle.ack_ranges.proofs.Members.{within}
use Rattle.ack_ranges.proofs.Reading.{pushed_one, rises_on}
use Rattle.row_forms.specs.Forms.{ack_row}
use Rattle.row_reading.specs.Reading.{BeginsWithRuns}
use Rattle.row_reading.proofs.Beginnings.{one_more}

ranges_more : (places : set.FinSet nat_cmp) (runs : List (ℕ × ℕ)) (start end : ℕ) → AreRangesOf places runs → MayFollow places start end → AreRangesOf (set.union places (from_to start end)) (runs ++ (start, end) ∷ [])
ranges_more places runs start end are may = record {
  numbers = ap (λ s. set.union s (from_to start end)) are.numbers ∙ pushed_one runs start end;
  rise = rises_on runs start end are.rise (subst (λ s. MayFollow s start end) are.numbers may);
}

pub runs_more : (gone : ℕ) (sub : List ℕ) (places more : set.FinSet nat_cmp) (rows rest after : List Row) (row : Row) (first last : ℕ) → BeginsWithRuns sub gone places rows rest → rest ≡ row ∷ after
    → row ≡ Words sub ∷ Int (pos (gone + first)) ∷ Int (pos (gone + last)) ∷ [] → MayFollow places first (last + 1) → more ≡ set.union places (from_to first (last + 1)) → BeginsWithRuns sub gone more rows after
runs_more gone sub places more rows rest after row first last h next shown may is = (
  h.0 ++ (first, last + 1) ∷ [],
  subst (λ s. AreRangesOf s (h.0 ++ (first, last + 1) ∷ [])) (sym is) (ranges_more places h.0 first (last + 1) h.1 may),
  λ topic.
      let one : Words topic ∷ row ≡ ack_row topic sub gone (first, last + 1) =
      ap (λ (r : Row). Words topic ∷ r) shown ∙ ap (λ n. Words topic ∷ Words sub ∷ Int (pos (gone + first)) ∷ Int (pos (gone + n)) ∷ []) (omega arith) in
      one_more (ack_row topic sub gone) h.0 (first, last + 1) topic rows rest after row (h.2 topic) next one,
)

pub below_more : (places more : set.FinSet nat_cmp) (count first last : ℕ) → ((place : ℕ) → set.contains places place ≡ true → place < count) → last < count → more ≡ set.union places (from_to first (last + 1))
    → (place : ℕ) → set.contains more place ≡ true → place < count
below_more places more count first last below within_count is place h =
    let e : set.contains (set.union places (from_to first (last + 1))) place ≡ true = ap (λ s. set.contains s place) (sym is) ∙ h in
    elim (either _ _ (sym (set.contains-union nat_cmp_total places (from_to first (last + 1)) place) ∙ e)) [
      | inl old ↦ below place old
      | inr new ↦ let w : (first ≤ place) × (place < last + 1) = within first (last + 1) place (sym (contains_from_to first (last + 1) place) ∙ new) in omega (arith, w.1)
    ]

pub nothing_below : (places : set.FinSet nat_cmp) (count : ℕ) → places ≡ set.empty → (place : ℕ) → set.contains places place ≡ true → place < count
nothing_below places count is place h =
    let none : set.contains set.empty place ≡ true = ap (λ s. set.contains s place) (sym is) ∙ h in
    let not_there : set.contains {R = nat_cmp} set.empty place ≡ false = set.contains-empty nat_cmp place in
    absurd (cc)

pub no_runs_yet : (gone : ℕ) (sub : List ℕ) (places : set.FinSet nat_cmp) (rows : List Row) → places ≡ set.empty → BeginsWithRuns sub gone places rows rows
no_runs_yet gone sub places rows is = ([], record { numbers = is; rise = tt }, λ topic. refl)
