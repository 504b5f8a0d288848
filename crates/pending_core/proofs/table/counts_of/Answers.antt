use Rattle.std.proofs.Common.{◌≡◌, ◌≤◌, ◌<◌, ◌++◌, ◌∷◌, [], ◌∙◌, map, ap, sym, subst, arith, Some, None, ℕ, All, refl, inl, inr, true≢false}
use Rattle.std.proofs.lemmas.Bool.{cases_lt}
use Rattle.std.proofs.lemmas.List.{map-append}
use Rattle.std.specs.Map.Iter.{deref_pair}
use Rattle.std.specs.FinMap as map_of
use Rattle.delivery_machine.specs.Counts.{IsAfterAll}
use Rattle.pending_core.specs.declared.kept.Kept.{Kept}
use Rattle.pending_core.specs.Pending.{most_count}
use Rattle.pending_core.specs.Kept.{count_in, found_in, kept_at}
use Rattle.pending_core.proofs.Collected.{comes_after, counted_one, counted_none, in_the_middle, one_done}
use Rattle.pending_core.proofs.table.counts_of.Goals as goal

pub loop-position-preserved-in-Continue-1 : goal.loop-position-preserved-in-Continue-1
loop-position-preserved-in-Continue-1 c =
    let done = map deref_pair c.loop-position.yielded in
    let p = c.in-Some.position.now in
    let k = c.in-Some.kept.now in
    let whole = ap (λ rest. done ++ rest) (sym c.in-Some.ensures.steps) ∙ c.loop-position.invariant.whole in
    let rising = c.iter-position-items.ensures.ordered in
    let after = subst (λ m. IsAfterAll m p) (sym c.loop-position.invariant.found) (comes_after done c.next.new.self _ p k whole rising) in
    let fits = c.in-Some-new.ensures.fits.0 refl in
    let more : map deref_pair (c.loop-position.yielded ++ (c.in-Some.position, c.in-Some.kept) ∷ []) ≡ done ++ (p, k) ∷ [] = map-append deref_pair c.loop-position.yielded ((c.in-Some.position, c.in-Some.kept) ∷ []) in
    record {
      found =
          c.in_ok-push-in-Some-new.ensures.after after
          ∙ ap (λ m. map_of.insert m p c.in-Some-new.times) c.loop-position.invariant.found
          ∙ counted_one done c.next.new.self _ p k whole rising c.in-Some-new.times c.in-Some-new.ensures.value fits.0
          ∙ ap (found_in count_in) (sym more);
      whole = ap (λ xs. xs ++ c.next.new.self) more ∙ one_done done c.next.new.self _ p k whole rising;
    }

-- no number is neither above 0 nor 0
not_counted : (count : ℕ) → count ≤ most_count → ((1 ≤ count) × (count ≤ 2147483647) → ⊥) → count ≤ 0
not_counted count most none = elim (cases_lt 0 count) [
  | inl above ↦ absurd (none (omega (arith, above), most))
  | inr zero ↦ zero
]

pub loop-position-preserved : goal.loop-position-preserved
loop-position-preserved c =
    let done = map deref_pair c.loop-position.yielded in
    let p = c.in-Some.position.now in
    let k = c.in-Some.kept.now in
    let whole = ap (λ rest. done ++ rest) (sym c.in-Some.ensures.steps) ∙ c.loop-position.invariant.whole in
    let rising = c.iter-position-items.ensures.ordered in
    let here : kept_at c.args.table.now.entries p ≡ Some k = in_the_middle (λ e. kept_at c.args.table.now.entries e.0 ≡ Some e.1) done c.next.new.self (p, k) (subst (λ es. All (λ e. kept_at c.args.table.now.entries e.0 ≡ Some e.1) es) (sym whole) c.iter-position-items.ensures.found) in
    let zero = not_counted k.count (c.requires p k here) (λ fits. true≢false (sym (c.in-None-new.ensures.fits.1 fits))) in
    let more : map deref_pair (c.loop-position.yielded ++ (c.in-Some.position, c.in-Some.kept) ∷ []) ≡ done ++ (p, k) ∷ [] = map-append deref_pair c.loop-position.yielded ((c.in-Some.position, c.in-Some.kept) ∷ []) in
    record {
      found = c.loop-position.invariant.found ∙ counted_none done c.next.new.self _ p k whole rising zero ∙ ap (found_in count_in) (sym more);
      whole = ap (λ xs. xs ++ c.next.new.self) more ∙ one_done done c.next.new.self _ p k whole rising;
    }
