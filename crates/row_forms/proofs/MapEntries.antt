-- Maps and their entries.
use Rattle.std.proofs.Common.{◌≡◌, Bool, true, false, cond, T, List, [], ◌∷◌, map, Some, refl, ap, ◌∙◌}
use Rattle.std.specs.Prelude.{◌&&◌}
use Rattle.std.specs.Cmp.{IsTotalOrder, tied_itself}
use Rattle.std.specs.List.{All, AllByRecursion}
use Rattle.std.specs.List.Sorted.{IsStrictlySortedBy}
use Rattle.std.specs.Ordering.{eq_by_cmp, is_eq, is_lt, ordering_reverse}
use Rattle.std.specs.FinMap as map_of
use Rattle.std.specs.FinMap.Entries as entries_of
use Rattle.std.specs.declared.cmp.Ordering.{Ordering}
use Rattle.std.specs.declared.cmp.Ordering.TheVariants.{Less, Equal, Greater}
use Rattle.std.proofs.lemmas.List.Elements.{All-from_recursion}

both_parts : (a b : Bool) → T (a && b) → T a × T b
both_parts true b h = (tt, h)
both_parts false b h = absurd h

is_less : (o : Ordering) → T (is_lt o) → o ≡ Less
is_less Less h = refl
is_less Equal h = absurd h
is_less Greater h = absurd h

module _ {K X : Type 0} (R : K → K → Ordering) where
  above : (k : K) (es : List (K × X)) → T (entries_of.below_all R k es) → AllByRecursion (λ q. R k q ≡ Less) (map (λ e. e.0) es)
  above k [] h = tt
  above k (e ∷ es) h = let parts = both_parts _ _ h in (is_less (R k e.0) parts.0, above k es parts.1)

  rising : (es : List (K × X)) → T (entries_of.is_sorted R es) → IsStrictlySortedBy R (map (λ e. e.0) es)
  unfolding IsStrictlySortedBy
  rising [] h = tt
  rising (e ∷ es) h = let parts = both_parts _ _ h in (above e.0 es parts.0, rising es parts.1)

-- keys rise
pub keys_rise : {K X : Type 0} {R : K → K → Ordering} (m : map_of.FinMap R X) → IsStrictlySortedBy R (map (λ e. e.0) (map_of.entries m))
keys_rise {R = R} m = rising R (map_of.entries m) (map_of.entries_sorted m)

module _ {K X : Type 0} {R : K → K → Ordering} (total : IsTotalOrder R) where
  unlike : (k : K) (e : K × X) → R k e.0 ≡ Less → eq_by_cmp R e.0 k ≡ false
  unlike k e less = ap is_eq (total.antisymm e.0 k ∙ ap ordering_reverse less)

  -- where a key is below them all, what is found of them is found with its entry before them
  found_later : (es fs : List (K × X)) (f : K × X) → AllByRecursion (λ q. R f.0 q ≡ Less) (map (λ e. e.0) es) → AllByRecursion (λ e. entries_of.find R e.0 fs ≡ Some e.1) es
      → AllByRecursion (λ e. entries_of.find R e.0 (f ∷ fs) ≡ Some e.1) es
  found_later [] fs f low found = tt
  found_later (e ∷ es) fs f low found = (ap (λ b. cond b (Some f.1) (entries_of.find R e.0 fs)) (unlike f.0 e low.0) ∙ found.0, found_later es fs f low.1 found.1)

  found_each : (es : List (K × X)) → IsStrictlySortedBy R (map (λ e. e.0) es) → AllByRecursion (λ e. entries_of.find R e.0 es ≡ Some e.1) es
  unfolding IsStrictlySortedBy
  found_each [] rise = tt
  found_each (e ∷ es) rise = (ap (λ o. cond (is_eq o) (Some e.1) (entries_of.find R e.0 es)) (tied_itself total e.0), found_later es es e rise.0 (found_each es rise.1))

  -- what holds of all that the map gives holds of its entries
  pub all_entries : (P : K → X → Type 0) (m : map_of.FinMap R X) → ((k : K) (x : X) → map_of.get m k ≡ Some x → P k x) → All (λ e. P e.0 e.1) (map_of.entries m)
  all_entries P m holds = All-from_recursion (λ (e : K × X). P e.0 e.1) (map_of.entries m) (each (map_of.entries m) (found_each (map_of.entries m) (keys_rise m)))
    where
      each : (es : List (K × X)) → AllByRecursion (λ e. entries_of.find R e.0 (map_of.entries m) ≡ Some e.1) es → AllByRecursion (λ e. P e.0 e.1) es
      each [] found = tt
      each (e ∷ es) found = (holds e.0 e.1 (map_of.get-entries m e.0 ∙ found.0), each es found.1)
