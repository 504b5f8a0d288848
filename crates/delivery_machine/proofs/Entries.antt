-- Maps that are kept as lists of entries, in the order of their keys.
use Rattle.std.proofs.Common.{◌≡◌, ℕ, ◌-◌, List, [], ◌∷◌, map, length, suc, Bool, true, false, get_or, refl, ap, ◌∙◌, sym, subst, arith, true≢false}
use Rattle.std.specs.Prelude.{◌||◌, is_some}
use Rattle.std.specs.List.{AllByRecursion, list_any}
use Rattle.std.specs.List.Sorted.{IsStrictlySortedBy}
use Rattle.std.specs.Ordering.{eq_by_cmp}
use Rattle.std.specs.Cmp.{IsTotalOrder, Equal-is, tied_itself}
use Rattle.std.specs.FinMap as map_of
use Rattle.std.specs.FinMap.Entries as entries_of
use Rattle.std.specs.declared.cmp.Ordering.{Ordering}
use Rattle.std.specs.declared.cmp.Ordering.TheVariants.{Less}

nothing : {A : Type 0} (xs : List A) → length xs ≡ 0 → xs ≡ []
nothing [] e = refl
nothing (x ∷ xs) e = absurd (omega arith)

module _ {K : Type 0} {R : K → K → Ordering} (total : IsTotalOrder R) where
  -- ---- keys that are all below another one

  abbrev pub AreBelow : K → List K → Type 0
  AreBelow p keys = AllByRecursion (λ x. R x p ≡ Less) keys

  -- where the last of rising keys is, they all are
  pub below_by_last : {A : Type 0} (f : A → K) (p : K) (xs : List A) (d : A) → IsStrictlySortedBy R (map f xs) → R (f (get_or xs (length xs - 1) d)) p ≡ Less → AreBelow p (map f xs)
  unfolding IsStrictlySortedBy
  below_by_last f p [] d rising low = tt
  below_by_last f p (x ∷ []) d rising low = (low, tt)
  below_by_last f p (x ∷ y ∷ xs) d rising low =
      let next : length (x ∷ y ∷ xs) - 1 ≡ suc (length (y ∷ xs) - 1) = omega arith in
      let rest = below_by_last f p (y ∷ xs) d rising.1 (subst (λ (n : ℕ). R (f (get_or (x ∷ y ∷ xs) n d)) p ≡ Less) next low) in
      (total.trans (f x) (f y) p rising.0.0 rest.0, rest)

  pub one_below : (p q : K) (keys : List K) → AreBelow p keys → list_any (eq_by_cmp R q) keys ≡ true → R q p ≡ Less
  one_below p q [] below any = absurd (true≢false (sym any))
  one_below p q (k ∷ keys) below any = by (eq_by_cmp R q k) refl any (one_below p q keys below.1)
    where
      by : (b : Bool) → eq_by_cmp R q k ≡ b → (b || list_any (eq_by_cmp R q) keys) ≡ true → (list_any (eq_by_cmp R q) keys ≡ true → R q p ≡ Less) → R q p ≡ Less
      by true t any rest = total.congr q k p ((Equal-is (R q k)).0 t) ∙ below.0
      by false f any rest = rest any

  pub all_below : (p : K) (keys : List K) → ((q : K) → list_any (eq_by_cmp R q) keys ≡ true → R q p ≡ Less) → AreBelow p keys
  all_below p [] below = tt
  all_below p (k ∷ keys) below =
      let itself : eq_by_cmp R k k ≡ true = (Equal-is (R k k)).1 (tied_itself total k) in
      (below k (ap (λ b. b || list_any (eq_by_cmp R k) keys) itself), all_below p keys (λ q any. below q (either (eq_by_cmp R q k) any)))
    where
      either : {b : Bool} (a : Bool) → b ≡ true → (a || b) ≡ true
      either true e = refl
      either false e = e

  -- ---- the entries of the map

  module _ {X : Type 0} where
    abbrev of : List (K × X) → map_of.FinMap R X
    of es = map_of.from_entries es

    put_first : (k : K) (v : X) (es : List (K × X)) → AllByRecursion (λ q. R k q ≡ Less) (map (λ e. e.0) es) → entries_of.put R k v es ≡ (k, v) ∷ es
    put_first k v [] above = refl
    put_first k v (e ∷ es) above = ap (λ o. entries_of.by_order o ((k, v) ∷ e ∷ es) ((e.0, v) ∷ es) (e ∷ entries_of.put R k v es)) above.0

    pub entries_rising : (es : List (K × X)) → IsStrictlySortedBy R (map (λ e. e.0) es) → map_of.entries (of es) ≡ es
    unfolding IsStrictlySortedBy
    entries_rising [] rising = nothing (map_of.entries (of [])) (sym (map_of.len-entries (of [])) ∙ map_of.len-empty R X)
    entries_rising (e ∷ es) rising =
        map_of.entries-insert total (of es) e.0 e.1
        ∙ ap (entries_of.put R e.0 e.1) (entries_rising es rising.1)
        ∙ put_first e.0 e.1 es rising.0

    pub is_key : (es : List (K × X)) (q : K) → map_of.contains_key (of es) q ≡ list_any (eq_by_cmp R q) (map (λ e. e.0) es)
    is_key es q = ap is_some (map_of.get-from_entries total es q) ∙ entries_of.is_some-find R q es
