-- Numbers that are marked by their ranks.
use Rattle.std.proofs.Common.{◌≡◌, ◌≢◌, ℕ, zero, suc, ◌+◌, ◌<◌, ◌≤◌, Bool, true, false, not, cond, List, [], ◌∷◌, ◌++◌, length, get_or, ◌-◌, Option, Some, None, Result, Ok, Err, true≢false, subst, inl, inr, refl, sym, ap, ◌∙◌, arith}
use Rattle.std.specs.Prelude.{◌==◌, ◌&&◌, ◌||◌, nat_lt, nat_le, slice_get, is_some, OnErr, IfSome, IfNone, nat_eq}
use Rattle.std.specs.Option.{option_eq}
use Rattle.std.specs.List.Sorted.{IsBinarySearchResult}
use Rattle.std.proofs.lemmas.List.Sorted.{searched}
use Rattle.std.specs.Ordering.{nat_cmp}
use Rattle.std.specs.Cmp.{nat_cmp_total, unsigned_tied}
use Rattle.std.specs.FinSet as set
use Rattle.std.proofs.lemmas.Bool.{cases_eq, cases_lt, ne_eqb, eq-eqb, lt-ltb, le-ltb, ltb-true, leb-true, eqb-true, false_from_ne_true}
use Rattle.std.proofs.lemmas.List.{length-append, get_or_append_left}
use Rattle.std.proofs.Math.Seq.{get_or-append_seam}
use Rattle.std.proofs.lemmas.Option.{none-some, same_Some, slice_get_within, get_or_from_slice_get}
use Rattle.number_sets.specs.Places.{IsNext}
use Rattle.hash_rows.specs.Ranks.{rank_of, Rises, AreRanksOf}
use Rattle.hash_rows.proofs.Ranks.{at_rank, rank_at, rank_before, rank_behind}

-- ---- a set of ranks

pub put_there : (s : set.FinSet nat_cmp) (k : ℕ) (there : Bool) → there ≡ true → (r : ℕ) → set.contains (set.insert s k) r ≡ cond (r == k) there (set.contains s r)
put_there s k there is r =
    set.contains-insert nat_cmp_total s k r ∙ ap (λ (b : Bool). b || set.contains s r) (unsigned_tied r k)
    ∙ by (r == k)
    ∙ ap (λ (b : Bool). cond (r == k) b (set.contains s r)) (sym is)
  where
    by : (b : Bool) → (b || set.contains s r) ≡ cond b true (set.contains s r)
    by true = refl
    by false = refl

pub put_away : (s : set.FinSet nat_cmp) (k : ℕ) (there : Bool) → there ≡ false → (r : ℕ) → set.contains (set.remove s k) r ≡ cond (r == k) there (set.contains s r)
put_away s k there is r =
    set.contains-remove nat_cmp_total s k r ∙ ap (λ (b : Bool). not b && set.contains s r) (unsigned_tied r k)
    ∙ by (r == k)
    ∙ ap (λ (b : Bool). cond (r == k) b (set.contains s r)) (sym is)
  where
    by : (b : Bool) → (not b && set.contains s r) ≡ cond b false (set.contains s r)
    by true = refl
    by false = refl

pub put_within : (xs : List ℕ) (old new : set.FinSet nat_cmp) (rank : ℕ) (there : Bool) → AreRanksOf xs old → rank < length xs → ((r : ℕ) → set.contains new r ≡ cond (r == rank) there (set.contains old r)) → AreRanksOf xs new
put_within xs old new rank there ranks within is r in_new = elim (cases_eq r rank) [
  | inl same ↦ omega (arith, same, within)
  | inr other ↦ ranks r (sym (is r ∙ ap (λ (b : Bool). cond b there (set.contains old r)) (ne_eqb r rank other)) ∙ in_new)
]

-- no more ranks than before, in a longer list
pub still_within : (xs : List ℕ) (x : ℕ) (old new : set.FinSet nat_cmp) → AreRanksOf xs old → new ≡ old → AreRanksOf (xs ++ x ∷ []) new
still_within xs x old new ranks same r in_new =
    omega (arith, ranks r (sym (ap (λ (s : set.FinSet nat_cmp). set.contains s r) same) ∙ in_new), length-append xs (x ∷ []))

-- ---- what is marked

module _ (xs : List ℕ) (old new : set.FinSet nat_cmp) (index rank : ℕ) (there : Bool) (is : rank ≡ rank_of xs index) (within : rank < length xs) (put : (r : ℕ) → set.contains new r ≡ cond (r == rank) there (set.contains old r)) where
  pub marked : (i : ℕ) → set.contains new (rank_of xs i) ≡ cond (i == index) (nat_lt (rank_of xs i) (length xs) && there) (set.contains old (rank_of xs i))
  marked i = elim (cases_eq i index) [
    | inl same ↦
        let at : rank_of xs i ≡ rank = ap (rank_of xs) same ∙ sym is in
        put (rank_of xs i)
        ∙ ap (λ (b : Bool). cond b there (set.contains old (rank_of xs i))) (eq-eqb (rank_of xs i) rank at)
        ∙ sym (ap (λ (b : Bool). cond b (nat_lt (rank_of xs i) (length xs) && there) (set.contains old (rank_of xs i))) (eq-eqb i index same)
        ∙ ap (λ (b : Bool). b && there) (lt-ltb (rank_of xs i) (length xs) (omega (arith, at, within))))
    | inr other ↦
        let apart : rank_of xs i ≡ rank → ⊥ = λ at. other
        (sym (at_rank xs i (omega (arith, at, within))) ∙ ap (λ (r : ℕ). get_or xs r 0) (at ∙ is) ∙ at_rank xs index (omega (arith, is, within))) in
        put (rank_of xs i)
        ∙ ap (λ (b : Bool). cond b there (set.contains old (rank_of xs i))) (ne_eqb (rank_of xs i) rank apart)
        ∙ sym (ap (λ (b : Bool). cond b (nat_lt (rank_of xs i) (length xs) && there) (set.contains old (rank_of xs i))) (ne_eqb i index other))
  ]

-- what is not in the list has no mark
pub unmarked : (xs : List ℕ) (ranks : set.FinSet nat_cmp) (i : ℕ) → AreRanksOf xs ranks → nat_lt (rank_of xs i) (length xs) ≡ false → set.contains ranks (rank_of xs i) ≡ false
unmarked xs ranks i within away = false_from_ne_true _ (λ in_ranks.
    let below = lt-ltb (rank_of xs i) (length xs) (within (rank_of xs i) in_ranks) in cc)

pub mark_nothing : (xs : List ℕ) (ranks : set.FinSet nat_cmp) (index : ℕ) (there : Bool) → AreRanksOf xs ranks → nat_lt (rank_of xs index) (length xs) ≡ false → (i : ℕ) → set.contains ranks (rank_of xs i) ≡ cond (i == index) (nat_lt (rank_of xs i) (length xs) && there) (set.contains ranks (rank_of xs i))
mark_nothing xs ranks index there within away i = elim (cases_eq i index) [
  | inl same ↦
      let here : nat_lt (rank_of xs i) (length xs) ≡ false = ap (λ (k : ℕ). nat_lt (rank_of xs k) (length xs)) same ∙ away in
      unmarked xs ranks i within here
      ∙ sym (ap (λ (b : Bool). cond b (nat_lt (rank_of xs i) (length xs) && there) (set.contains ranks (rank_of xs i))) (eq-eqb i index same)
      ∙ ap (λ (b : Bool). b && there) here)
  | inr other ↦ sym (ap (λ (b : Bool). cond b (nat_lt (rank_of xs i) (length xs) && there) (set.contains ranks (rank_of xs i))) (ne_eqb i index other))
]

-- ---- the first one

pub marked_at : (xs : List ℕ) (ranks : set.FinSet nat_cmp) (r : ℕ) → Rises xs → r < length xs → set.contains ranks (rank_of xs (get_or xs r 0)) ≡ set.contains ranks r
marked_at xs ranks r rises within = ap (set.contains ranks) (rank_at xs r rises within)

pub not_above : (xs : List ℕ) (j k : ℕ) → Rises xs → j ≤ k → k < length xs → get_or xs j 0 ≤ get_or xs k 0
not_above xs j k rises order within = elim (cases_eq j k) [
  | inl same ↦ omega (arith, ap (λ (r : ℕ). get_or xs r 0) same)
  | inr other ↦ omega (arith, rises j k (omega (arith, order, other)) within)
]

pub searchable : (xs : List ℕ) → Rises xs → (i j : ℕ) → i ≤ j → j < length xs → get_or xs i 0 ≤ get_or xs j 0
searchable xs rises i j order within = not_above xs i j rises order within

pub first_marked : (xs : List ℕ) (ranks : set.FinSet nat_cmp) (r : ℕ) → Rises xs → AreRanksOf xs ranks → IsNext (set.contains ranks) 0 r → IsNext (λ i. set.contains ranks (rank_of xs i)) 0 (get_or xs r 0)
first_marked xs ranks r rises within next = record {
  after = omega arith;
  is_in = marked_at xs ranks r rises (within r next.is_in) ∙ next.is_in;
  least = λ i _ is.
      let inside = within (rank_of xs i) is in
      omega (arith, not_above xs r (rank_of xs i) rises (next.least (rank_of xs i) (omega arith) is) inside, at_rank xs i inside);
}

-- ---- one number more at the end

-- where a number stands in the longer list
data Stands (xs : List ℕ) (index i : ℕ) : Type 0 where
  before : i ≢ index → rank_of xs i < length xs → rank_of (xs ++ index ∷ []) i ≡ rank_of xs i → Stands xs index i
  at_end : i ≡ index → length xs ≤ rank_of xs i → rank_of (xs ++ index ∷ []) i ≡ length xs → Stands xs index i
  away : i ≢ index → length xs ≤ rank_of xs i → rank_of (xs ++ index ∷ []) i ≡ length xs + 1 → Stands xs index i

module _ (xs : List ℕ) (index : ℕ) (above : (r : ℕ) → r < length xs → get_or xs r 0 < index) where
  pub rises_more : Rises xs → Rises (xs ++ index ∷ [])
  rises_more rises j k order within = elim (cases_lt k (length xs)) [
    | inl below ↦
        let first = get_or_append_left xs (index ∷ []) 0 j (omega (arith, order, below)) in
        let second = get_or_append_left xs (index ∷ []) 0 k below in
        omega (arith, first, second, rises j k order below)
    | inr last ↦
        let is : k ≡ length xs = omega (arith, last, within, length-append xs (index ∷ [])) in
        let first = get_or_append_left xs (index ∷ []) 0 j (omega (arith, order, is)) in
        let second = ap (λ (n : ℕ). get_or (xs ++ index ∷ []) n 0) is ∙ get_or-append_seam xs index [] 0 in
        omega (arith, first, second, above j (omega (arith, order, is)))
  ]

  stands : (i : ℕ) → Stands xs index i
  stands i = elim (cases_lt (rank_of xs i) (length xs)) [
    | inl below ↦ before (λ same. omega (arith, above (rank_of xs i) below, at_rank xs i below, same)) below (rank_before xs index i below)
    | inr past ↦ elim (cases_eq i index) [
      | inl same ↦
          let here : rank_of (index ∷ []) i ≡ 0 = ap (λ (b : Bool). cond b zero (suc (rank_of [] i))) (eq-eqb index i (sym same)) in
          at_end same past (omega (arith, rank_behind xs index i past, here))
      | inr other ↦
          let here : rank_of (index ∷ []) i ≡ 1 = ap (λ (b : Bool). cond b zero (suc (rank_of [] i))) (ne_eqb index i (λ same. other (sym same))) in
          away other past (omega (arith, rank_behind xs index i past, here))
    ]
  ]

  pub one_more_in : (i : ℕ) → nat_lt (rank_of (xs ++ index ∷ []) i) (length (xs ++ index ∷ [])) ≡ (i == index || nat_lt (rank_of xs i) (length xs))
  one_more_in i = by (stands i)
    where
      longer : length (xs ++ index ∷ []) ≡ length xs + 1
      longer = length-append xs (index ∷ [])

      by : Stands xs index i → nat_lt (rank_of (xs ++ index ∷ []) i) (length (xs ++ index ∷ [])) ≡ (i == index || nat_lt (rank_of xs i) (length xs))
      by (before other below same) =
          lt-ltb _ _ (omega (arith, same, below, longer))
          ∙ sym (ap (λ (b : Bool). b || nat_lt (rank_of xs i) (length xs)) (ne_eqb i index other) ∙ lt-ltb _ _ below)
      by (at_end is past same) =
          lt-ltb _ _ (omega (arith, same, longer))
          ∙ sym (ap (λ (b : Bool). b || nat_lt (rank_of xs i) (length xs)) (eq-eqb i index is))
      by (away other past same) =
          le-ltb _ _ (omega (arith, same, longer))
          ∙ sym (ap (λ (b : Bool). b || nat_lt (rank_of xs i) (length xs)) (ne_eqb i index other) ∙ le-ltb _ _ past)

  beyond : (old : set.FinSet nat_cmp) → AreRanksOf xs old → (r : ℕ) → length xs ≤ r → set.contains old r ≡ false
  beyond old within r past = false_from_ne_true _ (λ is. omega (arith, past, within r is))

  pub others_marked : (old new : set.FinSet nat_cmp) → AreRanksOf xs old → new ≡ old → (i : ℕ) → set.contains new (rank_of (xs ++ index ∷ []) i) ≡ set.contains old (rank_of xs i)
  others_marked old new within is i = ap (λ (s : set.FinSet nat_cmp). set.contains s (rank_of (xs ++ index ∷ []) i)) is ∙ by (stands i)
    where
      by : Stands xs index i → set.contains old (rank_of (xs ++ index ∷ []) i) ≡ set.contains old (rank_of xs i)
      by (before other below same) = ap (set.contains old) same
      by (at_end here past same) = ap (set.contains old) same ∙ beyond old within (length xs) (omega arith) ∙ sym (beyond old within (rank_of xs i) past)
      by (away other past same) = ap (set.contains old) same ∙ beyond old within (length xs + 1) (omega arith) ∙ sym (beyond old within (rank_of xs i) past)

  pub one_more_marked : (old new : set.FinSet nat_cmp) → AreRanksOf xs old → new ≡ set.insert old (length xs) → (i : ℕ) → set.contains new (rank_of (xs ++ index ∷ []) i) ≡ (i == index || set.contains old (rank_of xs i))
  one_more_marked old new within is i =
      ap (λ (s : set.FinSet nat_cmp). set.contains s (rank_of (xs ++ index ∷ []) i)) is
      ∙ put_there old (length xs) true refl (rank_of (xs ++ index ∷ []) i)
      ∙ by (stands i)
    where
      known : set.contains old (rank_of (xs ++ index ∷ []) i) ≡ set.contains old (rank_of xs i)
      known = others_marked old old within refl i

      by : Stands xs index i → cond (rank_of (xs ++ index ∷ []) i == length xs) true (set.contains old (rank_of (xs ++ index ∷ []) i)) ≡ (i == index || set.contains old (rank_of xs i))
      by (before other below same) =
          ap (λ (b : Bool). cond b true (set.contains old (rank_of (xs ++ index ∷ []) i))) (ne_eqb _ (length xs) (λ e. omega (arith, e, same, below)))
          ∙ known
          ∙ sym (ap (λ (b : Bool). b || set.contains old (rank_of xs i)) (ne_eqb i index other))
      by (at_end here past same) =
          ap (λ (b : Bool). cond b true (set.contains old (rank_of (xs ++ index ∷ []) i))) (eq-eqb _ (length xs) same)
          ∙ sym (ap (λ (b : Bool). b || set.contains old (rank_of xs i)) (eq-eqb i index here))
      by (away other past same) =
          ap (λ (b : Bool). cond b true (set.contains old (rank_of (xs ++ index ∷ []) i))) (ne_eqb _ (length xs) (λ e. omega (arith, e, same)))
          ∙ known
          ∙ sym (ap (λ (b : Bool). b || set.contains old (rank_of xs i)) (ne_eqb i index other))

  pub more_within : (old new : set.FinSet nat_cmp) → AreRanksOf xs old → new ≡ set.insert old (length xs) → AreRanksOf (xs ++ index ∷ []) new
  more_within old new within is =
      put_within (xs ++ index ∷ []) old new (length xs) true (still_within xs index old old within refl) (omega (arith, length-append xs (index ∷ [])))
      (λ r. ap (λ (s : set.FinSet nat_cmp). set.contains s r) is ∙ put_there old (length xs) true refl r)

-- ---- what a search answers

pub rank_found : (xs ys : List ℕ) (x r : ℕ) → ys ≡ xs → Rises xs → IsBinarySearchResult (λ y. nat_cmp y x) ys (Ok r) → (r ≡ rank_of xs x) × (r < length xs)
rank_found xs ys x r same rises found =
    let at = searched xs x (Ok r) (subst (λ (zs : List ℕ). IsBinarySearchResult (λ y. nat_cmp y x) zs (Ok r)) same found) (searchable xs rises) in
    (sym (ap (rank_of xs) (sym at.1) ∙ rank_at xs r rises at.0), at.0)

pub rank_missing : (xs ys : List ℕ) (x r : ℕ) → ys ≡ xs → Rises xs → IsBinarySearchResult (λ y. nat_cmp y x) ys (Err r) → nat_lt (rank_of xs x) (length xs) ≡ false
rank_missing xs ys x r same rises missed =
    let at = searched xs x (Err r) (subst (λ (zs : List ℕ). IsBinarySearchResult (λ y. nat_cmp y x) zs (Err r)) same missed) (searchable xs rises) in
    false_from_ne_true _ (λ is.
    let inside = ltb-true (rank_of xs x) (length xs) is in
    let there = at_rank xs x inside in
    elim (cases_lt (rank_of xs x) r) [
      | inl below ↦ omega (arith, at.1 (rank_of xs x) below, there)
      | inr behind ↦ omega (arith, at.2 (rank_of xs x) behind inside, there)
    ])

pub last_reaches : (xs ys : List ℕ) (index last : ℕ) → ys ≡ xs → Rises xs → Some last ≡ slice_get ys (length ys - 1) → nat_le index last ≡ true → ((i : ℕ) → nat_lt (rank_of xs i) (length xs) ≡ true → i < index) → ⊥
last_reaches xs ys index last same rises is behind all =
    let found : slice_get xs (length xs - 1) ≡ Some last = sym (is ∙ ap (λ (zs : List ℕ). slice_get zs (length zs - 1)) same) in
    let inside = slice_get_within xs (length xs - 1) last found in
    let at : get_or xs (length xs - 1) 0 ≡ last = get_or_from_slice_get xs (length xs - 1) last 0 found in
    let rank : rank_of xs last ≡ length xs - 1 = ap (rank_of xs) (sym at) ∙ rank_at xs (length xs - 1) rises inside in
    omega (arith, all last (lt-ltb (rank_of xs last) (length xs) (omega (arith, rank, inside))), leb-true index last behind)

pub on_err : {T E P : Type 0} (r : Result T E) → P → OnErr r P
on_err (Ok x) p = tt
on_err (Err e) p = p

pub there_is_none : {A P : Type 0} (o : Option A) → is_some o ≡ false → IfNone o P → P
there_is_none None is p = p
there_is_none (Some x) is p = absurd (true≢false is)

pub there_is_some : {A : Type 0} {P : A → Type 0} (o : Option A) → is_some o ≡ true → IfSome o P → (x : A) × P x
there_is_some (Some x) is p = (x, p)
there_is_some None is p = absurd (true≢false (sym is))

pub is_holder : (o : Option ℕ) (owner : ℕ) → not (option_eq nat_eq o (Some owner)) ≡ false → o ≡ Some owner
is_holder None owner same = absurd (true≢false same)
is_holder (Some holder) owner same = by (holder == owner) refl same
  where
    by : (b : Bool) → (holder == owner) ≡ b → not b ≡ false → Some holder ≡ Some owner
    by true is _ = ap Some (eqb-true holder owner is)
    by false is same = absurd (true≢false same)

pub is_no_holder : (o : Option ℕ) (owner : ℕ) → not (option_eq nat_eq o (Some owner)) ≡ true → o ≡ Some owner → ⊥
is_no_holder None owner other is = none-some owner is
is_no_holder (Some holder) owner other is =
    true≢false (sym other ∙ ap not (eq-eqb holder owner (same_Some holder owner is)))
