-- A consumer leaves: without its end, the share beside its own has its hashes.
use Rattle.std.proofs.Common.{◌≡◌, ◌≢◌, ℕ, ◌+◌, ◌-◌, ◌<◌, ◌≤◌, Bool, true, false, cond, eqb, List, [], ◌∷◌, length, Option, Some, None, inl, inr, refl, sym, ap, ◌∙◌, subst, arith}
use Rattle.std.specs.Prelude.{◌&&◌}
use Rattle.std.specs.List.{find}
use Rattle.std.specs.Ordering.{nat_cmp}
use Rattle.std.specs.Cmp.{unsigned_tied}
use Rattle.std.specs.Map.{lookup, remove_entry, set_value}
use Rattle.std.specs.BTreeMap.{is_at}
use Rattle.std.proofs.lemmas.Bool.{cases_eq, ne_eqb, eq-eqb, eqb-true}
use Rattle.std.proofs.lemmas.Option.{same_Some}
use Rattle.position_core.specs.declared.block.Block.{Block}
use Rattle.delivery_machine.specs.Shares.{is_share_of, with_lower, with_upper, given_back}
use Rattle.hash_ranges.specs.Ends.{share_between, shares_from, shares_of, Rise, SplitFrom, SplitAll}
use Rattle.hash_ranges.proofs.Shares.{split_after, split_rise, ends_within, rise_within, find_cases, nothing_found, found_within}

at_same : (k end : ℕ) → k ≡ end → is_at (nat_cmp k) end ≡ true
at_same k end h = unsigned_tied k end ∙ eq-eqb k end h

at_other : (k end : ℕ) → k ≢ end → is_at (nat_cmp k) end ≡ false
at_other k end h = unsigned_tied k end ∙ ne_eqb k end h

-- ---- one end and the others

module _ (k : ℕ) (e : ℕ × ℕ) (es : List (ℕ × ℕ)) where
  removed_here : k ≡ e.0 → remove_entry (is_at (nat_cmp k)) (e ∷ es) ≡ es
  removed_here h = ap (λ t. cond t es (e ∷ remove_entry (is_at (nat_cmp k)) es)) (at_same k e.0 h)

  removed_later : k ≢ e.0 → remove_entry (is_at (nat_cmp k)) (e ∷ es) ≡ e ∷ remove_entry (is_at (nat_cmp k)) es
  removed_later h = ap (λ t. cond t es (e ∷ remove_entry (is_at (nat_cmp k)) es)) (at_other k e.0 h)

  found_here : k ≡ e.0 → lookup (is_at (nat_cmp k)) (e ∷ es) ≡ Some e.1
  found_here h = ap (λ t. cond t (Some e.1) (lookup (is_at (nat_cmp k)) es)) (at_same k e.0 h)

  found_later : k ≢ e.0 → lookup (is_at (nat_cmp k)) (e ∷ es) ≡ lookup (is_at (nat_cmp k)) es
  found_later h = ap (λ t. cond t (Some e.1) (lookup (is_at (nat_cmp k)) es)) (at_other k e.0 h)

  set_here : (w : ℕ) → k ≡ e.0 → set_value (is_at (nat_cmp k)) (e ∷ es) w ≡ (e.0, w) ∷ es
  set_here w h = ap (λ t. cond t ((e.0, w) ∷ es) (e ∷ set_value (is_at (nat_cmp k)) es w)) (at_same k e.0 h)

  set_later : (w : ℕ) → k ≢ e.0 → set_value (is_at (nat_cmp k)) (e ∷ es) w ≡ e ∷ set_value (is_at (nat_cmp k)) es w
  set_later w h = ap (λ t. cond t ((e.0, w) ∷ es) (e ∷ set_value (is_at (nat_cmp k)) es w)) (at_other k e.0 h)

-- no end is before the first
no_end : (k from : ℕ) (es : List (ℕ × ℕ)) → SplitFrom from es → k ≤ from → lookup (is_at (nat_cmp k)) es ≡ None
no_end k from [] split low = refl
no_end k from (e ∷ es) split low =
    found_later k e es (λ h. omega (arith, split.0)) ∙ no_end k e.0 es (split_after from e es split) (omega (arith, split.0))

pub not_set : (test : ℕ → Bool) (es : List (ℕ × ℕ)) (w : ℕ) → lookup test es ≡ None → es ≡ set_value test es w
not_set test [] w none = refl
not_set test (e ∷ es) w none = by (not_set test es w) (test e.0) refl none
  where
    by : (lookup test es ≡ None → es ≡ set_value test es w) → (t : Bool) → test e.0 ≡ t → cond t (Some e.1) (lookup test es) ≡ None → e ∷ es ≡ cond (test e.0) ((e.0, w) ∷ es) (e ∷ set_value test es w)
    by rest true is h = absurd (some_none h)
      where
        some_none : Some e.1 ≡ None → ⊥
        some_none h = cc
    by rest false is h = ap (λ fs. e ∷ fs) (rest h) ∙ sym (ap (λ t. cond t ((e.0, w) ∷ es) (e ∷ set_value test es w)) is)

-- ---- the ends still rise

rise_lower : (from below : ℕ) (e : ℕ × ℕ) (es : List (ℕ × ℕ)) → below ≤ from → Rise from (e ∷ es) → Rise below (e ∷ es)
rise_lower from below e es low rise = (omega (arith, rise.0), rise.1)

rise_removed : (k from : ℕ) (es : List (ℕ × ℕ)) → Rise from es → k < 65536 → Rise from (remove_entry (is_at (nat_cmp k)) es)
rise_removed k from [] rise small = rise
rise_removed k from (e ∷ []) rise small = subst (Rise from) (sym (removed_later k e [] (λ h. omega (arith, rise.1)))) rise
rise_removed k from (e ∷ f ∷ es) rise small = elim (cases_eq k e.0) [
  | inl here ↦ subst (Rise from) (sym (removed_here k e (f ∷ es) here)) (rise_lower e.0 from f es (omega (arith, rise.0)) rise.1)
  | inr later ↦ subst (Rise from) (sym (removed_later k e (f ∷ es) later)) (rise.0, rise_removed k e.0 (f ∷ es) rise.1 small)
]

rise_set : (k from : ℕ) (es : List (ℕ × ℕ)) (w : ℕ) → Rise from es → Rise from (set_value (is_at (nat_cmp k)) es w)
rise_set k from [] w rise = rise
rise_set k from (e ∷ es) w rise = elim (cases_eq k e.0) [
  | inl here ↦ subst (Rise from) (sym (set_here k e es w here)) (rise.0, rise.1)
  | inr later ↦ subst (Rise from) (sym (set_later k e es w later)) (rise.0, rise_set k e.0 es w rise.1)
]

pub split_removed : (k : ℕ) (es : List (ℕ × ℕ)) → SplitAll es → k < 65536 → SplitAll (remove_entry (is_at (nat_cmp k)) es)
split_removed k [] split small = tt
split_removed k (e ∷ es) split small = split_rise 0 _ (rise_removed k 0 (e ∷ es) split small)

pub split_moved : (k end : ℕ) (es : List (ℕ × ℕ)) (w : ℕ) → SplitAll es → k < 65536 → SplitAll (set_value (is_at (nat_cmp end)) (remove_entry (is_at (nat_cmp k)) es) w)
split_moved k end [] w split small = tt
split_moved k end (e ∷ es) w split small = split_rise 0 _ (rise_set end 0 _ w (rise_removed k 0 (e ∷ es) split small))

-- ---- what the leaver's neighbour has then

module _ (consumer : ℕ) where
  leaver_first : (a b : Block) (bs : List Block) → is_share_of consumer a ≡ true → given_back consumer (a ∷ b ∷ bs) ≡ with_lower a b ∷ bs
  leaver_first a b bs here = ap (λ t. cond t (with_lower a b ∷ bs) (cond (is_share_of consumer b && eqb (length bs) 0) (with_upper b a ∷ []) (a ∷ given_back consumer (b ∷ bs)))) here

  leaver_alone : (a : Block) → is_share_of consumer a ≡ true → given_back consumer (a ∷ []) ≡ []
  leaver_alone a here = ap (λ t. cond t [] (a ∷ [])) here

  leaver_last : (a b : Block) → is_share_of consumer a ≡ false → is_share_of consumer b ≡ true → given_back consumer (a ∷ b ∷ []) ≡ with_upper b a ∷ []
  leaver_last a b other here =
      ap (λ t. cond t (with_lower a b ∷ []) (cond (is_share_of consumer b && true) (with_upper b a ∷ []) (a ∷ given_back consumer (b ∷ [])))) other
      ∙ ap (λ t. cond (t && true) (with_upper b a ∷ []) (a ∷ given_back consumer (b ∷ []))) here

  leaver_later : (a b : Block) (bs : List Block) → is_share_of consumer a ≡ false → (is_share_of consumer b && eqb (length bs) 0) ≡ false → given_back consumer (a ∷ b ∷ bs) ≡ a ∷ given_back consumer (b ∷ bs)
  leaver_later a b bs other no_end =
      ap (λ t. cond t (with_lower a b ∷ bs) (cond (is_share_of consumer b && eqb (length bs) 0) (with_upper b a ∷ []) (a ∷ given_back consumer (b ∷ bs)))) other
      ∙ ap (λ t. cond t (with_upper b a ∷ []) (a ∷ given_back consumer (b ∷ bs))) no_end

  none_cases : (a : Block) (bs : List Block) → None ≡ find (is_share_of consumer) (a ∷ bs) → (is_share_of consumer a ≡ false) × (None ≡ find (is_share_of consumer) bs)
  none_cases a bs e = by (is_share_of consumer a) refl e
    where
      by : (t : Bool) → is_share_of consumer a ≡ t → None ≡ cond t (Some a) (find (is_share_of consumer) bs) → (is_share_of consumer a ≡ false) × (None ≡ find (is_share_of consumer) bs)
      by true t e = cc
      by false t e = (t, e)

  -- nobody leaves
  pub nobody_leaves : (bs : List Block) → None ≡ find (is_share_of consumer) bs → bs ≡ given_back consumer bs
  nobody_leaves [] none = refl
  nobody_leaves (a ∷ []) none = sym (ap (λ t. cond t [] (a ∷ [])) (none_cases a [] none).0)
  nobody_leaves (a ∷ b ∷ bs) none =
      let here = none_cases a (b ∷ bs) none in
      let next = none_cases b bs here.1 in
      ap (λ rest. a ∷ rest) (nobody_leaves (b ∷ bs) here.1)
      ∙ sym (leaver_later a b bs here.0 (ap (λ t. t && eqb (length bs) 0) next.0))

  -- the share behind takes the hashes
  given_next : (from : ℕ) (e f : ℕ × ℕ) (es : List (ℕ × ℕ)) → from < e.0 → e.0 < f.0 → is_share_of consumer (share_between from e.0 e.1) ≡ true → shares_from from (f ∷ es) ≡ given_back consumer (shares_from from (e ∷ f ∷ es))
  given_next from e f es low high here =
      let size : f.0 - from ≡ (e.0 - from) + (f.0 - e.0) = omega arith in
      ap (λ n. share_with from n f.1 ∷ shares_from f.0 es) size
      ∙ sym (leaver_first (share_between from e.0 e.1) (share_between e.0 f.0 f.1) (shares_from f.0 es) here)
    where
      share_with : ℕ → ℕ → ℕ → Block
      share_with from size consumer = record { from = from; size = size; consumer = consumer }

  -- a share ends behind where the first begins
  found_past : (from : ℕ) (es : List (ℕ × ℕ)) (b : Block) → SplitFrom from es → find (is_share_of consumer) (shares_from from es) ≡ Some b → b.from + b.size ≤ from → ⊥
  found_past from [] b split is past = nothing_found (is_share_of consumer) b is
  found_past from (e ∷ es) b split is past = elim (find_cases (is_share_of consumer) (share_between from e.0 e.1) b (shares_from e.0 es) is) [
    | inl here ↦ let end : from + (e.0 - from) ≤ from = subst (λ (s : Block). s.from + s.size ≤ from) (sym here.1) past in omega (arith, split.0)
    | inr later ↦ found_past e.0 es b (split_after from e es split) later.1 (omega (arith, split.0))
  ]

  -- a share that does not end with the hashes is not the last
  not_last : (from : ℕ) (f : ℕ × ℕ) (es : List (ℕ × ℕ)) (b : Block) → Rise from (f ∷ es) → find (is_share_of consumer) (shares_from from (f ∷ es)) ≡ Some b → b.from + b.size < 65536 → (is_share_of consumer (share_between from f.0 f.1) && eqb (length (shares_from f.0 es)) 0) ≡ false
  not_last from f [] b rise is small = elim (find_cases (is_share_of consumer) (share_between from f.0 f.1) b [] is) [
    | inl here ↦ let end : from + (f.0 - from) < 65536 = subst (λ (s : Block). s.from + s.size < 65536) (sym here.1) small in absurd (omega (arith, rise.0, rise.1))
    | inr later ↦ absurd (nothing_found (is_share_of consumer) b later.1)
  ]
  not_last from f (g ∷ es) b rise is small =
      ap (λ t. is_share_of consumer (share_between from f.0 f.1) && t) (ne_eqb (length (shares_from f.0 (g ∷ es))) 0 (λ h. absurd (omega arith)))
      ∙ never (is_share_of consumer (share_between from f.0 f.1))
    where
      never : (t : Bool) → (t && false) ≡ false
      never true = refl
      never false = refl

  pub next_takes : (from : ℕ) (es : List (ℕ × ℕ)) (b : Block) → SplitFrom from es → find (is_share_of consumer) (shares_from from es) ≡ Some b → b.from + b.size < 65536 → shares_from from (remove_entry (is_at (nat_cmp (b.from + b.size))) es) ≡ given_back consumer (shares_from from es)
  next_takes from [] b split is small = absurd (nothing_found (is_share_of consumer) b is)
  next_takes from (e ∷ []) b split is small = elim (find_cases (is_share_of consumer) (share_between from e.0 e.1) b [] is) [
    | inl here ↦ let end : from + (e.0 - from) < 65536 = subst (λ (s : Block). s.from + s.size < 65536) (sym here.1) small in absurd (omega (arith, split.0, split.1))
    | inr later ↦ absurd (nothing_found (is_share_of consumer) b later.1)
  ]
  next_takes from (e ∷ f ∷ es) b split is small = elim (find_cases (is_share_of consumer) (share_between from e.0 e.1) b (shares_from e.0 (f ∷ es)) is) [
    | inl here ↦
        let end : b.from + b.size ≡ e.0 = sym (ap (λ (s : Block). s.from + s.size) here.1) ∙ whole from e.0 split.0 in
        ap (shares_from from) (removed_here (b.from + b.size) e (f ∷ es) end)
        ∙ given_next from e f es split.0 split.1.0 here.0
    | inr later ↦
        let beyond : b.from + b.size ≢ e.0 = λ h. absurd (found_past e.0 (f ∷ es) b split.1 later.1 (omega arith)) in
        ap (shares_from from) (removed_later (b.from + b.size) e (f ∷ es) beyond)
        ∙ ap (λ bs. share_between from e.0 e.1 ∷ bs) (next_takes e.0 (f ∷ es) b split.1 later.1 small)
        ∙ sym (leaver_later (share_between from e.0 e.1) (share_between e.0 f.0 f.1) (shares_from f.0 es) later.0 (not_last e.0 f es b split.1 later.1 small))
  ]
    where
      whole : (from end : ℕ) → from < end → from + (end - from) ≡ end
      whole from end h = omega arith

  -- the share before the last takes its hashes
  given_before : (from : ℕ) (e f : ℕ × ℕ) → from < e.0 → e.0 < f.0 → is_share_of consumer (share_between from e.0 e.1) ≡ false → is_share_of consumer (share_between e.0 f.0 f.1) ≡ true → shares_from from ((f.0, e.1) ∷ []) ≡ given_back consumer (shares_from from (e ∷ f ∷ []))
  given_before from e f low high other here =
      let size : f.0 - from ≡ (e.0 - from) + (f.0 - e.0) = omega arith in
      ap (λ n. share_with from n e.1 ∷ []) size
      ∙ sym (leaver_last (share_between from e.0 e.1) (share_between e.0 f.0 f.1) other here)
    where
      share_with : ℕ → ℕ → ℕ → Block
      share_with from size consumer = record { from = from; size = size; consumer = consumer }

  -- where the last share begins, and the end of the one before it
  before_last : (from : ℕ) (e f : ℕ × ℕ) (es : List (ℕ × ℕ)) (b : Block) (w : ℕ) → Rise from (e ∷ f ∷ es) → is_share_of consumer (share_between from e.0 e.1) ≡ false → is_share_of consumer (share_between e.0 f.0 f.1) ≡ true → share_between e.0 f.0 f.1 ≡ b → b.from + b.size ≡ 65536 → lookup (is_at (nat_cmp b.from)) (e ∷ f ∷ es) ≡ Some w → shares_from from (set_value (is_at (nat_cmp 65536)) (remove_entry (is_at (nat_cmp b.from)) (e ∷ f ∷ es)) w) ≡ given_back consumer (shares_from from (e ∷ f ∷ es))
  before_last from e f (g ∷ es) b w rise other here same last there =
      let end : e.0 + (f.0 - e.0) ≡ 65536 = ap (λ (s : Block). s.from + s.size) same ∙ last in
      absurd (omega (arith, rise.1.0, rise.1.1.0, rise_within g.0 es rise.1.1.1))
  before_last from e f [] b w rise other here same last there =
      let begins : b.from ≡ e.0 = sym (ap (λ (s : Block). s.from) same) in
      let ends : 65536 ≡ f.0 = sym rise.1.1 in
      let owner : w ≡ e.1 = same_Some w e.1 (sym there ∙ found_here b.from e (f ∷ []) begins) in
      ap (λ es. shares_from from (set_value (is_at (nat_cmp 65536)) es w)) (removed_here b.from e (f ∷ []) begins)
      ∙ ap (shares_from from) (set_here 65536 f [] w ends)
      ∙ ap (λ x. shares_from from ((f.0, x) ∷ [])) owner
      ∙ given_before from e f rise.0 rise.1.0 other here

  -- the first share begins where no end is
  not_first : (from : ℕ) (e : ℕ × ℕ) (es : List (ℕ × ℕ)) (b : Block) (w : ℕ) → SplitFrom from (e ∷ es) → share_between from e.0 e.1 ≡ b → lookup (is_at (nat_cmp b.from)) (e ∷ es) ≡ Some w → ⊥
  not_first from e es b w split here there =
      let begins : from ≡ b.from = ap (λ (s : Block). s.from) here in
      none_some (lookup (is_at (nat_cmp b.from)) (e ∷ es)) (no_end b.from from (e ∷ es) split (omega arith)) there
    where
      none_some : (o : Option ℕ) → o ≡ None → o ≡ Some w → ⊥
      none_some o p q = cc

  pub one_before_takes : (from : ℕ) (es : List (ℕ × ℕ)) (b : Block) (w : ℕ) → SplitFrom from es → find (is_share_of consumer) (shares_from from es) ≡ Some b → b.from + b.size ≡ 65536 → lookup (is_at (nat_cmp b.from)) es ≡ Some w → shares_from from (set_value (is_at (nat_cmp 65536)) (remove_entry (is_at (nat_cmp b.from)) es) w) ≡ given_back consumer (shares_from from es)
  one_before_takes from [] b w split is last there = absurd (nothing_found (is_share_of consumer) b is)
  one_before_takes from (e ∷ []) b w split is last there = elim (find_cases (is_share_of consumer) (share_between from e.0 e.1) b [] is) [
    | inl here ↦ absurd (not_first from e [] b w split here.1 there)
    | inr later ↦ absurd (nothing_found (is_share_of consumer) b later.1)
  ]
  one_before_takes from (e ∷ f ∷ es) b w split is last there = elim (find_cases (is_share_of consumer) (share_between from e.0 e.1) b (shares_from e.0 (f ∷ es)) is) [
    | inl here ↦ absurd (not_first from e (f ∷ es) b w split here.1 there)
    | inr later ↦ elim (find_cases (is_share_of consumer) (share_between e.0 f.0 f.1) b (shares_from f.0 es) later.1) [
      | inl next ↦ before_last from e f es b w split later.0 next.0 next.1 last there
      | inr further ↦
          let within = found_within (is_share_of consumer) f.0 es b (split_after e.0 f es split.1) further.1 in
          let ends = ends_within e.0 f es split.1 in
          let beyond : b.from ≢ e.0 = λ h. absurd (omega (arith, within.0, ends.0, h)) in
          let below : 65536 ≢ e.0 = λ h. absurd (omega (arith, ends.0, ends.1, h)) in
          ap (λ xs. shares_from from (set_value (is_at (nat_cmp 65536)) xs w)) (removed_later b.from e (f ∷ es) beyond)
          ∙ ap (shares_from from) (set_later 65536 e (remove_entry (is_at (nat_cmp b.from)) (f ∷ es)) w below)
          ∙ ap (λ bs. share_between from e.0 e.1 ∷ bs) (one_before_takes e.0 (f ∷ es) b w split.1 later.1 last (sym (found_later b.from e (f ∷ es) beyond) ∙ there))
          ∙ sym (leaver_later (share_between from e.0 e.1) (share_between e.0 f.0 f.1) (shares_from f.0 es) later.0 (ap (λ t. t && eqb (length (shares_from f.0 es)) 0) further.0))
    ]
  ]

  -- no end is where the share begins, so it is the first
  is_first : (from : ℕ) (e : ℕ × ℕ) (es : List (ℕ × ℕ)) (b : Block) → SplitFrom from (e ∷ es) → find (is_share_of consumer) (shares_from from (e ∷ es)) ≡ Some b → lookup (is_at (nat_cmp b.from)) (e ∷ es) ≡ None → (is_share_of consumer (share_between from e.0 e.1) ≡ true) × (share_between from e.0 e.1 ≡ b)
  is_first from e [] b split is none = elim (find_cases (is_share_of consumer) (share_between from e.0 e.1) b [] is) [
    | inl here ↦ here
    | inr later ↦ absurd (nothing_found (is_share_of consumer) b later.1)
  ]
  is_first from e (f ∷ es) b split is none = elim (find_cases (is_share_of consumer) (share_between from e.0 e.1) b (shares_from e.0 (f ∷ es)) is) [
    | inl here ↦ here
    | inr later ↦ elim (cases_eq b.from e.0) [
      | inl same ↦ absurd (none_some (lookup (is_at (nat_cmp b.from)) (e ∷ f ∷ es)) none (found_here b.from e (f ∷ es) same))
      | inr other ↦
          let next = is_first e.0 f es b split.1 later.1 (sym (found_later b.from e (f ∷ es) other) ∙ none) in
          absurd (other (sym (ap (λ (s : Block). s.from) next.1)))
    ]
  ]
    where
      none_some : (o : Option ℕ) → o ≡ None → o ≡ Some e.1 → ⊥
      none_some o p q = cc

  only : (e : ℕ × ℕ) (es : List (ℕ × ℕ)) (b : Block) → Rise 0 (e ∷ es) → is_share_of consumer (share_between 0 e.0 e.1) ≡ true → share_between 0 e.0 e.1 ≡ b → b.from + b.size ≡ 65536 → [] ≡ given_back consumer (shares_of (e ∷ es))
  only e [] b rise here same last = sym (leaver_alone (share_between 0 e.0 e.1) here)
  only e (f ∷ es) b rise here same last =
      let end : 0 + (e.0 - 0) ≡ 65536 = ap (λ (s : Block). s.from + s.size) same ∙ last in
      absurd (omega (arith, rise.1.0, rise_within f.0 es rise.1.1))

  pub last_leaves : (es : List (ℕ × ℕ)) (b : Block) → SplitAll es → find (is_share_of consumer) (shares_of es) ≡ Some b → b.from + b.size ≡ 65536 → lookup (is_at (nat_cmp b.from)) es ≡ None → [] ≡ given_back consumer (shares_of es)
  last_leaves [] b split is last none = refl
  last_leaves (e ∷ es) b split is last none =
      let first = is_first 0 e es b split is none in
      only e es b split first.0 first.1 last

-- the bounds of the leaver's share
pub share_within : (consumer : ℕ) (es : List (ℕ × ℕ)) (b : Block) → SplitAll es → find (is_share_of consumer) (shares_of es) ≡ Some b → b.from + b.size ≤ 65536
share_within consumer es b split is = (found_within (is_share_of consumer) 0 es b split is).1

pub share_begins : (p : Block → Bool) (from : ℕ) (es : List (ℕ × ℕ)) (b : Block) → SplitFrom from es → find p (shares_from from es) ≡ Some b → b.from < 65536
share_begins p from [] b split is = absurd (nothing_found p b is)
share_begins p from (e ∷ es) b split is = elim (find_cases p (share_between from e.0 e.1) b (shares_from e.0 es) is) [
  | inl here ↦ let ends = ends_within from e es split in subst (λ (s : Block). s.from < 65536) here.1 (omega (arith, ends.0, ends.1))
  | inr later ↦ share_begins p e.0 es b (split_after from e es split) later.1
]

pub share_is_own : (consumer : ℕ) (bs : List Block) (b : Block) → find (is_share_of consumer) bs ≡ Some b → b.consumer ≡ consumer
share_is_own consumer [] b is = absurd (nothing_found (is_share_of consumer) b is)
share_is_own consumer (a ∷ bs) b is = elim (find_cases (is_share_of consumer) a b bs is) [
  | inl here ↦ ap (λ (s : Block). s.consumer) (sym here.1) ∙ eqb-true a.consumer consumer here.0
  | inr later ↦ share_is_own consumer bs b later.1
]
