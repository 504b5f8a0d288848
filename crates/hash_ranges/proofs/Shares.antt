-- What is read of the shares by their ends.
use Rattle.std.proofs.Common.{◌≡◌, ℕ, ◌+◌, ◌-◌, ◌<◌, ◌≤◌, Bool, true, false, cond, List, [], ◌∷◌, ◌++◌, Option, Some, ◌⊎◌, inl, inr, refl, sym, ap, ap₂, ◌∙◌, subst, arith}
use Rattle.std.specs.Prelude.{◌&&◌, nat_lt, not}
use Rattle.std.specs.List.{find}
use Rattle.std.specs.Option.{option_map}
use Rattle.std.specs.Ordering.{nat_cmp, is_le, is_lt}
use Rattle.std.specs.BTreeMap.Range.{entries_between}
use Rattle.std.specs.declared.ops.Bound.TheVariants.{Included, Unbounded}
use Rattle.std.proofs.lemmas.Bool.{cases_lt, lt-ltb, le-ltb, le-leb, lt-leb}
use Rattle.std.proofs.lemmas.Grind.{common_steps}
use Rattle.std.proofs.lemmas.Option.{same_Some}
use Rattle.position_core.specs.declared.block.Block.{Block}
use Rattle.delivery_machine.specs.Shares.{has_hash, owner_among, IsRow, SplitAllHashes}
use Rattle.hash_ranges.specs.Ends.{begin_from, share_between, shares_from, shares_of, largest_with, largest_of, Rise, SplitFrom, SplitAll}

pub split_after : (from : ℕ) (e : ℕ × ℕ) (es : List (ℕ × ℕ)) → SplitFrom from (e ∷ es) → SplitFrom e.0 es
split_after from e [] split = tt
split_after from e (f ∷ es) split = split.1

pub split_rise : (from : ℕ) (es : List (ℕ × ℕ)) → Rise from es → SplitFrom from es
split_rise from [] rise = tt
split_rise from (e ∷ es) rise = rise

row_of : (from : ℕ) (es : List (ℕ × ℕ)) → Rise from es → IsRow from (shares_from from es)
row_of from [] rise = rise
row_of from (e ∷ es) rise =
    let end : e.0 ≡ from + (e.0 - from) = omega (arith, rise.0) in
    (refl, subst (λ n. IsRow n (shares_from e.0 es)) end (row_of e.0 es rise.1))

pub split_of : (es : List (ℕ × ℕ)) → SplitAll es → SplitAllHashes (shares_of es)
split_of [] split = tt
split_of (e ∷ es) split = row_of 0 (e ∷ es) split

pub rise_within : (from : ℕ) (es : List (ℕ × ℕ)) → Rise from es → from ≤ 65536
rise_within from [] rise = omega arith
rise_within from (e ∷ es) rise = omega (arith, rise.0, rise_within e.0 es rise.1)

pub ends_within : (from : ℕ) (e : ℕ × ℕ) (es : List (ℕ × ℕ)) → SplitFrom from (e ∷ es) → (from < e.0) × (e.0 ≤ 65536)
ends_within from e es split = (split.0, rise_within e.0 es split.1)

-- ---- the owner of a hash

le_cmp : (a b : ℕ) → a ≤ b → (is_le (nat_cmp a b) && not false) ≡ true
le_cmp a b h = grind (arith, common_steps)

gt_cmp : (a b : ℕ) → b < a → (is_le (nat_cmp a b) && not false) ≡ false
gt_cmp a b h = grind (arith, common_steps)

has_below : (hash from end consumer : ℕ) → from ≤ hash → hash < end → has_hash hash (share_between from end consumer) ≡ true
has_below hash from end consumer low high =
    ap (λ t. t && nat_lt hash (from + (end - from))) (le-leb from hash low) ∙ lt-ltb hash (from + (end - from)) (omega arith)

has_not_past : (hash from end consumer : ℕ) → from ≤ hash → from < end → end ≤ hash → has_hash hash (share_between from end consumer) ≡ false
has_not_past hash from end consumer low some past =
    ap (λ t. t && nat_lt hash (from + (end - from))) (le-leb from hash low) ∙ le-ltb hash (from + (end - from)) (omega arith)

-- the ends behind the hash
abbrev pub behind : ℕ → List (ℕ × ℕ) → List (ℕ × ℕ)
behind hash es = entries_between nat_cmp (Included (hash + 1)) Unbounded es

owner_at : (t : Bool) (hash : ℕ) (b : Block) (bs : List Block) → has_hash hash b ≡ t → owner_among (b ∷ bs) hash ≡ cond t (Some b.consumer) (owner_among bs hash)
owner_at true hash b bs e = ap (λ t. option_map (λ (b' : Block). b'.consumer) (cond t (Some b) (find (has_hash hash) bs))) e
owner_at false hash b bs e = ap (λ t. option_map (λ (b' : Block). b'.consumer) (cond t (Some b) (find (has_hash hash) bs))) e

pub owner_found : (hash from : ℕ) (es : List (ℕ × ℕ)) (x : ℕ × ℕ) (rest : List (ℕ × ℕ)) → SplitFrom from es → from ≤ hash → behind hash es ≡ x ∷ rest → Some x.1 ≡ owner_among (shares_from from es) hash
owner_found hash from [] x rest split low is = absurd (bad is)
  where
    bad : ◌≡◌ {A = List (ℕ × ℕ)} [] (x ∷ rest) → ⊥
    bad e = cc
owner_found hash from (e ∷ es) x rest split low is = elim (cases_lt hash e.0) [
  | inl here ↦
      ap (λ (y : ℕ × ℕ). Some y.1) (same_head (sym (ap (λ t. cond t (e ∷ behind hash es) (behind hash es)) (le_cmp (hash + 1) e.0 (omega arith))) ∙ is))
      ∙ sym (owner_at true hash (share_between from e.0 e.1) (shares_from e.0 es) (has_below hash from e.0 e.1 low here))
  | inr past ↦
      owner_found hash e.0 es x rest (split_after from e es split) past (sym (ap (λ t. cond t (e ∷ behind hash es) (behind hash es)) (gt_cmp (hash + 1) e.0 (omega arith))) ∙ is)
      ∙ sym (owner_at false hash (share_between from e.0 e.1) (shares_from e.0 es) (has_not_past hash from e.0 e.1 low split.0 past))
]
  where
    same_head : e ∷ behind hash es ≡ x ∷ rest → x ≡ e
    same_head h = cc

-- an end is behind each hash
none_behind : (hash from : ℕ) (es : List (ℕ × ℕ)) → Rise from es → from ≤ hash → hash < 65536 → behind hash es ≡ [] → ⊥
none_behind hash from [] rise low small is = omega arith
none_behind hash from (e ∷ es) rise low small is = elim (cases_lt hash e.0) [
  | inl here ↦ bad (sym (ap (λ t. cond t (e ∷ behind hash es) (behind hash es)) (le_cmp (hash + 1) e.0 (omega arith))) ∙ is)
  | inr past ↦ none_behind hash e.0 es rise.1 past small (sym (ap (λ t. cond t (e ∷ behind hash es) (behind hash es)) (gt_cmp (hash + 1) e.0 (omega arith))) ∙ is)
]
  where
    bad : e ∷ behind hash es ≡ [] → ⊥
    bad h = cc

pub nobody_owns : (hash : ℕ) (es : List (ℕ × ℕ)) → SplitAll es → hash < 65536 → behind hash es ≡ [] → es ≡ []
nobody_owns hash [] split small is = refl
nobody_owns hash (e ∷ es) split small is = absurd (none_behind hash 0 (e ∷ es) split (omega arith) small is)

-- ---- a share that is found

pub find_cases : (p : Block → Bool) (a b : Block) (bs : List Block) → find p (a ∷ bs) ≡ Some b → ((p a ≡ true) × (a ≡ b)) ⊎ ((p a ≡ false) × (find p bs ≡ Some b))
find_cases p a b bs e = by (p a) refl e
  where
    by : (t : Bool) → p a ≡ t → cond t (Some a) (find p bs) ≡ Some b → ((p a ≡ true) × (a ≡ b)) ⊎ ((p a ≡ false) × (find p bs ≡ Some b))
    by true t e = inl (t, same_Some a b e)
    by false t e = inr (t, e)

pub nothing_found : (p : Block → Bool) (b : Block) → find p [] ≡ Some b → ⊥
nothing_found p b e = cc

pub found_within : (p : Block → Bool) (from : ℕ) (es : List (ℕ × ℕ)) (b : Block) → SplitFrom from es → find p (shares_from from es) ≡ Some b → (from ≤ b.from) × (b.from + b.size ≤ 65536)
found_within p from [] b split e = absurd (nothing_found p b e)
found_within p from (e ∷ es) b split is =
    let ends = ends_within from e es split in
    elim (find_cases p (share_between from e.0 e.1) b (shares_from e.0 es) is) [
      | inl here ↦ subst (λ (s : Block). (from ≤ s.from) × (s.from + s.size ≤ 65536)) here.1 (omega arith, omega (arith, ends.0, ends.1))
      | inr later ↦ let in_rest = found_within p e.0 es b (split_after from e es split) later.1 in (omega (arith, ends.0, in_rest.0), in_rest.1)
    ]

-- ---- goes over the ends

-- what is found among the shares is among those that are left
pub record IsSought (p : Block → Bool) (all : List (ℕ × ℕ)) (from : ℕ) (left : List (ℕ × ℕ)) : Type 0 where
  pub split : SplitFrom from left
  pub same : find p (shares_from from left) ≡ find p (shares_of all)

-- the largest of the one that was found and of those that are left
pub record IsLargest (all : List (ℕ × ℕ)) (from : ℕ) (left : List (ℕ × ℕ)) (largest : Option Block) : Type 0 where
  pub split : SplitFrom from left
  pub same : largest_with largest (shares_from from left) ≡ largest_of (shares_of all)

-- ---- the share that a hash is in

-- the ends that are not behind the hash
abbrev pub passed : ℕ → List (ℕ × ℕ) → List (ℕ × ℕ)
passed hash es = entries_between nat_cmp Unbounded (Included hash) es

passed_here : (hash : ℕ) (e : ℕ × ℕ) (es : List (ℕ × ℕ)) → e.0 ≤ hash → passed hash (e ∷ es) ≡ e ∷ passed hash es
passed_here hash e es past = ap (λ t. cond t (e ∷ passed hash es) (passed hash es)) (not_past e.0 hash past)
  where
    not_past : (a b : ℕ) → a ≤ b → (true && not (is_lt (nat_cmp b a))) ≡ true
    not_past a b h = grind (arith, common_steps)

passed_later : (hash : ℕ) (e : ℕ × ℕ) (es : List (ℕ × ℕ)) → hash < e.0 → passed hash (e ∷ es) ≡ passed hash es
passed_later hash e es here = ap (λ t. cond t (e ∷ passed hash es) (passed hash es)) (is_past e.0 hash here)
  where
    is_past : (a b : ℕ) → b < a → (true && not (is_lt (nat_cmp b a))) ≡ false
    is_past a b h = grind (arith, common_steps)

none_passed : (hash from : ℕ) (es : List (ℕ × ℕ)) → SplitFrom from es → hash < from → passed hash es ≡ []
none_passed hash from [] split low = refl
none_passed hash from (e ∷ es) split low =
    passed_later hash e es (omega (arith, split.0)) ∙ none_passed hash e.0 es (split_after from e es split) (omega (arith, split.0))

begin_past : (from hash : ℕ) (e : ℕ × ℕ) (es : List (ℕ × ℕ)) → e.0 ≤ hash → begin_from from hash (e ∷ es) ≡ begin_from e.0 hash es
begin_past from hash e es past = ap (λ t. cond t (begin_from e.0 hash es) from) (le-leb e.0 hash past)

begin_here : (from hash : ℕ) (e : ℕ × ℕ) (es : List (ℕ × ℕ)) → hash < e.0 → begin_from from hash (e ∷ es) ≡ from
begin_here from hash e es here = ap (λ t. cond t (begin_from e.0 hash es) from) (lt-leb e.0 hash here)

pub begins_first : (from hash : ℕ) (es : List (ℕ × ℕ)) → SplitFrom from es → passed hash es ≡ [] → begin_from from hash es ≡ from
begins_first from hash [] split is = refl
begins_first from hash (e ∷ es) split is = elim (cases_lt hash e.0) [
  | inl here ↦ begin_here from hash e es here
  | inr past ↦ absurd (bad (sym (passed_here hash e es past) ∙ is))
]
  where
    bad : e ∷ passed hash es ≡ [] → ⊥
    bad h = cc

pub begins_at : (from hash : ℕ) (es init : List (ℕ × ℕ)) (x : ℕ × ℕ) → SplitFrom from es → passed hash es ≡ init ++ x ∷ [] → begin_from from hash es ≡ x.0
begins_at from hash [] [] x split is = cc
begins_at from hash [] (i ∷ init) x split is = cc
begins_at from hash (e ∷ es) [] x split is = elim (cases_lt hash e.0) [
  | inl here ↦ absurd (bad (sym (passed_later hash e es here ∙ none_passed hash e.0 es (split_after from e es split) here) ∙ is))
  | inr past ↦
      let same = sym (passed_here hash e es past) ∙ is in
      begin_past from hash e es past ∙ begins_first e.0 hash es (split_after from e es split) (none_left same) ∙ ap (λ (y : ℕ × ℕ). y.0) (the_head same)
]
  where
    bad : ◌≡◌ {A = List (ℕ × ℕ)} [] (x ∷ []) → ⊥
    bad h = cc

    the_head : e ∷ passed hash es ≡ x ∷ [] → e ≡ x
    the_head h = cc

    none_left : e ∷ passed hash es ≡ x ∷ [] → passed hash es ≡ []
    none_left h = cc
begins_at from hash (e ∷ es) (i ∷ init) x split is = elim (cases_lt hash e.0) [
  | inl here ↦ absurd (bad (sym (passed_later hash e es here ∙ none_passed hash e.0 es (split_after from e es split) here) ∙ is))
  | inr past ↦ begin_past from hash e es past ∙ begins_at e.0 hash es init x (split_after from e es split) (the_tail (sym (passed_here hash e es past) ∙ is))
]
  where
    bad : ◌≡◌ {A = List (ℕ × ℕ)} [] (i ∷ (init ++ x ∷ [])) → ⊥
    bad h = cc

    the_tail : e ∷ passed hash es ≡ i ∷ (init ++ x ∷ []) → passed hash es ≡ init ++ x ∷ []
    the_tail h = cc

begin_low : (from hash : ℕ) (es : List (ℕ × ℕ)) → from ≤ hash → begin_from from hash es ≤ hash
begin_low from hash [] low = low
begin_low from hash (e ∷ es) low = elim (cases_lt hash e.0) [
  | inl here ↦ omega (arith, begin_here from hash e es here, low)
  | inr past ↦ omega (arith, begin_past from hash e es past, begin_low e.0 hash es past)
]

behind_first : (hash : ℕ) (es : List (ℕ × ℕ)) (x : ℕ × ℕ) (rest : List (ℕ × ℕ)) → behind hash es ≡ x ∷ rest → hash < x.0
behind_first hash [] x rest is = cc
behind_first hash (e ∷ es) x rest is = elim (cases_lt hash e.0) [
  | inl here ↦ subst (λ (y : ℕ × ℕ). hash < y.0) (same_head (sym (ap (λ t. cond t (e ∷ behind hash es) (behind hash es)) (le_cmp (hash + 1) e.0 (omega arith))) ∙ is)) here
  | inr past ↦ behind_first hash es x rest (sym (ap (λ t. cond t (e ∷ behind hash es) (behind hash es)) (gt_cmp (hash + 1) e.0 (omega arith))) ∙ is)
]
  where
    same_head : e ∷ behind hash es ≡ x ∷ rest → e ≡ x
    same_head h = cc

pub begins_before : (hash : ℕ) (es : List (ℕ × ℕ)) (x : ℕ × ℕ) (rest : List (ℕ × ℕ)) → behind hash es ≡ x ∷ rest → begin_from 0 hash es ≤ x.0
begins_before hash es x rest is = omega (arith, begin_low 0 hash es (omega arith), behind_first hash es x rest is)

pub share_found : (hash from : ℕ) (es : List (ℕ × ℕ)) (x : ℕ × ℕ) (rest : List (ℕ × ℕ)) → SplitFrom from es → from ≤ hash → behind hash es ≡ x ∷ rest
    → Some (share_between (begin_from from hash es) x.0 x.1) ≡ find (has_hash hash) (shares_from from es)
share_found hash from [] x rest split low is = cc
share_found hash from (e ∷ es) x rest split low is = elim (cases_lt hash e.0) [
  | inl here ↦
      ap₂ (λ (n : ℕ) (y : ℕ × ℕ). Some (share_between n y.0 y.1)) (begin_here from hash e es here)
      (same_head (sym (ap (λ t. cond t (e ∷ behind hash es) (behind hash es)) (le_cmp (hash + 1) e.0 (omega arith))) ∙ is))
      ∙ sym (ap (λ t. cond t (Some (share_between from e.0 e.1)) (find (has_hash hash) (shares_from e.0 es))) (has_below hash from e.0 e.1 low here))
  | inr past ↦
      ap (λ (n : ℕ). Some (share_between n x.0 x.1)) (begin_past from hash e es past)
      ∙ share_found hash e.0 es x rest (split_after from e es split) past (sym (ap (λ t. cond t (e ∷ behind hash es) (behind hash es)) (gt_cmp (hash + 1) e.0 (omega arith))) ∙ is)
      ∙ sym (ap (λ t. cond t (Some (share_between from e.0 e.1)) (find (has_hash hash) (shares_from e.0 es))) (has_not_past hash from e.0 e.1 low split.0 past))
]
  where
    same_head : e ∷ behind hash es ≡ x ∷ rest → x ≡ e
    same_head h = cc
