-- Who has which hash after a consumer joins or leaves.
use Rattle.std.proofs.Common.{◌≡◌, ℕ, ◌+◌, ◌-◌, ◌<◌, ◌≤◌, suc, Bool, true, false, cond, eqb, List, [], ◌∷◌, length, Option, Some, None, ⊎_elim, ◌⊎◌, inl, inr, refl, sym, ap, ◌∙◌, arith, Contains}
use Rattle.std.specs.Prelude.{◌&&◌, ◌||◌}
use Rattle.std.specs.List.{AllByRecursion, find, list_any}
use Rattle.std.specs.Option.{option_map}
use Rattle.std.proofs.lemmas.Bool.{cases_lt, cases_Bool}
use Rattle.std.proofs.lemmas.Bool.Decides.{nat_tests}
use Rattle.position_core.specs.declared.block.Block.{Block}
use Rattle.delivery_machine.specs.Shares.{has_hash, owner_among, is_share_of, with_lower, with_upper, given_back, IsRow}
use Rattle.delivery_machine.proofs.SharesSplit.{begins_within, ends_within}
use Rattle.delivery_machine.specs.ShareSets.{heir}

-- ---- hashes and blocks

pub inside : (hash : ℕ) (b : Block) → b.from ≤ hash → hash < b.from + b.size → has_hash hash b ≡ true
inside hash b above below = grind (arith, nat_tests)

pub outside : (hash : ℕ) (b : Block) → (hash < b.from) ⊎ (b.from + b.size ≤ hash) → has_hash hash b ≡ false
outside hash b (inl below) = grind (arith, nat_tests)
outside hash b (inr above) = grind (arith, nat_tests)

pub bounds : (hash : ℕ) (b : Block) → has_hash hash b ≡ true → (b.from ≤ hash) × (hash < b.from + b.size)
bounds hash b e = (grind (arith, nat_tests), grind (arith, nat_tests))

pub owner_here : (hash : ℕ) (b : Block) (bs : List Block) → has_hash hash b ≡ true → owner_among (b ∷ bs) hash ≡ Some b.consumer
owner_here hash b bs here = ap (λ t. option_map (λ (x : Block). x.consumer) (cond t (Some b) (find (has_hash hash) bs))) here

pub owner_past : (hash : ℕ) (b : Block) (bs : List Block) → has_hash hash b ≡ false → owner_among (b ∷ bs) hash ≡ owner_among bs hash
owner_past hash b bs past = ap (λ t. option_map (λ (x : Block). x.consumer) (cond t (Some b) (find (has_hash hash) bs))) past

-- one block where another was, with other hashes of one consumer
pub owner_alike : (hash : ℕ) (b c : Block) (bs cs : List Block) → has_hash hash b ≡ has_hash hash c → b.consumer ≡ c.consumer → owner_among bs hash ≡ owner_among cs hash → owner_among (b ∷ bs) hash ≡ owner_among (c ∷ cs) hash
owner_alike hash b c bs cs same who rest =
    elim (cases_Bool (has_hash hash b)) [
      | inl here ↦ owner_here hash b bs here ∙ ap Some who ∙ sym (owner_here hash c cs (sym same ∙ here))
      | inr past ↦ owner_past hash b bs past ∙ rest ∙ sym (owner_past hash c cs (sym same ∙ past))
    ]

pub contains_more : {A : Type 0} (x y : A) (xs : List A) → Contains xs x → Contains (y ∷ xs) x
contains_more x y xs at = (suc at.0, omega (arith, at.1), at.2)

pub contains_here : {A : Type 0} (x : A) (xs : List A) → Contains (x ∷ xs) x
contains_here x xs = (0, omega arith, refl)

-- ---- leaving

-- the leaver's block, and whose its hashes are, in a row that begins at a hash
pub record GoesFrom (start consumer : ℕ) (shares new : List Block) : Type 0 where
  pub gone : Block
  pub there : Contains shares gone
  pub leaver : gone.consumer ≡ consumer
  pub after : start ≤ gone.from
  pub last : gone.from + gone.size ≡ 65536 → ((length shares ≡ 1) × (list_any (is_share_of consumer) shares ≡ true)) ⊎ (start < gone.from)
  pub given : (hash : ℕ) → has_hash hash gone ≡ true → owner_among new hash ≡ heir shares gone
  pub others : (hash : ℕ) → has_hash hash gone ≡ false → owner_among new hash ≡ owner_among shares hash

heir_at_end : (shares : List Block) (gone : Block) → gone.from + gone.size ≡ 65536 → 0 < gone.from → heir shares gone ≡ owner_among shares (gone.from - 1)
heir_at_end shares gone end some =
    ap (λ t. cond t (cond (eqb gone.from 0) None (owner_among shares (gone.from - 1))) (owner_among shares (gone.from + gone.size))) (at_end (gone.from + gone.size) end)
    ∙ ap (λ t. cond t None (owner_among shares (gone.from - 1))) (not_first gone.from some)
  where
    at_end : (n : ℕ) → n ≡ 65536 → eqb n 65536 ≡ true
    at_end n e = grind (arith, nat_tests)

    not_first : (n : ℕ) → 0 < n → eqb n 0 ≡ false
    not_first n e = grind (arith, nat_tests)

heir_before_end : (shares : List Block) (gone : Block) → gone.from + gone.size < 65536 → heir shares gone ≡ owner_among shares (gone.from + gone.size)
heir_before_end shares gone before =
    ap (λ t. cond t (cond (eqb gone.from 0) None (owner_among shares (gone.from - 1))) (owner_among shares (gone.from + gone.size))) (not_end (gone.from + gone.size) before)
  where
    not_end : (n : ℕ) → n < 65536 → eqb n 65536 ≡ false
    not_end n e = grind (arith, nat_tests)

-- of one share alone nobody is the heir
heir_alone : (gone : Block) → heir (gone ∷ []) gone ≡ None
heir_alone gone = by_end (eqb (gone.from + gone.size) 65536) (cases_Bool (eqb gone.from 0))
  where
    next : owner_among (gone ∷ []) (gone.from + gone.size) ≡ None
    next = owner_past (gone.from + gone.size) gone [] (outside (gone.from + gone.size) gone (inr (omega arith)))

    before : eqb gone.from 0 ≡ false → owner_among (gone ∷ []) (gone.from - 1) ≡ None
    before some = owner_past (gone.from - 1) gone [] (outside (gone.from - 1) gone (inl (below gone.from some)))
      where
        below : (n : ℕ) → eqb n 0 ≡ false → n - 1 < n
        below n e = grind (arith, nat_tests)

    by_end : (t : Bool) → ((eqb gone.from 0 ≡ true) ⊎ (eqb gone.from 0 ≡ false)) → cond t (cond (eqb gone.from 0) None (owner_among (gone ∷ []) (gone.from - 1))) (owner_among (gone ∷ []) (gone.from + gone.size)) ≡ None
    by_end true (inl first) = ap (λ u. cond {A = Option ℕ} u None (owner_among (gone ∷ []) (gone.from - 1))) first
    by_end true (inr some) = ap (λ u. cond {A = Option ℕ} u None (owner_among (gone ∷ []) (gone.from - 1))) some ∙ before some
    by_end false either = next

-- a share before the others is nobody's heir
heir_behind : (a gone : Block) (bs : List Block) → a.from + a.size ≤ gone.from → (gone.from + gone.size ≡ 65536 → a.from + a.size < gone.from) → gone.from + gone.size ≤ 65536 → 0 < gone.from → heir (a ∷ bs) gone ≡ heir bs gone
heir_behind a gone bs after last within some =
    elim (cases_lt (gone.from + gone.size) 65536) [
      | inl before ↦
          heir_before_end (a ∷ bs) gone before
          ∙ owner_past (gone.from + gone.size) a bs (outside (gone.from + gone.size) a (inr (omega arith)))
          ∙ sym (heir_before_end bs gone before)
      | inr end ↦
          let is : gone.from + gone.size ≡ 65536 = omega arith in
          let far = last is in
          heir_at_end (a ∷ bs) gone is some ∙ owner_past (gone.from - 1) a bs (outside (gone.from - 1) a (inr (omega arith))) ∙ sym (heir_at_end bs gone is some)
    ]

share_of : (consumer : ℕ) (b : Block) → is_share_of consumer b ≡ true → b.consumer ≡ consumer
share_of consumer b e = grind (arith, nat_tests)

pub goes : (start consumer : ℕ) (shares : List Block) → IsRow start shares → AllByRecursion (λ b. 0 < b.size) shares → list_any (is_share_of consumer) shares ≡ true → GoesFrom start consumer shares (given_back consumer shares)
goes start consumer [] row some there = cc
goes start consumer (a ∷ []) row some there = by_test (is_share_of consumer a) refl
  where
    by_test : (t : Bool) → is_share_of consumer a ≡ t → GoesFrom start consumer (a ∷ []) (cond t [] (a ∷ []))
    by_test false not = absurd (no_share (is_share_of consumer a) not there)
      where
        no_share : (t : Bool) → t ≡ false → (t || false) ≡ true → ⊥
        no_share t e f = grind (arith, nat_tests)
    by_test true is = record {
      gone = a;
      there = contains_here a [];
      leaver = share_of consumer a is;
      after = omega (arith, row.0);
      last = λ _. inl (refl, there);
      given = λ hash here. sym (heir_alone a);
      others = λ hash past. sym (owner_past hash a [] past);
    }
goes start consumer (a ∷ b ∷ rest) row some there =
    by_tests (λ any. goes (start + a.size) consumer (b ∷ rest) row.1 some.1 any) (is_share_of consumer a) refl (is_share_of consumer b) refl (eqb (length rest) 0) refl
  where
    row_b : b.from ≡ a.from + a.size
    row_b = omega (arith, row.0, row.1.0)

    within : a.from + a.size + b.size ≤ 65536
    within = omega (arith, begins_within (start + a.size + b.size) rest row.1.1, row.0)

    to_next : a.consumer ≡ consumer → GoesFrom start consumer (a ∷ b ∷ rest) (with_lower a b ∷ rest)
    to_next is = record {
      gone = a;
      there = contains_here a (b ∷ rest);
      leaver = is;
      after = omega (arith, row.0);
      last = λ end. absurd (omega (arith, end, within, some.1.0));
      given = λ hash here.
          let at = bounds hash a here in
          owner_here hash (with_lower a b) rest (inside hash (with_lower a b) at.0 (omega (arith, at.1)))
          ∙ sym (owner_here (a.from + a.size) b rest (inside (a.from + a.size) b (omega (arith, row_b)) (omega (arith, row_b, some.1.0))))
          ∙ sym (owner_past (a.from + a.size) a (b ∷ rest) (outside (a.from + a.size) a (inr (omega arith))))
          ∙ sym (heir_before_end (a ∷ b ∷ rest) a (omega (arith, within, some.1.0)));
      others = λ hash past.
          owner_alike hash (with_lower a b) b rest rest (grown hash past) refl refl ∙ sym (owner_past hash a (b ∷ rest) past);
    }
      where
        grown : (hash : ℕ) → has_hash hash a ≡ false → has_hash hash (with_lower a b) ≡ has_hash hash b
        grown hash past =
            elim (cases_lt hash a.from) [
              | inl before ↦ outside hash (with_lower a b) (inl before) ∙ sym (outside hash b (inl (omega (arith, row_b))))
              | inr from ↦ elim (cases_lt hash (a.from + a.size)) [
                | inl in_a ↦ absurd (both_ways (has_hash hash a) (inside hash a from in_a) past)
                | inr beyond ↦ elim (cases_lt hash (a.from + a.size + b.size)) [
                  | inl in_b ↦ inside hash (with_lower a b) from (omega arith) ∙ sym (inside hash b (omega (arith, row_b)) (omega (arith, row_b)))
                  | inr far ↦ outside hash (with_lower a b) (inr (omega arith)) ∙ sym (outside hash b (inr (omega (arith, row_b))))
                ]
              ]
            ]
          where
            both_ways : (t : Bool) → t ≡ true → t ≡ false → ⊥
            both_ways t e f = cc

    to_before : b.consumer ≡ consumer → length rest ≡ 0 → GoesFrom start consumer (a ∷ b ∷ rest) (with_upper b a ∷ [])
    to_before is none = record {
      gone = b;
      there = contains_more b a (b ∷ rest) (contains_here b rest);
      leaver = is;
      after = omega (arith, row_b, row.0);
      last = λ end. inr (omega (arith, row_b, row.0, some.0));
      given = λ hash here.
          let at = bounds hash b here in
          owner_here hash (with_upper b a) [] (inside hash (with_upper b a) (omega (arith, at.0, row_b)) (omega (arith, at.1, row_b)))
          ∙ sym (owner_here (b.from - 1) a (b ∷ rest) (inside (b.from - 1) a (omega (arith, row_b, some.0)) (omega (arith, row_b, some.0))))
          ∙ sym (heir_at_end (a ∷ b ∷ rest) b (end rest none row.1.1) (omega (arith, row_b, some.0)));
      others = λ hash past. owner_alike hash (with_upper b a) a [] (b ∷ rest) (shrunk hash past) refl (sym (owner_past hash b rest past ∙ nobody rest none hash));
    }
      where
        end : (rest : List Block) → length rest ≡ 0 → IsRow (start + a.size + b.size) rest → b.from + b.size ≡ 65536
        end [] none row' = omega (arith, row', row_b, row.0)
        end (r ∷ rest) none row' = absurd (omega (arith, none))

        nobody : (rest : List Block) → length rest ≡ 0 → (hash : ℕ) → owner_among rest hash ≡ None
        nobody [] none hash = refl
        nobody (r ∷ rest) none hash = absurd (omega (arith, none))

        shrunk : (hash : ℕ) → has_hash hash b ≡ false → has_hash hash (with_upper b a) ≡ has_hash hash a
        shrunk hash past =
            elim (cases_lt hash a.from) [
              | inl before ↦ outside hash (with_upper b a) (inl before) ∙ sym (outside hash a (inl before))
              | inr from ↦ elim (cases_lt hash (a.from + a.size)) [
                | inl in_a ↦ inside hash (with_upper b a) from (omega arith) ∙ sym (inside hash a from in_a)
                | inr beyond ↦ elim (cases_lt hash (a.from + a.size + b.size)) [
                  | inl in_b ↦ absurd (both_ways (has_hash hash b) (inside hash b (omega (arith, row_b)) (omega (arith, row_b))) past)
                  | inr far ↦ outside hash (with_upper b a) (inr (omega arith)) ∙ sym (outside hash a (inr beyond))
                ]
              ]
            ]
          where
            both_ways : (t : Bool) → t ≡ true → t ≡ false → ⊥
            both_ways t e f = cc

    -- the leaver comes later
    further : (list_any (is_share_of consumer) (b ∷ rest) ≡ true → GoesFrom (start + a.size) consumer (b ∷ rest) (given_back consumer (b ∷ rest))) → is_share_of consumer a ≡ false → (is_share_of consumer b ≡ true → length rest ≡ 0 → ⊥) → GoesFrom start consumer (a ∷ b ∷ rest) (a ∷ given_back consumer (b ∷ rest))
    further recur other not_last =
        let deeper : GoesFrom (start + a.size) consumer (b ∷ rest) (given_back consumer (b ∷ rest)) = recur (skip (is_share_of consumer a) (list_any (is_share_of consumer) (b ∷ rest)) other there) in
        let ends : deeper.gone.from + deeper.gone.size ≤ 65536 = ends_within (start + a.size) (b ∷ rest) deeper.gone row.1 deeper.there in
        let after : a.from + a.size ≤ deeper.gone.from = omega (arith, deeper.after, row.0) in
        let far : (deeper.gone.from + deeper.gone.size ≡ 65536 → a.from + a.size < deeper.gone.from) =
        λ end. ⊎_elim (λ (one : (length (b ∷ rest) ≡ 1) × (list_any (is_share_of consumer) (b ∷ rest) ≡ true)). absurd (only one.0 one.1)) (λ (more : start + a.size < deeper.gone.from). omega (arith, more, row.0)) (deeper.last end) in
        let same : heir (a ∷ b ∷ rest) deeper.gone ≡ heir (b ∷ rest) deeper.gone =
        heir_behind a deeper.gone (b ∷ rest) after far ends (omega (arith, after, some.0)) in
        record {
          gone = deeper.gone;
          there = contains_more deeper.gone a (b ∷ rest) deeper.there;
          leaver = deeper.leaver;
          after = omega (arith, deeper.after);
          last = λ end. inr (omega (arith, far end, row.0));
          given = λ hash here.
              let at = bounds hash deeper.gone here in
              owner_past hash a (given_back consumer (b ∷ rest)) (outside hash a (inr (omega (arith, at.0, after)))) ∙ deeper.given hash here ∙ sym same;
          others = λ hash past. owner_alike hash a a (given_back consumer (b ∷ rest)) (b ∷ rest) refl refl (deeper.others hash past);
        }
      where
        skip : (t u : Bool) → t ≡ false → (t || u) ≡ true → u ≡ true
        skip t u e f = grind (arith, nat_tests)

        only : length (b ∷ rest) ≡ 1 → list_any (is_share_of consumer) (b ∷ rest) ≡ true → ⊥
        only one any = not_last (here (is_share_of consumer b) rest (omega (arith, one)) any) (omega (arith, one))
          where
            here : (t : Bool) (rest : List Block) → length rest ≡ 0 → (t || list_any (is_share_of consumer) rest) ≡ true → t ≡ true
            here t [] none any = grind (arith, nat_tests)
            here t (r ∷ rest) none any = absurd (omega (arith, none))

    by_tests : (list_any (is_share_of consumer) (b ∷ rest) ≡ true → GoesFrom (start + a.size) consumer (b ∷ rest) (given_back consumer (b ∷ rest))) → (s : Bool) → is_share_of consumer a ≡ s → (t : Bool) → is_share_of consumer b ≡ t → (last : Bool) → eqb (length rest) 0 ≡ last
        → GoesFrom start consumer (a ∷ b ∷ rest) (cond s (with_lower a b ∷ rest) (cond (t && last) (with_upper b a ∷ []) (a ∷ given_back consumer (b ∷ rest))))
    by_tests recur true is t that last none = to_next (share_of consumer a is)
    by_tests recur false other true is true none = to_before (share_of consumer b is) (no_more (length rest) none)
      where
        no_more : (n : ℕ) → eqb n 0 ≡ true → n ≡ 0
        no_more n e = grind (arith, nat_tests)
    by_tests recur false other true is false more = further recur other (λ _ none. some_more (length rest) more none)
      where
        some_more : (n : ℕ) → eqb n 0 ≡ false → n ≡ 0 → ⊥
        some_more n e f = grind (arith, nat_tests)
    by_tests recur false other false not last more = further recur other (λ is none. both (is_share_of consumer b) is not)
      where
        both : (t : Bool) → t ≡ true → t ≡ false → ⊥
        both t e f = cc
