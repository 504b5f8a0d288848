-- How many messages of the log are pending at a consumer.
use Rattle.std.proofs.Common.{◌≡◌, ℕ, ◌+◌, ◌≤◌, List, [], ◌∷◌, ◌++◌, map, Some, None, Option, Bool, true, false, cond, refl, ap, ◌∙◌, sym, subst, arith, ◌⊎◌, inl, inr, true≢false, count_by}
use Rattle.std.specs.Prelude.{◌==◌, drop, suc, zero}
use Rattle.std.specs.List.{AllByRecursion}
use Rattle.std.specs.List.Sorted.{IsStrictlySortedBy}
use Rattle.std.specs.FinMap as map_of
use Rattle.std.specs.declared.cmp.Ordering.TheVariants.{Less}
use Rattle.std.proofs.lemmas.List.Sums.{sum_by-cons, sum_by_push}
use Rattle.position_core.specs.declared.position.Position.{Position}
use Rattle.position_core.specs.declared.message.Entry.{Entry}
use Rattle.position_core.specs.declared.held.Held.{Held}
use Rattle.position_core.specs.Position.{position_cmp, same_position, positions_total}
use Rattle.delivery_machine.specs.Words.{is_held_by, has_position}
use Rattle.delivery_machine.proofs.Tended.{IsPartOf, got_inserted, position_is}
use Rattle.delivery_machine.proofs.Rising.{not_below_itself}

-- ---- counts

zero_more : (n : ℕ) → n ≡ 0 → 0 + n ≡ 0
zero_more n e = omega arith

module _ {A : Type 0} where
  pub counted_none : (p : A → Bool) → ((x : A) → p x ≡ false) → (xs : List A) → count_by p xs ≡ 0
  counted_none p fails [] = refl
  counted_none p fails (x ∷ xs) =
      sum_by-cons (λ y. cond {A = ℕ} (p y) 1 0) x xs
      ∙ ap (λ b. cond {A = ℕ} b 1 0 + count_by p xs) (fails x)
      ∙ zero_more (count_by p xs) (counted_none p fails xs)

  -- what passes, passes one of two tests
  pub counted_either : (p q r : A → Bool) → ((x : A) → p x ≡ true → (q x ≡ true) ⊎ (r x ≡ true)) → (xs : List A) → count_by p xs ≤ count_by q xs + count_by r xs
  counted_either p q r either [] = omega arith
  counted_either p q r either (x ∷ xs) =
      let here = one (p x) (q x) (r x) (either x) in
      let rest = counted_either p q r either xs in
      let a = sum_by-cons (λ y. cond {A = ℕ} (p y) 1 0) x xs in
      let b = sum_by-cons (λ y. cond {A = ℕ} (q y) 1 0) x xs in
      let c = sum_by-cons (λ y. cond {A = ℕ} (r y) 1 0) x xs in
      omega arith
    where
      one : (a b c : Bool) → (a ≡ true → (b ≡ true) ⊎ (c ≡ true)) → cond {A = ℕ} a 1 0 ≤ cond {A = ℕ} b 1 0 + cond {A = ℕ} c 1 0
      one false b c h = omega arith
      one true true c h = omega arith
      one true false true h = omega arith
      one true false false h = elim (h refl) [
        | inl e ↦ absurd (true≢false (sym e))
        | inr e ↦ absurd (true≢false (sym e))
      ]

  pub counted_weaker : (p q : A → Bool) → ((x : A) → p x ≡ true → q x ≡ true) → (xs : List A) → count_by p xs ≤ count_by q xs
  counted_weaker p q weaker xs =
      let both = counted_either p q (λ _. false) (λ x t. inl (weaker x t)) xs in
      let none = counted_none (λ (_ : A). false) (λ _. refl) xs in
      omega arith

-- ---- positions

none_above : (q : Position) (log : List Entry) → AllByRecursion (λ k. position_cmp q k ≡ Less) (map (λ e. e.position) log) → count_by (has_position q) log ≡ 0
none_above q [] above = refl
none_above q (e ∷ log) above =
    sum_by-cons (λ x. cond {A = ℕ} (has_position q x) 1 0) e log
    ∙ ap (λ b. cond {A = ℕ} b 1 0 + count_by (has_position q) log) (other (has_position q e) refl)
    ∙ zero_more (count_by (has_position q) log) (none_above q log above.1)
  where
    other : (b : Bool) → has_position q e ≡ b → b ≡ false
    other true t = absurd (not_below_itself q (ap (position_cmp q) (sym (position_is e.position q t)) ∙ above.0))
    other false f = refl

-- where positions rise, one message at most has the position
pub one_has_position : (q : Position) (log : List Entry) → IsStrictlySortedBy position_cmp (map (λ e. e.position) log) → count_by (has_position q) log ≤ 1
unfolding IsStrictlySortedBy
one_has_position q [] rising = omega arith
one_has_position q (e ∷ log) rising = by (has_position q e) refl (one_has_position q log rising.1)
  where
    counted : count_by (has_position q) (e ∷ log) ≡ cond {A = ℕ} (has_position q e) 1 0 + count_by (has_position q) log
    counted = sum_by-cons (λ x. cond {A = ℕ} (has_position q x) 1 0) e log

    by : (b : Bool) → has_position q e ≡ b → count_by (has_position q) log ≤ 1 → count_by (has_position q) (e ∷ log) ≤ 1
    by true t rest =
        let above : AllByRecursion (λ k. position_cmp q k ≡ Less) (map (λ e. e.position) log) =
        subst (λ (p : Position). AllByRecursion (λ k. position_cmp p k ≡ Less) (map (λ e. e.position) log)) (position_is e.position q t) rising.0 in
        let none = none_above q log above in
        let here = counted ∙ ap (λ b. cond {A = ℕ} b 1 0 + count_by (has_position q) log) t in
        omega arith
    by false f rest =
        let here = counted ∙ ap (λ b. cond {A = ℕ} b 1 0 + count_by (has_position q) log) f in
        omega arith

-- ---- what is pending at a consumer

abbrev pub held_at : List Entry → map_of.FinMap position_cmp Held → ℕ → ℕ
held_at log pending consumer = count_by (λ e. is_held_by consumer (map_of.get pending e.position)) log

pub held_idle : (log : List Entry) (pending : map_of.FinMap position_cmp Held) (consumer : ℕ) → ((p : Position) (h : Held) → map_of.get pending p ≡ Some h → (h.consumer == consumer) ≡ false) → held_at log pending consumer ≡ 0
held_idle log pending consumer others = counted_none (λ e. is_held_by consumer (map_of.get pending e.position)) (λ e. by e.position (map_of.get pending e.position) refl) log
  where
    by : (p : Position) (o : Option Held) → map_of.get pending p ≡ o → is_held_by consumer o ≡ false
    by p None is = refl
    by p (Some h) is = others p h is

-- what is held is pending
held_some : (consumer : ℕ) (o : Option Held) → is_held_by consumer o ≡ true → (h : Held) × (o ≡ Some h) × ((h.consumer == consumer) ≡ true)
held_some consumer None t = absurd (true≢false (sym t))
held_some consumer (Some h) t = (h, refl, t)

pub held_part : (log : List Entry) (new old : map_of.FinMap position_cmp Held) (consumer : ℕ) → IsPartOf new old → held_at log new consumer ≤ held_at log old consumer
held_part log new old consumer part =
    counted_weaker (λ e. is_held_by consumer (map_of.get new e.position)) (λ e. is_held_by consumer (map_of.get old e.position)) (λ e. at e.position) log
  where
    at : (p : Position) → is_held_by consumer (map_of.get new p) ≡ true → is_held_by consumer (map_of.get old p) ≡ true
    at p t =
        let held = held_some consumer (map_of.get new p) t in
        let was = part p held.0 held.1 in
        ap (is_held_by consumer) was.1 ∙ ap (λ n. n == consumer) was.2 ∙ held.2

-- one message more is pending at the holder
pub held_more : (log : List Entry) (pending : map_of.FinMap position_cmp Held) (p : Position) (held : Held) (consumer : ℕ) → IsStrictlySortedBy position_cmp (map (λ e. e.position) log)
    → held_at log (map_of.insert pending p held) consumer ≤ held_at log pending consumer + 1
held_more log pending p held consumer rising =
    let both = counted_either (λ e. is_held_by consumer (map_of.get (map_of.insert pending p held) e.position)) (λ e. is_held_by consumer (map_of.get pending e.position)) (has_position p) (λ e. at e.position) log in
    let one = one_has_position p log rising in
    omega arith
  where
    at : (q : Position) → is_held_by consumer (map_of.get (map_of.insert pending p held) q) ≡ true → (is_held_by consumer (map_of.get pending q) ≡ true) ⊎ (same_position q p ≡ true)
    at q t =
        let here = held_some consumer (map_of.get (map_of.insert pending p held) q) t in
        by (same_position q p) refl (sym (map_of.get-insert positions_total pending p held q) ∙ here.1)
      where
        by : (b : Bool) → same_position q p ≡ b → cond b (Some held) (map_of.get pending q) ≡ Some (held_some consumer (map_of.get (map_of.insert pending p held) q) t).0 → (is_held_by consumer (map_of.get pending q) ≡ true) ⊎ (same_position q p ≡ true)
        by true same is = inr same
        by false other is = inl (ap (is_held_by consumer) is ∙ (held_some consumer (map_of.get (map_of.insert pending p held) q) t).2)

-- and no more at another consumer
pub held_beside : (log : List Entry) (pending : map_of.FinMap position_cmp Held) (p : Position) (held : Held) (consumer : ℕ) → (held.consumer == consumer) ≡ false
    → held_at log (map_of.insert pending p held) consumer ≤ held_at log pending consumer
held_beside log pending p held consumer other =
    counted_weaker (λ e. is_held_by consumer (map_of.get (map_of.insert pending p held) e.position)) (λ e. is_held_by consumer (map_of.get pending e.position)) (λ e. at e.position) log
  where
    at : (q : Position) → is_held_by consumer (map_of.get (map_of.insert pending p held) q) ≡ true → is_held_by consumer (map_of.get pending q) ≡ true
    at q t =
        let here = held_some consumer (map_of.get (map_of.insert pending p held) q) t in
        elim (got_inserted pending p held q here.0 here.1) [
          | inl new ↦ absurd (true≢false (sym here.2 ∙ ap (λ (h : Held). h.consumer == consumer) new.1 ∙ other))
          | inr old ↦ ap (is_held_by consumer) old ∙ here.2
        ]

-- where the first messages go
pub held_dropped : (n : ℕ) (log : List Entry) (pending : map_of.FinMap position_cmp Held) (consumer : ℕ) → held_at (drop n log) pending consumer ≤ held_at log pending consumer
held_dropped zero log pending consumer = omega arith
held_dropped (suc n) [] pending consumer = omega arith
held_dropped (suc n) (e ∷ log) pending consumer =
    let rest = held_dropped n log pending consumer in
    let more = sum_by-cons (λ (x : Entry). cond {A = ℕ} (is_held_by consumer (map_of.get pending x.position)) 1 0) e log in
    omega (arith, rest, more)

-- a further message of the log that is pending at nobody
pub held_appended : (log : List Entry) (e : Entry) (pending : map_of.FinMap position_cmp Held) (consumer : ℕ) → ((h : Held) → map_of.get pending e.position ≡ Some h → ⊥) → held_at (log ++ e ∷ []) pending consumer ≡ held_at log pending consumer
held_appended log e pending consumer none =
    sum_by_push (λ x. cond {A = ℕ} (is_held_by consumer (map_of.get pending x.position)) 1 0) log e
    ∙ ap (λ b. held_at log pending consumer + cond {A = ℕ} b 1 0) (by (map_of.get pending e.position) refl)
    ∙ no_more (held_at log pending consumer)
  where
    no_more : (n : ℕ) → n + 0 ≡ n
    no_more n = omega arith

    by : (o : Option Held) → map_of.get pending e.position ≡ o → is_held_by consumer o ≡ false
    by None is = refl
    by (Some h) is = absurd (none h is)
