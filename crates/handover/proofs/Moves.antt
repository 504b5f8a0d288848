-- Each move keeps the order.
use Rattle.std.proofs.Common.{◌≡◌, ◌≢◌, ◌⊎◌, ℕ, zero, suc, ◌<◌, ◌≤◌, ◌==◌, List, [], ◌∷◌, ◌++◌, length, set, Bool, true, false, true≢false, refl, sym, ap, ◌∙◌, subst, inl, inr, ⊎_elim, arith, length-append, append_assoc}
use Rattle.std.proofs.lemmas.Grind.{common_steps}
use Rattle.std.proofs.lemmas.List.{map-append, length-set}
use mathlib.Core.Option.{some, some-ne-none, some-injective}
use lib.ListN.{get_elem?}
use Rattle.crossbeam_channel.specs.Fifo.{Pushes, Pops, Forks}
use Rattle.handover.specs.declared.view.View.{View}
use Rattle.handover.specs.declared.view.Numbered.{Numbered}
use Rattle.handover.specs.Passing.{Rises, last_of, numbers, taken_by, all_taken, Fits, InOrder, putter, taker, IsPart, TakenNext, Takes}

off : false ≡ true → ⊥
off e = true≢false (sym e)

pub Rises-snoc : (low : ℕ) (xs : List ℕ) (n : ℕ) → Rises low xs → last_of low xs < n → Rises low (xs ++ n ∷ [])
Rises-snoc low [] n r lt = (lt, tt)
Rises-snoc low (x ∷ xs) n r lt = (r.0, Rises-snoc x xs n r.1 lt)

at_below : (l : List View) (j : ℕ) (v : View) → get_elem? l j ≡ some v → j < length l
at_below [] j v e = absurd (some-ne-none v (sym e))
at_below (x ∷ xs) zero v e = omega arith
at_below (x ∷ xs) (suc j) v e = let h = at_below xs j v e in omega arith

at_new : (l : List View) (a b : View) (j : ℕ) → get_elem? (l ++ a ∷ []) j ≡ some b → (get_elem? l j ≡ some b) ⊎ ((a ≡ b) × (j ≡ length l))
at_new [] a b zero e = inr (some-injective a b e, refl)
at_new [] a b (suc j) e = absurd (some-ne-none b (sym e))
at_new (x ∷ xs) a b zero e = inl e
at_new (x ∷ xs) a b (suc j) e = ⊎_elim (λ h. inl h) (λ h. inr (h.0, ap suc h.1)) (at_new xs a b j e)

at_set : (l : List View) (pass j : ℕ) (w u : View) → get_elem? (set l pass w) j ≡ some u → ((j ≡ pass) × (w ≡ u)) ⊎ ((j ≢ pass) × (get_elem? l j ≡ some u))
at_set [] pass j w u e = absurd (some-ne-none u (sym e))
at_set (x ∷ xs) zero zero w u e = inl (refl, some-injective w u e)
at_set (x ∷ xs) zero (suc j) w u e = inr ((λ is. absurd (omega (arith, is))), e)
at_set (x ∷ xs) (suc pass) zero w u e = inr ((λ is. absurd (omega (arith, is))), e)
at_set (x ∷ xs) (suc pass) (suc j) w u e = ⊎_elim (λ h. inl (ap suc h.0, h.1)) (λ h. inr ((λ is. h.0 (omega (arith, is))), h.1)) (at_set xs pass j w u e)

abbrev All : (ℕ → View → Type 0) → List View → Type 0
All F views = (pass : ℕ) (v : View) → get_elem? views pass ≡ some v → F pass v

all_set : (F : ℕ → View → Type 0) (views : List View) (pass : ℕ) (w : View) → F pass w → ((j : ℕ) (u : View) → j ≢ pass → get_elem? views j ≡ some u → F j u) → All F (set views pass w)
all_set F views pass w mine others j u e =
    ⊎_elim
    (λ (x : (j ≡ pass) × (w ≡ u)). subst (λ (y : ℕ × View). F y.0 y.1) (λ i. (sym x.0 i, x.1 i)) mine)
    (λ (x : (j ≢ pass) × (get_elem? views j ≡ some u)). others j u x.0 x.1)
    (at_set views pass j w u e)

taken_same : (p n : ℕ) (takes : List (ℕ × ℕ)) → taken_by p (takes ++ (p, n) ∷ []) ≡ taken_by p takes ++ n ∷ []
taken_same p n [] = grind (arith, common_steps)
taken_same p n (t ∷ ts) = let i = taken_same p n ts in grind (arith, common_steps, i)

taken_other : (j p n : ℕ) (takes : List (ℕ × ℕ)) → j ≢ p → taken_by j (takes ++ (p, n) ∷ []) ≡ taken_by j takes
taken_other j p n [] apart = grind (arith, common_steps)
taken_other j p n (t ∷ ts) apart = let i = taken_other j p n ts apart in grind (arith, common_steps, i)

-- what one pass took is a part of all that was taken
part : (p : ℕ) (takes : List (ℕ × ℕ)) → IsPart (taken_by p takes) (all_taken takes)
part p [] = refl
part p (t ∷ ts) = by_test (part p ts) (t.0 == p) refl
  where
    by_test : IsPart (taken_by p ts) (all_taken ts) → (b : Bool) → (t.0 == p) ≡ b → IsPart (taken_by p (t ∷ ts)) (all_taken (t ∷ ts))
    by_test rest true e = rw e (inr (taken_by p ts, refl, rest))
    by_test rest false e = rw e (inl rest)

module _ {C : Type 0} where
  pub begins : (items : List (Numbered C)) → items ≡ [] → InOrder items (putter [] ∷ [])
  begins items none = subst (λ l. InOrder l (putter [] ∷ [])) (sym none) (0, [], [], tt, refl, one, λ p h. refl)
    where
      one : (pass : ℕ) (v : View) → get_elem? (putter [] ∷ []) pass ≡ some v → Fits 0 [] [] pass v
      one zero v e = subst (Fits 0 [] [] 0) (some-injective _ _ e) ((λ _. (refl, refl)), refl)
      one (suc p) v e = absurd (some-ne-none v (sym e))

  pub puts : (n pass : ℕ) (put : List ℕ) (m : Numbered C) → last_of 0 put < m.number → Pushes InOrder n pass (putter put) m (λ w. w ≡ putter (put ++ m.number ∷ []))
  puts n pass put m lt items views _ h at =
      let w = putter (put ++ m.number ∷ []) in
      let mine = (h.5 pass (putter put) at).0 refl in
      let now = h.1 ++ m.number ∷ [] in (
        w,
        (
          h.0,
          now,
          h.2,
          Rises-snoc 0 h.1 m.number h.3 (subst (λ l. last_of 0 l < m.number) mine.1 lt),
          ap (λ l. all_taken h.2 ++ l) (map-append (λ (x : Numbered C). x.number) items (m ∷ [])) ∙ sym (append_assoc (all_taken h.2) (numbers items) (m.number ∷ [])) ∙ ap (λ l. l ++ m.number ∷ []) h.4,
          all_set (Fits h.0 now h.2) views pass w
              ((λ _. (mine.0, ap (λ l. l ++ m.number ∷ []) mine.1)), (h.5 pass (putter put) at).1)
              (λ j u other e. ((λ p. absurd (other (((h.5 j u e).0 p).0 ∙ sym mine.0))), (h.5 j u e).1)),
          λ j le. h.6 j (subst (λ k. k ≤ j) (length-set views pass w) le),
        ),
        refl,
      )

  pub takes : (pass : ℕ) (own : List ℕ) → Pops (InOrder {C = C}) pass (taker own) (Takes (taker own))
  takes pass own m items views h at =
      let w = taker (own ++ m.number ∷ []) in
      let mine = h.5 pass (taker own) at in
      let now = h.2 ++ (pass, m.number) ∷ [] in
      let all : all_taken h.2 ++ m.number ∷ numbers items ≡ h.1 = h.4 in (
        w,
        (
          h.0,
          h.1,
          now,
          h.3,
          ap (λ l. l ++ numbers items) (map-append (λ (t : ℕ × ℕ). t.1) h.2 ((pass, m.number) ∷ [])) ∙ append_assoc (all_taken h.2) (m.number ∷ []) (numbers items) ∙ all,
          all_set (Fits h.0 h.1 now) views pass w
              ((λ p. absurd (off p)), ap (λ l. l ++ m.number ∷ []) mine.1 ∙ sym (taken_same pass m.number h.2))
              (λ j u other e. ((h.5 j u e).0, (h.5 j u e).1 ∙ sym (taken_other j pass m.number h.2 other))),
          λ j le.
              let far : length views ≤ j = subst (λ k. k ≤ j) (length-set views pass w) le in
              let below = at_below views pass (taker own) at in
              taken_other j pass m.number h.2 (λ e. absurd (omega arith)) ∙ h.6 j far,
        ),
        (
          refl,
          (all_taken h.2, numbers items, subst (Rises 0) (sym all) h.3, subst (λ l. IsPart l (all_taken h.2)) (sym mine.1) (part pass h.2)),
        ),
      )

  pub forks : (pass : ℕ) (put : List ℕ) → Forks (InOrder {C = C}) pass (putter put) (putter put) (taker [])
  forks pass put items views h at =
      let vs = set views pass (putter put) in
      let mine = h.5 pass (putter put) at in
      let old : All (Fits h.0 h.1 h.2) vs = all_set (Fits h.0 h.1 h.2) views pass (putter put) mine (λ j u other e. h.5 j u e) in (
        h.0,
        h.1,
        h.2,
        h.3,
        h.4,
        λ j u e. ⊎_elim (λ x. old j u x)
            (λ (is : (taker [] ≡ u) × (j ≡ length vs)). subst (Fits h.0 h.1 h.2 j) is.0 ((λ p. absurd (off p)), sym (h.6 j (let k = length-set views pass (putter put) in let m = is.1 in omega arith))))
            (at_new vs (taker []) u j e),
        λ j le. h.6 j (let k = length-set views pass (putter put) in let m = length-append vs (taker [] ∷ []) in omega arith),
      )

  -- the moves, at a view that is known
  pub puts_as : (n pass : ℕ) (v : View) (m : Numbered C) → v ≡ putter v.put → last_of 0 v.put < m.number → Pushes InOrder n pass v m (λ w. w ≡ putter (v.put ++ m.number ∷ []))
  puts_as n pass v m is lt = subst (λ (u : View). Pushes InOrder n pass u m (λ w. w ≡ putter (v.put ++ m.number ∷ []))) (sym is) (puts n pass v.put m lt)

  pub takes_as : (pass : ℕ) (v : View) → v ≡ taker v.taken → Pops (InOrder {C = C}) pass v (Takes v)
  takes_as pass v is = subst (λ (u : View). Pops (InOrder {C = C}) pass u (Takes v)) (sym is) (takes pass v.taken)

  pub forks_as : (pass : ℕ) (v : View) → v ≡ putter v.put → Forks (InOrder {C = C}) pass v v (taker [])
  forks_as pass v is = subst (λ (u : View). Forks (InOrder {C = C}) pass u u (taker [])) (sym is) (forks pass v.put)

Rises-from : (low at : ℕ) (xs : List ℕ) → low ≤ at → Rises at xs → Rises low xs
Rises-from low at [] le r = tt
Rises-from low at (x ∷ xs) le r = (let h = r.0 in omega arith, r.1)

part_rises : (low : ℕ) (own before after : List ℕ) (n : ℕ) → IsPart own before → Rises low (before ++ n ∷ after) → Rises low (own ++ n ∷ [])
part_rises low own [] after n is r = subst (λ l. Rises low (l ++ n ∷ [])) (sym is) (r.0, tt)
part_rises low own (x ∷ xs) after n h r =
    let goes : (rest : List ℕ) → IsPart rest xs → Rises x (rest ++ n ∷ []) = λ rest p. part_rises x rest xs after n p r.1 in
    ⊎_elim
    (λ (p : IsPart own xs). Rises-from low x (own ++ n ∷ []) (let m = r.0 in omega arith) (goes own p))
    (λ (p : (rest : List ℕ) × (own ≡ x ∷ rest) × IsPart rest xs). subst (λ l. Rises low (l ++ n ∷ [])) (sym p.1) (r.0, goes p.0 p.2))
    h

-- what a taker has taken rises, so none stands in it twice
pub taken_rises : (own : List ℕ) (n : ℕ) → TakenNext own n → Rises 0 (own ++ n ∷ [])
taken_rises own n t = part_rises 0 own t.0 t.1 n t.3 t.2

pub last_of_snoc : (low : ℕ) (xs : List ℕ) (n : ℕ) → last_of low (xs ++ n ∷ []) ≡ n
last_of_snoc low [] n = refl
last_of_snoc low (x ∷ xs) n = last_of_snoc x xs n
