-- What is found in what is kept, after a change at one position.
use Rattle.std.proofs.Common.{◌≡◌, ◌==◌, ℕ, ◌+◌, ◌<◌, min, List, [], ◌∷◌, Bool, true, false, cond, Option, Some, None, refl, sym, ap, subst, ◌∙◌, ◌↔◌, IsTrue, arith}
use Rattle.std.proofs.lemmas.Bool.Decides.{nat_tests}
use Rattle.std.specs.Option.{option_map, option_and_then, option_map_or, unwrap_or, is_some}
use Rattle.std.specs.Prelude.{Result, Ok, Err, OnOk}
use Rattle.std.specs.Ordering.{eq_by_cmp}
use Rattle.std.specs.Cmp.{eq_by_cmp_equiv, Equal-is}
use Rattle.std.specs.FinMap as map_of
use Rattle.position_core.specs.Position.{position_cmp, positions_total, exact_positions}
use Rattle.position_core.specs.declared.position.Position.{Position}
use Rattle.pending_core.specs.declared.kept.Kept.{Kept}
use Rattle.position_core.specs.declared.held.Held.{Held}
use Rattle.pending_core.specs.Pending.{Pending, count_at, counted, most_count, holding, released, without, due_again, redelivered}
use Rattle.pending_core.specs.Kept.{kept_at, with_value, found_in, count_in, pending_in, held_until, counted_once_more, ChangesAt}

pub get-with_value : {X : Type 0} (m : map_of.FinMap position_cmp X) (p : Position) (o : Option X) (q : Position) → map_of.get (with_value m p o) q ≡ cond (eq_by_cmp position_cmp q p) o (map_of.get m q)
get-with_value m p None q = map_of.get-remove positions_total m p q
get-with_value m p (Some x) q = map_of.get-insert positions_total m p x q

through : {X : Type 0} (f : Kept → Option X) (b : Bool) (k : Kept) (o : Option Kept) → cond b (f k) (option_and_then f o) ≡ option_and_then f (cond b (Some k) o)
through f true k o = refl
through f false k o = refl

pub get-found_in : {X : Type 0} (f : Kept → Option X) (es : List (Position × Kept)) (q : Position) → map_of.get (found_in f es) q ≡ option_and_then f (kept_at es q)
get-found_in f [] q = map_of.get-empty position_cmp q
get-found_in f (e ∷ es) q =
    get-with_value (found_in f es) e.0 (f e.1) q
    ∙ ap (cond (eq_by_cmp position_cmp q e.0) (f e.1)) (get-found_in f es q)
    ∙ through f (eq_by_cmp position_cmp q e.0) e.1 (kept_at es q)

turned : (p q : Position) → eq_by_cmp position_cmp p q ≡ eq_by_cmp position_cmp q p
turned p q = (eq_by_cmp_equiv positions_total).symm p q

through_change : {X : Type 0} (f : Kept → Option X) (b : Bool) (o a : Option Kept) → option_and_then f (cond b o a) ≡ cond b (option_and_then f o) (option_and_then f a)
through_change f true o a = refl
through_change f false o a = refl

pub found_in-changed : {X : Type 0} (f : Kept → Option X) (es fs : List (Position × Kept)) (p : Position) (o : Option Kept) → ChangesAt p o es fs → found_in f fs ≡ with_value (found_in f es) p (option_and_then f o)
found_in-changed f es fs p o h = map_of.same_map positions_total exact_positions _ _ (λ q.
    get-found_in f fs q ∙ ap (option_and_then f) (h q)
    ∙ through_change f (eq_by_cmp position_cmp p q) o (kept_at es q)
    ∙ ap (λ b. cond b (option_and_then f o) (option_and_then f (kept_at es q))) (turned p q)
    ∙ ap (cond (eq_by_cmp position_cmp q p) (option_and_then f o)) (sym (get-found_in f es q))
    ∙ sym (get-with_value (found_in f es) p (option_and_then f o) q))

-- what stands at a position already, written again
pub same_value : {X : Type 0} (m : map_of.FinMap position_cmp X) (p : Position) (o : Option X) → map_of.get m p ≡ o → with_value m p o ≡ m
same_value m p o is = map_of.same_map positions_total exact_positions _ _ (λ q. get-with_value m p o q ∙ stays q (eq_by_cmp position_cmp q p) refl)
  where
    stays : (q : Position) (b : Bool) → eq_by_cmp position_cmp q p ≡ b → cond b o (map_of.get m q) ≡ map_of.get m q
    stays q true e = sym is ∙ ap (map_of.get m) (sym (exact_positions q p ((Equal-is (position_cmp q p)).0 e)))
    stays q false e = refl

pub found_in-unchanged : {X : Type 0} (f : Kept → Option X) (es : List (Position × Kept)) (p : Position) (o : Option X) → option_and_then f (kept_at es p) ≡ o → with_value (found_in f es) p o ≡ found_in f es
found_in-unchanged f es p o is = same_value (found_in f es) p o (get-found_in f es p ∙ is)

-- what is seen at a position
pub pending_at : (es : List (Position × Kept)) (p : Position) → map_of.get (pending_in es).pending p ≡ option_and_then (λ kept. kept.held) (kept_at es p)
pending_at es p = get-found_in (λ kept. kept.held) es p

pub counts_at : (es : List (Position × Kept)) (p : Position) → map_of.get (pending_in es).counts p ≡ option_and_then count_in (kept_at es p)
counts_at es p = get-found_in count_in es p

-- a count, and whether there is one
none_or : (n : ℕ) → unwrap_or (cond (n == 0) None (Some n)) 0 ≡ n
none_or n = grind (arith, nat_tests)

not_none : (n : ℕ) → 0 < n → cond (n == 0) None (Some n) ≡ Some n
not_none n h = grind (arith, nat_tests)

some_if : (n : ℕ) → IsTrue (is_some (cond (n == 0) None (Some n))) → 0 < n
some_if n h = grind (arith, nat_tests)

pub count_seen : (es : List (Position × Kept)) (p : Position) (k : Kept) → kept_at es p ≡ Some k → count_at (pending_in es) p ≡ k.count
count_seen es p k was = ap (λ o. unwrap_or o 0) (counts_at es p ∙ ap (option_and_then count_in) was) ∙ none_or k.count

pub counted_seen : (es : List (Position × Kept)) (p : Position) (k : Kept) → kept_at es p ≡ Some k → IsTrue (map_of.contains_key (pending_in es).counts p) ↔ (0 < k.count)
counted_seen es p k was =
    let is = counts_at es p ∙ ap (option_and_then count_in) was in
    (λ h. some_if k.count (subst (λ o. IsTrue (is_some o)) is h), λ h. ap is_some (is ∙ not_none k.count h))

pub count_unseen : (es : List (Position × Kept)) (p : Position) → kept_at es p ≡ None → map_of.get (pending_in es).counts p ≡ None
count_unseen es p was = counts_at es p ∙ ap (option_and_then count_in) was

-- no change where nothing is pending
pub unreleased : (s : Pending) (p : Position) → map_of.get s.pending p ≡ None → s ≡ released p s
unreleased s p h = λ i. record s { pending = sym (same_value s.pending p None h) i }

pub undelayed : (s : Pending) (p : Position) (due : ℕ) → map_of.get s.pending p ≡ None → s ≡ due_again p due s
undelayed s p due h = sym (ap (λ o. option_map_or (λ held. holding p (record held { due = Some due }) s) o s) h)

pub uncounted : (s : Pending) (p : Position) → map_of.contains_key s.pending p ≡ false → s ≡ redelivered p s
uncounted s p h = sym (ap (λ b. cond b (record s { counts = map_of.insert s.counts p (min (count_at s p + 1) most_count) }) s) h)

pub unremoved : (s : Pending) (p : Position) → map_of.get s.pending p ≡ None → map_of.get s.counts p ≡ None → s ≡ without p s
unremoved s p h c = λ i. record { pending = sym (same_value s.pending p None h) i; counts = sym (same_value s.counts p None c) i }

-- what is seen after a change at a position: of the holder
module _ (es fs : List (Position × Kept)) (p : Position) (k k' : Kept) (was : kept_at es p ≡ Some k) (change : ChangesAt p (Some k') es fs) where
  pub held_anew : (held : Option Held) → k' ≡ record k { held = held } → pending_in fs ≡ record { pending = with_value (pending_in es).pending p held; counts = (pending_in es).counts }
  held_anew held new =
      let pending = found_in-changed (λ kept. kept.held) es fs p (Some k') change ∙ ap (λ (x : Kept). with_value (pending_in es).pending p x.held) new in
      let counts = found_in-changed count_in es fs p (Some k') change ∙ found_in-unchanged count_in es p (count_in k') (ap (option_and_then count_in) was ∙ sym (ap count_in new)) in
      λ i. record { pending = pending i; counts = counts i }

  -- of the due moment
  pub due_anew : (due : ℕ) → k' ≡ record k { held = held_until due k } → pending_in fs ≡ due_again p due (pending_in es)
  due_anew due new = by_held k.held refl
    where
      at_p : map_of.get (pending_in es).pending p ≡ k.held
      at_p = pending_at es p ∙ ap (option_and_then (λ kept. kept.held)) was

      seen : pending_in fs ≡ record { pending = with_value (pending_in es).pending p (held_until due k); counts = (pending_in es).counts }
      seen = held_anew (held_until due k) new

      by_held : (o : Option Held) → k.held ≡ o → pending_in fs ≡ due_again p due (pending_in es)
      by_held None is =
          seen
          ∙ ap (λ o. record { pending = with_value (pending_in es).pending p (option_map (λ (held : Held). record held { due = Some due }) o); counts = (pending_in es).counts }) is
          ∙ sym (unreleased (pending_in es) p (at_p ∙ is))
          ∙ undelayed (pending_in es) p due (at_p ∙ is)
      by_held (Some h) is =
          seen
          ∙ ap (λ o. record { pending = with_value (pending_in es).pending p (option_map (λ (held : Held). record held { due = Some due }) o); counts = (pending_in es).counts }) is
          ∙ sym (ap (λ o. option_map_or (λ held. holding p (record held { due = Some due }) (pending_in es)) o (pending_in es)) (at_p ∙ is))

  -- of the count
  pub count_anew : k' ≡ counted_once_more k → pending_in fs ≡ redelivered p (pending_in es)
  count_anew new = by_held (is_some k.held) refl
    where
      more : Pending
      more = record { pending = (pending_in es).pending; counts = map_of.insert (pending_in es).counts p (min (count_at (pending_in es) p + 1) most_count) }

      is_pending : (b : Bool) → is_some k.held ≡ b → map_of.contains_key (pending_in es).pending p ≡ b
      is_pending b is = ap is_some (pending_at es p ∙ ap (option_and_then (λ kept. kept.held)) was) ∙ is

      as_new : (b : Bool) → is_some k.held ≡ b → k' ≡ cond b (record k { count = min (k.count + 1) most_count }) k
      as_new b is = new ∙ ap (λ b. cond b (record k { count = min (k.count + 1) most_count }) k) is

      held_same : (x : Kept) → k' ≡ x → x.held ≡ k.held → (pending_in fs).pending ≡ (pending_in es).pending
      held_same x e same = found_in-changed (λ kept. kept.held) es fs p (Some k') change ∙ found_in-unchanged (λ kept. kept.held) es p k'.held (ap (option_and_then (λ kept. kept.held)) was ∙ sym (ap (λ (x : Kept). x.held) e ∙ same))

      by_held : (b : Bool) → is_some k.held ≡ b → pending_in fs ≡ redelivered p (pending_in es)
      by_held true is =
          let next : Kept = record k { count = min (k.count + 1) most_count } in
          let pending = held_same next (as_new true is) refl in
          let counts = found_in-changed count_in es fs p (Some k') change
          ∙ ap (with_value (pending_in es).counts p) (ap count_in (as_new true is) ∙ not_none (min (k.count + 1) most_count) (omega arith) ∙ ap (λ n. Some (min (n + 1) most_count)) (sym (count_seen es p k was))) in
          let seen : pending_in fs ≡ more = λ i. record { pending = pending i; counts = counts i } in
          seen ∙ sym (ap (λ b. cond b more (pending_in es)) (is_pending true is))
      by_held false is =
          let pending = held_same k (as_new false is) refl in
          let counts = found_in-changed count_in es fs p (Some k') change ∙ found_in-unchanged count_in es p (count_in k') (ap (option_and_then count_in) was ∙ sym (ap count_in (as_new false is))) in
          let seen : pending_in fs ≡ pending_in es = λ i. record { pending = pending i; counts = counts i } in
          seen ∙ uncounted (pending_in es) p (is_pending false is)

-- a new position: who holds it, and how often it was redelivered
module _ (es fs : List (Position × Kept)) (p : Position) (k : Kept) (change : ChangesAt p (Some k) es fs) where
  pub held_added : (held : Option Held) → k.held ≡ held → (pending_in fs).pending ≡ with_value (pending_in es).pending p held
  held_added held is = found_in-changed (λ kept. kept.held) es fs p (Some k) change ∙ ap (with_value (pending_in es).pending p) is

  pub count_added : (count : ℕ) → k.count ≡ count → (pending_in fs).counts ≡ with_value (pending_in es).counts p (cond (count == 0) None (Some count))
  count_added count is = found_in-changed count_in es fs p (Some k) change ∙ ap (λ n. with_value (pending_in es).counts p (cond (n == 0) None (Some n))) is

-- where nothing was kept of it, it is held and not counted
pub held_newly : (es fs : List (Position × Kept)) (p : Position) (held : Held) → kept_at es p ≡ None → (pending_in fs).pending ≡ with_value (pending_in es).pending p (Some held) → (pending_in fs).counts ≡ with_value (pending_in es).counts p None
    → pending_in fs ≡ holding p held (pending_in es)
held_newly es fs p held was pending counts =
    let same = counts ∙ same_value (pending_in es).counts p None (count_unseen es p was) in
    λ i. record { pending = pending i; counts = same i }

-- or counted and not held
pub counted_newly : (es fs : List (Position × Kept)) (p : Position) (count : ℕ) → 0 < count → kept_at es p ≡ None → (pending_in fs).pending ≡ with_value (pending_in es).pending p None
    → (pending_in fs).counts ≡ with_value (pending_in es).counts p (cond (count == 0) None (Some count)) → pending_in fs ≡ counted p count (pending_in es)
counted_newly es fs p count above was pending counts =
    let same = pending ∙ same_value (pending_in es).pending p None (pending_at es p ∙ ap (option_and_then (λ kept. kept.held)) was) in
    let some = counts ∙ ap (with_value (pending_in es).counts p) (not_none count above) in
    λ i. record { pending = same i; counts = some i }

-- another count of what was kept
pub count_set : (es fs : List (Position × Kept)) (p : Position) (k : Kept) (count : ℕ) → 0 < count → kept_at es p ≡ Some k → ChangesAt p (Some (record k { count = count })) es fs → pending_in fs ≡ counted p count (pending_in es)
count_set es fs p k count above was change =
    let new : Kept = record k { count = count } in
    let pending = found_in-changed (λ kept. kept.held) es fs p (Some new) change ∙ found_in-unchanged (λ kept. kept.held) es p k.held (ap (option_and_then (λ kept. kept.held)) was) in
    let counts = found_in-changed count_in es fs p (Some new) change ∙ ap (with_value (pending_in es).counts p) (not_none count above) in
    λ i. record { pending = pending i; counts = counts i }

-- of a position left out
pub removed_anew : (es fs : List (Position × Kept)) (p : Position) → ChangesAt p None es fs → pending_in fs ≡ without p (pending_in es)
removed_anew es fs p change =
    let pending = found_in-changed (λ kept. kept.held) es fs p None change in
    let counts = found_in-changed count_in es fs p None change in
    λ i. record { pending = pending i; counts = counts i }

-- and of another slot, nothing
pub moved_anew : (es fs : List (Position × Kept)) (p : Position) (k : Kept) (slot : ℕ) → kept_at es p ≡ Some k → ChangesAt p (Some (record k { slot = slot })) es fs → pending_in fs ≡ pending_in es
moved_anew es fs p k slot was change =
    let new : Kept = record k { slot = slot } in
    let pending = found_in-changed (λ kept. kept.held) es fs p (Some new) change ∙ found_in-unchanged (λ kept. kept.held) es p k.held (ap (option_and_then (λ kept. kept.held)) was) in
    let counts = found_in-changed count_in es fs p (Some new) change ∙ found_in-unchanged count_in es p (count_in k) (ap (option_and_then count_in) was) in
    λ i. record { pending = pending i; counts = counts i }

-- what follows from two facts where there is a value
pub on_ok_both : {T E : Type 0} {P Q R : Type 0} (r : Result T E) → (P → Q → R) → OnOk r P → OnOk r Q → OnOk r R
on_ok_both (Ok x) f p q = f p q
on_ok_both (Err e) f p q = tt
