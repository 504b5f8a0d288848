-- What is found in what is kept, position after position.
use Rattle.std.proofs.Common.{◌≡◌, ◌==◌, ℕ, zero, suc, ◌+◌, ◌<◌, ◌≤◌, List, length, take, get_or, [], ◌∷◌, ◌++◌, map, Bool, true, false, cond, Option, Some, None, refl, sym, ap, ◌∙◌, subst, arith, true≢false, append_assoc, All}
use Rattle.std.proofs.lemmas.Bool.Decides.{nat_tests}
use Rattle.std.specs.Prelude.{is_some}
use Rattle.std.specs.Option.{option_and_then}
use Rattle.std.specs.List.{AllByRecursion}
use Rattle.std.specs.List.Sorted.{IsStrictlySortedBy}
use Rattle.std.specs.Ordering.{eq_by_cmp, is_eq}
use Rattle.std.specs.Cmp.{Equal-is, eq_by_cmp_equiv}
use Rattle.std.specs.FinMap as map_of
use Rattle.std.specs.declared.cmp.Ordering.TheVariants.{Less}
use Rattle.position_core.specs.Position.{position_cmp, positions_total, exact_positions}
use Rattle.position_core.specs.declared.position.Position.{Position}
use Rattle.delivery_machine.specs.Counts.{IsAfterAll}
use Rattle.pending_core.specs.declared.kept.Kept.{Kept}
use Rattle.pending_core.specs.Kept.{kept_at, with_value, found_in, count_in}
use Rattle.delivery_machine.specs.declared.counts.Counted.{Counted}
use Rattle.delivery_machine.proofs.CountsListed.{AreRising, after_all, counts_in, counts_pushed, places}
use Rattle.std.proofs.lemmas.List.{take_more}
use Rattle.delivery_machine.proofs.Rising.{below_itself}
use Rattle.std.proofs.lemmas.List.Elements.{recursion_from_All}
use Rattle.pending_core.proofs.Found.{get-with_value, get-found_in, same_value}

abbrev Entries : Type 0
Entries = List (Position × Kept)

-- each position is before this one
abbrev AreBefore : Position → Entries → Type 0
AreBefore p es = AllByRecursion (λ (e : Position × Kept). position_cmp e.0 p ≡ Less) es

-- two positions written one after the other, in either order
swap : {X : Type 0} (m : map_of.FinMap position_cmp X) (a b : Position) (o u : Option X) → eq_by_cmp position_cmp a b ≡ false → with_value (with_value m a o) b u ≡ with_value (with_value m b u) a o
swap m a b o u apart = map_of.same_map positions_total exact_positions _ _ (λ q.
    get-with_value (with_value m a o) b u q ∙ ap (cond (eq_by_cmp position_cmp q b) u) (get-with_value m a o q)
    ∙ by q (eq_by_cmp position_cmp q a) (eq_by_cmp position_cmp q b) refl refl
    ∙ sym (get-with_value (with_value m b u) a o q ∙ ap (cond (eq_by_cmp position_cmp q a) o) (get-with_value m b u q)))
  where
    both : (q : Position) → eq_by_cmp position_cmp q a ≡ true → eq_by_cmp position_cmp q b ≡ true → ⊥
    both q one two =
        let is_a = exact_positions q a ((Equal-is (position_cmp q a)).0 one) in
        true≢false (sym two ∙ ap (λ (p : Position). eq_by_cmp position_cmp p b) is_a ∙ apart)

    by : (q : Position) (x y : Bool) → eq_by_cmp position_cmp q a ≡ x → eq_by_cmp position_cmp q b ≡ y → cond y u (cond x o (map_of.get m q)) ≡ cond x o (cond y u (map_of.get m q))
    by q true true one two = absurd (both q one two)
    by q true false one two = refl
    by q false y one two = refl

less_apart : (p q : Position) → position_cmp p q ≡ Less → eq_by_cmp position_cmp p q ≡ false
less_apart p q less = ap is_eq less

-- one more, after all others
pub found_in-push : {X : Type 0} (f : Kept → Option X) (es : Entries) (e : Position × Kept) → AreBefore e.0 es → found_in f (es ++ e ∷ []) ≡ with_value (found_in f es) e.0 (f e.1)
found_in-push f [] e before = refl
found_in-push f (x ∷ es) e before =
    ap (λ m. with_value m x.0 (f x.1)) (found_in-push f es e before.1)
    ∙ swap (found_in f es) e.0 x.0 (f e.1) (f x.1) ((eq_by_cmp_equiv positions_total).symm e.0 x.0 ∙ less_apart x.0 e.0 before.0)

-- what is found stands before
some_before : (es : Entries) (p q : Position) → AreBefore p es → is_some (option_and_then count_in (kept_at es q)) ≡ true → position_cmp q p ≡ Less
some_before [] p q before some = absurd (true≢false (sym some))
some_before (x ∷ es) p q before some = at (eq_by_cmp position_cmp q x.0) refl some (some_before es p q before.1)
  where
    at : (b : Bool) → eq_by_cmp position_cmp q x.0 ≡ b → is_some (option_and_then count_in (cond b (Some x.1) (kept_at es q))) ≡ true
        → (is_some (option_and_then count_in (kept_at es q)) ≡ true → position_cmp q p ≡ Less) → position_cmp q p ≡ Less
    at true same some rest = subst (λ (r : Position). position_cmp r p ≡ Less) (sym (exact_positions q x.0 ((Equal-is (position_cmp q x.0)).0 same))) before.0
    at false differ some rest = rest some

pub found_before : (es : Entries) (p : Position) → AreBefore p es → IsAfterAll (found_in count_in es) p
found_before es p before q key = some_before es p q before (sym (ap is_some (get-found_in count_in es q)) ∙ key)

-- in a list of rising positions the first ones stand before the next
pub rising_before : (es rest : Entries) (e : Position × Kept) → IsStrictlySortedBy position_cmp (map (λ x. x.0) (es ++ e ∷ rest)) → AreBefore e.0 es
unfolding IsStrictlySortedBy
rising_before [] rest e rising = tt
rising_before (x ∷ es) rest e rising = (in_all es rising.0, rising_before es rest e rising.1)
  where
    in_all : (es : Entries) → AllByRecursion (λ p. position_cmp x.0 p ≡ Less) (map (λ y. y.0) (es ++ e ∷ rest)) → position_cmp x.0 e.0 ≡ Less
    in_all [] above = above.0
    in_all (y ∷ es) above = in_all es above.1

-- one entry more of a table whose positions rise
module _ (done rest entries : Entries) (p : Position) (kept : Kept) (whole : done ++ (p, kept) ∷ rest ≡ entries) (rising : IsStrictlySortedBy position_cmp (map (λ x. x.0) entries)) where
  before : AreBefore p done
  before = rising_before done rest (p, kept) (subst (λ (es : Entries). IsStrictlySortedBy position_cmp (map (λ x. x.0) es)) (sym whole) rising)

  pub comes_after : IsAfterAll (found_in count_in done) p
  comes_after = found_before done p before

  pub one_done : (done ++ (p, kept) ∷ []) ++ rest ≡ entries
  one_done = append_assoc done ((p, kept) ∷ []) rest ∙ whole

  pub counted_one : (times : ℕ) → times ≡ kept.count → 1 ≤ kept.count → map_of.insert (found_in count_in done) p times ≡ found_in count_in (done ++ (p, kept) ∷ [])
  counted_one times is least = sym (found_in-push count_in done (p, kept) before ∙ ap (with_value (found_in count_in done) p) (some_if kept.count least ∙ ap Some (sym is)))
    where
      some_if : (n : ℕ) → 1 ≤ n → cond {A = Option ℕ} (n == 0) None (Some n) ≡ Some n
      some_if n h = grind (arith, nat_tests)

  pub counted_none : kept.count ≤ 0 → found_in count_in done ≡ found_in count_in (done ++ (p, kept) ∷ [])
  counted_none least =
      sym (found_in-push count_in done (p, kept) before ∙ ap (with_value (found_in count_in done) p) (none_if kept.count least) ∙ same_value (found_in count_in done) p None (nowhere (map_of.get (found_in count_in done) p) refl))
    where
      none_if : (n : ℕ) → n ≤ 0 → cond {A = Option ℕ} (n == 0) None (Some n) ≡ None
      none_if n h = grind (arith, nat_tests)

      nowhere : (o : Option ℕ) → map_of.get (found_in count_in done) p ≡ o → map_of.get (found_in count_in done) p ≡ None
      nowhere None is = is
      nowhere (Some n) is = absurd (below_itself positions_total p (comes_after p (ap is_some is)))

-- what holds of all holds of one in the middle
pub in_the_middle : (P : (Position × Kept) → Type 0) (done rest : Entries) (e : Position × Kept) → All P (done ++ e ∷ rest) → P e
in_the_middle P done rest e all = at done (recursion_from_All P (done ++ e ∷ rest) all)
  where
    at : (done : Entries) → AllByRecursion P (done ++ e ∷ rest) → P e
    at [] all = all.0
    at (x ∷ done) all = at done all.1

-- ---- the other way about

-- each place of a rising list is before the one at the index
places_before : (cs : List Counted) (i : ℕ) (c : Counted) → AreRising cs → i < length cs → AllByRecursion (λ p. position_cmp p (get_or cs i c).position ≡ Less) (places (take i cs))
unfolding IsStrictlySortedBy
places_before [] i c rising low = absurd (omega (arith, low))
places_before (x ∷ cs) zero c rising low = tt
places_before (x ∷ cs) (suc i) c rising low = (at cs i rising.0 (omega (arith, low)), places_before cs i c rising.1 (omega (arith, low)))
  where
    at : (cs : List Counted) (i : ℕ) → AllByRecursion (λ p. position_cmp x.position p ≡ Less) (places cs) → i < length cs → position_cmp x.position (get_or cs i c).position ≡ Less
    at [] i above low = absurd (omega (arith, low))
    at (y ∷ cs) zero above low = above.0
    at (y ∷ cs) (suc i) above low = at cs i above.1 (omega (arith, low))

-- one more message of the list is counted
pub counted_next : (cs : List Counted) (i : ℕ) (c : Counted) → AreRising cs → i < length cs → c ≡ get_or cs i c → map_of.insert (counts_in (take i cs)) c.position c.times ≡ counts_in (take (i + 1) cs)
counted_next cs i c rising low is =
    let before = subst (λ (d : Counted). AllByRecursion (λ p. position_cmp p d.position ≡ Less) (places (take i cs))) (sym is) (places_before cs i c rising low) in
    sym (counts_pushed (take i cs) c (after_all (take i cs) c.position before))
    ∙ ap counts_in (sym (take_more cs i c low ∙ ap (λ (d : Counted). take i cs ++ d ∷ []) (sym is)))

-- a map is that of its entries
pub of_entries : (m : map_of.FinMap position_cmp ℕ) → map_of.from_entries (map_of.entries m) ≡ m
of_entries m = map_of.same_map positions_total exact_positions _ m (λ q. map_of.get-from_entries positions_total (map_of.entries m) q ∙ sym (map_of.get-entries m q))
