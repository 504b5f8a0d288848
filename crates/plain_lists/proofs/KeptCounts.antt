-- Counts that are taken out of a table message by message, in the order of the log.
use Rattle.std.proofs.Common.{◌≡◌, ℕ, zero, suc, ◌+◌, ◌<◌, ◌≤◌, List, [], ◌∷◌, ◌++◌, map, length, take, get_or, Option, Some, None, Bool, true, false, cond, refl, ap, ap₂, ◌∙◌, sym, subst₂, arith, true≢false}
use Rattle.std.specs.Prelude.{◌||◌, is_some}
use Rattle.std.specs.List.{AllByRecursion}
use Rattle.std.specs.Option.{unwrap_or}
use Rattle.std.specs.List.Sorted.{IsStrictlySortedBy}
use Rattle.std.specs.Cmp.{eq_by_cmp_equiv, Equal-is}
use Rattle.std.specs.FinSet as set
use Rattle.std.specs.FinMap as map_of
use Rattle.std.specs.declared.cmp.Ordering.TheVariants.{Less}
use Rattle.std.proofs.lemmas.List.{take_more}
use Rattle.std.proofs.lemmas.List.Folds.{list_any-append}
use Rattle.position_core.specs.declared.position.Position.{Position}
use Rattle.position_core.specs.declared.message.Entry.{Entry}
use Rattle.position_core.specs.Position.{position_cmp, same_position, positions_total, exact_positions}
use Rattle.delivery_machine.specs.State.{DeadLetter}
use Rattle.delivery_machine.specs.Words.{has_position}
use Rattle.delivery_machine.specs.Ticking.{most_count}
use Rattle.delivery_machine.specs.Counts.{IsAfterAll}
use Rattle.delivery_machine.specs.WellFormed.{has_message, AreCountsOf}

abbrev pub Table : Type 0
Table = map_of.FinMap position_cmp ℕ

-- a map is that of its entries
pub entries_back : {X : Type 0} (m : map_of.FinMap position_cmp X) → map_of.from_entries (map_of.entries m) ≡ m
entries_back m = map_of.same_map positions_total exact_positions _ _ (λ q. map_of.get-from_entries positions_total (map_of.entries m) q ∙ sym (map_of.get-entries m q))

-- the counts of these messages
abbrev pub of_messages : Table → List Entry → Table
of_messages m log = map_of.retain_keys m (has_message log)

get_of : (m : Table) (log : List Entry) (q : Position) → map_of.get (of_messages m log) q ≡ cond (has_message log q) (map_of.get m q) None
get_of m log q = map_of.get-retain_keys m (has_message log) q (λ x t. ap (has_message log) (sym (exact_positions q x t)))

pub of_none : (m : Table) → map_of.empty ≡ of_messages m []
of_none m = map_of.same_map positions_total exact_positions _ _ (λ q. map_of.get-empty position_cmp q ∙ sym (get_of m [] q))

-- each of them is of a message of the log
pub of_all : (m : Table) (log : List Entry) (acknowledged : set.FinSet position_cmp) (dead : List DeadLetter) → AreCountsOf log acknowledged dead m → of_messages m log ≡ m
of_all m log acknowledged dead are = map_of.same_map positions_total exact_positions _ _ (λ q. get_of m log q ∙ by q (map_of.get m q) refl)
  where
    nothing : (b : Bool) (o : Option ℕ) → o ≡ None → cond b o None ≡ o
    nothing true o is = refl
    nothing false o is = sym is

    by : (q : Position) (o : Option ℕ) → map_of.get m q ≡ o → cond (has_message log q) (map_of.get m q) None ≡ map_of.get m q
    by q None is = nothing (has_message log q) (map_of.get m q) is
    by q (Some n) is = ap (λ b. cond b (map_of.get m q) None) (are q n is).message

-- ---- one message more

-- a message that stands before is before
before : (log : List Entry) (i : ℕ) (d : Entry) (q : Position) → i < length log → IsStrictlySortedBy position_cmp (map (λ e. e.position) log) → has_message (take i log) q ≡ true → position_cmp q (get_or log i d).position ≡ Less
unfolding IsStrictlySortedBy
before [] i d q low rising there = absurd (omega arith)
before (x ∷ log) zero d q low rising there = absurd (true≢false (sym there))
before (x ∷ log) (suc i) d q low rising there = by (has_position q x) refl there (before log i d q (omega arith) rising.1)
  where
    above : (es : List Entry) (k : ℕ) → k < length es → AllByRecursion (λ p. position_cmp x.position p ≡ Less) (map (λ e. e.position) es) → position_cmp x.position (get_or es k d).position ≡ Less
    above [] k low all = absurd (omega arith)
    above (e ∷ es) zero low all = all.0
    above (e ∷ es) (suc k) low all = above es k (omega arith) all.1

    by : (b : Bool) → has_position q x ≡ b → (b || has_message (take i log) q) ≡ true → (has_message (take i log) q ≡ true → position_cmp q (get_or log i d).position ≡ Less) → position_cmp q (get_or log i d).position ≡ Less
    by true at any rest = ap (λ (p : Position). position_cmp p (get_or log i d).position) (sym (exact_positions x.position q ((Equal-is (position_cmp x.position q)).0 at))) ∙ above log i (omega arith) rising.0
    by false at any rest = rest any

pub after_those : (m : Table) (log : List Entry) (i : ℕ) (d : Entry) → i < length log → IsStrictlySortedBy position_cmp (map (λ e. e.position) log) → IsAfterAll (of_messages m (take i log)) (get_or log i d).position
after_those m log i d low rising q counted =
    before log i d q low rising (by (has_message (take i log) q) (sym (ap is_some (get_of m (take i log) q)) ∙ counted))
  where
    by : (b : Bool) → is_some (cond b (map_of.get m q) None) ≡ true → b ≡ true
    by true t = refl
    by false t = absurd (true≢false (sym t))

module _ (m : Table) (xs : List Entry) (e : Entry) where
  there : (q : Position) → map_of.get (of_messages m (xs ++ e ∷ [])) q ≡ cond (has_message xs q || (has_position q e || false)) (map_of.get m q) None
  there q = get_of m (xs ++ e ∷ []) q ∙ ap (λ b. cond b (map_of.get m q) None) (list_any-append (has_position q) xs (e ∷ []))

  is_it : (q : Position) → same_position e.position q ≡ true → e.position ≡ q
  is_it q at = exact_positions e.position q ((Equal-is (position_cmp e.position q)).0 at)

  turned : (q : Position) → same_position q e.position ≡ same_position e.position q
  turned q = (eq_by_cmp_equiv positions_total).symm q e.position

  -- the message is counted
  pub one_more : (n : ℕ) → map_of.get m e.position ≡ Some n → map_of.insert (of_messages m xs) e.position n ≡ of_messages m (xs ++ e ∷ [])
  one_more n is = map_of.same_map positions_total exact_positions _ _ (λ q.
      map_of.get-insert positions_total (of_messages m xs) e.position n q
      ∙ ap (cond (same_position q e.position) (Some n)) (get_of m xs q)
      ∙ ap (λ b. cond b (Some n) (cond (has_message xs q) (map_of.get m q) None)) (turned q)
      ∙ by q (has_message xs q) (same_position e.position q) refl
      ∙ sym (there q))
    where
      by : (q : Position) (a b : Bool) → same_position e.position q ≡ b → cond b (Some n) (cond a (map_of.get m q) None) ≡ cond (a || (b || false)) (map_of.get m q) None
      by q true true at = sym is ∙ ap (map_of.get m) (is_it q at)
      by q false true at = sym is ∙ ap (map_of.get m) (is_it q at)
      by q true false at = refl
      by q false false at = refl

  -- it is not
  pub no_more : map_of.get m e.position ≡ None → of_messages m xs ≡ of_messages m (xs ++ e ∷ [])
  no_more is = map_of.same_map positions_total exact_positions _ _ (λ q. get_of m xs q ∙ by q (has_message xs q) (same_position e.position q) refl ∙ sym (there q))
    where
      by : (q : Position) (a b : Bool) → same_position e.position q ≡ b → cond a (map_of.get m q) None ≡ cond (a || (b || false)) (map_of.get m q) None
      by q true b at = refl
      by q false true at = sym (ap (map_of.get m) (sym (is_it q at)) ∙ is)
      by q false false at = refl

-- ---- how often it was redelivered, as it is read

pub counted : (m : Table) (p : Position) (n : ℕ) → n ≡ unwrap_or (map_of.get m p) 0 → 0 < n → map_of.get m p ≡ Some n
counted m p n is some = by (map_of.get m p) refl is
  where
    by : (o : Option ℕ) → map_of.get m p ≡ o → n ≡ unwrap_or o 0 → map_of.get m p ≡ Some n
    by None got is = absurd (omega arith)
    by (Some k) got is = got ∙ ap Some (sym is)

pub not_counted : (m : Table) (log : List Entry) (acknowledged : set.FinSet position_cmp) (dead : List DeadLetter) (p : Position) (n : ℕ) → AreCountsOf log acknowledged dead m → n ≡ unwrap_or (map_of.get m p) 0
    → ((0 < n) × (n ≤ most_count) → ⊥) → map_of.get m p ≡ None
not_counted m log acknowledged dead p n are is unfit = by (map_of.get m p) refl is
  where
    by : (o : Option ℕ) → map_of.get m p ≡ o → n ≡ unwrap_or o 0 → map_of.get m p ≡ None
    by None got is = got
    by (Some k) got is = let one = are p k got in let low = one.redelivered in let high = one.most in absurd (unfit (omega arith, omega arith))

-- ---- a step

-- what the code has at the message of the index
pub record IsAt (m : Table) (log : List Entry) (i : ℕ) (e : Entry) (p : Position) (n : ℕ) (counts : Table) : Type 0 where
  pub low : i < length log
  pub rising : IsStrictlySortedBy position_cmp (map (λ x. x.position) log)
  pub message : e ≡ get_or log i e
  pub position : p ≡ e.position
  pub read : n ≡ unwrap_or (map_of.get m p) 0
  pub before : counts ≡ of_messages m (take i log)

module _ (m : Table) (log : List Entry) (i : ℕ) (e : Entry) (p : Position) (n : ℕ) (counts after : Table) (at : IsAt m log i e p n counts) where
  stands : p ≡ (get_or log i e).position
  stands = at.position ∙ ap (λ (x : Entry). x.position) at.message

  next : of_messages m (take i log ++ get_or log i e ∷ []) ≡ of_messages m (take (i + 1) log)
  next = ap (of_messages m) (sym (take_more log i e at.low))

  pub step_counted : (t : ℕ) → t ≡ n → 0 < n → (IsAfterAll counts p → after ≡ map_of.insert counts p t) → after ≡ of_messages m (take (i + 1) log)
  step_counted t is some pushed =
      pushed (subst₂ IsAfterAll (sym at.before) (sym stands) (after_those m log i e at.low at.rising))
      ∙ ap₂ (λ (c : Table) (q : Position). map_of.insert c q t) at.before stands
      ∙ one_more m (take i log) (get_or log i e) t (ap (map_of.get m) (sym stands) ∙ counted m p n at.read some ∙ ap Some (sym is))
      ∙ next

  pub step_not : (acknowledged : set.FinSet position_cmp) (dead : List DeadLetter) → AreCountsOf log acknowledged dead m → ((0 < n) × (n ≤ most_count) → ⊥) → after ≡ counts → after ≡ of_messages m (take (i + 1) log)
  step_not acknowledged dead are unfit same =
      same ∙ at.before
      ∙ no_more m (take i log) (get_or log i e) (ap (map_of.get m) (sym stands) ∙ not_counted m log acknowledged dead p n are at.read unfit)
      ∙ next
