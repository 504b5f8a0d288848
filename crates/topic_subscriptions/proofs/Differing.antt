-- One set of places less another, as a loop over its ranges makes it.
use Rattle.std.proofs.Common.{◌≡◌, ℕ, ◌+◌, ◌<◌, ◌≤◌, List, [], ◌∷◌, ◌++◌, Bool, true, false, refl, ap, ◌∙◌, sym, subst, arith, inl, inr, append_assoc, append-nil}
use Rattle.std.specs.Prelude.{◌||◌, ◌&&◌, not, nat_le, nat_lt, IsTrue, ◌↔◌, if◌then◌else◌}
use Rattle.std.specs.Ordering.{nat_cmp}
use Rattle.std.specs.Cmp.{nat_cmp_total}
use Rattle.std.specs.FinSet as set
use Rattle.std.proofs.lemmas.Bool.{false≢true, or_cases, and_parts, ltb-true}
use Rattle.std.proofs.lemmas.Bool.Decides.{nat_tests}
use Rattle.ack_ranges.specs.Ranges.{AreRangesOf, MayFollow, Rise, from_to, spread}
use Rattle.ack_ranges.proofs.Covers.{contains_from_to, contains_spread, covers, same_numbers}
use Rattle.ack_ranges.proofs.Reading.{next_follows}
use Rattle.ack_ranges.proofs.Unions.{covers_push}
use Rattle.topic_subscriptions.specs.Less.{AreAdded, EndBefore}

-- ---- a range behind the others

nothing_between : (c : Bool) (start end k : ℕ) → (start < end → ⊥) → c ≡ (c || (nat_le start k && nat_lt k end))
nothing_between c start end k none = grind (arith, nat_tests)

pub pushed : (old new : set.FinSet nat_cmp) (start end : ℕ) (b : Bool) → EndBefore old start → (IsTrue b ↔ MayFollow old start end) → new ≡ (if b then set.union old (from_to start end) else old)
    → (k : ℕ) → set.contains new k ≡ (set.contains old k || (nat_le start k && nat_lt k end))
pushed old new start end true before follows is k = ap (λ (s : set.FinSet nat_cmp). set.contains s k) is ∙ set.contains-union nat_cmp_total old (from_to start end) k ∙ ap (λ c. set.contains old k || c) (contains_from_to start end k)
pushed old new start end false before follows is k =
    ap (λ (s : set.FinSet nat_cmp). set.contains s k) is
    ∙ nothing_between (set.contains old k) start end k (λ some. false≢true (follows.1 (record { some = some; apart = before })))

-- ---- a range without the owed places

added_step : (i o : Bool) (start from next k : ℕ) → start ≤ from → from ≤ next → (from ≤ k → k < next → o ≡ false)
    → ((i || ((nat_le start k && nat_lt k from) && not o)) || (nat_le from k && nat_lt k next)) ≡ (i || ((nat_le start k && nat_lt k next) && not o))
added_step i o start from next k first second none = grind (arith, nat_tests)

pub added_to : (init left new owed : set.FinSet nat_cmp) (start from next : ℕ) → start ≤ from → from ≤ next → AreAdded init owed start from left
    → ((k : ℕ) → set.contains new k ≡ (set.contains left k || (nat_le from k && nat_lt k next))) → ((k : ℕ) → from ≤ k → k < next → set.contains owed k ≡ false) → AreAdded init owed start next new
added_to init left new owed start from next first second added more none k =
    more k ∙ ap (λ b. b || (nat_le from k && nat_lt k next)) (added k)
    ∙ added_step (set.contains init k) (set.contains owed k) start from next k first second (none k)

past_step : (i o : Bool) (start next k : ℕ) → (k ≡ next → o ≡ true) → (i || ((nat_le start k && nat_lt k next) && not o)) ≡ (i || ((nat_le start k && nat_lt k (next + 1)) && not o))
past_step i o start next k owed_there = grind (arith, nat_tests)

pub past_owed : (init new owed : set.FinSet nat_cmp) (start next : ℕ) → AreAdded init owed start next new → set.contains owed next ≡ true → AreAdded init owed start (next + 1) new
past_owed init new owed start next added there k =
    added k ∙ past_step (set.contains init k) (set.contains owed k) start next k (λ is. ap (λ (n : ℕ). set.contains owed n) is ∙ there)

pub ends_before : (left new : set.FinSet nat_cmp) (from next : ℕ) → from ≤ next → EndBefore left from → ((k : ℕ) → set.contains new k ≡ (set.contains left k || (nat_le from k && nat_lt k next))) → EndBefore new (next + 1)
ends_before left new from next low before more k inside = elim (or_cases (set.contains left k) (nat_le from k && nat_lt k next) (sym (more k) ∙ inside)) [
  | inl old ↦ omega (arith, before k old)
  | inr here ↦ omega (arith, ltb-true k next (and_parts (nat_le from k) (nat_lt k next) here).1)
]

pub begins_added : (init owed : set.FinSet nat_cmp) (start : ℕ) → AreAdded init owed start start init
begins_added init owed start k = none (set.contains init k) (set.contains owed k)
  where
    none : (i o : Bool) → i ≡ (i || ((nat_le start k && nat_lt k start) && not o))
    none i o = grind (arith, nat_tests)

-- ---- all ranges

-- some of the ranges are done, and these are left
pub record SoFar (all owed left : set.FinSet nat_cmp) (rest : List (ℕ × ℕ)) : Type 0 where
  pub done : List (ℕ × ℕ)
  pub ranges : AreRangesOf all (done ++ rest)
  pub is : (k : ℕ) → set.contains left k ≡ (covers done k && not (set.contains owed k))

pub begins : (all owed : set.FinSet nat_cmp) (rest : List (ℕ × ℕ)) → AreRangesOf all rest → SoFar all owed set.empty rest
begins all owed rest ranges = record { done = []; ranges = ranges; is = λ k. set.contains-empty nat_cmp k }

first_follows : (all owed left : set.FinSet nat_cmp) (rest more : List (ℕ × ℕ)) (r : ℕ × ℕ) → (so : SoFar all owed left rest) → rest ≡ r ∷ more → MayFollow (set.from_list {R = nat_cmp} (spread so.done)) r.0 r.1
first_follows all owed left rest more r so is = next_follows so.done r more (subst (λ (xs : List (ℕ × ℕ)). Rise (so.done ++ xs)) is so.ranges.rise)

pub first_some : (all owed left : set.FinSet nat_cmp) (rest more : List (ℕ × ℕ)) (r : ℕ × ℕ) → SoFar all owed left rest → rest ≡ r ∷ more → r.0 < r.1
first_some all owed left rest more r so is = (first_follows all owed left rest more r so is).some

pub first_apart : (all owed left : set.FinSet nat_cmp) (rest more : List (ℕ × ℕ)) (r : ℕ × ℕ) → SoFar all owed left rest → rest ≡ r ∷ more → EndBefore left r.0
first_apart all owed left rest more r so is k inside =
    (first_follows all owed left rest more r so is).apart k (contains_spread so.done k ∙ (and_parts (covers so.done k) (not (set.contains owed k)) (sym (so.is k) ∙ inside)).0)

pub goes_on : (all owed left new : set.FinSet nat_cmp) (rest more : List (ℕ × ℕ)) (r : ℕ × ℕ) → SoFar all owed left rest → rest ≡ r ∷ more → AreAdded left owed r.0 r.1 new → SoFar all owed new more
goes_on all owed left new rest more r so is added = record {
  done = so.done ++ r ∷ [];
  ranges = subst (λ (xs : List (ℕ × ℕ)). AreRangesOf all xs) (ap (λ xs. so.done ++ xs) is ∙ sym (append_assoc so.done (r ∷ []) more)) so.ranges;
  is = λ k. added k ∙ ap (λ b. b || ((nat_le r.0 k && nat_lt k r.1) && not (set.contains owed k))) (so.is k)
      ∙ shared (covers so.done k) (nat_le r.0 k && nat_lt k r.1) (set.contains owed k)
      ∙ ap (λ b. b && not (set.contains owed k)) (sym (covers_push so.done r.0 r.1 k));
}
  where
    shared : (a b o : Bool) → ((a && not o) || (b && not o)) ≡ ((a || b) && not o)
    shared true true true = refl
    shared true true false = refl
    shared true false true = refl
    shared true false false = refl
    shared false b o = refl

pub ends : (all owed left : set.FinSet nat_cmp) (rest : List (ℕ × ℕ)) → SoFar all owed left rest → rest ≡ [] → left ≡ set.difference all owed
ends all owed left rest so none = same_numbers _ _ (λ k.
    so.is k ∙ ap (λ b. b && not (set.contains owed k)) (sym (contains_spread so.done k) ∙ ap (λ (s : set.FinSet nat_cmp). set.contains s k) (sym whole))
    ∙ sym (set.contains-difference nat_cmp_total all owed k))
  where
    whole : all ≡ set.from_list (spread so.done)
    whole = so.ranges.numbers ∙ ap (λ (xs : List (ℕ × ℕ)). set.from_list {R = nat_cmp} (spread xs)) (ap (λ xs. so.done ++ xs) none ∙ append-nil so.done)
