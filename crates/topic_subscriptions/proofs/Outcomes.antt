-- What became of messages, as the set of all places that are closed and the set of those that are owed have it.
use Rattle.std.proofs.Common.{◌≡◌, ℕ, ◌+◌, ◌-◌, ◌<◌, ◌≤◌, min, List, [], ◌∷◌, ◌++◌, Bool, true, false, cond, refl, ap, ap₂, ◌∙◌, sym, subst, arith, inl, inr, append-nil, take, length, get_or}
use Rattle.std.specs.Prelude.{◌||◌, ◌&&◌, not, nat_le, ltb}
use Rattle.std.specs.List.{filter}
use Rattle.std.specs.Ordering.{nat_cmp, eq_by_cmp, is_eq}
use Rattle.std.specs.Cmp.{nat_cmp_total}
use Rattle.std.specs.FinSet as set
use Rattle.std.proofs.lemmas.Bool.{true≢false, false≢true, cases_eq, cases_lt}
use Rattle.std.proofs.lemmas.Bool.Decides.{nat_tests}
use Rattle.std.proofs.lemmas.Cmp.{tied_itself}
use Rattle.std.proofs.lemmas.List.{take_more}
use Rattle.std.proofs.lemmas.List.Elements.{filter-append}
use Rattle.std.proofs.lemmas.Map.Lookups.{exact_unsigned}
use Rattle.std.proofs.lemmas.Map.Views.{tells_apart}
use Rattle.ack_ranges.specs.Ranges.{HasGapBefore, IsNextMissing, below}
use Rattle.ack_ranges.proofs.Covers.{contains_below, same_numbers}
use Rattle.ack_ranges.proofs.Sets.{already_in}
use Rattle.number_sets.specs.Places.{IsNext, NoneFrom}
use Rattle.pending_core.specs.Pending.{Pending, nothing_pending}
use Rattle.topic_subscriptions.specs.Sought.{GoesOn, going_on}
use Rattle.topic_subscriptions.specs.Closed.{AreOwed, Outcomes, is_open, outcomes_of, with_acknowledged, with_buried}

-- what the two sets stand for
abbrev pub seen : set.FinSet nat_cmp → set.FinSet nat_cmp → Outcomes
seen all owed = record { places = set.difference all owed; buried = owed }

-- owed places are closed
abbrev pub AreWithin : set.FinSet nat_cmp → set.FinSet nat_cmp → Type 0
AreWithin owed all = (place : ℕ) → set.contains owed place ≡ true → set.contains all place ≡ true

-- ---- looking up

closed_is : (a o : Bool) → (o ≡ true → a ≡ true) → ((a && not o) || o) ≡ a
closed_is true true within = refl
closed_is true false within = refl
closed_is false true within = sym (within refl)
closed_is false false within = refl

pub open_is : (all owed : set.FinSet nat_cmp) → AreWithin owed all → (place : ℕ) → is_open (seen all owed) place ≡ not (set.contains all place)
open_is all owed within place = ap not (ap (λ b. b || set.contains owed place) (set.contains-difference nat_cmp_total all owed place) ∙ closed_is (set.contains all place) (set.contains owed place) (within place))

pub acknowledged_is : (all owed : set.FinSet nat_cmp) (place : ℕ) (a o : Bool) → a ≡ set.contains all place → o ≡ set.contains owed place → (a && not o) ≡ set.contains (set.difference all owed) place
acknowledged_is all owed place a o in_all in_owed = ap₂ (λ b c. b && not c) in_all in_owed ∙ sym (set.contains-difference nat_cmp_total all owed place)

pub gap_is : (all owed : set.FinSet nat_cmp) (place : ℕ) → AreWithin owed all → HasGapBefore all place → (k : ℕ) × (k + 1 ≡ place) × (is_open (seen all owed) k ≡ true)
gap_is all owed place within gap = (gap.0, gap.1, open_is all owed within gap.0 ∙ ap not gap.2)

-- ---- a place more

itself : (n : ℕ) → eq_by_cmp nat_cmp n n ≡ true
itself n = ap is_eq (tied_itself nat_cmp_total n)

in_more : (t : set.FinSet nat_cmp) (k q : ℕ) → set.contains t q ≡ true → set.contains (set.insert t k) q ≡ true
in_more t k q at = set.contains-insert nat_cmp_total t k q ∙ ap (λ b. eq_by_cmp nat_cmp q k || b) at ∙ or_true (eq_by_cmp nat_cmp q k)
  where
    or_true : (e : Bool) → (e || true) ≡ true
    or_true true = refl
    or_true false = refl

in_itself : (t : set.FinSet nat_cmp) (k : ℕ) → set.contains (set.insert t k) k ≡ true
in_itself t k = set.contains-insert nat_cmp_total t k k ∙ ap (λ b. b || set.contains t k) (itself k)

-- ---- the first that is not acknowledged

and_first : (a b : Bool) → a ≡ false → (a && b) ≡ false
and_first a b is = ap (λ c. c && b) is

and_second : (a o : Bool) → o ≡ true → (a && not o) ≡ false
and_second true o is = ap not is
and_second false o is = refl

-- no owed place stands before the least one
none_before : (owed : set.FinSet nat_cmp) (buried k : ℕ) → IsNext (set.contains owed) 0 buried → k < buried → set.contains owed k ≡ false
none_before owed buried k next before = by (set.contains owed k) refl
  where
    by : (b : Bool) → set.contains owed k ≡ b → set.contains owed k ≡ false
    by true there = absurd (omega (arith, next.least k (omega arith) there, before))
    by false out = out

pub first_of_both : (all owed : set.FinSet nat_cmp) (first buried : ℕ) → IsNextMissing all 0 first → IsNext (set.contains owed) 0 buried → IsNextMissing (set.difference all owed) 0 (min first buried)
first_of_both all owed first buried missing next = record {
  from = omega arith;
  missing = set.contains-difference nat_cmp_total all owed (min first buried) ∙ elim (cases_lt first buried) [
    | inl before ↦ and_first (set.contains all (min first buried)) (not (set.contains owed (min first buried))) (ap (λ (n : ℕ). set.contains all n) (omega (arith, before)) ∙ missing.missing)
    | inr after ↦ and_second (set.contains all (min first buried)) (set.contains owed (min first buried)) (ap (λ (n : ℕ). set.contains owed n) (omega (arith, after)) ∙ next.is_in)
  ];
  before = λ k from to. set.contains-difference nat_cmp_total all owed k ∙ ap₂ (λ a o. a && not o) (missing.before k from (omega (arith, to))) (none_before owed buried k next (omega (arith, to)));
}

pub none_owed_first : (all owed : set.FinSet nat_cmp) (first : ℕ) → IsNextMissing all 0 first → NoneFrom (set.contains owed) 0 → IsNextMissing (set.difference all owed) 0 first
none_owed_first all owed first missing none = record {
  from = missing.from;
  missing = set.contains-difference nat_cmp_total all owed first ∙ and_first (set.contains all first) (not (set.contains owed first)) missing.missing;
  before = λ k from to. set.contains-difference nat_cmp_total all owed k ∙ ap₂ (λ a o. a && not o) (missing.before k from to) (none k (omega arith));
}

-- ---- sizes

pub has_some : (s : set.FinSet nat_cmp) (k : ℕ) → set.contains s k ≡ true → 1 ≤ set.len s
has_some s k is_in = elim (cases_eq (set.len s) 0) [
  | inl none ↦ absurd (true≢false (sym is_in ∙ ap (λ (t : set.FinSet nat_cmp). set.contains t k) (set.empty_of_len s none) ∙ set.contains-empty nat_cmp k))
  | inr some ↦ omega arith
]

-- taking out what a new place is taken from
without_one : (all t : set.FinSet nat_cmp) (k : ℕ) → set.difference all (set.insert t k) ≡ set.remove (set.difference all t) k
without_one all t k = same_numbers _ _ (λ q.
    set.contains-difference nat_cmp_total all (set.insert t k) q
    ∙ ap (λ b. set.contains all q && not b) (set.contains-insert nat_cmp_total t k q)
    ∙ swapped (set.contains all q) (eq_by_cmp nat_cmp q k) (set.contains t q)
    ∙ ap (λ b. not (eq_by_cmp nat_cmp q k) && b) (sym (set.contains-difference nat_cmp_total all t q))
    ∙ sym (set.contains-remove nat_cmp_total (set.difference all t) k q))
  where
    swapped : (a e o : Bool) → (a && not (e || o)) ≡ (not e && (a && not o))
    swapped true true o = refl
    swapped true false o = refl
    swapped false true o = refl
    swapped false false o = refl

less_nothing : (all : set.FinSet nat_cmp) → set.difference all set.empty ≡ all
less_nothing all = same_numbers _ _ (λ q.
    set.contains-difference nat_cmp_total all set.empty q
    ∙ ap (λ b. set.contains all q && not b) (set.contains-empty nat_cmp q)
    ∙ and_true (set.contains all q))
  where
    and_true : (a : Bool) → (a && true) ≡ a
    and_true true = refl
    and_true false = refl

one_listed : (t all : set.FinSet nat_cmp) (k : ℕ) → AreWithin (set.insert t k) all → set.len (set.difference all t) + set.len t ≡ set.len all → set.len (set.difference all (set.insert t k)) + set.len (set.insert t k) ≡ set.len all
one_listed t all k within rest = by (set.contains t k) refl
  where
    by : (b : Bool) → set.contains t k ≡ b → set.len (set.difference all (set.insert t k)) + set.len (set.insert t k) ≡ set.len all
    by true there = subst (λ (u : set.FinSet nat_cmp). set.len (set.difference all u) + set.len u ≡ set.len all) (already_in t k there) rest
    by false new =
        let left : set.contains (set.difference all t) k ≡ true = set.contains-difference nat_cmp_total all t k ∙ ap₂ (λ a o. a && not o) (within k (in_itself t k)) new in
        let some = has_some (set.difference all t) k left in
        let fewer : set.len (set.difference all (set.insert t k)) ≡ set.len (set.difference all t) - 1 =
        ap set.len (without_one all t k) ∙ set.len-remove nat_cmp_total (set.difference all t) k ∙ ap (λ b. cond b (set.len (set.difference all t) - 1) (set.len (set.difference all t))) left in
        let more : set.len (set.insert t k) ≡ set.len t + 1 = set.len-insert nat_cmp_total t k ∙ ap (λ b. cond b (set.len t) (set.len t + 1)) new in
        omega (arith, rest, some, fewer, more)

listed : (ks : List ℕ) (all : set.FinSet nat_cmp) → AreWithin (set.from_list ks) all → set.len (set.difference all (set.from_list ks)) + set.len (set.from_list {R = nat_cmp} ks) ≡ set.len all
listed [] all within =
    let none = set.len-empty nat_cmp in
    let same : set.len (set.difference all set.empty) ≡ set.len all = ap set.len (less_nothing all) in
    omega (arith, none, same)
listed (k ∷ ks) all within = one_listed (set.from_list ks) all k within (listed ks all (λ q at. within q (in_more (set.from_list ks) k q at)))

pub listed_again : (s : set.FinSet nat_cmp) → set.from_list (set.items s) ≡ s
listed_again s = same_numbers _ _ (λ q. set.contains-from_list nat_cmp_total (set.items s) q ∙ sym (set.contains-items s q))

-- of the closed places those are acknowledged that are not owed
pub parted : (all owed : set.FinSet nat_cmp) → AreWithin owed all → set.len (set.difference all owed) + set.len owed ≡ set.len all
parted all owed within =
    subst (λ (u : set.FinSet nat_cmp). set.len (set.difference all u) + set.len u ≡ set.len all) (listed_again owed)
    (listed (set.items owed) all (λ q at. within q (ap (λ (u : set.FinSet nat_cmp). set.contains u q) (sym (listed_again owed)) ∙ at)))

-- ---- a message is acknowledged

not_there : (s : set.FinSet nat_cmp) (k : ℕ) → set.contains s k ≡ false → s ≡ set.remove s k
not_there s k out = same_numbers _ _ (λ q. by q (eq_by_cmp nat_cmp q k) refl ∙ sym (set.contains-remove nat_cmp_total s k q))
  where
    by : (q : ℕ) (b : Bool) → eq_by_cmp nat_cmp q k ≡ b → set.contains s q ≡ (not (eq_by_cmp nat_cmp q k) && set.contains s q)
    by q true same = ap (λ (n : ℕ). set.contains s n) (tells_apart {R = nat_cmp} exact_unsigned q k same) ∙ out ∙ sym (ap (λ b. not b && set.contains s q) same)
    by q false differ = sym (ap (λ b. not b && set.contains s q) differ)

place_added : (all owed : set.FinSet nat_cmp) (k : ℕ) → set.difference (set.insert all k) (set.remove owed k) ≡ set.insert (set.difference all owed) k
place_added all owed k = same_numbers _ _ (λ q.
    set.contains-difference nat_cmp_total (set.insert all k) (set.remove owed k) q
    ∙ ap₂ (λ a o. a && not o) (set.contains-insert nat_cmp_total all k q) (set.contains-remove nat_cmp_total owed k q)
    ∙ added (eq_by_cmp nat_cmp q k) (set.contains all q) (set.contains owed q)
    ∙ ap (λ b. eq_by_cmp nat_cmp q k || b) (sym (set.contains-difference nat_cmp_total all owed q))
    ∙ sym (set.contains-insert nat_cmp_total (set.difference all owed) k q))
  where
    added : (e a o : Bool) → ((e || a) && not (not e && o)) ≡ (e || (a && not o))
    added true a o = refl
    added false a o = refl

pub owed_acknowledged : (all owed : set.FinSet nat_cmp) (k : ℕ) → seen (set.insert all k) (set.remove owed k) ≡ with_acknowledged k (seen all owed)
owed_acknowledged all owed k = ap (λ (s : set.FinSet nat_cmp). let o : Outcomes = record { places = s; buried = set.remove owed k } in o) (place_added all owed k)

pub other_acknowledged : (all owed : set.FinSet nat_cmp) (k : ℕ) → set.contains owed k ≡ false → seen (set.insert all k) owed ≡ with_acknowledged k (seen all owed)
other_acknowledged all owed k out = ap (λ (s : set.FinSet nat_cmp). seen (set.insert all k) s) (not_there owed k out) ∙ owed_acknowledged all owed k

pub less_owed : (all owed : set.FinSet nat_cmp) (k count : ℕ) → AreOwed all owed count → set.contains owed k ≡ true → AreOwed (set.insert all k) (set.remove owed k) (count - 1)
less_owed all owed k count owe there = record {
  within = λ q at. in_more all k q (owe.within q (by q (eq_by_cmp nat_cmp q k) (sym (set.contains-remove nat_cmp_total owed k q) ∙ at)));
  counted = ap (λ n. n - 1) owe.counted ∙ sym (set.len-remove nat_cmp_total owed k ∙ ap (λ b. cond b (set.len owed - 1) (set.len owed)) there);
}
  where
    by : (q : ℕ) (e : Bool) → (not e && set.contains owed q) ≡ true → set.contains owed q ≡ true
    by q true at = absurd (false≢true at)
    by q false at = at

pub still_owed : (all owed : set.FinSet nat_cmp) (k count : ℕ) → AreOwed all owed count → AreOwed (set.insert all k) owed count
still_owed all owed k count owe = record { within = λ q at. in_more all k q (owe.within q at); counted = owe.counted }

-- ---- a message dies

not_closed : (all owed : set.FinSet nat_cmp) → AreWithin owed all → (k : ℕ) → is_open (seen all owed) k ≡ true → set.contains all k ≡ false
not_closed all owed within k open_there = by (set.contains all k) (sym (open_is all owed within k) ∙ open_there)
  where
    by : (b : Bool) → not b ≡ true → b ≡ false
    by true is = sym is
    by false is = refl

place_kept : (all owed : set.FinSet nat_cmp) (k : ℕ) → set.contains all k ≡ false → set.difference (set.insert all k) (set.insert owed k) ≡ set.difference all owed
place_kept all owed k out = same_numbers _ _ (λ q.
    set.contains-difference nat_cmp_total (set.insert all k) (set.insert owed k) q
    ∙ ap₂ (λ a o. a && not o) (set.contains-insert nat_cmp_total all k q) (set.contains-insert nat_cmp_total owed k q)
    ∙ by q (eq_by_cmp nat_cmp q k) refl
    ∙ sym (set.contains-difference nat_cmp_total all owed q))
  where
    by : (q : ℕ) (e : Bool) → eq_by_cmp nat_cmp q k ≡ e → ((e || set.contains all q) && not (e || set.contains owed q)) ≡ (set.contains all q && not (set.contains owed q))
    by q true same = sym (ap (λ b. b && not (set.contains owed q)) (ap (λ (n : ℕ). set.contains all n) (tells_apart {R = nat_cmp} exact_unsigned q k same) ∙ out))
    by q false differ = refl

pub one_buried : (all owed : set.FinSet nat_cmp) (k : ℕ) → AreWithin owed all → is_open (seen all owed) k ≡ true → seen (set.insert all k) (set.insert owed k) ≡ with_buried k (seen all owed)
one_buried all owed k within open_there = ap (λ (s : set.FinSet nat_cmp). let o : Outcomes = record { places = s; buried = set.insert owed k } in o) (place_kept all owed k (not_closed all owed within k open_there))

more_within : (all owed : set.FinSet nat_cmp) (k : ℕ) → AreWithin owed all → AreWithin (set.insert owed k) (set.insert all k)
more_within all owed k within q at = by (eq_by_cmp nat_cmp q k) refl
  where
    by : (e : Bool) → eq_by_cmp nat_cmp q k ≡ e → set.contains (set.insert all k) q ≡ true
    by true same = set.contains-insert nat_cmp_total all k q ∙ ap (λ b. b || set.contains all q) same
    by false differ = in_more all k q (within q (sym (set.contains-insert nat_cmp_total owed k q ∙ ap (λ b. b || set.contains owed q) differ) ∙ at))

-- the number of owed places, as it is found: all that are closed, less those that were acknowledged before
pub still_acknowledged : (all owed : set.FinSet nat_cmp) (k : ℕ) → AreWithin owed all → is_open (seen all owed) k ≡ true → set.len (set.difference all owed) + set.len (set.insert owed k) ≡ set.len (set.insert all k)
still_acknowledged all owed k within open_there =
    subst (λ (s : set.FinSet nat_cmp). set.len s + set.len (set.insert owed k) ≡ set.len (set.insert all k)) (place_kept all owed k (not_closed all owed within k open_there))
    (parted (set.insert all k) (set.insert owed k) (more_within all owed k within))

-- the same, as code finds it
pub owed_again : (all owed more : set.FinSet nat_cmp) (k before total : ℕ) (o : Outcomes) → AreWithin owed all → seen all owed ≡ o → is_open o k ≡ true → more ≡ set.insert all k → before ≡ set.len o.places → total ≡ set.len more → before + set.len (set.insert owed k) ≡ total
owed_again all owed more k before total o within sees open_there more_is before_is total_is =
    let was : before ≡ set.len (set.difference all owed) = before_is ∙ ap (λ (x : Outcomes). set.len x.places) (sym sees) in
    let now : total ≡ set.len (set.insert all k) = total_is ∙ ap set.len more_is in
    omega (arith, was, now, still_acknowledged all owed k within (subst (λ (x : Outcomes). is_open x k ≡ true) (sym sees) open_there))

pub more_owed : (all owed : set.FinSet nat_cmp) (k count : ℕ) → AreWithin owed all → count ≡ set.len (set.insert owed k) → AreOwed (set.insert all k) (set.insert owed k) count
more_owed all owed k count within counted = record { within = more_within all owed k within; counted = counted }

-- ---- as a subscription begins

pub all_acknowledged : (all owed : set.FinSet nat_cmp) (count : ℕ) → AreOwed all owed count → count ≡ 0 → set.difference all owed ≡ all
all_acknowledged all owed count owe none = ap (set.difference all) (set.empty_of_len owed (sym owe.counted ∙ none)) ∙ less_nothing all

pub none_owed : (all : set.FinSet nat_cmp) → AreOwed all set.empty 0
none_owed all = record { within = λ q at. absurd (true≢false (sym at ∙ set.contains-empty nat_cmp q)); counted = sym (set.len-empty nat_cmp) }

pub begun : (all : set.FinSet nat_cmp) → seen all set.empty ≡ outcomes_of all []
begun all = ap (λ (s : set.FinSet nat_cmp). let o : Outcomes = record { places = s; buried = set.empty } in o) (less_nothing all)

-- ---- one dead message after another

open_of : (acknowledged : set.FinSet nat_cmp) (dead : List ℕ) (k : ℕ) → (b : Bool) → is_open (outcomes_of acknowledged dead) k ≡ b → (a o : Bool) → set.contains acknowledged k ≡ a → set.contains (outcomes_of acknowledged dead).buried k ≡ o → not (a || o) ≡ b
open_of acknowledged dead k b is a o in_a in_o = sym (ap₂ (λ x y. not (x || y)) in_a in_o) ∙ is

not_acknowledged : (acknowledged : set.FinSet nat_cmp) (dead : List ℕ) (k : ℕ) → set.contains acknowledged k ≡ false → with_buried k (outcomes_of acknowledged dead) ≡ outcomes_of acknowledged (dead ++ k ∷ [])
not_acknowledged acknowledged dead k out =
    ap (λ (s : set.FinSet nat_cmp). let o : Outcomes = record { places = acknowledged; buried = s } in o)
    (sym (set.from_list_push nat_cmp_total exact_unsigned (filter (λ place. not (set.contains acknowledged place)) dead) k)
    ∙ ap set.from_list (sym (filter-append (λ place. not (set.contains acknowledged place)) dead (k ∷ []) ∙ ap (λ b. filter (λ place. not (set.contains acknowledged place)) dead ++ cond (not b) (k ∷ []) []) out)))

-- a dead message that was not closed is buried
pub one_more_buried : (acknowledged : set.FinSet nat_cmp) (dead : List ℕ) (k : ℕ) → is_open (outcomes_of acknowledged dead) k ≡ true → with_buried k (outcomes_of acknowledged dead) ≡ outcomes_of acknowledged (dead ++ k ∷ [])
one_more_buried acknowledged dead k open_there = by (set.contains acknowledged k) refl
  where
    by : (b : Bool) → set.contains acknowledged k ≡ b → with_buried k (outcomes_of acknowledged dead) ≡ outcomes_of acknowledged (dead ++ k ∷ [])
    by true there = absurd (false≢true (open_of acknowledged dead k true open_there true (set.contains (outcomes_of acknowledged dead).buried k) there refl))
    by false out = not_acknowledged acknowledged dead k out

-- one that was closed changes nothing
pub none_more_buried : (acknowledged : set.FinSet nat_cmp) (dead : List ℕ) (k : ℕ) → is_open (outcomes_of acknowledged dead) k ≡ false → outcomes_of acknowledged dead ≡ outcomes_of acknowledged (dead ++ k ∷ [])
none_more_buried acknowledged dead k closed_there = by (set.contains acknowledged k) refl
  where
    by : (b : Bool) → set.contains acknowledged k ≡ b → outcomes_of acknowledged dead ≡ outcomes_of acknowledged (dead ++ k ∷ [])
    by true there =
        ap (λ (ks : List ℕ). let o : Outcomes = record { places = acknowledged; buried = set.from_list ks } in o)
        (sym (filter-append (λ place. not (set.contains acknowledged place)) dead (k ∷ []) ∙ ap (λ b. filter (λ place. not (set.contains acknowledged place)) dead ++ cond (not b) (k ∷ []) []) there ∙ append-nil (filter (λ place. not (set.contains acknowledged place)) dead)))
    by false out =
        ap (λ (s : set.FinSet nat_cmp). let o : Outcomes = record { places = acknowledged; buried = s } in o) (already_in (outcomes_of acknowledged dead).buried k (it_is (set.contains (outcomes_of acknowledged dead).buried k) refl))
        ∙ not_acknowledged acknowledged dead k out
      where
        it_is : (o : Bool) → set.contains (outcomes_of acknowledged dead).buried k ≡ o → set.contains (outcomes_of acknowledged dead).buried k ≡ true
        it_is true is = is
        it_is false is = absurd (true≢false (open_of acknowledged dead k false closed_there false false out is))

-- so far as a loop has come
pub buried_so_far : (acknowledged : set.FinSet nat_cmp) (dead : List ℕ) (i : ℕ) (before after : Outcomes) → i < length dead → before ≡ outcomes_of acknowledged (take i dead) → is_open before (get_or dead i 0) ≡ true → after ≡ with_buried (get_or dead i 0) before → after ≡ outcomes_of acknowledged (take (i + 1) dead)
buried_so_far acknowledged dead i before after low was open_there is =
    is ∙ ap (λ (o : Outcomes). with_buried (get_or dead i 0) o) was
    ∙ one_more_buried acknowledged (take i dead) (get_or dead i 0) (subst (λ (o : Outcomes). is_open o (get_or dead i 0) ≡ true) was open_there)
    ∙ ap (outcomes_of acknowledged) (sym (take_more dead i 0 low))

pub same_so_far : (acknowledged : set.FinSet nat_cmp) (dead : List ℕ) (i : ℕ) (before : Outcomes) → i < length dead → before ≡ outcomes_of acknowledged (take i dead) → is_open before (get_or dead i 0) ≡ false → before ≡ outcomes_of acknowledged (take (i + 1) dead)
same_so_far acknowledged dead i before low was closed_there =
    was
    ∙ none_more_buried acknowledged (take i dead) (get_or dead i 0) (subst (λ (o : Outcomes). is_open o (get_or dead i 0) ≡ false) was closed_there)
    ∙ ap (outcomes_of acknowledged) (sym (take_more dead i 0 low))

-- ---- a subscription is sought

not_below : (end : ℕ) → ◌≡◌ {A = ℕ → Bool} (λ place. not (set.contains (below end) place)) (λ place. nat_le end place)
not_below end i place = (ap not (contains_below end place) ∙ not_less place end) i
  where
    not_less : (a b : ℕ) → not (ltb a b) ≡ nat_le b a
    not_less a b = grind (arith, nat_tests)

pub went_on : (closed : Outcomes) (now : Pending) (end : ℕ) (dead : List ℕ) → closed ≡ outcomes_of (below end) dead → now ≡ nothing_pending → ◌≡◌ {A = GoesOn} (record { places = closed.places; buried = closed.buried; pending = now }) (going_on end dead)
went_on closed now end dead closed_is now_is =
    ap (λ (o : Outcomes). let y : GoesOn = record { places = o.places; buried = o.buried; pending = now } in y) closed_is
    ∙ ap (λ (f : ℕ → Bool). let y : GoesOn = record { places = below end; buried = set.from_list (filter f dead); pending = now } in y) (not_below end)
    ∙ ap (λ (n : Pending). let y : GoesOn = record (going_on end dead) { pending = n } in y) now_is
