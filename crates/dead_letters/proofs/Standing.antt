-- Copies that stand among messages: each once, in the order of dying.
use Rattle.std.proofs.Common.{◌≡◌, ℕ, ◌<◌, ◌≤◌, List, [], ◌∷◌, ◌++◌, map, length, take, Some, Bool, true, false, cond, refl, ap, ap₂, ◌∙◌, sym, subst, arith}
use Rattle.std.specs.Prelude.{ℤ, ◌^◌, ◌&&◌}
use Rattle.std.specs.List.{AllByRecursion, find, filter}
use Rattle.std.specs.Option.{option_map}
use Rattle.std.specs.List.Sorted.{IsStrictlyIncreasing, IsStrictlySortedBy}
use Rattle.std.specs.Ordering.{nat_cmp}
use Rattle.std.specs.declared.cmp.Ordering.TheVariants.{Less}
use Rattle.std.proofs.lemmas.Bool.Decides.{nat_tests}
use Rattle.std.proofs.lemmas.Map.Keys.{IsStrictlyIncreasing-from_sorted}
use mathlib.Core.List.{IsPrefix}
use Rattle.std.proofs.lemmas.List.{length-map}
use Rattle.std.proofs.lemmas.List.Elements.{All-from_recursion}
use Rattle.position_core.specs.declared.message.Entry.{Entry}
use Rattle.delivery_machine.specs.State.{DeadLetter}
use Rattle.delivery_machine.specs.Words.{has_position}
use Rattle.dead_letters.specs.declared.route.Route.{Route}
use Rattle.dead_letters.specs.Moving.{sequence_of}
use Rattle.dead_letters.specs.Laws.{is_from, same_sequence, StandsOnce, AreMoved}
use Rattle.dead_letters.proofs.Fronts.{front_mapped, front_shorter, front_of_taken, all_front, all_weaker}
use Rattle.dead_letters.proofs.Tags.{Tag, AreKnown, Rise, rise_front, letter_tag, copy_tag, letter_tags, copy_tags, there_found}
use Rattle.dead_letters.proofs.Sequences.{one_sequence, other_sequence, other_sequence_after}
use Rattle.dead_letters.proofs.TargetSteps.{copies}
use Rattle.dead_letters.proofs.Copying.{sequences}

-- ---- lists

filtered_twice : {A : Type 0} (p q : A → Bool) (xs : List A) → filter (λ x. p x && q x) xs ≡ filter q (filter p xs)
filtered_twice p q [] = refl
filtered_twice {A} p q (x ∷ xs) = by (p x) (filtered_twice p q xs)
  where
    by : (b : Bool) → filter (λ y. p y && q y) xs ≡ filter q (filter p xs) → cond (b && q x) (x ∷ filter (λ y. p y && q y) xs) (filter (λ y. p y && q y) xs) ≡ filter q (cond b (x ∷ filter p xs) (filter p xs))
    by true e = ap (λ (ys : List A). cond (q x) (x ∷ ys) ys) e
    by false e = e

-- what begins a list of images is the list of images of what begins it
front_of_map : {A B : Type 0} (f : A → B) (xs : List B) (ys : List A) → IsPrefix xs (map f ys) → xs ≡ map f (take (length xs) ys)
front_of_map f [] ys front = refl
front_of_map f (x ∷ xs) [] front = absurd (let e = front.1 in cc)
front_of_map {A} {B} f (x ∷ xs) (y ∷ ys) front =
    let e = front.1 in
    let same : x ≡ f y = cc in
    let tails : xs ++ front.0 ≡ map f ys = cc in
    ap₂ (λ (a : B) (rest : List B). a ∷ rest) same (front_of_map f xs ys (front.0, tails))

all_both : {A : Type 0} (P Q R : A → Type 0) (xs : List A) → ((x : A) → P x → Q x → R x) → AllByRecursion P xs → AllByRecursion Q xs → AllByRecursion R xs
all_both P Q R [] f a b = tt
all_both P Q R (x ∷ xs) f a b = (f x a.0 b.0, all_both P Q R xs f a.1 b.1)

-- ---- each once

abbrev same_number : ℕ → Entry → Bool
same_number ordinal e = same_sequence e.sequence (sequence_of ordinal)

abbrev Once : List Entry → List Entry → DeadLetter → Type 0
Once source log d =
    (copy : Entry) × (died : Entry) × (filter (same_number d.ordinal) log ≡ copy ∷ [])
    × (find (has_position d.position) source ≡ Some died) × (copy.body ≡ died.body)

heads : (source : List Entry) (e : Entry) (es : List Entry) (d : DeadLetter) (ds : List DeadLetter) → copy_tags (e ∷ es) ≡ letter_tags source (d ∷ ds) → (copy_tag e ≡ letter_tag source d) × (copy_tags es ≡ letter_tags source ds)
heads source e es d ds is = (let i = is in cc, let i = is in cc)

-- none of the later ones has the number
none_same : (source : List Entry) (es : List Entry) (ds : List DeadLetter) (ordinal : ℕ) → copy_tags es ≡ letter_tags source ds → AllByRecursion (λ (d : DeadLetter). ordinal < d.ordinal) ds → AllByRecursion (λ (d : DeadLetter). d.ordinal ≤ 2 ^ 62) ds → filter (same_number ordinal) es ≡ []
none_same source [] ds ordinal is above room = refl
none_same source (e ∷ es) [] ordinal is above room = absurd (let i = is in cc)
none_same source (e ∷ es) (d ∷ ds) ordinal is above room =
    let parts = heads source e es d ds is in
    let own : e.sequence ≡ sequence_of d.ordinal = ap (λ (t : Tag). t.0) parts.0 in
    let fails : same_number ordinal e ≡ false = ap (λ (z : ℤ). same_sequence z (sequence_of ordinal)) own ∙ other_sequence_after ordinal d.ordinal above.0 room.0 in
    ap (λ (b : Bool). cond b (e ∷ filter (same_number ordinal) es) (filter (same_number ordinal) es)) fails ∙ none_same source es ds ordinal parts.1 above.1 room.1

all_once : (source : List Entry) (es : List Entry) (ds : List DeadLetter) → copy_tags es ≡ letter_tags source ds → Rise ds → AllByRecursion (λ (d : DeadLetter). d.ordinal ≤ 2 ^ 62) ds → AreKnown source ds → AllByRecursion (Once source es) ds
all_once source es [] is rise room known = tt
all_once source [] (d ∷ ds) is rise room known = absurd (let i = is in cc)
all_once source (e ∷ es) (d ∷ ds) is rise room known = (
  first,
  all_both (λ (x : DeadLetter). (d.ordinal < x.ordinal) × (x.ordinal ≤ 2 ^ 62)) (Once source es) (Once source (e ∷ es)) ds later
      (all_both (λ (x : DeadLetter). d.ordinal < x.ordinal) (λ (x : DeadLetter). x.ordinal ≤ 2 ^ 62) (λ (x : DeadLetter). (d.ordinal < x.ordinal) × (x.ordinal ≤ 2 ^ 62)) ds (λ x a b. (a, b)) rise.0 room.1)
      (all_once source es ds (heads source e es d ds is).1 rise.1 room.1 known.1),
)
  where
    parts : (copy_tag e ≡ letter_tag source d) × (copy_tags es ≡ letter_tags source ds)
    parts = heads source e es d ds is

    own : e.sequence ≡ sequence_of d.ordinal
    own = ap (λ (t : Tag). t.0) parts.0

    passes : same_number d.ordinal e ≡ true
    passes = ap (λ (z : ℤ). same_sequence z (sequence_of d.ordinal)) own ∙ one_sequence d.ordinal

    first : Once source (e ∷ es) d
    first =
        let at = there_found (has_position d.position) source known.0 in
        let bodies : Some e.body ≡ Some (at.0).body = ap (λ (t : Tag). t.1) parts.0 ∙ ap (λ o. option_map (λ (x : Entry). x.body) o) at.1 in (
          e,
          at.0,
          ap (λ (b : Bool). cond b (e ∷ filter (same_number d.ordinal) es) (filter (same_number d.ordinal) es)) passes ∙ ap (λ (xs : List Entry). e ∷ xs) (none_same source es ds d.ordinal parts.1 rise.0 room.1),
          at.1,
          let b = bodies in cc,
        )

    later : (x : DeadLetter) → (d.ordinal < x.ordinal) × (x.ordinal ≤ 2 ^ 62) → Once source es x → Once source (e ∷ es) x
    later x above once =
        let fails : same_number x.ordinal e ≡ false = ap (λ (z : ℤ). same_sequence z (sequence_of x.ordinal)) own ∙ other_sequence d.ordinal x.ordinal above.0 above.1 in
        (once.0, once.1, ap (λ (b : Bool). cond b (e ∷ filter (same_number x.ordinal) es) (filter (same_number x.ordinal) es)) fails ∙ once.2, once.3, once.4)

-- ---- among all messages

rise_increasing : (ds : List DeadLetter) → Rise ds → IsStrictlyIncreasing (map (λ (d : DeadLetter). d.ordinal) ds)
unfolding IsStrictlySortedBy
rise_increasing ds rise = IsStrictlyIncreasing-from_sorted (map (λ (d : DeadLetter). d.ordinal) ds) (sorted ds rise)
  where
    below_is : (a b : ℕ) → a < b → nat_cmp a b ≡ Less
    below_is a b low = grind (arith, nat_tests)

    less : (a : ℕ) (xs : List DeadLetter) → AllByRecursion (λ (x : DeadLetter). a < x.ordinal) xs → AllByRecursion (λ k. nat_cmp a k ≡ Less) (map (λ (d : DeadLetter). d.ordinal) xs)
    less a [] all = tt
    less a (x ∷ xs) all = (below_is a x.ordinal all.0, less a xs all.1)

    sorted : (xs : List DeadLetter) → Rise xs → IsStrictlySortedBy nat_cmp (map (λ (d : DeadLetter). d.ordinal) xs)
    sorted [] rise = tt
    sorted (x ∷ xs) rise = (less x.ordinal xs rise.0, sorted xs rise.1)

-- where the copies are of the first of some deaths, and of as many as went there
pub are_moved : (route : Route) (source log : List Entry) (moved all : List DeadLetter) → IsPrefix (copy_tags (copies route.name log)) (letter_tags source all) → IsPrefix moved all → length moved ≤ length (copies route.name log)
    → Rise all → AllByRecursion (λ (d : DeadLetter). d.ordinal ≤ 2 ^ 62) all → AreKnown source all → AreMoved route source log moved
are_moved route source log moved all begins front low rise room known = record {
  once = All-from_recursion (StandsOnce route source log) moved (all_front (StandsOnce route source log) moved within.0 (subst (AllByRecursion (StandsOnce route source log)) (sym within.1) each));
  dying = rise_increasing moved (rise_front moved front.0 (subst Rise (sym front.1) rise));
  ordered = subst (IsPrefix (map (λ (d : DeadLetter). sequence_of d.ordinal) moved)) (sym numbers) (front_mapped (λ (d : DeadLetter). sequence_of d.ordinal) moved first within);
}
  where
    es : List Entry
    es = copies route.name log

    first : List DeadLetter
    first = take (length (copy_tags (copies route.name log))) all

    tags : copy_tags (copies route.name log) ≡ letter_tags source first
    tags = front_of_map (letter_tag source) (copy_tags (copies route.name log)) all begins

    begin : IsPrefix first all
    begin = front_of_taken (length (copy_tags (copies route.name log))) all

    size : length first ≡ length (copies route.name log)
    size = sym (length-map first (letter_tag source)) ∙ sym (ap length tags) ∙ length-map (copies route.name log) copy_tag

    within : IsPrefix moved first
    within = front_shorter moved first all front begin (let s = size in omega arith)

    of_log : (d : DeadLetter) → Once source (copies route.name log) d → StandsOnce route source log d
    of_log d once = (once.0, once.1, filtered_twice (is_from route.name) (same_number d.ordinal) log ∙ once.2, once.3, once.4)

    each : AllByRecursion (StandsOnce route source log) first
    each =
        all_weaker (Once source (copies route.name log)) (StandsOnce route source log) first of_log
        (all_once source (copies route.name log) first tags (rise_front first begin.0 (subst Rise (sym begin.1) rise))
        (all_front _ first begin.0 (subst (AllByRecursion (λ (d : DeadLetter). d.ordinal ≤ 2 ^ 62)) (sym begin.1) room))
        (all_front _ first begin.0 (subst (AreKnown source) (sym begin.1) known)))

    firsts : (ds : List DeadLetter) → map (λ (t : Tag). t.0) (letter_tags source ds) ≡ map (λ (d : DeadLetter). sequence_of d.ordinal) ds
    firsts [] = refl
    firsts (d ∷ ds) = ap (λ (zs : List ℤ). sequence_of d.ordinal ∷ zs) (firsts ds)

    numbers : map (λ (e : Entry). e.sequence) (filter (is_from route.name) log) ≡ map (λ (d : DeadLetter). sequence_of d.ordinal) first
    numbers = sequences (copies route.name log) ∙ ap (map (λ (t : Tag). t.0)) tags ∙ firsts first
