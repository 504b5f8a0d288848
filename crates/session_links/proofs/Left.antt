-- Messages that are left of a subscription, found one after the other without a step for those that are acknowledged.
use Rattle.std.proofs.Common.{◌≡◌, ℕ, zero, suc, ◌+◌, ◌-◌, ◌<◌, ◌≤◌, Bool, true, false, cond, List, [], ◌∷◌, ◌++◌, map, take, drop, Option, Some, None, slice_get, refl, ap, ◌∙◌, sym, subst, append_assoc, append-nil, arith}
use Rattle.std.specs.Prelude.{not, ◌&&◌}
use Rattle.std.specs.FinSet as set
use Rattle.std.proofs.lemmas.List.{drop-drop}
use Rattle.ack_ranges.specs.Ranges.{IsNextMissing}
use Rattle.position_core.specs.declared.message.Entry.{Entry}
use Rattle.delivery_machine.specs.Places.{KeptPlaces}
use Rattle.delivery_machine.specs.declared.delivery.Delivery.{Delivery}
use Rattle.session_links.specs.Looking.{delivered, is_dead, is_left, left_from, next_from}

-- ---- lists

nothing : {A : Type 0} (q : ℕ) → (let xs : List A = [] in drop q xs ≡ xs)
nothing zero = refl
nothing (suc q) = refl

beyond : {A : Type 0} (q n : ℕ) (xs : List A) → n ≤ q → drop q (take n xs) ≡ []
beyond q zero xs le = nothing q
beyond zero (suc n) xs le = absurd (omega (arith, le))
beyond (suc q) (suc n) [] le = refl
beyond (suc q) (suc n) (x ∷ xs) le = beyond q n xs (omega (arith, le))

past : {A : Type 0} (q n : ℕ) (xs : List A) → slice_get xs q ≡ None → drop q (take n xs) ≡ []
past q zero xs none = nothing q
past zero (suc n) [] none = refl
past (suc q) (suc n) [] none = refl
past zero (suc n) (x ∷ xs) none = absurd (cc (none))
past (suc q) (suc n) (x ∷ xs) none = past q n xs none

at_front : {A : Type 0} (q n : ℕ) (xs : List A) (x : A) → q < n → slice_get xs q ≡ Some x → drop q (take n xs) ≡ x ∷ drop (suc q) (take n xs)
at_front q zero xs x low at = absurd (omega (arith, low))
at_front zero (suc n) [] x low at = absurd (cc (at))
at_front (suc q) (suc n) [] x low at = absurd (cc (at))
at_front zero (suc n) (y ∷ ys) x low at = let is : y ≡ x = cc (at) in ap (λ z. z ∷ take n ys) is
at_front (suc q) (suc n) (y ∷ ys) x low at = at_front q n ys x (omega (arith, low)) at

-- ---- what is left

-- a message that is acknowledged, and one that is dead, is not left
away : (b c d : Bool) → not b && not c ≡ d → b ≡ true → d ≡ false
away true c d is inside = sym is
away false c d is inside = absurd (cc (inside))

skipped : (kept : KeptPlaces) (n p q : ℕ) (ys : List Entry) → q ≡ p + n → ((k : ℕ) → p ≤ k → k < q → set.contains kept.acknowledged k ≡ true) → left_from kept p ys ≡ left_from kept q (drop n ys)
skipped kept zero p q ys is all = let e : p ≡ q = omega (arith, is) in ap (λ m. left_from kept m ys) e
skipped kept (suc n) p q [] is all = refl
skipped kept (suc n) p q (y ∷ ys) is all =
    let out = away (set.contains kept.acknowledged p) (is_dead kept y.position) (is_left kept p y) refl (all p (omega arith) (omega (arith, is))) in
    ap (λ b. cond b (y ∷ left_from kept (suc p) ys) (left_from kept (suc p) ys)) out
    ∙ skipped kept n (suc p) q ys (omega (arith, is)) (λ k low high. all k (omega (arith, low)) high)

-- those that are left from a place on are those from the next one on that is not acknowledged
to_next : (kept : KeptPlaces) (messages : List Entry) (p q : ℕ) → IsNextMissing kept.acknowledged p q → left_from kept p (drop p messages) ≡ left_from kept q (drop q messages)
to_next kept messages p q next =
    let n : ℕ = q - p in
    let is : q ≡ p + n = omega (arith, next.from) in
    skipped kept n p q (drop p messages) is next.before
    ∙ ap (left_from kept q) (drop-drop n p messages ∙ ap (λ m. drop m messages) (sym is))

not_dead : (kept : KeptPlaces) (q : ℕ) (e : Entry) → set.contains kept.acknowledged q ≡ false → is_dead kept e.position ≡ false → is_left kept q e ≡ true
not_dead kept q e missing lives = ap (λ b. not b && not (is_dead kept e.position)) missing ∙ ap (λ b. true && not b) lives

dead : (kept : KeptPlaces) (q : ℕ) (e : Entry) → set.contains kept.acknowledged q ≡ false → is_dead kept e.position ≡ true → is_left kept q e ≡ false
dead kept q e missing dies = ap (λ b. not b && not (is_dead kept e.position)) missing ∙ ap (λ b. true && not b) dies

none_left : (kept : KeptPlaces) (q count : ℕ) → next_from kept q count [] ≡ []
none_left kept q zero = refl
none_left kept q (suc count) = refl

-- ---- what is shown so far

-- what is shown, and what is shown of the messages from the place on, so many, is what is to be shown
pub record IsSoFar (kept : KeptPlaces) (messages : List Entry) (whole shown : List Delivery) (place left : ℕ) : Type 0 where
  pub is : shown ++ next_from kept place left (drop place messages) ≡ whole

pub begins : (kept : KeptPlaces) (messages : List Entry) (count : ℕ) (start : List Delivery) → IsSoFar kept messages (start ++ next_from kept 0 count messages) start 0 count
begins kept messages count start = record { is = refl }

-- the place moves on to the next message that is not acknowledged
moved : (kept : KeptPlaces) (messages : List Entry) (whole shown : List Delivery) (p q left : ℕ) → IsNextMissing kept.acknowledged p q → IsSoFar kept messages whole shown p left → IsSoFar kept messages whole shown q left
moved kept messages whole shown p q left next far =
    record { is = ap (λ es. shown ++ map (delivered kept) (take left es)) (sym (to_next kept messages p q next)) ∙ far.is }

-- no message is left
all_shown : (kept : KeptPlaces) (messages : List Entry) (whole shown : List Delivery) (q left : ℕ) → drop q messages ≡ [] → IsSoFar kept messages whole shown q left → shown ≡ whole
all_shown kept messages whole shown q left none far =
    sym (append-nil shown) ∙ ap (λ ds. shown ++ ds) (sym (ap (next_from kept q left) none ∙ none_left kept q left)) ∙ far.is

pub ends_beyond : (kept : KeptPlaces) (log : List Entry) (n : ℕ) (whole shown : List Delivery) (p q left : ℕ) → IsNextMissing kept.acknowledged p q → n ≤ q → IsSoFar kept (take n log) whole shown p left → shown ≡ whole
ends_beyond kept log n whole shown p q left next le far = all_shown kept (take n log) whole shown q left (beyond q n log le) (moved kept (take n log) whole shown p q left next far)

pub ends_past : (kept : KeptPlaces) (log : List Entry) (n : ℕ) (whole shown : List Delivery) (p q left : ℕ) → IsNextMissing kept.acknowledged p q → slice_get log q ≡ None → IsSoFar kept (take n log) whole shown p left
    → shown ≡ whole
ends_past kept log n whole shown p q left next none far = all_shown kept (take n log) whole shown q left (past q n log none) (moved kept (take n log) whole shown p q left next far)

pub ends_full : (kept : KeptPlaces) (messages : List Entry) (whole shown : List Delivery) (place left : ℕ) → left ≤ 0 → IsSoFar kept messages whole shown place left → shown ≡ whole
ends_full kept messages whole shown place zero none far = sym (append-nil shown) ∙ far.is
ends_full kept messages whole shown place (suc left) none far = absurd (omega (arith, none))

-- a dead message is passed over
pub passes : (kept : KeptPlaces) (log : List Entry) (n : ℕ) (whole shown : List Delivery) (p q r left : ℕ) (e : Entry) → r ≡ q + 1 → IsNextMissing kept.acknowledged p q → q < n → slice_get log q ≡ Some e → is_dead kept e.position ≡ true
    → IsSoFar kept (take n log) whole shown p left → IsSoFar kept (take n log) whole shown r left
passes kept log n whole shown p q r left e after next low at dies far =
    let messages : List Entry = take n log in
    let here = moved kept messages whole shown p q left next far in
    let front : drop q messages ≡ e ∷ drop (suc q) messages = at_front q n log e low at in
    let out : left_from kept q (drop q messages) ≡ left_from kept (suc q) (drop (suc q) messages) =
    ap (left_from kept q) front
    ∙ ap (λ b. cond b (e ∷ left_from kept (suc q) (drop (suc q) messages)) (left_from kept (suc q) (drop (suc q) messages))) (dead kept q e next.missing dies)
    in
    let is : suc q ≡ r = omega (arith, after) in
    subst (λ m. IsSoFar kept messages whole shown m left) is (record { is = ap (λ es. shown ++ map (delivered kept) (take left es)) (sym out) ∙ here.is })

-- a live one is shown
pub adds : (kept : KeptPlaces) (log : List Entry) (n : ℕ) (whole shown : List Delivery) (p q r left fewer : ℕ) (e : Entry) → r ≡ q + 1 → left ≡ fewer + 1 → IsNextMissing kept.acknowledged p q → q < n → slice_get log q ≡ Some e
    → is_dead kept e.position ≡ false → IsSoFar kept (take n log) whole shown p left → IsSoFar kept (take n log) whole (shown ++ delivered kept e ∷ []) r fewer
adds kept log n whole shown p q r left fewer e after less next low at lives far =
    let messages : List Entry = take n log in
    let more : left ≡ suc fewer = omega (arith, less) in
    let here = subst (λ m. IsSoFar kept messages whole shown q m) more (moved kept messages whole shown p q left next far) in
    let front : drop q messages ≡ e ∷ drop (suc q) messages = at_front q n log e low at in
    let out : left_from kept q (drop q messages) ≡ e ∷ left_from kept (suc q) (drop (suc q) messages) =
    ap (left_from kept q) front
    ∙ ap (λ b. cond b (e ∷ left_from kept (suc q) (drop (suc q) messages)) (left_from kept (suc q) (drop (suc q) messages))) (not_dead kept q e next.missing lives)
    in
    let is : suc q ≡ r = omega (arith, after) in
    subst (λ m. IsSoFar kept messages whole (shown ++ delivered kept e ∷ []) m fewer) is (record {
      is = append_assoc shown (delivered kept e ∷ []) (next_from kept (suc q) fewer (drop (suc q) messages)) ∙ (ap (λ es. shown ++ map (delivered kept) (take (suc fewer) es)) (sym out) ∙ here.is);
    })

pub nothing_if : {A : Type 0} (o : Option A) → ((x : A) → o ≡ Some x → ⊥) → o ≡ None
nothing_if None not = refl
nothing_if (Some x) not = absurd (not x refl)
