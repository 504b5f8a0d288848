-- What is kept by places in a log, as the positions of the messages that stand there.
use Rattle.std.proofs.Common.{◌≡◌, ℕ, zero, suc, ◌+◌, ◌<◌, List, [], ◌∷◌, ◌++◌, map, length, take, Some, Option, Bool, true, false, cond, get_or, refl, ap, ap₂, ◌∙◌, sym, subst, arith, add-zero, inl, inr, Contains, true≢false}
use Rattle.std.specs.Prelude.{◌||◌, slice_get, ltb}
use Rattle.std.specs.List.{list_any}
use Rattle.std.specs.Ordering.{nat_cmp, eq_by_cmp, is_eq, ordering_reverse}
use Rattle.std.specs.declared.cmp.Ordering.{Ordering}
use Rattle.std.specs.declared.cmp.Ordering.TheVariants.{Less, Greater}
use Rattle.std.specs.Cmp.{nat_cmp_total}
use Rattle.std.specs.FinSet as set
use Rattle.std.proofs.lemmas.Bool.{cases_lt}
use Rattle.std.proofs.lemmas.Bool.Decides.{nat_tests}
use Rattle.std.proofs.lemmas.Grind.{common_steps}
use Rattle.std.proofs.lemmas.List.{length-map}
use Rattle.std.proofs.lemmas.Map.Keys.{Less-from_sorted}
use Rattle.std.proofs.lemmas.Option.{slice_get_within, slice_get-get_or, get_or_from_slice_get}
use Rattle.std.proofs.Math.ListN.{get_or-map}
use Rattle.position_core.specs.declared.position.Position.{Position}
use Rattle.position_core.specs.declared.message.Entry.{Entry}
use Rattle.position_core.specs.Position.{position_cmp, same_position, positions_total, exact_positions}
use Rattle.delivery_machine.specs.Places.{AreBelow, positions_from, positions_at}
use Rattle.delivery_machine.specs.Acknowledging.{is_one_of}
use Rattle.delivery_machine.specs.WellFormed.{AreMessagesOf, has_message}
use Rattle.delivery_machine.proofs.Messages.{position_itself, message_there, has_there, one_listed}
use Rattle.delivery_machine.proofs.Tended.{position_is}
use Rattle.delivery_machine.proofs.Sending.{taken_contained}
use Rattle.ack_ranges.specs.Ranges.{below}
use Rattle.ack_ranges.proofs.Covers.{contains_below}
use Rattle.topic_subscriptions.specs.Placed.{IsRising}

-- ---- positions by their places

-- earlier in the log is less
pub earlier : (log : List Entry) (i j : ℕ) (d e : Entry) → IsRising log → i < j → slice_get log i ≡ Some d → slice_get log j ≡ Some e → position_cmp d.position e.position ≡ Less
earlier log i j d e rising low at_i at_j =
    let f : Entry → Position = λ e. e.position in
    let a : get_or (map f log) i d.position ≡ d.position = get_or-map f log i d ∙ ap f (get_or_from_slice_get log i d d at_i) in
    let b : get_or (map f log) j d.position ≡ e.position = get_or-map f log j d ∙ ap f (get_or_from_slice_get log j e d at_j) in
    let less = Less-from_sorted position_cmp (map f log) i j d.position rising low (omega (arith, length-map log f, slice_get_within log j e at_j)) in
    sym (ap₂ (λ p q. position_cmp p q) a b) ∙ less

later : (p q : Position) → position_cmp p q ≡ Less → position_cmp q p ≡ Greater
later p q less = positions_total.antisymm q p ∙ ap (λ (r : Ordering). ordering_reverse r) less

less_apart : (p q : Position) → position_cmp p q ≡ Less → same_position p q ≡ false
less_apart p q less = ap (λ (r : Ordering). is_eq r) less

greater_apart : (p q : Position) → position_cmp p q ≡ Less → same_position q p ≡ false
greater_apart p q less = ap (λ (r : Ordering). is_eq r) (later p q less)

one_there : (log : List Entry) (i : ℕ) (d e : Entry) → slice_get log i ≡ Some d → slice_get log i ≡ Some e → d ≡ e
one_there log i d e at_d at_e = some_is d e (sym at_d ∙ at_e)
  where
    some_is : (d e : Entry) → ◌≡◌ {A = Option Entry} (Some d) (Some e) → d ≡ e
    some_is d e is = cc

-- whether two places are one
pub eq_of_less : (i j : ℕ) → i < j → eq_by_cmp nat_cmp i j ≡ false
eq_of_less i j low = grind (arith, common_steps)

eq_of_greater : (i j : ℕ) → j < i → eq_by_cmp nat_cmp i j ≡ false
eq_of_greater i j low = grind (arith, common_steps)

eq_itself : (i : ℕ) → eq_by_cmp nat_cmp i i ≡ true
eq_itself i = grind (arith, common_steps)

-- two messages have one position exactly where their places are one
pub same_places : (log : List Entry) (i j : ℕ) (d e : Entry) → IsRising log → slice_get log i ≡ Some d → slice_get log j ≡ Some e → same_position d.position e.position ≡ eq_by_cmp nat_cmp i j
same_places log i j d e rising at_i at_j = elim (cases_lt i j) [
  | inl before ↦ less_apart d.position e.position (earlier log i j d e rising before at_i at_j) ∙ sym (eq_of_less i j before)
  | inr not_before ↦ elim (cases_lt j i) [
    | inl after ↦ greater_apart e.position d.position (earlier log j i e d rising after at_j at_i) ∙ sym (eq_of_greater i j after)
    | inr not_after ↦
        let is : i ≡ j = omega arith in
        let both : d ≡ e = one_there log j d e (subst (λ (k : ℕ). slice_get log k ≡ Some d) is at_i) at_j in
        ap (λ (x : Entry). same_position x.position e.position) both ∙ position_itself e.position ∙ sym (ap (λ (k : ℕ). eq_by_cmp nat_cmp k j) is ∙ eq_itself j)
  ]
]

-- ---- the positions at places

any_cond : (q : Position) (o : Bool) (x : Position) (ps : List Position) → same_position q x ≡ false → list_any (same_position q) (cond o (x ∷ ps) ps) ≡ list_any (same_position q) ps
any_cond q true x ps apart = ap (λ b. b || list_any (same_position q) ps) apart
any_cond q false x ps apart = refl

-- a position that no message of the log has
pub no_position : (q : Position) (k : ℕ) (p : ℕ → Bool) (log : List Entry) → ((j : ℕ) (e : Entry) → slice_get log j ≡ Some e → same_position q e.position ≡ false) → list_any (same_position q) (positions_from k p log) ≡ false
no_position q k p [] none = refl
no_position q k p (e ∷ log) none = any_cond q (p k) e.position (positions_from (suc k) p log) (none 0 e refl) ∙ no_position q (suc k) p log (λ j d at. none (suc j) d at)

any_here : (q : Position) (o : Bool) (x : Position) (ps : List Position) → same_position q x ≡ true → list_any (same_position q) ps ≡ false → list_any (same_position q) (cond o (x ∷ ps) ps) ≡ o
any_here q true x ps same rest = ap (λ b. b || list_any (same_position q) ps) same
any_here q false x ps same rest = rest

position_at : (q : Position) (k : ℕ) (p : ℕ → Bool) (log : List Entry) (i : ℕ) (e : Entry) → slice_get log i ≡ Some e → e.position ≡ q → ((j : ℕ) (d : Entry) → slice_get log j ≡ Some d → same_position q d.position ≡ eq_by_cmp nat_cmp i j) → list_any (same_position q) (positions_from k p log) ≡ p (k + i)
position_at q k p [] i e at is alone = cc
position_at q k p (x ∷ log) zero e at is alone =
    any_here q (p k) x.position (positions_from (suc k) p log) (alone 0 x refl ∙ eq_itself 0)
    (no_position q (suc k) p log (λ j d at. alone (suc j) d at ∙ eq_of_less 0 (suc j) (omega arith)))
    ∙ ap p (sym (add-zero k))
position_at q k p (x ∷ log) (suc i) e at is alone =
    any_cond q (p k) x.position (positions_from (suc k) p log) (alone 0 x refl ∙ eq_of_greater (suc i) 0 (omega arith))
    ∙ position_at q (suc k) p log i e at is (λ j d at. alone (suc j) d at ∙ eq_next i j)
    ∙ ap p (omega arith)
  where
    eq_next : (i j : ℕ) → eq_by_cmp nat_cmp (suc i) (suc j) ≡ eq_by_cmp nat_cmp i j
    eq_next i j = grind (arith, common_steps)

-- whether the message at a place is of the set
pub contains_at : (log : List Entry) (places : set.FinSet nat_cmp) (i : ℕ) (e : Entry) → IsRising log → slice_get log i ≡ Some e → set.contains (positions_at log places) e.position ≡ set.contains places i
contains_at log places i e rising at =
    set.contains-from_list positions_total (positions_from 0 (set.contains places) log) e.position
    ∙ position_at e.position 0 (set.contains places) log i e at refl (λ j d there. same_places log i j e d rising at there)
    ∙ ap (λ (n : ℕ). set.contains places n) (omega arith)

-- a position of the log, or of none of its messages
pub at_place : (log : List Entry) (q : Position) → has_message log q ≡ true → (i : ℕ) × (e : Entry) × (slice_get log i ≡ Some e) × (e.position ≡ q)
at_place log q there =
    let at = message_there log q there in
    (at.1.0, at.0, slice_get-get_or log at.1.0 at.0 at.1.1 ∙ ap (λ (x : Entry). Some x) at.1.2, at.2)

there_at : (log : List Entry) (i : ℕ) (e : Entry) → slice_get log i ≡ Some e → has_message log e.position ≡ true
there_at log i e at = has_there log e.position (e, (i, slice_get_within log i e at, get_or_from_slice_get log i e e at), refl)

pub positions_of_log : (log : List Entry) (places : set.FinSet nat_cmp) → AreMessagesOf log (positions_at log places)
positions_of_log log places q inside = by (has_message log q) refl
  where
    none : has_message log q ≡ false → (j : ℕ) (e : Entry) → slice_get log j ≡ Some e → same_position q e.position ≡ false
    none nowhere j e at = by_test (same_position q e.position) refl
      where
        by_test : (b : Bool) → same_position q e.position ≡ b → same_position q e.position ≡ false
        by_test true same = absurd (true≢false (sym (there_at log j e at) ∙ ap (has_message log) (sym (position_is q e.position same)) ∙ nowhere))
        by_test false differ = differ

    by : (b : Bool) → has_message log q ≡ b → has_message log q ≡ true
    by true there = there
    by false nowhere = absurd (true≢false (sym inside ∙ set.contains-from_list positions_total (positions_from 0 (set.contains places) log) q ∙ no_position q 0 (set.contains places) log (none nowhere)))

-- two sets of positions of the log are one where they have the same messages
pub same_positions : (log : List Entry) (s t : set.FinSet position_cmp) → AreMessagesOf log s → AreMessagesOf log t → ((i : ℕ) (e : Entry) → slice_get log i ≡ Some e → set.contains s e.position ≡ set.contains t e.position) → s ≡ t
same_positions log s t of_s of_t alike = set.same_set positions_total exact_positions s t (λ q. by q (has_message log q) refl)
  where
    outside : (u : set.FinSet position_cmp) → AreMessagesOf log u → (q : Position) → has_message log q ≡ false → (b : Bool) → set.contains u q ≡ b → set.contains u q ≡ false
    outside u of_u q nowhere true inside = absurd (true≢false (sym (of_u q inside) ∙ nowhere))
    outside u of_u q nowhere false out = out

    by : (q : Position) (b : Bool) → has_message log q ≡ b → set.contains s q ≡ set.contains t q
    by q true there =
        let at = at_place log q there in
        subst (λ (p : Position). set.contains s p ≡ set.contains t p) at.3 (alike at.0 at.1 at.2)
    by q false nowhere = outside s of_s q nowhere (set.contains s q) refl ∙ sym (outside t of_t q nowhere (set.contains t q) refl)

both_of_log : (log : List Entry) (s : set.FinSet position_cmp) (ps : List Position) → AreMessagesOf log s → ((q : Position) → is_one_of ps q ≡ true → has_message log q ≡ true) → AreMessagesOf log (set.union s (set.from_list ps))
both_of_log log s ps of_s of_ps q inside = by (set.contains s q) refl
  where
    split : set.contains (set.union s (set.from_list ps)) q ≡ (set.contains s q || is_one_of ps q)
    split = set.contains-union positions_total s (set.from_list ps) q ∙ ap (λ b. set.contains s q || b) (set.contains-from_list positions_total ps q)

    by : (b : Bool) → set.contains s q ≡ b → has_message log q ≡ true
    by true in_s = of_s q in_s
    by false out = of_ps q (sym (split ∙ ap (λ b. b || is_one_of ps q) out) ∙ inside)

-- ---- a place more

pub one_acknowledged : (log : List Entry) (places : set.FinSet nat_cmp) (i : ℕ) (e : Entry) → IsRising log → slice_get log i ≡ Some e → positions_at log (set.insert places i) ≡ set.union (positions_at log places) (set.from_list {R = position_cmp} (e.position ∷ []))
one_acknowledged log places i e rising at =
    same_positions log _ _ (positions_of_log log (set.insert places i))
    (both_of_log log (positions_at log places) (e.position ∷ []) (positions_of_log log places) of_one) alike
  where
    of_one : (q : Position) → is_one_of (e.position ∷ []) q ≡ true → has_message log q ≡ true
    of_one q is = subst (λ (p : Position). has_message log p ≡ true) (sym (position_is q e.position (or_none (same_position q e.position) is))) (there_at log i e at)
      where
        or_none : (b : Bool) → (b || false) ≡ true → b ≡ true
        or_none true is = refl
        or_none false is = is

    alike : (j : ℕ) (d : Entry) → slice_get log j ≡ Some d → set.contains (positions_at log (set.insert places i)) d.position ≡ set.contains (set.union (positions_at log places) (set.from_list {R = position_cmp} (e.position ∷ []))) d.position
    alike j d there =
        contains_at log (set.insert places i) j d rising there
        ∙ set.contains-insert nat_cmp_total places i j
        ∙ ap (λ b. b || set.contains places j) (sym (same_places log j i d e rising there at))
        ∙ swapped (same_position d.position e.position) (set.contains places j)
        ∙ ap (λ b. b || (same_position d.position e.position || false)) (sym (contains_at log places j d rising there))
        ∙ sym (set.contains-union positions_total (positions_at log places) (set.from_list {R = position_cmp} (e.position ∷ [])) d.position ∙ ap (λ b. set.contains (positions_at log places) d.position || b) (set.contains-from_list positions_total (e.position ∷ []) d.position))
      where
        swapped : (a b : Bool) → (a || b) ≡ (b || (a || false))
        swapped true true = refl
        swapped true false = refl
        swapped false true = refl
        swapped false false = refl

-- ---- the first places

-- whether a message of the log is among the first
pub is_first : (q : Position) (n : ℕ) (log : List Entry) (i : ℕ) (e : Entry) → slice_get log i ≡ Some e → e.position ≡ q → ((j : ℕ) (d : Entry) → slice_get log j ≡ Some d → same_position q d.position ≡ eq_by_cmp nat_cmp i j) → is_one_of (map (λ (e : Entry). e.position) (take n log)) q ≡ ltb i n
is_first q zero log i e at is alone = none_first i
  where
    none_first : (i : ℕ) → false ≡ ltb i 0
    none_first i = grind (arith, nat_tests)
is_first q (suc n) [] i e at is alone = cc
is_first q (suc n) (x ∷ log) zero e at is alone = ap (λ b. b || is_one_of (map (λ (e : Entry). e.position) (take n log)) q) (alone 0 x refl ∙ eq_itself 0) ∙ zero_first n
  where
    zero_first : (n : ℕ) → true ≡ ltb 0 (suc n)
    zero_first n = grind (arith, nat_tests)
is_first q (suc n) (x ∷ log) (suc i) e at is alone =
    ap (λ b. b || is_one_of (map (λ (e : Entry). e.position) (take n log)) q) (alone 0 x refl ∙ eq_of_greater (suc i) 0 (omega arith))
    ∙ is_first q n log i e at is (λ j d at. alone (suc j) d at ∙ eq_next i j)
    ∙ less_next i n
  where
    less_next : (i n : ℕ) → ltb i n ≡ ltb (suc i) (suc n)
    less_next i n = grind (arith, nat_tests)

    eq_next : (i j : ℕ) → eq_by_cmp nat_cmp (suc i) (suc j) ≡ eq_by_cmp nat_cmp i j
    eq_next i j = grind (arith, common_steps)

taken_in : {A : Type 0} (n : ℕ) (xs : List A) (x : A) → Contains (take n xs) x → Contains xs x
taken_in n xs x at = taken_contained n xs x at

pub first_acknowledged : (log : List Entry) (n : ℕ) → IsRising log → positions_at log (below n) ≡ set.from_list {R = position_cmp} (map (λ (e : Entry). e.position) (take n log))
first_acknowledged log n rising =
    same_positions log _ _ (positions_of_log log (below n)) of_first alike
  where
    of_first : AreMessagesOf log (set.from_list {R = position_cmp} (map (λ (e : Entry). e.position) (take n log)))
    of_first q inside = one_listed (take n log) log q (λ e at. taken_in n log e at) (sym (set.contains-from_list positions_total (map (λ (e : Entry). e.position) (take n log)) q) ∙ inside)

    alike : (j : ℕ) (d : Entry) → slice_get log j ≡ Some d → set.contains (positions_at log (below n)) d.position ≡ set.contains (set.from_list {R = position_cmp} (map (λ (e : Entry). e.position) (take n log))) d.position
    alike j d there =
        contains_at log (below n) j d rising there ∙ contains_below n j
        ∙ sym (set.contains-from_list positions_total (map (λ (e : Entry). e.position) (take n log)) d.position ∙ is_first d.position n log j d there refl (λ k e at. same_places log j k d e rising there at))

-- ---- what comes later

pub positions_before : (k : ℕ) (p : ℕ → Bool) (log : List Entry) (e : Entry) → p (k + length log) ≡ false → positions_from k p (log ++ e ∷ []) ≡ positions_from k p log
positions_before k p [] e out = ap (λ b. cond b (e.position ∷ []) []) (ap p (sym (add-zero k)) ∙ out)
positions_before k p (x ∷ log) e out =
    ap (λ ps. cond (p k) (x.position ∷ ps) ps) (positions_before (suc k) p log e (ap p (omega arith) ∙ out))

pub positions_stay : (log : List Entry) (e : Entry) (places : set.FinSet nat_cmp) → AreBelow (length log) places → positions_at (log ++ e ∷ []) places ≡ positions_at log places
positions_stay log e places within = ap (λ (ps : List Position). set.from_list {R = position_cmp} ps) (positions_before 0 (set.contains places) log e (out (set.contains places (length log)) refl))
  where
    out : (b : Bool) → set.contains places (length log) ≡ b → set.contains places (0 + length log) ≡ false
    out true inside = absurd (let low = within (length log) inside in omega (arith, low))
    out false is = ap (λ (n : ℕ). set.contains places n) (omega arith) ∙ is
