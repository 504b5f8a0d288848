-- The messages up to one are the first ones.
use Rattle.std.proofs.Common.{◌≡◌, ℕ, ◌+◌, ◌<◌, ◌≤◌, zero, suc, List, [], ◌∷◌, map, take, Some, None, Option, Bool, true, false, cond, slice_get, refl, ap, ap₂, ◌∙◌, sym, subst, arith, inl, inr}
use Rattle.std.specs.Prelude.{nat_lt, not, if◌then◌else◌, IsSomeAnd}
use Rattle.std.specs.List.{filter, find, list_any}
use Rattle.std.specs.Ordering.{is_le}
use Rattle.std.specs.declared.cmp.Ordering.{Ordering}
use Rattle.std.specs.declared.cmp.Ordering.TheVariants.{Less, Equal, Greater}
use Rattle.std.proofs.lemmas.Bool.{cases_lt}
use Rattle.std.proofs.lemmas.Bool.Decides.{nat_tests}
use Rattle.position_core.specs.declared.position.Position.{Position}
use Rattle.position_core.specs.declared.message.Entry.{Entry}
use Rattle.position_core.specs.Position.{position_cmp, positions_total}
use Rattle.std.specs.Ordering.{ordering_reverse}
use Rattle.log_pieces.specs.Pieces.{index_of}
use Rattle.position_core.specs.declared.fault.Fault.TheVariants.{NotCumulative, NoSuchMessage}
use Rattle.delivery_machine.specs.State.{State, Member}
use Rattle.delivery_machine.specs.Words.{has_position, is_in_order_at, is_member, visible}
use Rattle.delivery_machine.specs.Refusals.{acking_up_to_refused}
use Rattle.delivery_machine.specs.Run.{Answers}
use Rattle.delivery_machine.specs.declared.event.Event.TheVariants.{AckUpTo}
use Rattle.delivery_machine.specs.declared.reply.Reply.TheVariants.{Done}
use Rattle.delivery_machine.specs.Acknowledging.{positions_up_to, with_acknowledged}
use Rattle.topic_subscriptions.specs.Placed.{IsRising}
use Rattle.topic_subscriptions.proofs.Links.{earlier}
use Rattle.topic_parts.proofs.Acknowledged.{stands}
use Rattle.topic_served.specs.Firsts.{firsts}

none_below : (k : ℕ) → nat_lt k 0 ≡ false
none_below k = grind (arith, nat_tests)

first_below : (n : ℕ) → nat_lt 0 (suc n) ≡ true
first_below n = grind (arith, nat_tests)

next_below : (k n : ℕ) → nat_lt (suc k) (suc n) ≡ nat_lt k n
next_below k n = grind (arith, nat_tests)

filter_first : {A : Type 0} (p : A → Bool) (n : ℕ) (xs : List A) → ((k : ℕ) (x : A) → slice_get xs k ≡ Some x → p x ≡ nat_lt k n) → filter p xs ≡ take n xs
filter_first p zero [] is = refl
filter_first p (suc n) [] is = refl
filter_first p zero (x ∷ xs) is =
    ap (λ b. cond b (x ∷ filter p xs) (filter p xs)) (is 0 x refl ∙ none_below 0)
    ∙ filter_first p zero xs (λ k y at. is (suc k) y at ∙ none_below (suc k) ∙ sym (none_below k))
filter_first p (suc n) (x ∷ xs) is =
    ap (λ b. cond b (x ∷ filter p xs) (filter p xs)) (is 0 x refl ∙ first_below n)
    ∙ ap (λ ys. x ∷ ys) (filter_first p n xs (λ k y at. is (suc k) y at ∙ next_below k n))

some_is : (a b : Entry) → ◌≡◌ {A = Option Entry} (Some a) (Some b) → a ≡ b
some_is a b e = cc

lt_of : (k n : ℕ) → k < n → nat_lt k n ≡ true
lt_of k n low = grind (arith, nat_tests)

not_lt_of : (k n : ℕ) → n ≤ k → nat_lt k n ≡ false
not_lt_of k n high = grind (arith, nat_tests)

itself : (r : Ordering) → r ≡ ordering_reverse r → is_le r ≡ true
itself Less same = refl
itself Equal same = refl
itself Greater same = cc

pub up_to_firsts : (log : List Entry) (q : Position) (i : ℕ) → IsRising log → index_of q log ≡ Some i → positions_up_to q log ≡ firsts (i + 1) log
up_to_firsts log q i rising is = ap (λ (es : List Entry). map (λ (e : Entry). e.position) es) (filter_first (λ (e : Entry). is_le (position_cmp e.position q)) (i + 1) log by)
  where
    at : (e : Entry) × (slice_get log i ≡ Some e) × (e.position ≡ q)
    at = stands log q i is

    by : (k : ℕ) (x : Entry) → slice_get log k ≡ Some x → is_le (position_cmp x.position q) ≡ nat_lt k (i + 1)
    by k x there = elim (cases_lt k i) [
      | inl before ↦ ap (λ (p : Position). is_le (position_cmp x.position p)) (sym at.2) ∙ ap is_le (earlier log k i x at.0 rising before there at.1) ∙ sym (lt_of k (i + 1) (omega (arith, before)))
      | inr not_before ↦ elim (cases_lt i k) [
        | inl after ↦
            ap (λ (p : Position). is_le (position_cmp x.position p)) (sym at.2)
            ∙ ap is_le (positions_total.antisymm x.position at.0.position ∙ ap (λ (r : Ordering). ordering_reverse r) (earlier log i k at.0 x rising after at.1 there))
            ∙ sym (not_lt_of k (i + 1) (omega (arith, after)))
        | inr not_after ↦
            let same : k ≡ i = omega (arith, not_before, not_after) in
            let x_is : x ≡ at.0 = some_is x at.0 (sym there ∙ ap (λ (j : ℕ). slice_get log j) same ∙ at.1) in
            ap (λ (p : Position). is_le (position_cmp p q)) (ap (λ (e : Entry). e.position) x_is ∙ at.2)
            ∙ itself (position_cmp q q) (positions_total.antisymm q q)
            ∙ sym (lt_of k (i + 1) (omega (arith, same)))
      ]
    ]

-- a consumer that acknowledges all up to a message is answered so
pub up_to_answers : (s t : State) (consumer : ℕ) (q : Position) (m : Member) → find (is_member consumer) s.members ≡ Some m → is_in_order_at s m.subscription ≡ true → list_any (has_position q) (visible s) ≡ true
    → t ≡ with_acknowledged s m.subscription (positions_up_to q s.log) → Answers s (AckUpTo consumer q) Done t
up_to_answers s t consumer q m there ordered seen is = (allowed, (refl, taken))
  where
    allowed : acking_up_to_refused s q (find (is_member consumer) s.members) ≡ None
    allowed =
        ap (acking_up_to_refused s q) there
        ∙ ap₂ (λ (a b : Bool). if not a then Some NotCumulative else if not b then Some NoSuchMessage else None) ordered seen

    taken : IsSomeAnd (find (is_member consumer) s.members) (λ x. t ≡ with_acknowledged s x.subscription (positions_up_to q s.log))
    taken = subst (λ (o : Option Member). IsSomeAnd o (λ x. t ≡ with_acknowledged s x.subscription (positions_up_to q s.log))) (sym there) is
