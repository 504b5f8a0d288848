-- What a change of the parts means to the dispatchers.
use Rattle.std.proofs.Common.{◌≡◌, ℕ, ◌<◌, List, [], ◌∷◌, Bool, set, arith, length, Some, Option, refl, ap, ◌∙◌, sym, subst, subst₂, get_or, slice_get}
use Rattle.std.specs.List.{position}
use Rattle.std.specs.Option.{option_map}
use Rattle.std.proofs.lemmas.List.{get_or_default, length-map}
use Rattle.std.proofs.lemmas.List.Quantifiers.{position-Some}
use Rattle.std.proofs.lemmas.Option.{slice_get-map, slice_get-get_or, slice_get_within}
use Rattle.position_core.specs.declared.position.Position.{Position}
use Rattle.delivery_machine.specs.State.{State, Subscription}
use Rattle.delivery_machine.specs.Words.{is_named}
use Rattle.log_pieces.specs.Pieces.{index_of}
use Rattle.topic_served.specs.declared.dispatch.Dispatch.{Dispatch}
use Rattle.dispatch_core.specs.Changes.{AgreesAfter}
use Rattle.topic_served.specs.Agreeing.{agrees}
use Rattle.topic_served.specs.Told.{AreTold, IsToldAt}
use Rattle.topic_served.specs.Happening.{HappensAt}
use Rattle.topic_served.proofs.Agreed.{told_of}
use Rattle.topic_served.proofs.Touching.{IsAbout}
use Rattle.topic_subscriptions.specs.Placed.{IsRising, Placed, is_placed, sub_in}
use Rattle.topic_parts.specs.Parts.{log_of, state_of}
use Rattle.topic_parts.specs.declared.parts.Parts.{Parts}
use Rattle.topic_parts.proofs.Mapped.{position_mapped}

-- the subscription at a place
pub at_place : (t : Parts) (place : ℕ) (x : Placed) → Some x ≡ slice_get t.subscriptions.items place → slice_get (state_of t).subscriptions place ≡ Some (sub_in (log_of t) x)
at_place t place x at = slice_get-map (sub_in (log_of t)) t.subscriptions.items place ∙ ap (option_map (sub_in (log_of t))) (sym at)

pub named_place : (t : Parts) (name : List ℕ) (place : ℕ) → Some place ≡ position (is_placed name) t.subscriptions.items → position (is_named name) (state_of t).subscriptions ≡ Some place
named_place t name place there = position_mapped (sub_in (log_of t)) (is_placed name) (is_named name) (λ _. refl) t.subscriptions.items ∙ sym there

-- one stands there
pub place_within : {A : Type 0} (p : A → Bool) (xs : List A) (i : ℕ) → Some i ≡ position p xs → i < length xs
place_within p [] i is = cc
place_within p (x ∷ xs) i is = (position-Some p (x ∷ xs) i x (sym is)).0

pub one_stands : {A : Type 0} (p : A → Bool) (xs : List A) (i : ℕ) → Some i ≡ position p xs → (x : A) × (Some x ≡ slice_get xs i) × (x ≡ get_or xs i x)
one_stands p [] i is = cc
one_stands p (x ∷ xs) i is =
    let low = place_within p (x ∷ xs) i is in
    (get_or (x ∷ xs) i x, sym (slice_get-get_or (x ∷ xs) i x low), get_or_default (x ∷ xs) i x (get_or (x ∷ xs) i x) low)

-- what changes, as the dispatcher is told of it
pub told_change : (ds after : List Dispatch) (old new : Parts) (t : State) (i : ℕ) (Changes : State → Subscription → State → Subscription → Type 0) (sub changed : Subscription) (v : Placed)
    → AreTold ds (state_of old) → HappensAt i Changes (state_of old) sub t changed → state_of new ≡ t
    → Some v ≡ slice_get new.subscriptions.items i → IsToldAt i Changes ds after (state_of new) (sub_in (log_of new) v) → AreTold after (state_of new)
told_change ds after old new t i Changes sub changed v were happens is at told =
    told_of ds after (state_of old) (state_of new) i Changes sub (sub_in (log_of new) v) were
    (subst₂ (λ (u : State) (c : Subscription). HappensAt i Changes (state_of old) sub u c) (sym is) same happens) told
  where
    some_is : (a b : Subscription) → ◌≡◌ {A = Option Subscription} (Some a) (Some b) → a ≡ b
    some_is a b e = cc

    same : changed ≡ sub_in (log_of new) v
    same = some_is changed (sub_in (log_of new) v) (sym happens.is ∙ ap (λ (u : State). slice_get u.subscriptions i) (sym is) ∙ at_place new i v at)

-- the same, as code tells the one at a place of a list
pub told_there : (ds : List Dispatch) (old new seen : Parts) (t : State) (i : ℕ) (Changes : State → Subscription → State → Subscription → Type 0) (sub changed : Subscription) (v : Placed) (d told : Dispatch)
    → AreTold ds (state_of old) → HappensAt i Changes (state_of old) sub t changed → state_of new ≡ t
    → seen ≡ new → Some v ≡ slice_get new.subscriptions.items i → d ≡ get_or ds i d
    → AgreesAfter Changes (agrees d) (agrees told) (state_of seen) (sub_in (log_of seen) v) → AreTold (set ds i told) (state_of new)
told_there ds old new seen t i Changes sub changed v d told were happens is same at here agreeing =
    told_change ds (set ds i told) old new t i Changes sub changed v were happens is at (record {
      old = d;
      told = told;
      was = slice_get-get_or ds i d low ∙ ap (λ (x : Dispatch). Some x) (sym here);
      is = refl;
      agreeing = subst (λ (p : Parts). AgreesAfter Changes (agrees d) (agrees told) (state_of p) (sub_in (log_of p) v)) same agreeing;
    })
  where
    low : i < length ds
    low = omega (arith, were.many, slice_get_within (state_of old).subscriptions i sub happens.was)

pub are_told_within : (ds : List Dispatch) (t : Parts) (name : List ℕ) (place : ℕ) → AreTold ds (state_of t) → Some place ≡ position (is_placed name) t.subscriptions.items → place < length ds
are_told_within ds t name place were there = omega (arith, were.many, length-map t.subscriptions.items (sub_in (log_of t)), place_within (is_placed name) t.subscriptions.items place there)

-- where a message of the log stands, for one of the subscriptions
pub about : (t : Parts) (name : List ℕ) (place : ℕ) (x : Placed) (q : Position) (k : ℕ) → IsRising (log_of t) → Some place ≡ position (is_placed name) t.subscriptions.items → Some x ≡ slice_get t.subscriptions.items place
    → index_of q (log_of t) ≡ Some k → IsAbout (state_of t) name place (sub_in (log_of t) x) q k
about t name place x q k rising there at stands = record {
  rising = rising;
  place = named_place t name place there;
  was = at_place t place x at;
  stands = stands;
}

-- where no subscription is
pub nobody_told : (ds : List Dispatch) (t : Parts) → ds ≡ [] → (state_of t).subscriptions ≡ [] → AreTold ds (state_of t)
nobody_told ds t none nobody = record {
  many = ap length none ∙ sym (ap length nobody);
  each = λ i d sub at here. absurd (nothing_there i d (sym (ap (λ (xs : List Dispatch). slice_get xs i) none) ∙ at));
}
  where
    nothing_there : (i : ℕ) (d : Dispatch) → slice_get [] i ≡ Some d → ⊥
    nothing_there i d is = cc
