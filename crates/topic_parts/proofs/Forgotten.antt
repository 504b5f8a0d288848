-- What members were sent of a message: the one that holds it may have a copy, and no other.
use Rattle.std.proofs.Common.{◌≡◌, ◌≢◌, ℕ, zero, suc, ◌<◌, List, [], ◌∷◌, map, length, Some, None, Option, Bool, true, false, cond, get_or, set, refl, ap, ap₂, ◌∙◌, sym, subst, arith, Contains, true≢false}
use Rattle.std.specs.Prelude.{not, ◌==◌, IsTrue}
use Rattle.std.specs.List.{filter, find, position}
use Rattle.std.specs.Option.{option_map_or}
use Rattle.std.specs.FinMap as map_of
use Rattle.std.proofs.lemmas.List.{get_or_default}
use Rattle.std.proofs.lemmas.List.Elements.{All-contains}
use Rattle.std.proofs.lemmas.List.Folds.{Any-from_list_any}
use Rattle.std.proofs.lemmas.List.Quantifiers.{position-Some}
use Rattle.position_core.specs.declared.position.Position.{Position}
use Rattle.position_core.specs.declared.held.Held.{Held}
use Rattle.delivery_machine.specs.State.{State, Member, Subscription}
use Rattle.delivery_machine.specs.Words.{is_at, is_member, is_named, is_held_at, is_held_by, members_of}
use Rattle.delivery_machine.specs.Acknowledging.{is_one_of, without, forgetting}
use Rattle.delivery_machine.specs.WellFormed.{IsSentWell, IsWellFormed, IsWellFormedIn}
use Rattle.delivery_machine.specs.declared.delivery.Delivery.{Delivery}
use Rattle.delivery_machine.proofs.Behind.{same_name}
use Rattle.delivery_machine.proofs.Deciding.{number_is}
use Rattle.delivery_machine.proofs.Firsts.{filter_contained, found_contained, found_passes}
use Rattle.delivery_machine.proofs.Passes.{passes}
use Rattle.delivery_machine.proofs.Messages.{one_of_itself}
use Rattle.topic_members.specs.Members.{NumbersRise, leaving_out}
use Rattle.topic_members.proofs.Halving.{found}

-- ---- lists

pub filter_all : {A : Type 0} (p : A → Bool) (xs : List A) → ((x : A) → Contains xs x → p x ≡ true) → filter p xs ≡ xs
filter_all p [] all = refl
filter_all p (x ∷ xs) all =
    ap (λ b. cond b (x ∷ filter p xs) (filter p xs)) (all x (0, omega arith, refl))
    ∙ ap (λ ys. x ∷ ys) (filter_all p xs (λ y at. all y (suc at.0, omega (arith, at.1), at.2)))

pub map_none : {A : Type 0} (f : A → A) (xs : List A) (d : A) → ((k : ℕ) → k < length xs → f (get_or xs k d) ≡ get_or xs k d) → map f xs ≡ xs
map_none f [] d stays = refl
map_none f (x ∷ xs) d stays = ap₂ (λ y ys. y ∷ ys) (stays 0 (omega arith)) (map_none f xs d (λ k low. stays (suc k) (omega arith)))

pub map_one : {A : Type 0} (f : A → A) (xs : List A) (i : ℕ) (d : A) → i < length xs → ((k : ℕ) → k < length xs → k ≢ i → f (get_or xs k d) ≡ get_or xs k d) → map f xs ≡ set xs i (f (get_or xs i d))
map_one f [] i d low stays = absurd (omega arith)
map_one f (x ∷ xs) zero d low stays = ap (λ ys. f x ∷ ys) (map_none f xs d (λ k low. stays (suc k) (omega arith) (λ e. absurd (omega (arith, e)))))
map_one f (x ∷ xs) (suc i) d low stays =
    ap₂ (λ y ys. y ∷ ys) (stays 0 (omega arith) (λ e. absurd (omega (arith, e))))
    (map_one f xs i d (omega arith) (λ k low apart. stays (suc k) (omega arith) (λ e. apart (omega (arith, e)))))

-- ---- members

-- the number that is found of a name is held in the subscription
module _ (s : State) (well : IsWellFormed s) (name : List ℕ) (sub : Subscription) (named : find (is_named name) s.subscriptions ≡ Some sub) (p : Position) where
  -- a member at which the message is not pending has no copy of it
  stays : (m : Member) → Contains s.members m → is_held_by m.number (map_of.get sub.pending p) ≡ false → forgetting name (p ∷ []) m ≡ m
  stays m there other = by (is_at name m) refl
    where
      keeps : Delivery → Bool
      keeps d = not (is_one_of (p ∷ []) d.message.position)

      kept : m.subscription ≡ name → (d : Delivery) → Contains m.out d → keeps d ≡ true
      kept at d out = by (is_one_of (p ∷ []) d.message.position) refl
        where
          held : option_map_or (λ (z : Subscription). is_held_by m.number (map_of.get z.pending d.message.position)) (find (is_named m.subscription) s.subscriptions) false ≡ true
          held =
              let sent : IsSentWell s m = All-contains (IsSentWell s) s.members m well.sent there in
              let one = All-contains (λ (x : Delivery). Contains s.log x.message × IsTrue (is_held_at s m.subscription m.number x.message.position)) m.out d sent out in
              one.1

          held_here : is_held_by m.number (map_of.get sub.pending d.message.position) ≡ true
          held_here = sym (ap (λ (o : Option Subscription). option_map_or (λ (z : Subscription). is_held_by m.number (map_of.get z.pending d.message.position)) o false) (ap (λ (n : List ℕ). find (is_named n) s.subscriptions) at ∙ named)) ∙ held

          by : (b : Bool) → is_one_of (p ∷ []) d.message.position ≡ b → not (is_one_of (p ∷ []) d.message.position) ≡ true
          by true same =
              absurd (true≢false (sym held_here ∙ ap (λ (q : Position). is_held_by m.number (map_of.get sub.pending q)) (sym (one_of_itself p d.message.position same)) ∙ other))
          by false differ = ap not differ

      by : (b : Bool) → is_at name m ≡ b → forgetting name (p ∷ []) m ≡ m
      by true at =
          ap (λ b. cond b (record m { out = without (p ∷ []) m.out }) m) at
          ∙ ap (λ (out : List Delivery). record m { out = out }) (filter_all keeps m.out (kept (same_name m.subscription name at)))
      by false elsewhere = ap (λ b. cond b (record m { out = without (p ∷ []) m.out }) m) elsewhere

  pub forgotten_nowhere : map_of.get sub.pending p ≡ None → map (forgetting name (p ∷ [])) s.members ≡ s.members
  forgotten_nowhere free = by s.members refl
    where
      by : (ms : List Member) → ms ≡ s.members → map (forgetting name (p ∷ [])) s.members ≡ s.members
      by [] e = subst (λ (xs : List Member). map (forgetting name (p ∷ [])) xs ≡ xs) e refl
      by (m ∷ ms) e = map_none (forgetting name (p ∷ [])) s.members m (λ k low. stays (get_or s.members k m) (k, low, refl_at k low) (ap (is_held_by (get_or s.members k m).number) free))
        where
          refl_at : (k : ℕ) → k < length s.members → get_or s.members k (get_or s.members k m) ≡ get_or s.members k m
          refl_at k low = get_or_default s.members k (get_or s.members k m) m low

  pub forgotten_at : (held : Held) (seat : ℕ) (m : Member) → map_of.get sub.pending p ≡ Some held → Some seat ≡ position (is_member held.consumer) s.members → m ≡ get_or s.members seat m → NumbersRise s.members
      → map (forgetting name (p ∷ [])) s.members ≡ set s.members seat (leaving_out (p ∷ []) m)
  forgotten_at held seat m is there here rising =
      map_one (forgetting name (p ∷ [])) s.members seat m low (λ k low apart. stays (get_or s.members k m) (k, low, get_or_default s.members k (get_or s.members k m) m low) (other k low apart))
      ∙ ap (set s.members seat) (ap (forgetting name (p ∷ [])) (sym here) ∙ ap (λ b. cond b (record m { out = without (p ∷ []) m.out }) m) at_it)
    where
      at : (seat < length s.members) × (is_member held.consumer (get_or s.members seat m) ≡ true) × ((k : ℕ) → k < seat → is_member held.consumer (get_or s.members k m) ≡ false)
      at = position-Some (is_member held.consumer) s.members seat m (sym there)

      low : seat < length s.members
      low = at.0

      number : m.number ≡ held.consumer
      number = ap (λ (x : Member). x.number) here ∙ number_is (get_or s.members seat m).number held.consumer at.1

      one_place : (k : ℕ) → k < length s.members → (get_or s.members k m).number ≡ held.consumer → k ≡ seat
      one_place k within same = some_is (found s.members held.consumer k (get_or s.members k m) rising within (sym (get_or_default s.members k (get_or s.members k m) m within)) same ∙ sym there)
        where
          some_is : Some k ≡ Some seat → k ≡ seat
          some_is e = cc

      other : (k : ℕ) → k < length s.members → k ≢ seat → is_held_by (get_or s.members k m).number (map_of.get sub.pending p) ≡ false
      other k within apart = ap (is_held_by (get_or s.members k m).number) is ∙ by (held.consumer == (get_or s.members k m).number) refl
        where
          by : (b : Bool) → (held.consumer == (get_or s.members k m).number) ≡ b → (held.consumer == (get_or s.members k m).number) ≡ false
          by true same = absurd (apart (one_place k within (sym (number_is held.consumer (get_or s.members k m).number same))))
          by false differ = differ

      -- the one that holds it is at the subscription
      at_it : is_at name m ≡ true
      at_it =
          let formed : IsWellFormedIn s sub = All-contains (IsWellFormedIn s) s.subscriptions sub well.subscriptions (found_contained (is_named name) s.subscriptions sub named) in
          let any = Any-from_list_any (is_member held.consumer) (members_of s sub.name) (formed.pending p held is).member in
          let among : Contains (members_of s sub.name) any.1 = (any.0, any.2, any.3) in
          let there_is : Contains s.members any.1 = filter_contained (is_at sub.name) s.members any.1 among in
          let its_number : any.1.number ≡ held.consumer = number_is any.1.number held.consumer any.4 in
          let its_place : there_is.0 ≡ seat = one_place there_is.0 there_is.1 (ap (λ (x : Member). x.number) (get_or_default s.members there_is.0 m any.1 there_is.1 ∙ there_is.2) ∙ its_number) in
          let it : any.1 ≡ m = sym there_is.2 ∙ get_or_default s.members there_is.0 any.1 m there_is.1 ∙ ap (λ (k : ℕ). get_or s.members k m) its_place ∙ sym here in
          let name_is : sub.name ≡ name = same_name sub.name name (found_passes (is_named name) s.subscriptions sub named) in
          ap (λ (n : List ℕ). is_at n m) (sym name_is) ∙ ap (is_at sub.name) (sym it) ∙ passes (is_at sub.name) s.members any.1 among
