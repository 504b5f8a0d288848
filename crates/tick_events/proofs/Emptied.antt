-- What the members of a subscription were sent is pending there.
use Rattle.std.proofs.Common.{◌≡◌, ℕ, List, [], ◌∷◌, map, Some, Option, Bool, true, false, cond, All, get_or, refl, ap, ap₂, ◌∙◌, sym}
use Rattle.std.specs.Prelude.{is_some, not, IsTrue}
use Rattle.std.specs.List.{Contains, find}
use Rattle.std.specs.Option.{option_map_or}
use Rattle.std.specs.FinMap as map_of
use Rattle.std.proofs.lemmas.List.Elements.{All-head, All-tail}
use Rattle.position_core.specs.declared.position.Position.{Position}
use Rattle.delivery_machine.specs.State.{State, Member, Subscription}
use Rattle.delivery_machine.specs.Words.{emptied_at, is_at, is_held_at, is_held_by, is_named}
use Rattle.delivery_machine.specs.Acknowledging.{forgetting, is_one_of, without}
use Rattle.delivery_machine.specs.WellFormed.{IsSentWell, IsWellFormed}
use Rattle.delivery_machine.specs.declared.delivery.Delivery.{Delivery}
use Rattle.delivery_machine.proofs.Behind.{same_name}
use Rattle.topic_parts.proofs.Held.{holder_is}

-- where all copies are of the positions, none is left
nothing_left : (ps : List Position) (out : List Delivery) → All (λ (d : Delivery). is_one_of ps d.message.position ≡ true) out → without ps out ≡ []
nothing_left ps [] all = refl
nothing_left ps (d ∷ out) all =
    ap (λ b. cond (not b) (d ∷ without ps out) (without ps out)) (All-head (λ (d : Delivery). is_one_of ps d.message.position ≡ true) d out all)
    ∙ nothing_left ps out (All-tail (λ (d : Delivery). is_one_of ps d.message.position ≡ true) d out all)

module _ (s : State) (name : List ℕ) (sub : Subscription) (ps : List Position) (named : find (is_named name) s.subscriptions ≡ Some sub)
    (all : (q : Position) → map_of.contains_key sub.pending q ≡ true → is_one_of ps q ≡ true)
  where
    sent_pending : (m : Member) (out : List Delivery) → m.subscription ≡ name → All (λ (d : Delivery). Contains s.log d.message × IsTrue (is_held_at s m.subscription m.number d.message.position)) out → All (λ (d : Delivery). is_one_of ps d.message.position ≡ true) out
    sent_pending m out at sent k d low =
        let held = (sent k d low).1 in
        all _ (ap is_some (holder_is m.number _
        (sym (ap (λ (n : List ℕ). is_held_at s n m.number (get_or out k d).message.position) at
        ∙ ap (λ (o : Option Subscription). option_map_or (λ (x : Subscription). is_held_by m.number (map_of.get x.pending (get_or out k d).message.position)) o false) named)
        ∙ held)).1)

    emptied_one : (m : Member) → IsSentWell s m → emptied_at name m ≡ forgetting name ps m
    emptied_one m sent = by (is_at name m) refl
      where
        by : (b : Bool) → is_at name m ≡ b → emptied_at name m ≡ forgetting name ps m
        by true at =
            ap (λ b. cond b (record m { out = [] }) m) at
            ∙ ap (λ (out : List Delivery). record m { out = out }) (sym (nothing_left ps m.out (sent_pending m m.out (same_name m.subscription name at) sent)))
            ∙ sym (ap (λ b. cond b (record m { out = without ps m.out }) m) at)
        by false elsewhere = ap (λ b. cond b (record m { out = [] }) m) elsewhere ∙ sym (ap (λ b. cond b (record m { out = without ps m.out }) m) elsewhere)

    all_emptied : (ms : List Member) → All (IsSentWell s) ms → map (emptied_at name) ms ≡ map (forgetting name ps) ms
    all_emptied [] sent = refl
    all_emptied (m ∷ ms) sent = ap₂ (λ (x : Member) (xs : List Member). x ∷ xs) (emptied_one m (All-head (IsSentWell s) m ms sent)) (all_emptied ms (All-tail (IsSentWell s) m ms sent))

    -- nothing is left to collect of those positions, and of no others
    pub emptied_forgets : IsWellFormed s → map (emptied_at name) s.members ≡ map (forgetting name ps) s.members
    emptied_forgets well = all_emptied s.members well.sent
