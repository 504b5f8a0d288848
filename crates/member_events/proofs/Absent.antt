-- A subscription that is not there has no members.
use Rattle.std.proofs.Common.{◌≡◌, ℕ, List, [], ◌∷◌, None, Bool, true, false, cond, All, refl, ap, ◌∙◌, sym, true≢false}
use Rattle.std.specs.Prelude.{is_some, IsTrue}
use Rattle.std.specs.List.{filter, find, position}
use Rattle.std.proofs.lemmas.List.Elements.{All-head, All-tail}
use Rattle.delivery_machine.specs.State.{State, Member, Subscription}
use Rattle.delivery_machine.specs.Words.{is_at, is_named, members_of}
use Rattle.delivery_machine.specs.WellFormed.{IsWellFormed}
use Rattle.delivery_machine.proofs.Behind.{same_name}
use Rattle.delivery_machine.proofs.Places.{found_nothing}

none_at : (name : List ℕ) (subs : List Subscription) (ms : List Member) → find (is_named name) subs ≡ None → All (λ (m : Member). IsTrue (is_some (find (is_named m.subscription) subs))) ms → filter (is_at name) ms ≡ []
none_at name subs [] none all = refl
none_at name subs (m ∷ ms) none all = by (is_at name m) refl (none_at name subs ms none (All-tail (λ (m : Member). IsTrue (is_some (find (is_named m.subscription) subs))) m ms all))
  where
    by : (b : Bool) → is_at name m ≡ b → filter (is_at name) ms ≡ [] → cond b (m ∷ filter (is_at name) ms) (filter (is_at name) ms) ≡ []
    by true at rest =
        let here = All-head (λ (m : Member). IsTrue (is_some (find (is_named m.subscription) subs))) m ms all in
        absurd (true≢false (sym here ∙ ap (λ (n : List ℕ). is_some (find (is_named n) subs)) (same_name m.subscription name at) ∙ ap is_some none))
    by false elsewhere rest = rest

pub nobody_at : (s : State) (name : List ℕ) → IsWellFormed s → None ≡ position (is_named name) s.subscriptions → members_of s name ≡ []
nobody_at s name well nowhere = none_at name s.subscriptions s.members (found_nothing (is_named name) s.subscriptions nowhere) well.at_subscriptions
