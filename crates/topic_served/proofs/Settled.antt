-- What holds of a topic between events.
use Rattle.std.proofs.Common.{◌≡◌, ℕ, Some, None, true, ap, ◌∙◌, sym, true≢false}
use Rattle.std.specs.Prelude.{is_some}
use Rattle.std.specs.List.{find, position}
use Rattle.std.proofs.lemmas.List.Elements.{All-contains}
use Rattle.delivery_machine.specs.State.{State, Member}
use Rattle.delivery_machine.specs.Words.{has_subscription, is_member, is_named}
use Rattle.delivery_machine.specs.WellFormed.{IsWellFormed}
use Rattle.delivery_machine.specs.Laws.{IsReached}
use Rattle.delivery_machine.proofs.Firsts.{found_contained}
use Rattle.delivery_machine.proofs.Places.{found_nothing}
use Rattle.machine_laws.proofs.WellReached.{reached_all}
use Rattle.machine_laws.proofs.WellFormedStates.{well_formed}

pub well_of : (s : State) → IsReached s → IsWellFormed s
well_of s reached = well_formed s (reached_all reached.0 reached.1 reached.2 s reached.3 reached.4)

-- a member's subscription is there
pub has_a_subscription : (s : State) (n : ℕ) (m : Member) → IsWellFormed s → find (is_member n) s.members ≡ Some m → None ≡ position (is_named m.subscription) s.subscriptions → ⊥
has_a_subscription s n m well is nowhere =
    let there = All-contains (λ (x : Member). has_subscription s x.subscription ≡ true) s.members m well.at_subscriptions (found_contained (is_member n) s.members m is) in
    true≢false (sym there ∙ ap is_some (found_nothing (is_named m.subscription) s.subscriptions nowhere))
