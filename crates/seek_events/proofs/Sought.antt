-- Why a seek is refused.
use Rattle.std.proofs.Common.{◌≡◌, ℕ, List, Some, None, Bool, true, false, refl, ap, ap₂}
use Rattle.std.specs.Prelude.{not, is_some, if◌then◌else◌}
use Rattle.std.specs.List.{position}
use Rattle.position_core.specs.declared.fault.Fault.TheVariants.{NoSuchSubscription, NoSuchMessage}
use Rattle.delivery_machine.specs.State.{State}
use Rattle.delivery_machine.specs.Words.{has_subscription, is_named}
use Rattle.delivery_machine.specs.Refusals.{is_hidden, seeking_refused}
use Rattle.delivery_machine.specs.declared.event.Target.{Target}
use Rattle.delivery_machine.proofs.Places.{found_nothing}
use Rattle.topic_subscriptions.specs.Placed.{is_placed}
use Rattle.topic_parts.specs.Parts.{log_of, state_of}
use Rattle.topic_parts.specs.declared.parts.Parts.{Parts}
use Rattle.topic_parts.proofs.Changing.{named_sub}
use Rattle.topic_served.proofs.Telling.{one_stands}

pub has_it : (t : Parts) (name : List ℕ) (place : ℕ) → Some place ≡ position (is_placed name) t.subscriptions.items → has_subscription (state_of t) name ≡ true
has_it t name place there =
    let x = one_stands (is_placed name) t.subscriptions.items place there in
    ap is_some (named_sub (log_of t) t.subscriptions.items name place there x.0 x.2)

pub has_none : (s : State) (name : List ℕ) → None ≡ position (is_named name) s.subscriptions → has_subscription s name ≡ false
has_none s name nowhere = ap is_some (found_nothing (is_named name) s.subscriptions nowhere)

refusal : (s : State) (name : List ℕ) (target : Target) (a b : Bool) → has_subscription s name ≡ a → is_hidden s target ≡ b → seeking_refused s name target ≡ (if not a then Some NoSuchSubscription else if b then Some NoSuchMessage else None)
refusal s name target a b has hidden = ap₂ (λ (x y : Bool). if not x then Some NoSuchSubscription else if y then Some NoSuchMessage else None) has hidden

pub refused_nowhere : (s : State) (name : List ℕ) (target : Target) → None ≡ position (is_named name) s.subscriptions → seeking_refused s name target ≡ Some NoSuchSubscription
refused_nowhere s name target nowhere = refusal s name target false (is_hidden s target) (has_none s name nowhere) refl

pub refused_hidden : (t : Parts) (name : List ℕ) (target : Target) (place : ℕ) (b : Bool) → Some place ≡ position (is_placed name) t.subscriptions.items → is_hidden (state_of t) target ≡ b → seeking_refused (state_of t) name target ≡ (if b then Some NoSuchMessage else None)
refused_hidden t name target place b there hidden = refusal (state_of t) name target true b (has_it t name place there) hidden
