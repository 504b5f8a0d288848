-- A subscription that goes on elsewhere, to which the definitions are held.
use Rattle.std.proofs.Common.{◌≡◌, ℕ, List, refl}
use Rattle.pending_core.specs.Pending.{nothing_pending}
use Rattle.topic_subscriptions.specs.Placed.{Placed, sought_to}
use Rattle.topic_subscriptions.specs.Sought.{GoesOn, with_sought}

takes_over_what_is_pending : (sought : GoesOn) (p : Placed) → (with_sought sought p).pending ≡ sought.pending
takes_over_what_is_pending sought p = refl

forgets_what_was_pending : (end : ℕ) (dead : List ℕ) (p : Placed) → (sought_to end dead p).pending ≡ nothing_pending
forgets_what_was_pending end dead p = refl
