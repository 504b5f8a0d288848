-- The letter that may be moved.
use Rattle.std.specs.Prelude.{◌≡◌, ℕ, Some}
use Rattle.position_core.specs.declared.position.Position.{Position}
use Rattle.delivery_machine.specs.State.{DeadLetter}
use Rattle.dead_core.specs.Letters.{next_safe}
use Rattle.topic_subscriptions.specs.Placed.{Placed}

-- the first letter is safe, and of the ordinal; its message is at the position
pub record IsNextAt (p : Placed) (ordinal : ℕ) (position : Position) : Type 0 where
  pub letter : DeadLetter
  pub first : next_safe p.letters ≡ Some letter
  pub of_ordinal : letter.ordinal ≡ ordinal
  pub stands : letter.position ≡ position
