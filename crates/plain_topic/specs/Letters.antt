-- The death of a message, and the letter that is moved.
use Rattle.std.specs.Prelude.{ℕ, ◌+◌, List, [], ◌∷◌, map}
use Rattle.position_core.specs.declared.position.Position.{Position}
use Rattle.delivery_machine.specs.State.{State, DeadLetter}
use Rattle.delivery_machine.specs.Words.{changed, is_named}
use Rattle.delivery_machine.specs.Acknowledging.{forgetting}
use Rattle.delivery_machine.specs.Dying.{burying}
use Rattle.plain_lists.specs.Letters.{moving_first}

-- the letter is the last one of the subscription, and the next ordinal is given
abbrev pub buried : State → List ℕ → DeadLetter → State
buried s name letter = record s {
  subscriptions = changed (is_named name) (burying letter) s.subscriptions;
  members = map (forgetting name (letter.position ∷ [])) s.members;
  next_ordinal = s.next_ordinal + 1;
}

-- the subscription's first letter is gone, and what was sent of the position
abbrev pub first_moved : State → List ℕ → Position → State
first_moved s name position = record s {
  subscriptions = changed (is_named name) moving_first s.subscriptions;
  members = map (forgetting name (position ∷ [])) s.members;
}
