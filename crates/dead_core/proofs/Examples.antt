-- Letters to which the definitions are held.
use Rattle.std.proofs.Common.{◌≡◌, Some, None, refl}
use Rattle.delivery_machine.specs.State.{DeadLetter}
use Rattle.dead_core.specs.Letters.{all_safe, ending_with, next_safe, none_dead}

unsafe_letter_stays : (letter : DeadLetter) → next_safe (ending_with letter none_dead) ≡ None
unsafe_letter_stays letter = refl

safe_letter_is_next : (letter : DeadLetter) → next_safe (all_safe (ending_with letter none_dead)) ≡ Some letter
safe_letter_is_next letter = refl
