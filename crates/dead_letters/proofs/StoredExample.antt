-- Copies to which the definitions are held.
use Rattle.std.proofs.Common.{◌≡◌, refl}
use Rattle.dead_letters.specs.declared.hand.Hand.TheVariants.{Waits, Moved}
use Rattle.dead_letters.specs.declared.hand.Letter.{Letter}
use Rattle.dead_letters.specs.Moving.{stored_to}

copy_behind_what_is_stored_waits : (letter : Letter) → stored_to letter 5 4 ≡ Waits letter 5
copy_behind_what_is_stored_waits letter = refl

last_of_what_is_stored_has_moved : (letter : Letter) → stored_to letter 5 5 ≡ Moved letter
last_of_what_is_stored_has_moved letter = refl
