-- The code of what a queue is seen as, as its model wants it.
use Rattle.std.specs.Prelude.{ℕ, List}
use Rattle.std.proofs.Common.{refl}
use Rattle.std.specs.Coded.{Coded, code_by, coded×, coded_ℕ, coded_list}
use Rattle.delivery_machine.specs.State.{DeadLetter}
use Rattle.delivery_machine.specs.Codes.{coded_dead}
use Rattle.dead_core.specs.Letters.{Letters}

abbrev pub coded_letters : Coded Letters
coded_letters = code_by (List DeadLetter × ℕ) (coded× (coded_list coded_dead) coded_ℕ) (λ q. (q.dead, q.safe)) (λ p. record { dead = p.0; safe = p.1 }) (λ _. refl)
