use Rattle.dead_letters.proofs.DeadLetters.{letters_leave_by_moves}
use Rattle.dead_letters.proofs.laws.letters_leave_by_moves.Goals as goal

pub returns : goal.returns
returns c = letters_leave_by_moves
