-- Where a line is bad.
use Rattle.std.specs.declared.result.Result.TheVariants.{Err}
use Rattle.replay_lines.specs.Reads.{ReadsAtOnce}
use Rattle.replay_lines.specs.declared.words.Unread.{Unread}
use Rattle.replay_lines.specs.declared.words.Unread.TheVariants.{BadLine, Memory}

-- a bad line of one kind is a bad line of a kind that says less
pub still_bad : {A B : Type 0} (P : A → Type 0) (Q : B → Type 0) (e : Unread) → ReadsAtOnce P (Err e) → ((x : B) → Q x → (y : A) × P y) → ReadsAtOnce Q (Err e)
still_bad P Q BadLine none within = λ x q. let y = within x q in none y.0 y.1
still_bad P Q Memory none within = none
