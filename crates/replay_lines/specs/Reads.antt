-- What it is to find and to read a value.
use Rattle.std.specs.Prelude.{⊤}
use Rattle.std.specs.declared.result.Result.{Result}
use Rattle.std.specs.declared.result.Result.TheVariants.{Ok, Err}
use Rattle.replay_lines.specs.declared.words.Unread.{Unread}
use Rattle.replay_lines.specs.declared.words.Unread.TheVariants.{BadLine, Memory}

-- what was read passes, and the line is bad only where nothing passes; being out of memory says nothing
abbrev pub Reads : {A : Type 0} → (A → Type 0) → Result A Unread → Type 0
Reads P (Ok x) = P x
Reads {A} P (Err BadLine) = (x : A) → P x → ⊥
Reads P (Err Memory) = ⊤

-- the same of what is seen of the value
abbrev pub ReadsAs : {A B : Type 0} → (A → B) → (B → Type 0) → Result A Unread → Type 0
ReadsAs view P (Ok x) = P (view x)
ReadsAs {A} {B} view P (Err BadLine) = (y : B) → P y → ⊥
ReadsAs view P (Err Memory) = ⊤

-- the same, where reading takes no memory
abbrev pub ReadsAtOnce : {A : Type 0} → (A → Type 0) → Result A Unread → Type 0
ReadsAtOnce P (Ok x) = P x
ReadsAtOnce {A} P (Err BadLine) = (x : A) → P x → ⊥
ReadsAtOnce P (Err Memory) = ⊥
