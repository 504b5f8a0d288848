use Rattle.std.proofs.Common.{◌≡◌, ◌<◌, ◌≤◌, length, All}
use Rattle.std.specs.Prelude.{vec_capacity}
use Rattle.topic_shared.specs.Accounts.{Seated, calls_of}
use Rattle.topic_shared.proofs.closing.spares.Given as goal

abbrev pub invariant-loop-i : goal.invariant-loop-i
invariant-loop-i l = (length l.all.items ≡ l.i) × (l.count ≤ vec_capacity l.all) × (calls_of l.all.items ≡ 0) × All (λ (s : Seated). 0 < s.number) l.all.items
