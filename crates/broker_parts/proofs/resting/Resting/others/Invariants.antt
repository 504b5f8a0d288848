use Rattle.std.specs.Prelude.{◌≡◌, All, true}
use Rattle.broker_parts.proofs.resting.Resting.others.Given as goal

abbrev pub invariant-loop-name : goal.invariant-loop-name
invariant-loop-name g l = All (λ seen. seen.is_resting ≡ true) l.others.items
