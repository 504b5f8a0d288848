-- Legal journals go on: by one line more, or by a journal that begins where the first ends.
use Rattle.std.proofs.Common.{List, [], ◌∷◌, ◌++◌, refl, subst}
use Rattle.delivery_machine.specs.State.{State}
use Rattle.delivery_machine.specs.Run.{Step}
use Rattle.topic_shared.specs.Lines.{Line, Legal}

pub legal_joined : (s : State) (before : List Line) (mid : State) (after : List Line) (t : State) → Legal s before mid → Legal mid after t → Legal s (before ++ after) t
legal_joined s [] mid after t first second = subst (λ (u : State). Legal u after t) first second
legal_joined s (l ∷ ls) mid after t first second = (first.0, first.1, legal_joined first.0 ls mid after t first.2 second)

pub legal_snoc : (s : State) (lines : List Line) (mid : State) (l : Line) (t : State) → Legal s lines mid → Step mid l.event l.reply t → Legal s (lines ++ l ∷ []) t
legal_snoc s lines mid l t legal step = legal_joined s lines mid (l ∷ []) t legal (t, step, refl)
