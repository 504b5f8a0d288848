use Rattle.std.proofs.Common.{◌≡◌, ℕ, true, false, List, sym, ◌∙◌, subst}
use Rattle.dispatch_single.proofs.Leaving.{stands_there, stays_at_place, moves_up}
use Rattle.dispatch_single.proofs.active.moved_up.Goals as goal

pub returns-then-stands_there : goal.returns-then-stands_there
returns-then-stands_there g c = λ line left is differ other was.
    stays_at_place left line c.args.active differ other was
    (subst (λ (l : List (ℕ × ℕ)). stands_there l c.args.active ≡ true) is (sym c.stands_there.ensures ∙ c.if-stands_there.true))

pub returns-else-stands_there : goal.returns-else-stands_there
returns-else-stands_there g c = λ line left is differ other was.
    moves_up left line c.args.active differ other was c.saturating_sub.result c.saturating_sub.ensures
    (subst (λ (l : List (ℕ × ℕ)). stands_there l c.args.active ≡ false) is (sym c.stands_there.ensures ∙ c.if-stands_there.false))
