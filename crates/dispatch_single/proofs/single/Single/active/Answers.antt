use Rattle.dispatch_single.proofs.Serves.{its_number, none_is_active}
use Rattle.dispatch_single.proofs.single.Single.active.Goals as goal

pub returns-in-Some : goal.returns-in-Some
returns-in-Some c =
    rw (← c.self.view_is) (λ s sub agreed.
    its_number s sub c.self.inside.line.active c.in-Some.member agreed.kind c.in-Some.is agreed.line.active)

pub returns-in-None : goal.returns-in-None
returns-in-None c =
    rw (← c.self.view_is) (λ s sub agreed.
    none_is_active s sub c.self.inside.line.active c.in-None.is agreed.line.active)
