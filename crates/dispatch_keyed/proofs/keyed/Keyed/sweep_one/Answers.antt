use Rattle.std.proofs.Common.{refl}
use Rattle.dispatch_keyed.proofs.Agreed.{agrees_same, agrees_from}
use Rattle.dispatch_keyed.proofs.keyed.Keyed.sweep_one.Goals as goal

pub returns-in-Some : goal.returns-in-Some
returns-in-Some c s sub agreed =
    agrees_same c.args.self.now _ c.in-Some.hash s sub agreed refl refl refl c.tidy.ensures.others c.tidy.ensures.here (λ _. refl)

pub returns-in-None : goal.returns-in-None
returns-in-None c s sub agreed =
    agrees_from c.args.self.now _ s sub agreed refl refl agreed.unsent (λ _. refl) (λ _. refl)
