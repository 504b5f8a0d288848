use Rattle.std.proofs.Common.{refl, ap, ◌∙◌, Bool}
use Rattle.std.specs.Prelude.{◌||◌}
use Rattle.std.proofs.Math.Bool.{or-true}
use Rattle.dispatch_core.specs.Log.{waits_at}
use Rattle.dispatch_keyed.proofs.dispatching.KeyedDispatcher.on_released.Goals as goal

pub returns : goal.returns
returns g c s sub change agreed =
    c.change.ensures s sub
    (record {
      stays = change.stays;
      waits = change.waits;
      holder = change.holder;
      was = λ _. ap (λ (b : Bool). waits_at s sub c.args.index || b) change.held ∙ or-true (waits_at s sub c.args.index);
      unsent = λ _ _. refl;
    })
    agreed
