use Rattle.std.proofs.Common.{refl, sym, true≢false}
use Rattle.dispatch_keyed.proofs.dispatching.KeyedDispatcher.on_gone.Goals as goal

pub returns : goal.returns
returns g c s sub change agreed =
    c.change.ensures s sub
    (record {
      stays = change.stays;
      waits = change.waits;
      holder = change.holder;
      was = λ never. absurd (true≢false (sym never));
      unsent = λ _ _. refl;
    })
    agreed
