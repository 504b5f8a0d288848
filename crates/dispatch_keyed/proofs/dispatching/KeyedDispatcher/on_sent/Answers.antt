use Rattle.std.proofs.Common.{refl, ap, arith, Bool}
use Rattle.std.specs.Prelude.{◌||◌, is_some}
use Rattle.dispatch_core.specs.Log.{holder_at}
use Rattle.dispatch_keyed.proofs.Agreed.{agrees_sooner, seen_in_both}
use Rattle.dispatch_keyed.proofs.dispatching.KeyedDispatcher.on_sent.Goals as goal

pub returns-clause-ok : goal.returns-clause-ok
returns-clause-ok g c s sub change agreed =
    let t = g.V.View.state c.args.view.now in
    c.change.ensures s sub
    (record {
      stays = change.stays;
      waits = change.waits;
      holder = change.holder;
      was = λ _. ap (λ (b : Bool). b || is_some (holder_at s sub c.args.index)) change.waited;
      unsent = λ read sent. absurd (omega (arith, sent, c.sent_after-self.ensures.beyond read (seen_in_both c.args.index s t change.stays.log.log change.stays.log.durable change.seen)));
    })
    (agrees_sooner c.args.self.now _ s sub agreed refl refl c.sent_after-self.ensures.more (λ _. refl) (λ _. refl))
