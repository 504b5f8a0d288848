use Rattle.std.proofs.Common.{◌≡◌, ◌+◌, subst}
use Rattle.delivery_machine.specs.Places.{snapshot_in}
use Rattle.delivery_machine.specs.Snapshot.{snapshot_of}
use Rattle.session_links.specs.Looking.{shown_of}
use Rattle.broker_dir.specs.Answering.{IsShown}
use Rattle.broker_dir.proofs.Answered.{shown}
use Rattle.broker_dir.proofs.attached.Attached.peek.Goals as goal

pub returns : goal.returns
returns g c =
    let s = c.deref_mut.result.now.topic.cell.cell.state in
    record {
      shows = shown (IsShown g.row.T.Denot g.row.J.Denot g.row.B.Denot g.T.Topic g.T.Saved g.J.Naming c.args.subscription c.args.count)
          (λ look reply. reply ≡ shown_of look.snapshot look.stored c.args.subscription c.args.count)
          (λ look. snapshot_in look.snapshot ≡ snapshot_of s)
          (λ look. look.stored ≡ s.gone + s.durable)
          c.shown_of-shown.result c.look-looked.result c.shown_of-shown.ensures c.look-looked.ensures.kept c.look-looked.ensures.stored
          (λ look reply kept stored is. record {
            at = c.deref_mut.result.now;
            kept = look.snapshot;
            keeps = kept;
            shows = subst (λ n. reply ≡ shown_of look.snapshot n c.args.subscription c.args.count) stored is;
          });
    }
