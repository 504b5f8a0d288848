use Rattle.std.proofs.Common.{refl}
use Rattle.topic_members.specs.Members.{spending}
use Rattle.topic_parts.specs.Parts.{log_of}
use Rattle.delivery_events.proofs.Handing.{tied_changed}
use Rattle.delivery_events.proofs.sending.spend.Goals as goal

pub returns-clause-tied : goal.returns-clause-tied
returns-clause-tied c =
    let t = c.args.parts.now in
    tied_changed (log_of t) t.members.members c.spend.new.self.members c.args.consumer (spending) t.subscriptions.items c.spend.ensures.members (λ _. refl) (λ _. refl) c.requires.tied
