use Rattle.std.proofs.Common.{refl}
use Rattle.topic_members.specs.Members.{shortened}
use Rattle.topic_parts.specs.Parts.{log_of}
use Rattle.delivery_events.proofs.Handing.{tied_changed}
use Rattle.delivery_events.proofs.sending.take_back.Goals as goal

pub returns-clause-tied : goal.returns-clause-tied
returns-clause-tied c =
    let t = c.args.parts.now in
    tied_changed (log_of t) t.members.members c.take_back.new.self.members c.args.consumer (shortened) t.subscriptions.items c.take_back.ensures.members (λ _. refl) (λ _. refl) c.requires.tied
