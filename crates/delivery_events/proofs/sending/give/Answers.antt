use Rattle.std.proofs.Common.{refl}
use Rattle.topic_members.specs.Members.{pushed}
use Rattle.topic_parts.specs.Parts.{log_of}
use Rattle.delivery_events.proofs.Handing.{tied_changed}
use Rattle.delivery_events.proofs.sending.give.Goals as goal

pub returns-in-Ok-clause-tied : goal.returns-in-Ok-clause-tied
returns-in-Ok-clause-tied c =
    let t = c.args.parts.now in
    tied_changed (log_of t) t.members.members c.give.new.self.members c.args.consumer (pushed c.args.delivery) t.subscriptions.items c.in-Ok.ensures.ok (λ _. refl) (λ _. refl) c.requires.tied
