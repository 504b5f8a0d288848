use Rattle.std.proofs.Common.{◌∙◌, ap, length, sym}
use Rattle.std.proofs.lemmas.List.{length-map}
use Rattle.topic_subscriptions.specs.Placed.{sub_in}
use Rattle.topic_parts.specs.Parts.{log_of}
use Rattle.member_events.proofs.refusing.number_of_subscriptions.Goals as goal

pub returns : goal.returns
returns c =
    let t = c.args.served.now.parts in
    c.count.ensures ∙ ap length c.deref.ensures.value ∙ sym (length-map t.subscriptions.items (sub_in (log_of t)))
