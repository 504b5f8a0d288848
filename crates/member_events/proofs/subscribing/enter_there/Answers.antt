use Rattle.std.proofs.Common.{◌∙◌, sym}
use Rattle.member_events.proofs.Standing.{same_place}
use Rattle.member_events.proofs.subscribing.enter_there.Goals as goal

pub returns-in-Ok-clause-place : goal.returns-in-Ok-clause-place
returns-in-Ok-clause-place c = c.requires.named ∙ sym (same_place c.args.served.now.parts.subscriptions.items c.enter_as.new.served.parts.subscriptions.items c.args.name c.in-Ok.ensures.names)
