use Rattle.std.proofs.lemmas.List.Sums.{prefix_len-le-length}
use Rattle.topic_subscriptions.proofs.subscriptions.place_for.Goals as goal
use Rattle.delivery_machine.proofs.Places.{at_the_end}

pub returns-in-None-clause-value : goal.returns-in-None-clause-value
returns-in-None-clause-value c = at_the_end _ _ (prefix_len-le-length _ c.args.subscriptions.now) c.in-None.ensures
