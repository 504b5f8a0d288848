use Rattle.std.proofs.Common.{arith}
use Rattle.std.proofs.lemmas.Bool.Decides.{nat_tests}
use Rattle.std.proofs.lemmas.Fn.{filter_same}
use Rattle.topic_subscriptions.proofs.subscription.take_out.Goals as goal

pub returns : goal.returns
returns c = filter_same _ _ _ (λ x b f' k. grind (arith, nat_tests)) _ _ c.retain.ensures.filtered
