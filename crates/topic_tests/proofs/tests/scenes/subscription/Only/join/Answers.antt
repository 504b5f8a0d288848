use Rattle.delivery_machine.proofs.Asking.{asks_nothing}
use Rattle.topic_tests.proofs.tests.scenes.subscription.Only.join.Goals as goal

pub join-done-requires : goal.join-done-requires
join-done-requires g c = record { free = asks_nothing c.kind-kind.result c.args.self.now.subscription.shares }
