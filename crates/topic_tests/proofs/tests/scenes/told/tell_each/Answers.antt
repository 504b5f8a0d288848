use Rattle.topic_served.proofs.Asking.{asks_for_none}
use Rattle.topic_tests.proofs.tests.scenes.told.tell_each.Goals as goal

pub on_join-requires : goal.on_join-requires
on_join-requires g c = record { free = asks_for_none c.args.dispatch.now }
