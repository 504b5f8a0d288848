use Rattle.std.proofs.Common.{◌≡◌, map, take}
use Rattle.topic_subscriptions.specs.Done.{done_by_all}
use Rattle.topic_subscriptions.specs.Placed.{sub_in}
use Rattle.topic_parts.specs.Parts.{log_of}
use Rattle.topic_parts.proofs.parts.Parts.done_by_all.Given as goal

abbrev pub invariant-each : goal.invariant-each
invariant-each l = l.done ≡ done_by_all (map (sub_in (log_of l.self)) (take l.place l.self.subscriptions.items)) (log_of l.self)
