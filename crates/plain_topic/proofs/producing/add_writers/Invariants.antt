use Rattle.std.proofs.Common.{◌≡◌, ◌++◌, map, take}
use Rattle.plain_topic.proofs.producing.add_writers.Given as goal

abbrev pub invariant-loop-message : goal.invariant-loop-message
invariant-loop-message l = l.names.items ≡ l.initial.names.items ++ map (λ e. e.producer) (take l.message-index l.log)
