use Rattle.std.proofs.Common.{◌∙◌, ap}
use Rattle.delivery_machine.specs.Shares.{asks_taken}
use Rattle.delivery_machine.proofs.Asking.{asks_nobody}
use Rattle.plain_lists.proofs.subscription.Subscription.new.Goals as goal

pub join_by-requires : goal.join_by-requires
join_by-requires c = record { free = ap (asks_taken c.args.kind c.args.ranges.now) c.new-shares.ensures ∙ asks_nobody c.args.kind c.args.ranges.now }
