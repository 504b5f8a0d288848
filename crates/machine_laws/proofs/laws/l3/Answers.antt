use Rattle.machine_laws.proofs.OrderReached.{reached_ordered, in_order_at_active, sends_next_live}
use Rattle.machine_laws.proofs.laws.l3.Goals as goal

pub returns : goal.returns
returns c s events replies t begins run name sub found order =
    let reached = reached_ordered s events replies t begins run in
    let one = reached.all.each name sub found order in
    (in_order_at_active t sub (reached.kept.tended.first name sub found).in_log one, sends_next_live t name sub found order reached.kept one)
