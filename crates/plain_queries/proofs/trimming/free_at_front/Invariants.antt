use Rattle.std.proofs.Common.{◌≡◌, ◌+◌, drop, length, nat_lt}
use Rattle.std.specs.Prelude.{◌&&◌, nat_le}
use Rattle.std.specs.List.{list_all, prefix_len}
use Rattle.delivery_machine.specs.Trimming.{is_done_with}
use Rattle.plain_queries.proofs.trimming.free_at_front.Given as goal

abbrev pub invariant-each : goal.invariant-each
invariant-each l =
    prefix_len (λ e. (nat_lt 0 (length l.subscriptions) && list_all (is_done_with e) l.subscriptions) && nat_le e.time l.before) l.visible
    ≡ l.i + prefix_len (λ e. (nat_lt 0 (length l.subscriptions) && list_all (is_done_with e) l.subscriptions) && nat_le e.time l.before) (drop l.i l.visible)
