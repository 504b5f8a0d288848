use Rattle.std.proofs.Common.{◌≡◌, take}
use Rattle.std.specs.Prelude.{is_some, IfSome, IsTrue}
use Rattle.std.specs.FinMap as map_of
use Rattle.delivery_machine.specs.Ticking.{any_due_in, is_due}
use Rattle.plain_queries.proofs.due.first_due.Given as goal

abbrev pub invariant-loop-message : goal.invariant-loop-message
invariant-loop-message l = record {
  due : IfSome l.first (λ d. IsTrue (is_due l.now (map_of.get l.subscription.pending d.position)));
  any : is_some l.first ≡ any_due_in (take l.message-index l.log) l.subscription l.now;
}
