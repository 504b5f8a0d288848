use Rattle.std.proofs.Common.{sym, ◌∙◌}
use Rattle.session_core.proofs.Series.{both_true, other_dues, own_both_ends, own_collected_all, own_collected_ends, own_held, own_nothing, own_progress, own_progress_ends}
use Rattle.session_core.proofs.session.Session.ask_own.Goals as goal

pub returns-in-Ok : goal.returns-in-Ok
returns-in-Ok g c = own_progress _ _ _ _ _ _ _ _ c.in-Producer.is c.in-Ok.ensures

pub returns-in-Err : goal.returns-in-Err
returns-in-Err g c = own_progress_ends _ _ _ _ _ _ _ _ _ c.in-Producer.is c.in-Err.ensures

pub collect-requires : goal.collect-requires
collect-requires g c = (both_true _ _ (sym c.is_free-is_free.ensures ∙ (rw c.in-Ok-true.field-0-test at c.in-Ok-true.ensures).ends.0)).0

pub returns-in-Ok-collect : goal.returns-in-Ok-collect
returns-in-Ok-collect g c = own_collected_all c.args.self.now _ _ _ _ _ _ _ _ _ _ c.in-Consumer.is c.is_free-is_free.ensures (other_dues _ _) (rw c.in-Ok-true.field-0-test at c.in-Ok-true.ensures) c.in-Ok-collect.ensures

pub returns-in-Err-collect : goal.returns-in-Err-collect
returns-in-Err-collect g c = own_collected_ends c.args.self.now _ _ _ _ _ _ _ _ _ _ _ c.in-Consumer.is c.is_free-is_free.ensures (other_dues _ _) (rw c.in-Ok-true.field-0-test at c.in-Ok-true.ensures) c.in-Err-collect.ensures

pub returns-in-Ok-false : goal.returns-in-Ok-false
returns-in-Ok-false g c = own_held c.args.self.now _ _ _ _ _ _ _ _ c.in-Consumer.is c.is_free-is_free.ensures (other_dues _ _) (rw c.in-Ok-false.field-0-test at c.in-Ok-false.ensures)

pub returns-in-Err-ask_both : goal.returns-in-Err-ask_both
returns-in-Err-ask_both g c = own_both_ends c.args.self.now _ _ _ _ _ _ _ _ _ c.in-Consumer.is c.is_free-is_free.ensures (other_dues _ _) c.in-Err-ask_both.ensures

pub returns-in-Admin : goal.returns-in-Admin
returns-in-Admin g c = own_nothing c.args.self.now _ _ _ c.in-Admin.is
