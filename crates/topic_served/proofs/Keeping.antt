-- What leaves a dispatcher of any kind right though it is not told.
use Rattle.std.proofs.Common.{sym, ◌∙◌}
use Rattle.delivery_machine.specs.State.{State, Subscription}
use Rattle.dispatch_core.specs.Changes.{Kept, Appended, TakenBack}
use Rattle.dispatch_core.proofs.Telling.{tells-kept, tells-appended, tells-taken_back}
use Rattle.dispatch_single.proofs.Agreeing.{agrees-with}
use Rattle.dispatch_keyed.proofs.Agreed.{agrees_kept, agrees_appended, agrees_taken_back}
use Rattle.topic_served.specs.declared.dispatch.Dispatch.{Dispatch}
use Rattle.topic_served.specs.declared.dispatch.Dispatch.TheVariants.{InOrder, InTurn, ByKey}
use Rattle.topic_served.specs.Agreeing.{agrees}

module _ (s : State) (sub : Subscription) (t : State) (new : Subscription) where
  pub agrees-kept : (d : Dispatch) → Kept s sub t new → agrees d s sub → agrees d t new
  agrees-kept (InOrder d) change agreed = agrees-with d s sub agreed t new d.waiting change.kind change.line (tells-kept d.waiting s sub t new agreed.waiting change)
  agrees-kept (InTurn d) change agreed = record {
    kind = change.kind ∙ agreed.kind;
    waiting = tells-kept d.waiting s sub t new agreed.waiting change;
    line = agreed.line ∙ sym change.line;
  }
  agrees-kept (ByKey d) change agreed = agrees_kept d s sub t new agreed change

  -- none keeps anything of a message that nobody has seen
  pub agrees-appended : (d : Dispatch) → Appended s sub t new → agrees d s sub → agrees d t new
  agrees-appended (InOrder d) change agreed = agrees-with d s sub agreed t new d.waiting change.kind change.line (tells-appended d.waiting s sub t new agreed.waiting change)
  agrees-appended (InTurn d) change agreed = record {
    kind = change.kind ∙ agreed.kind;
    waiting = tells-appended d.waiting s sub t new agreed.waiting change;
    line = agreed.line ∙ sym change.line;
  }
  agrees-appended (ByKey d) change agreed = agrees_appended d s sub t new agreed change

  pub agrees-taken_back : (d : Dispatch) → TakenBack s sub t new → agrees d s sub → agrees d t new
  agrees-taken_back (InOrder d) change agreed = agrees-with d s sub agreed t new d.waiting (sym change.appended.kind) (sym change.appended.line) (tells-taken_back d.waiting s sub t new agreed.waiting change)
  agrees-taken_back (InTurn d) change agreed = record {
    kind = sym change.appended.kind ∙ agreed.kind;
    waiting = tells-taken_back d.waiting s sub t new agreed.waiting change;
    line = agreed.line ∙ change.appended.line;
  }
  agrees-taken_back (ByKey d) change agreed = agrees_taken_back d s sub t new agreed change
