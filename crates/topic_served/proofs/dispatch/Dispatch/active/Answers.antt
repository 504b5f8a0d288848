use Rattle.std.proofs.Common.{Bool, None, inl, inr, ap, sym, ◌∙◌}
use Rattle.std.specs.Prelude.{if◌then◌else◌}
use Rattle.position_core.specs.declared.kind.Kind.{Kind}
use Rattle.position_core.specs.Kind.{is_in_order}
use Rattle.delivery_machine.specs.Words.{active_at}
use Rattle.topic_served.proofs.dispatch.Dispatch.active.Goals as goal

pub returns-in-InOrder : goal.returns-in-InOrder
returns-in-InOrder c =
    rw c.in-InOrder.is (λ s sub agreed.
    c.active.ensures s sub agreed ∙ sym (ap (λ (b : Bool). if b then active_at s sub.name else None) agreed.kind))

pub returns-in-InTurn : goal.returns-in-InTurn
returns-in-InTurn c = elim c.in-InTurn.is [
  | inl turn ↦ rw turn.1 (λ s sub agreed. sym (ap (λ (k : Kind). if is_in_order k then active_at s sub.name else None) agreed.kind))
  | inr key ↦ rw key.1 (λ s sub agreed. sym (ap (λ (k : Kind). if is_in_order k then active_at s sub.name else None) agreed.kind))
]
