use Rattle.std.proofs.Common.{◌≡◌, ◌∙◌, ℕ, Option, ap, sym, false}
use Rattle.std.specs.Prelude.{not, ◌&&◌, ◌==◌}
use Rattle.std.specs.Option.{option_eq, option_map_or}
use Rattle.position_core.specs.declared.kind.Kind.{Kind}
use Rattle.position_core.specs.declared.kind.Kind.TheVariants.{Failover}
use Rattle.position_core.specs.Kind.{same_kind}
use Rattle.delivery_machine.specs.State.{Subscription}
use Rattle.delivery_machine.specs.Words.{active_at, has_kind}
use Rattle.topic_parts.specs.Parts.{log_of, state_of}
use Rattle.topic_parts.proofs.Changing.{named_sub}
use Rattle.member_events.proofs.Active.{known_of_failover}
use Rattle.member_events.proofs.taking_over.is_taken_over.Goals as goal

pub returns-then-is : goal.returns-then-is
returns-then-is c name named =
    let t = c.args.served.now.parts in
    let s = state_of t in
    let kind_is : c.is.result ≡ has_kind s name Failover =
    c.is.ensures ∙ ap (λ (k : Kind). same_kind k Failover) c.kind.ensures
    ∙ sym (ap (λ (o : Option Subscription). option_map_or (λ sub. same_kind sub.kind Failover) o false) (named_sub (log_of t) t.subscriptions.items name c.args.place named c.index.result.now c.index.ensures)) in
    c.ne.ensures
    ∙ ap (λ (a : Option ℕ). not (option_eq (λ x y. x == y) c.args.before a)) (c.active_at.ensures name named ∙ known_of_failover s name (sym kind_is ∙ c.if-is.true))
    ∙ sym (ap (λ b. b && not (option_eq (λ x y. x == y) c.args.before (active_at s name))) (sym kind_is ∙ c.if-is.true))

pub returns-else-is : goal.returns-else-is
returns-else-is c name named =
    let t = c.args.served.now.parts in
    let s = state_of t in
    let kind_is : c.is.result ≡ has_kind s name Failover =
    c.is.ensures ∙ ap (λ (k : Kind). same_kind k Failover) c.kind.ensures
    ∙ sym (ap (λ (o : Option Subscription). option_map_or (λ sub. same_kind sub.kind Failover) o false) (named_sub (log_of t) t.subscriptions.items name c.args.place named c.index.result.now c.index.ensures)) in
    c.if-is.false
    ∙ sym (ap (λ b. b && not (option_eq (λ x y. x == y) c.args.before (active_at s name))) (sym kind_is ∙ c.if-is.false))
