use Rattle.std.proofs.Common.{◌+◌, ◌∙◌, sym, ap, ap₂, subst, Some, List, ℕ}
use Rattle.std.specs.FinMap as map_of
use Rattle.position_core.specs.declared.held.Held.{Held}
use Rattle.delivery_machine.specs.State.{State}
use Rattle.delivery_machine.specs.Words.{changed, is_held_at, is_named}
use Rattle.delivery_machine.specs.Delivering.{holding}
use Rattle.topic_log.specs.Written.{all_of}
use Rattle.dedup_core.specs.Sequences.{AgreesWith}
use Rattle.topic_served.specs.Told.{AreTold}
use Rattle.topic_served.proofs.Agreed.{told_kept}
use Rattle.topic_served.proofs.Quiet.{kept_nacked}
use Rattle.topic_subscriptions.specs.Placed.{is_placed, sub_in}
use Rattle.topic_parts.specs.Parts.{log_of, state_of}
use Rattle.topic_parts.specs.declared.parts.Parts.{Parts}
use Rattle.topic_served.specs.Served.{state_in}
use Rattle.topic_served.proofs.Telling.{at_place, named_place, one_stands}
use Rattle.delivery_events.proofs.HeldAt.{held_some, nacked}
use Rattle.delivery_events.proofs.nacking.nack.Goals as goal

pub returns-clause-answers : goal.returns-clause-answers
returns-clause-answers c =
    let s = state_in c.args.served.now in
    let here = c.in-Some-place_held.ensures in
    let changes = c.set_due.ensures.changes c.args.consumer here.some.1 in
    let due_is = ap₂ (λ (a b : ℕ). a + b) c.millis.ensures.value (c.from.ensures ∙ c.get-2.ensures.value ∙ c.nack_delay.ensures) in
    nacked s (state_of c.set_due.new.self) c.args.consumer c.args.position c.args.now c.in-Some.member.now (sym c.in-Some.ensures)
    (ap (λ (n : List ℕ). is_held_at s n c.args.consumer c.args.position) (sym c.subscription.ensures) ∙ sym here.held)
    (changes.state c.subscription.result.now here.some.0
    ∙ ap₂ (λ (n : List ℕ) (d : ℕ). record s { subscriptions = changed (is_named n) (holding c.args.position (record { consumer = c.args.consumer; due = Some d })) s.subscriptions }) c.subscription.ensures due_is)

pub returns-clause-bound : goal.returns-clause-bound
returns-clause-bound c =
    let old : Parts = c.args.served.now.parts in
    let s = state_of old in
    let here = c.in-Some-place_held.ensures in
    let name = c.subscription.result.now in
    let place = c.in-Some-place_held.place in
    let changes = c.set_due.ensures.changes c.args.consumer here.some.1 in
    let x = one_stands (is_placed name) old.subscriptions.items place here.some.0 in
    let held = held_some (map_of.get x.0.pending.pending c.args.position) c.args.consumer (here.some.1 x.0 (sym x.1)) in
    let new : Held = record { consumer = c.args.consumer; due = Some (c.millis.result + c.from.result) } in
    record {
      numbers = subst (λ (t : Parts). AgreesWith (all_of t.log) t.log.numbers) (sym changes.rest) c.requires.bound.numbers;
      tied = c.set_due.ensures.tied;
      told = subst (λ (t : State). AreTold c.args.served.now.dispatchers.items t) (sym (changes.state name here.some.0))
          (told_kept c.args.served.now.dispatchers.items s (record s { subscriptions = changed (is_named name) (holding c.args.position new) s.subscriptions }) c.requires.bound.told
          (kept_nacked s name place (sub_in (log_of old) x.0) (named_place old name place here.some.0) (at_place old place x.0 x.1) c.args.position new held.0 held.1 held.2));
    }
