use Rattle.std.proofs.Common.{◌+◌, ◌∙◌, ap, subst, sym}
use Rattle.std.specs.Option.{option_map}
use Rattle.std.specs.FinMap as map_of
use Rattle.position_core.specs.declared.held.Held.{Held}
use Rattle.delivery_machine.specs.State.{State, DeadLetter}
use Rattle.delivery_machine.specs.Dying.{burying}
use Rattle.topic_subscriptions.specs.Placed.{IsPlacedIn, Placed, sub_in}
use Rattle.topic_subscriptions.proofs.Dying.{buried_in}
use Rattle.topic_parts.specs.Leaving.{left_out_of}
use Rattle.topic_parts.specs.Parts.{log_of}
use Rattle.topic_parts.proofs.Held.{as_before, tied_one}
use Rattle.topic_parts.proofs.Leaves.{buried_of, left_state, left_tied}
use Rattle.topic_parts.proofs.parts.Parts.bury.Goals as goal

pub returns-in-Ok-clause-ok : goal.returns-in-Ok-clause-ok
returns-in-Ok-clause-ok c name there =
    let t = c.args.self.now in
    let x = c.index_mut.result.now in
    let left = c.leave_out_of.ensures.members ∙ ap (λ (l : DeadLetter). left_out_of c.holder-holder.result l.position t.members.members) c.letter.view_is in
    ap (λ (s : State). record s { next_ordinal = s.next_ordinal + 1 })
    (left_state t c.leave_out_of.new.self c.args.place x c.bury.new.self c.args.letter.position c.holder-holder.result c.index_mut.ensures.value left c.leave_out_of.ensures.next c.leave_out_of.ensures.rest
    name (burying c.args.letter) c.index.result.now there c.requires.well c.len-members.ensures.rising c.index.ensures
    (c.holder-holder.ensures ∙ ap (λ (l : DeadLetter). option_map (λ (h : Held). h.consumer) (map_of.get c.index.result.now.pending.pending l.position)) c.letter.view_is)
    (ap (sub_in (log_of t)) c.in-Ok.ensures.ok ∙ buried_in (log_of t) x c.args.index c.args.letter))

pub returns-in-Ok-clause-tied : goal.returns-in-Ok-clause-tied
returns-in-Ok-clause-tied c =
    let t = c.args.self.now in
    let x = c.index_mut.result.now in
    let left = c.leave_out_of.ensures.members ∙ ap (λ (l : DeadLetter). left_out_of c.holder-holder.result l.position t.members.members) c.letter.view_is in
    left_tied t c.leave_out_of.new.self c.args.place x c.bury.new.self c.args.letter.position c.holder-holder.result c.index_mut.ensures.value left c.leave_out_of.ensures.next c.leave_out_of.ensures.rest
    c.requires.tied
    (subst (λ (p : Placed). IsPlacedIn (log_of t) t.members.members p) (sym c.in-Ok.ensures.ok)
    (buried_of (log_of t) t.members.members c.args.index c.args.letter x c.len-length.ensures.rising c.requires.index (tied_one t c.args.place c.requires.within x c.index_mut.ensures.value c.requires.tied)))

pub returns-in-Err-clause-err : goal.returns-in-Err-clause-err
returns-in-Err-clause-err c = as_before c.args.self.now c.args.place c.requires.within c.index_mut.result.now c.index_mut.ensures.value c.bury.new.self c.in-Err.ensures.err
