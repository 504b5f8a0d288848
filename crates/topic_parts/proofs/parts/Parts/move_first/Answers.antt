use Rattle.std.proofs.Common.{◌≡◌, ◌+◌, ℕ, true, ◌∷◌, [], ◌∙◌, ap, map, subst, sym}
use Rattle.position_core.specs.declared.position.Position.{Position}
use Rattle.delivery_machine.specs.Words.{changed, is_named}
use Rattle.delivery_machine.specs.Acknowledging.{forgetting}
use Rattle.delivery_machine.specs.Dying.{moving}
use Rattle.dead_core.specs.Letters.{next_safe}
use Rattle.topic_subscriptions.specs.Placed.{IsPlacedIn, Placed, is_live_at, sub_in}
use Rattle.topic_parts.specs.Parts.{log_of, state_of}
use Rattle.topic_parts.proofs.Changing.{there_is}
use Rattle.topic_parts.proofs.Held.{as_before, it, tied_one}
use Rattle.topic_parts.proofs.Leaves.{has_letter, left_state, left_tied, letter_at, moved_into, moved_of}
use Rattle.topic_parts.proofs.parts.Parts.move_first.Goals as goal

pub returns-in-Ok-clause-ok : goal.returns-in-Ok-clause-ok
returns-in-Ok-clause-ok c name letter there first =
    let t = c.args.self.now in
    let x = c.index_mut.result.now in
    let here = it t c.args.place c.requires.within x c.index_mut.ensures.value in
    let same = letter_at c.args.position (next_safe x.letters) letter (c.requires.first x here) (first x here) in
    left_state t c.leave_out_of.new.self c.args.place x c.move_first.new.self c.args.position c.holder-holder.result c.index_mut.ensures.value c.leave_out_of.ensures.members c.leave_out_of.ensures.next c.leave_out_of.ensures.rest
    name (moving letter) c.index.result.now there c.requires.well c.len-members.ensures.rising c.index.ensures c.holder-holder.ensures
    (ap (sub_in (log_of t)) c.in-Ok.ensures.ok
    ∙ moved_into (log_of t) t.members.members c.args.index c.args.position x letter c.len-length.ensures.rising c.requires.index same (tied_one t c.args.place c.requires.within x c.index_mut.ensures.value c.requires.tied))
    ∙ ap (λ (q : Position). record (state_of t) { subscriptions = changed (is_named name) (moving letter) (state_of t).subscriptions; members = map (forgetting name (q ∷ [])) t.members.members }) (sym same)

pub returns-in-Ok-clause-tied : goal.returns-in-Ok-clause-tied
returns-in-Ok-clause-tied c =
    let t = c.args.self.now in
    let x = c.index_mut.result.now in
    let here = it t c.args.place c.requires.within x c.index_mut.ensures.value in
    let letter = has_letter c.args.position (next_safe x.letters) (c.requires.first x here) in
    left_tied t c.leave_out_of.new.self c.args.place x c.move_first.new.self c.args.position c.holder-holder.result c.index_mut.ensures.value c.leave_out_of.ensures.members c.leave_out_of.ensures.next c.leave_out_of.ensures.rest
    c.requires.tied
    (subst (λ (p : Placed). IsPlacedIn (log_of t) t.members.members p) (sym c.in-Ok.ensures.ok)
    (moved_of (log_of t) t.members.members c.args.index c.args.position x letter.0 c.len-length.ensures.rising c.requires.index letter.2 letter.1 (tied_one t c.args.place c.requires.within x c.index_mut.ensures.value c.requires.tied)))

pub returns-in-Err-clause-err : goal.returns-in-Err-clause-err
returns-in-Err-clause-err c = as_before c.args.self.now c.args.place c.requires.within c.index_mut.result.now c.index_mut.ensures.value c.move_first.new.self c.in-Err.ensures.err

pub returns-in-Err-clause-gap : goal.returns-in-Err-clause-gap
returns-in-Err-clause-gap c p at =
    subst (λ (x : Placed). (k : ℕ) × (k + 1 ≡ c.args.index) × (is_live_at x k ≡ true))
    (there_is c.args.self.now.subscriptions.items c.args.place c.index_mut.result.now p c.index_mut.ensures.value at) c.in-Err.ensures.gap
