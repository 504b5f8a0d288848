use Rattle.std.proofs.Common.{◌∙◌, ap, cond, sym}
use Rattle.delivery_machine.specs.Joining.{all_released}
use Rattle.topic_served.specs.Served.{state_in}
use Rattle.member_events.proofs.Standing.{still_named, still_stands}
use Rattle.member_events.proofs.taking_over.take_over.Goals as goal

pub empty_all-requires-clause-stands : goal.empty_all-requires-clause-stands
empty_all-requires-clause-stands c = still_stands c.args.served.now.parts c.release_all.new.served.parts c.args.place c.release_all.ensures.same.kept c.requires.stands

pub returns-then-is_taken_over-clause-over : goal.returns-then-is_taken_over-clause-over
returns-then-is_taken_over-clause-over c name named =
    let s = state_in c.args.served.now in
    c.empty_all.ensures.emptied name (still_named c.args.served.now.parts c.release_all.new.served.parts c.args.place name c.release_all.ensures.same.kept named)
    ∙ c.release_all.ensures.same.same name named
    ∙ sym (ap (λ b. cond b (all_released name s) s) (sym (c.is_taken_over.ensures name named) ∙ c.if-is_taken_over.true))
