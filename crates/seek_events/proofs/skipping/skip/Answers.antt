use Rattle.std.proofs.Common.{refl, subst, ℕ}
use Rattle.topic_served.specs.Served.{state_in}
use Rattle.seek_events.specs.Live.{SkipsFirst}
use Rattle.seek_events.proofs.Sought.{has_it, has_none}
use Rattle.seek_events.proofs.InTurn.{no_absence, skip_answers}
use Rattle.seek_events.proofs.skipping.skip.Goals as goal

pub returns-in_default-clause-answers : goal.returns-in_default-clause-answers
returns-in_default-clause-answers c = (no_absence (state_in c.args.served.now) c.args.name.now _ (has_none (state_in c.args.served.now) c.args.name.now c.in_default.ensures.value), refl)

pub returns-clause-answers : goal.returns-clause-answers
returns-clause-answers c =
    let s = state_in c.args.served.now in
    skip_answers s (state_in c.skip_all.new.served) c.args.name.now c.args.count (has_it c.args.served.now.parts c.args.name.now c.in-Some.place c.in-Some.ensures.placed)
    (subst (λ (n : ℕ). SkipsFirst n c.args.name.now s (state_in c.skip_all.new.served)) c.get.ensures.value c.skip_all.ensures.state)
