use Rattle.std.proofs.Common.{◌∙◌, ap, refl}
use Rattle.delivery_machine.specs.Seeking.{sought}
use Rattle.topic_served.specs.Served.{state_in}
use Rattle.topic_served.proofs.Settled.{well_of}
use Rattle.seek_events.proofs.Sought.{has_it, has_none}
use Rattle.seek_events.proofs.InTurn.{no_absence}
use Rattle.seek_events.proofs.seeking_time.seek_time.Goals as goal

pub returns-in_default-clause-answers : goal.returns-in_default-clause-answers
returns-in_default-clause-answers c = (no_absence (state_in c.args.served.now) c.args.name.now _ (has_none (state_in c.args.served.now) c.args.name.now c.in_default.ensures.value), refl)

pub seek-requires-clause-well : goal.seek-requires-clause-well
seek-requires-clause-well c = well_of (state_in c.args.served.now) c.requires.reached

pub returns-in-Ok-clause-answers : goal.returns-in-Ok-clause-answers
returns-in-Ok-clause-answers c = (
  no_absence (state_in c.args.served.now) c.args.name.now _ (has_it c.args.served.now.parts c.args.name.now c.in-Some.place c.in-Some.ensures.placed),
  (refl, c.in-Ok.ensures.ok ∙ ap (sought (state_in c.args.served.now) c.args.name.now) c.count_earlier-end.ensures.value),
)

pub returns-in-Err-clause-answers : goal.returns-in-Err-clause-answers
returns-in-Err-clause-answers c =
    (refl, no_absence (state_in c.args.served.now) c.args.name.now _ (has_it c.args.served.now.parts c.args.name.now c.in-Some.place c.in-Some.ensures.placed), ap state_in c.in-Err.ensures.err)
