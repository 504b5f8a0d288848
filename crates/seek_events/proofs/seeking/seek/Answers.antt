use Rattle.std.proofs.Common.{◌∙◌, ap, refl}
use Rattle.delivery_machine.specs.Seeking.{sought}
use Rattle.topic_served.specs.Served.{state_in}
use Rattle.topic_served.proofs.Settled.{well_of}
use Rattle.seek_events.proofs.Sought.{refused_hidden, refused_nowhere}
use Rattle.seek_events.proofs.seeking.seek.Goals as goal

pub returns-in_default-clause-answers : goal.returns-in_default-clause-answers
returns-in_default-clause-answers c = (refused_nowhere (state_in c.args.served.now) c.args.name.now c.args.target c.in_default.ensures.value, refl)

pub returns-in_default-length_before-clause-answers : goal.returns-in_default-length_before-clause-answers
returns-in_default-length_before-clause-answers c =
    (refused_hidden c.args.served.now.parts c.args.name.now c.args.target c.in-Some.place _ c.in-Some.ensures.placed c.in_default-length_before.ensures.hidden, refl)

pub seek-requires-clause-well : goal.seek-requires-clause-well
seek-requires-clause-well c = well_of (state_in c.args.served.now) c.requires.reached

pub returns-in-Ok-clause-answers : goal.returns-in-Ok-clause-answers
returns-in-Ok-clause-answers c = (
  refused_hidden c.args.served.now.parts c.args.name.now c.args.target c.in-Some.place _ c.in-Some.ensures.placed c.in-Some-length_before.ensures.hidden,
  (refl, c.in-Ok.ensures.ok ∙ ap (sought (state_in c.args.served.now) c.args.name.now) c.in-Some-length_before.ensures.value),
)

pub returns-in-Err-clause-answers : goal.returns-in-Err-clause-answers
returns-in-Err-clause-answers c =
    (refl, refused_hidden c.args.served.now.parts c.args.name.now c.args.target c.in-Some.place _ c.in-Some.ensures.placed c.in-Some-length_before.ensures.hidden, ap state_in c.in-Err.ensures.err)
