use Rattle.std.proofs.Common.{◌∙◌, ap, length, sym}
use Rattle.std.proofs.lemmas.List.{length-map}
use Rattle.delivery_machine.specs.State.{Member}
use Rattle.delivery_machine.specs.Words.{members_of}
use Rattle.topic_served.specs.Served.{state_in}
use Rattle.topic_served.proofs.Settled.{well_of}
use Rattle.member_events.proofs.Absent.{nobody_at}
use Rattle.member_events.proofs.Standing.{line_named}
use Rattle.member_events.proofs.refusing.number_at.Goals as goal

pub returns-in-Some : goal.returns-in-Some
returns-in-Some c =
    let s = state_in c.args.served.now in
    ap length (c.line.ensures ∙ line_named c.args.served.now.parts c.in-Some.place c.args.name.now c.index.result.now c.in-Some.ensures.placed c.index.ensures c.requires.bound.tied)
    ∙ length-map (members_of s c.args.name.now) (λ (m : Member). m.number)

pub returns-in-None : goal.returns-in-None
returns-in-None c =
    let s = state_in c.args.served.now in
    sym (ap length (nobody_at s c.args.name.now (well_of s c.requires.reached) c.in-None.ensures.value))
