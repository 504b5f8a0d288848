use Rattle.std.proofs.Common.{◌∙◌, ℕ, List, ap, ap₂, sym, map}
use Rattle.delivery_machine.specs.State.{Member, Subscription}
use Rattle.delivery_machine.specs.Joining.{all_released}
use Rattle.machine_laws.proofs.OrderOverMembers.{emptied_ranks}
use Rattle.machine_laws.proofs.Ranks.{rank_of}
use Rattle.topic_served.specs.Served.{state_in}
use Rattle.member_events.proofs.Beside.{bound_members}
use Rattle.member_events.proofs.Freed.{all_released_already}
use Rattle.member_events.proofs.Standing.{line_named, one_there}
use Rattle.member_events.proofs.taking_over.empty_all.Goals as goal

pub returns-clause-emptied : goal.returns-clause-emptied
returns-clause-emptied c name named =
    let t = c.args.served.now.parts in
    let s = state_in c.args.served.now in
    let x = c.index.result.now in
    let line = c.line.ensures ∙ line_named t c.args.place name x named c.index.ensures c.requires.bound.tied in
    ap₂ (λ (ms : List Member) (n : ℕ). record s { members = ms; next_consumer = n }) (c.empty_those.ensures.at name line) c.empty_those.ensures.next
    ∙ ap (λ (subs : List Subscription). record (all_released name s) { subscriptions = subs })
    (sym (all_released_already t c.args.place name x named (one_there t.subscriptions.items name c.args.place x named c.index.ensures) c.requires.none))

pub returns-clause-bound : goal.returns-clause-bound
returns-clause-bound c =
    let t = c.args.served.now.parts in
    let name = c.requires.stands.name in
    let line = c.line.ensures ∙ line_named t c.args.place name c.index.result.now c.requires.stands.named c.index.ensures c.requires.bound.tied in
    bound_members c.args.served.now c.empty_those.new.self c.empty_those.ensures.next
    (ap (map rank_of) (c.empty_those.ensures.at name line) ∙ emptied_ranks name t.members.members) c.requires.bound
