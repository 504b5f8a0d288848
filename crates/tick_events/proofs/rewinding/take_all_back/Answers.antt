use Rattle.std.proofs.Common.{◌∙◌, ap, sym}
use Rattle.delivery_machine.specs.Ticking.{redelivered}
use Rattle.topic_subscriptions.specs.Placed.{Placed}
use Rattle.topic_parts.specs.Parts.{state_of}
use Rattle.topic_parts.proofs.Changing.{there_is}
use Rattle.tick_events.specs.Rewinding.{pending_at}
use Rattle.tick_events.proofs.Rewound.{line_there, rewound_state, rewound_tied}
use Rattle.tick_events.proofs.rewinding.take_all_back.Goals as goal

pub returns-clause-state : goal.returns-clause-state
returns-clause-state c p at =
    let t = c.args.parts.now in
    let name = c.args.name.now in
    let x = c.index_mut.result.now in
    let y = c.recount_all.new.subscription in
    let line = c.line.ensures ∙ line_there t name c.args.place x y c.requires.place c.index_mut.ensures.value c.recount_all.ensures c.requires.tied c.index.result.now c.index.ensures in
    rewound_state t name c.args.place x y c.requires.place c.index_mut.ensures.value c.recount_all.ensures c.requires.tied c.empty_those.new.self (c.empty_those.ensures.at name line) c.empty_those.ensures.next c.requires.well
    ∙ ap (λ (z : Placed). redelivered (state_of t) name (pending_at t z)) (there_is t.subscriptions.items c.args.place x p c.index_mut.ensures.value (sym at))

pub returns-clause-tied : goal.returns-clause-tied
returns-clause-tied c =
    rewound_tied c.args.parts.now c.args.name.now c.args.place c.index_mut.result.now c.recount_all.new.subscription c.requires.place c.index_mut.ensures.value c.recount_all.ensures c.requires.tied c.empty_those.new.self
    c.line.result.now c.empty_those.ensures.members
