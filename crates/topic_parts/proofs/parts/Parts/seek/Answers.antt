use Rattle.std.proofs.Common.{ap, ◌∙◌}
use Rattle.topic_subscriptions.specs.Placed.{sought_to}
use Rattle.topic_parts.proofs.Held.{as_before, it}
use Rattle.topic_parts.proofs.Sought.{line_here, sought_state, sought_tied, written}
use Rattle.topic_parts.proofs.parts.Parts.seek.Goals as goal

pub returns-in-Ok-seek-clause-ok : goal.returns-in-Ok-seek-clause-ok
returns-in-Ok-seek-clause-ok c name there =
    let t = c.args.self.now in
    let x = c.index_mut.result.now in
    let is = c.in-Ok-seek.ensures.ok ∙ ap (λ dead. sought_to c.args.end dead x) c.deref.ensures.value in
    sought_state t c.empty_members_at.new.self c.args.place c.args.end x c.seek.new.self c.in-Ok.dead.items c.requires.within c.index_mut.ensures.value is c.empty_members_at.ensures.next c.empty_members_at.ensures.rest c.len-length.ensures.rising c.requires.tied
    name there
    (c.empty_members_at.ensures.at name (line_here t c.empty_members_at.new.self c.args.place c.args.end x c.seek.new.self c.in-Ok.dead.items c.requires.within c.index_mut.ensures.value is c.empty_members_at.ensures.next c.empty_members_at.ensures.rest c.len-length.ensures.rising c.requires.tied name there))

pub returns-in-Ok-seek-clause-tied : goal.returns-in-Ok-seek-clause-tied
returns-in-Ok-seek-clause-tied c =
    let t = c.args.self.now in
    let x = c.index_mut.result.now in
    let is = c.in-Ok-seek.ensures.ok ∙ ap (λ dead. sought_to c.args.end dead x) c.deref.ensures.value in
    sought_tied t c.empty_members_at.new.self c.args.place c.args.end x c.seek.new.self c.in-Ok.dead.items c.requires.within c.index_mut.ensures.value is c.empty_members_at.ensures.next c.empty_members_at.ensures.rest c.len-length.ensures.rising c.requires.tied
    c.seek.new.self.line
    (c.empty_members_at.ensures.members c.seek.new.self (written t c.empty_members_at.new.self c.args.place c.args.end x c.seek.new.self c.in-Ok.dead.items c.requires.within c.index_mut.ensures.value is c.empty_members_at.ensures.next c.empty_members_at.ensures.rest c.len-length.ensures.rising c.requires.tied))
    c.requires.end
    (c.in-Ok.ensures.stand x (it t c.args.place c.requires.within x c.index_mut.ensures.value))

pub returns-clause-err : goal.returns-clause-err
returns-clause-err c = as_before c.args.self.now c.args.place c.requires.within c.index_mut.result.now c.index_mut.ensures.value c.seek.new.self c.in-Err-seek.ensures.err
