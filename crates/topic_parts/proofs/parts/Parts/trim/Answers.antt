use Rattle.std.proofs.Common.{ap, map, ◌∙◌}
use Rattle.topic_log.specs.Written.{Written}
use Rattle.topic_subscriptions.specs.Placed.{trimmed_to}
use Rattle.topic_parts.proofs.Gone.{trimmed_state, trimmed_tied}
use Rattle.topic_parts.proofs.parts.Parts.trim.Goals as goal

pub returns-clause-state : goal.returns-clause-state
returns-clause-state c =
    trimmed_state c.args.self.now c.trim.new.self c.trim_each.new.subscriptions c.args.count c.len-length.ensures.rising c.requires.tied c.requires.may.acknowledged
    (ap (λ (w : Written). w.log.log) c.trim.ensures.value) (c.trim_each.ensures ∙ ap (map (trimmed_to c.args.count)) c.deref_mut.ensures.value) c.trim.ensures.machine

pub returns-clause-tied : goal.returns-clause-tied
returns-clause-tied c =
    trimmed_tied c.args.self.now c.trim.new.self c.trim_each.new.subscriptions c.args.count c.len-length.ensures.rising c.requires.tied c.requires.may.acknowledged
    (ap (λ (w : Written). w.log.log) c.trim.ensures.value) (c.trim_each.ensures ∙ ap (map (trimmed_to c.args.count)) c.deref_mut.ensures.value)
