use Rattle.std.proofs.Common.{◌<◌, ◌≤◌, length, subst, sym}
use Rattle.entry_log.specs.Log.{Log}
use Rattle.topic_log.specs.Written.{Written}
use Rattle.topic_log.proofs.Free.{kept_afresh, kept_popped}
use Rattle.topic_log.proofs.topic_log.TopicLog.take_back.Goals as goal

pub invariant_of-self : goal.invariant_of-self
invariant_of-self c =
    let more : c.self.inside.durable < length c.self.inside.entries.log = subst (λ (w : Written). w.durable < length w.log.log) (sym c.self.view_is) c.requires in
    let within : c.self.inside.durable ≤ length c.pop.new.self.log = subst (λ (q : Log). c.self.inside.durable ≤ length q.log) (sym c.pop.ensures.log) (kept_popped c.self.inside.entries c.self.inside.durable more) in
    kept_afresh c.self.inside.gone c.self.inside.authors.items c.pop.new.self.log c.self.inside.durable c.clear.new.self.items within c.self.invariant.room c.self.invariant.remembered c.clear.ensures.items
