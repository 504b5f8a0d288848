use Rattle.std.proofs.Common.{rules}
use Rattle.topic_parts.specs.Parts.{state_of}
use Rattle.topic_core.proofs.Goes.{one_more_told}
use Rattle.topic_core.proofs.restoring.dispatchers_of.Goals as goal

pub loop-place-preserved : goal.loop-place-preserved
loop-place-preserved c = record {
  many = search rules;
  each = one_more_told (state_of c.args.parts.now) c.loop-place.dispatchers.items c.push.new.self.items c.loop-place.place c.in-Ok.begun c.loop-place.invariant.many (search rules) c.loop-place.invariant.each c.in-Ok.ensures.ok;
}
