use Rattle.std.proofs.Common.{rules, ◌≡◌, ◌<◌, false, length, sym, arith}
use Rattle.position_core.specs.TopicName.{same_topic}
use Rattle.delivery_machine.specs.Places.{KeptTopic}
use Rattle.row_store.proofs.Lists.{below_more}
use Rattle.row_store.proofs.planning.is_unknown.Goals as goal

pub loop-one-preserved : goal.loop-one-preserved
loop-one-preserved g c =
    let within : c.loop-one.one-index < length c.args.known.now = omega (arith, c.loop-one-test.true) in
    let other : same_topic c.one-item.result.name c.args.name.now ≡ false = search rules in
    below_more (λ (kept : KeptTopic). same_topic kept.name c.args.name.now ≡ false) c.args.known.now c.loop-one.one-index c.one-item.result within (sym c.one-item.is) c.loop-one.invariant other
