use Rattle.std.proofs.Common.{rules, drop, ap, ◌∙◌}
use Rattle.std.proofs.lemmas.List.{drop-drop}
use Rattle.broker_parts.proofs.bulk.Bulk.drop_front.Goals as goal

pub loop-preserved : goal.loop-preserved
loop-preserved c = record {
  sizes = c.drop_first.ensures.sizes ∙ ap (drop 1) c.loop.invariant.sizes ∙ drop-drop 1 c.loop.counter c.args.self.now.sizes.items;
  others = search rules;
}
