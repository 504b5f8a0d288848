use Rattle.std.proofs.Common.{rules, ◌≡◌, ◌++◌, ◌∷◌, []}
use Rattle.log_pieces.specs.Pieces.{joined}
use Rattle.plain_topic.proofs.Saved.{one_more}
use Rattle.plain_topic.proofs.saving.out_of_pieces.Goals as goal

pub each-preserved : goal.each-preserved
each-preserved c =
    let more : c.push.new.self.items ≡ c.each.log.items ++ c.in-Some.message.now ∷ [] = search rules in
    one_more (joined c.args.pieces.now) c.each.log.items c.push.new.self.items c.each.i c.in-Some.message.now c.in-Some.ensures c.each.invariant more
