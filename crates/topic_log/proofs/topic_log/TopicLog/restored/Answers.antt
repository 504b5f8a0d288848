use Rattle.std.proofs.Common.{◌≡◌, ap, arith, length}
use Rattle.log_pieces.specs.Pieces.{joined}
use Rattle.entry_log.specs.Log.{Log}
use Rattle.topic_log.proofs.Free.{kept_afresh}
use Rattle.topic_log.proofs.topic_log.TopicLog.restored.Goals as goal

pub invariant_of-result : goal.invariant_of-result
invariant_of-result c =
    let all : length c.restored.result.log ≡ length (joined c.args.pieces) = ap (λ (q : Log). length q.log) c.restored.ensures in
    kept_afresh c.args.gone c.args.authors.items c.restored.result.log c.count-durable.result c.new-2.result.items (omega (arith, all, c.count-durable.ensures)) c.requires.room c.requires.remembered c.new-2.ensures.items
