use Rattle.std.proofs.Common.{sym, arith}
use Rattle.dispatch_keyed.proofs.Shares.{share_within}
use Rattle.dispatch_keyed.proofs.resharing.hashes_of.Goals as goal

pub overflow_add-result : goal.overflow_add-result
overflow_add-result c =
    omega (arith, share_within c.args.consumer c.args.shares.now.blocks c.in-Some.share (c.in-Some.ensures.split c.requires) (sym c.in-Some.ensures.value))
