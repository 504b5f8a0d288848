use Rattle.std.proofs.Common.{◌^◌, arith}
use Rattle.ack_ranges.proofs.Lowering.{len_small}
use Rattle.ack_ranges.proofs.ack_set.AckSet.len.Goals as goal

pub lowered-requires : goal.lowered-requires
lowered-requires c =
    omega (arith, c.len.ensures, (len_small c.self.inside.base c.self.inside.spans c.self.invariant (2 ^ 64) (omega arith) c.self.invariant.within).1)

pub returns : goal.returns
returns c =
    rw (← c.self.view_is) (
    let size = len_small c.self.inside.base c.self.inside.spans c.self.invariant (2 ^ 64) (omega arith) c.self.invariant.within in
    omega (arith, c.lowered.ensures, c.len.ensures, size.0)
    )
