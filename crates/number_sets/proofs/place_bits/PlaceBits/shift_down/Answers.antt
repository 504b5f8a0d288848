use Rattle.std.proofs.Common.{◌/◌, arith}
use Rattle.number_sets.proofs.Sets.{lowered}
use Rattle.number_sets.proofs.place_bits.PlaceBits.shift_down.Goals as goal

pub returns-clause-places : goal.returns-clause-places
returns-clause-places c =
    rw (← c.self.view_is) (lowered c.self.inside.tree.words.items c.lower.new.self.words.items c.args.count (c.args.count / 64) (omega (arith, c.requires)) c.lower.ensures.has)
