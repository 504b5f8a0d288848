use Rattle.std.proofs.Common.{sym, arith}
use Rattle.std.proofs.lemmas.List.{length-drop}
use Rattle.log_pieces.proofs.Joined.{each_long}
use Rattle.log_pieces.proofs.Moments.{all_earlier}
use Rattle.log_pieces.proofs.pieces.Pieces.earlier_in.Goals as goal

pub returns-then-is_earlier-clause-value : goal.returns-then-is_earlier-clause-value
returns-then-is_earlier-clause-value c s at =
    let all = c.is_earlier.ensures c.if-is_earlier.true s at in
    omega (arith, all.1, all_earlier c.args.time 0 c.args.from s all.0, length-drop c.args.from s)

pub count_earlier-requires : goal.count_earlier-requires
count_earlier-requires c =
    omega (arith, each_long 1024 c.self.inside.sealed c.in-Some.segment.now c.args.place c.self.invariant.segments (sym c.in-Some.ensures), c.requires)

pub returns-in-Some-clause-within : goal.returns-in-Some-clause-within
returns-in-Some-clause-within c =
    omega (arith, each_long 1024 c.self.inside.sealed c.in-Some.segment.now c.args.place c.self.invariant.segments (sym c.in-Some.ensures), c.count_earlier.ensures.within)
