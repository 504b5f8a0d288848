use Rattle.hash_rows.proofs.Shed.{put_down, put_out}
use Rattle.hash_rows.proofs.shedding.move_down.Goals as goal

pub returns-then-gone-rank-clause-ranks : goal.returns-then-gone-rank-clause-ranks
returns-then-gone-rank-clause-ranks c =
    rw (c.insert.ensures, c.remove.ensures) (put_down c.args.ranks.now.places c.args.gone c.args.rank c.if-gone-rank.true)

pub returns-else-gone-rank-clause-ranks : goal.returns-else-gone-rank-clause-ranks
returns-else-gone-rank-clause-ranks c =
    rw c.remove.ensures (put_out c.args.ranks.now.places c.args.gone c.args.rank c.if-gone-rank.false)
