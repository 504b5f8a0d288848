use Rattle.hash_rows.proofs.Marks.{put_there, put_away}
use Rattle.hash_rows.proofs.changing.put.Goals as goal

pub returns-then-there-clause-ranks : goal.returns-then-there-clause-ranks
returns-then-there-clause-ranks c = rw c.insert.ensures (put_there c.args.ranks.now.places c.args.rank c.args.there c.if-there.true)

pub returns-else-there-clause-ranks : goal.returns-else-there-clause-ranks
returns-else-there-clause-ranks c = rw c.remove.ensures (put_away c.args.ranks.now.places c.args.rank c.args.there c.if-there.false)
