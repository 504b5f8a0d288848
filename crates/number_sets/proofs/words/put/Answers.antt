use Rattle.number_sets.proofs.Bits.{put_has, put_used, word_is_empty}
use Rattle.number_sets.proofs.words.put.Goals as goal

pub returns-clause-has : goal.returns-clause-has
returns-clause-has c = put_has c.args.words.now c.args.number c.requires

pub returns-clause-used : goal.returns-clause-used
returns-clause-used c = put_used c.args.words.now c.args.number c.requires

pub returns-clause-was : goal.returns-clause-was
returns-clause-was c = word_is_empty c.args.words.now _
