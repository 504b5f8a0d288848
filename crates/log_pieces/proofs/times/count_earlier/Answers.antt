use Rattle.std.proofs.lemmas.List.Sums.{prefix_len-le-length}
use Rattle.log_pieces.proofs.Searching.{at_the_end}
use Rattle.log_pieces.proofs.times.count_earlier.Goals as goal

pub returns-in-None-clause-value : goal.returns-in-None-clause-value
returns-in-None-clause-value c = at_the_end _ _ (prefix_len-le-length _ c.args.messages.now) c.in-None.ensures
