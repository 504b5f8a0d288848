use Rattle.std.proofs.Common.{◌≡◌, take}
use Rattle.topic_log.proofs.authors.copy_of.Given as goal

abbrev pub invariant-loop-author : goal.invariant-loop-author
invariant-loop-author l = l.copy.items ≡ take l.author-index l.authors
