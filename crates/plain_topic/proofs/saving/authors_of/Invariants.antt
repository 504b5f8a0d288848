use Rattle.std.proofs.Common.{◌≡◌, take}
use Rattle.plain_topic.proofs.saving.authors_of.Given as goal

abbrev pub invariant-loop-author : goal.invariant-loop-author
invariant-loop-author l = l.copies.items ≡ take l.author-index l.authors
