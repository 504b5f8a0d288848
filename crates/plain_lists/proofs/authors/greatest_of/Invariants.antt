use Rattle.std.proofs.Common.{◌≡◌, map, take}
use Rattle.delivery_machine.specs.Words.{greatest_under, signed_by}
use Rattle.plain_lists.proofs.authors.greatest_of.Given as goal

abbrev pub invariant-loop-author : goal.invariant-loop-author
invariant-loop-author l = l.greatest ≡ greatest_under l.name (map signed_by (take l.author-index l.authors))
