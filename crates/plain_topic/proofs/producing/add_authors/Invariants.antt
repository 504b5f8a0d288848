use Rattle.std.proofs.Common.{◌≡◌, ◌++◌, map, take}
use Rattle.plain_topic.proofs.producing.add_authors.Given as goal

abbrev pub invariant-loop-author : goal.invariant-loop-author
invariant-loop-author l = l.names.items ≡ l.initial.names.items ++ map (λ a. a.name) (take l.author-index l.authors)
