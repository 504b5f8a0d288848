use Rattle.std.proofs.Common.{◌≡◌, take}
use Rattle.std.specs.List.{filter}
use Rattle.topic_lives.specs.Deleting.{moves_letters}
use Rattle.topic_lives.proofs.deleting.couriers_among.Given as goal

abbrev pub invariant-loop-author : goal.invariant-loop-author
invariant-loop-author l = l.couriers.items ≡ filter moves_letters (take l.author-index l.authors)
