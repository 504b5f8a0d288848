use Rattle.std.proofs.Common.{[], arith}
use Rattle.std.proofs.lemmas.Bool.Decides.{nat_tests}
use Rattle.delivery_machine.specs.Words.{signed_by}
use Rattle.plain_lists.proofs.Greatest.{greatest_more}
use Rattle.plain_lists.proofs.authors.greatest_of.Goals as goal
use Rattle.plain_lists.proofs.authors.greatest_of.Goals.{then-is_author, else-is_author}

pub loop-author-preserved : goal.loop-author-preserved
loop-author-preserved c =
    let more = greatest_more signed_by c.args.name.now [] c.args.authors.now c.loop-author.author-index c.author-item.result c.loop-author-test.true in
    elim c.if-is_author.branch [ then-is_author w ↦ grind (arith, nat_tests, more) | else-is_author w ↦ grind (arith, nat_tests, more) ]
