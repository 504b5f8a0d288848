use Rattle.std.proofs.Common.{arith}
use Rattle.std.proofs.lemmas.Bool.Decides.{nat_tests}
use Rattle.plain_queries.proofs.Active.{active_more}
use Rattle.plain_queries.proofs.members.active_at.Goals as goal
use Rattle.plain_queries.proofs.members.active_at.Goals.{then-is_at, else-is_at}

pub loop-member-preserved : goal.loop-member-preserved
loop-member-preserved c =
    let more = active_more c.args.name.now c.args.members.now c.loop-member.member-index c.member-item.result c.loop-member-test.true in
    elim c.if-is_at.branch [ then-is_at w ↦ grind (arith, nat_tests, more) | else-is_at w ↦ grind (arith, nat_tests, more) ]
