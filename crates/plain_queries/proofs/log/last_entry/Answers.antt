use Rattle.std.proofs.Common.{arith}
use Rattle.std.proofs.lemmas.Bool.Decides.{nat_tests}
use Rattle.plain_queries.proofs.Last.{used_last}
use Rattle.plain_queries.proofs.log.last_entry.Goals as goal

pub returns-then-last-ledger : goal.returns-then-last-ledger
returns-then-last-ledger c =
    let is = used_last c.args.ledger c.args.log.now c.in_ok-last.field-0.now c.in_ok-last.ensures.value in
    grind (arith, nat_tests, is, c.position-last.ensures, c.if-last-ledger.true)

pub returns-else-last-ledger : goal.returns-else-last-ledger
returns-else-last-ledger c =
    let is = used_last c.args.ledger c.args.log.now c.in_ok-last.field-0.now c.in_ok-last.ensures.value in
    grind (arith, nat_tests, is, c.position-last.ensures, c.if-last-ledger.false)
