use Rattle.std.proofs.Common.{◌∙◌, map, ap, arith, sym}
use Rattle.std.proofs.lemmas.Bool.Decides.{nat_tests}
use Rattle.std.proofs.lemmas.List.{append-nil}
use Rattle.delivery_machine.specs.Words.{greatest_under, signed, signed_by}
use Rattle.plain_lists.proofs.Greatest.{greatest_more}
use Rattle.plain_queries.proofs.log.last_sequence.Goals as goal
use Rattle.plain_queries.proofs.log.last_sequence.Goals.{then-is_by, else-is_by}

pub loop-message-init : goal.loop-message-init
loop-message-init c = c.greatest_of-last.ensures ∙ ap (greatest_under c.args.name.now) (sym (append-nil (map signed_by c.args.authors.now)))

pub loop-message-preserved : goal.loop-message-preserved
loop-message-preserved c =
    let more = greatest_more signed c.args.name.now (map signed_by c.args.authors.now) c.args.log.now c.loop-message.message-index c.message-item.result c.loop-message-test.true in
    elim c.if-is_by.branch [ then-is_by w ↦ grind (arith, nat_tests, more) | else-is_by w ↦ grind (arith, nat_tests, more) ]
