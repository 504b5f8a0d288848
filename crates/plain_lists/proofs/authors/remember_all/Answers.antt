use Rattle.std.proofs.Common.{◌∙◌, ◌+◌, ap}
use Rattle.delivery_machine.specs.Trimming.{with_author}
use Rattle.plain_lists.proofs.Signing.{authors_step}
use Rattle.plain_lists.proofs.authors.remember_all.Goals as goal

pub each-preserved : goal.each-preserved
each-preserved c =
    let e = c.index-messages-i.result in
    c.in_ok-remember.ensures
    ∙ ap (with_author (c.args.index + c.each.i) e) c.each.invariant
    ∙ authors_step c.args.index c.args.messages.now c.each.i e c.args.authors.now.items c.each-test.true c.index-messages-i.is
