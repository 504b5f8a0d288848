use Rattle.std.proofs.Common.{◌+◌, sym, ap, ◌∙◌}
use Rattle.delivery_machine.specs.Trimming.{with_author}
use Rattle.dedup_core.proofs.Remembering.{one_more}
use Rattle.topic_log.proofs.Remembering.{distinct_so_far}
use Rattle.topic_log.proofs.authors.remember_all.Goals as goal

pub remember-requires : goal.remember-requires
remember-requires c =
    distinct_so_far c.args.gone c.args.entries.now.log c.loop-index.index c.args.authors.now.items c.loop-index.authors.items c.requires.remembered c.loop-index.invariant

pub loop-index-preserved : goal.loop-index-preserved
loop-index-preserved c =
    c.in_ok-remember.ensures
    ∙ ap (with_author (c.args.gone + c.loop-index.index) c.in-Some.message.now) c.loop-index.invariant
    ∙ one_more c.args.gone c.args.entries.now.log c.loop-index.index c.in-Some.message.now c.args.authors.now.items (sym c.in-Some.ensures)
