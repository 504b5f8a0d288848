use Rattle.std.proofs.Common.{rules, ap, ◌∙◌, w64}
use Rattle.std.specs.Prelude.{ℤ}
use Rattle.std.proofs.lemmas.Int.{to_z-of_z}
use Rattle.delivery_machine.specs.State.{Author}
use Rattle.dedup_core.specs.Sequences.{offered}
use Rattle.topic_log.proofs.Restored.{author_on}
use Rattle.topic_log.proofs.restoring.numbers_of.Goals as goal

pub each-preserved : goal.each-preserved
each-preserved c =
    let i = c.author.inside in
    author_on c.args.authors.now c.each.i c.index-authors-i.result c.each.sequences c.offer.new.self c.each-test.true c.requires c.index-authors-i.is c.each.invariant
    (c.in_ok-offer.ensures.ok
    ∙ ap (λ (n : ℤ). offered i.name n i.index c.each.sequences) (to_z-of_z w64 i.sequence (search rules))
    ∙ ap (λ (a : Author). offered a.name a.sequence a.index c.each.sequences) c.author.view_is)
