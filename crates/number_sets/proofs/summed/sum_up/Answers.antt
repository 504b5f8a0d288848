use Rattle.std.proofs.Common.{◌∙◌}
use Rattle.number_sets.proofs.Front.{used_at_first, used_next, unused_next, used_in_all}
use Rattle.number_sets.proofs.summed.sum_up.Goals as goal
use Rattle.number_sets.proofs.summed.sum_up.Goals.{then-words-index-ne0, else-words-index-ne0}

pub loop-index-init : goal.loop-index-init
loop-index-init g c = record {
  room = c.empty.ensures.room;
  has = used_at_first _ c.args.words.now c.empty.ensures.none;
}

pub loop-index-preserved : goal.loop-index-preserved
loop-index-preserved g c = elim c.if-words-index-ne0.branch [
  | then-words-index-ne0 w ↦ rw w.above-is (record {
    room = w.insert.ensures.room ∙ c.loop-index.invariant.room;
    has = used_next _ _ c.args.words.now c.loop-index.index w.if-words-index-ne0.true c.loop-index.invariant.has w.insert.ensures.has;
  })
  | else-words-index-ne0 w ↦ rw w.above-is (record {
    room = c.loop-index.invariant.room;
    has = unused_next _ c.args.words.now c.loop-index.index w.if-words-index-ne0.false c.loop-index.invariant.has;
  })
]

pub returns-clause-has : goal.returns-clause-has
returns-clause-has g c = used_in_all _ c.args.words.now c.loop-index.index c.loop-index-test.false c.loop-index.invariant.has
