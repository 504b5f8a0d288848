use Rattle.std.proofs.Common.{rules}
use Rattle.std.proofs.lemmas.List.Sorted.{answers_always}
use Rattle.pending_core.proofs.Numbering.{searched}
use Rattle.pending_core.proofs.counts.Counts.search.Goals as goal

-- the closure gives a pair's consumer
pub returns : goal.returns
returns c =
    let facts = c.binary_search_by_key.ensures in
    let by_consumer = facts.position (λ pair. pair.0) (answers_always _ _ _ (λ f a r g called. search rules)) in
    rw (← c.self.view_is, ← c.deref.ensures.value) (searched _ (rw c.deref.ensures.value c.self.invariant) c.args.consumer _ facts.bound by_consumer)
