use Rattle.std.proofs.Common.{ap, ◌∙◌, true≢false}
use Rattle.std.specs.FinMap as map_of
use Rattle.pending_core.specs.Pending.{Pending, counted_before}
use Rattle.pending_core.proofs.Collected.{of_entries}
use Rattle.pending_core.proofs.Empty.{seated_nothing}
use Rattle.pending_core.proofs.pending_map.PendingMap.counted.Goals as goal

pub invariant_of-result : goal.invariant_of-result
invariant_of-result c = (
  c.in_ok-set_counts.ensures.tied,
  seated_nothing _ _ c.new.ensures (ap (λ (s : Pending). s.pending) c.in_ok-set_counts.ensures.ok),
  λ off. absurd (true≢false off),
)

pub returns : goal.returns
returns c = c.in_ok-set_counts.ensures.ok ∙ ap counted_before (ap map_of.from_entries c.as_slice.ensures.entries ∙ of_entries c.args.counts.now)
