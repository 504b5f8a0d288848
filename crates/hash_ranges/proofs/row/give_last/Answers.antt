use Rattle.std.proofs.Common.{ℕ, ap, sym, ◌∙◌}
use Rattle.std.specs.BTreeMap.{BTreeMap}
use Rattle.hash_ranges.proofs.Leaves.{not_set}
use Rattle.hash_ranges.proofs.row.give_last.Goals as goal

pub returns-in-None : goal.returns-in-None
returns-in-None c = ap (λ (m : BTreeMap ℕ ℕ). m.entries) c.get_mut.follows.holds-at-none ∙ not_set _ c.args.ends.now.entries c.args.consumer (sym c.in-None.ensures.value)
