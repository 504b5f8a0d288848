use Rattle.std.proofs.Common.{◌≡◌, false, take}
use Rattle.std.specs.List.{list_any}
use Rattle.dispatch_keyed.proofs.Owners.{drains}
use Rattle.dispatch_keyed.proofs.hashes.is_draining.Given as goal

abbrev pub invariant-loop-index : goal.invariant-loop-index
invariant-loop-index g l =
    list_any (drains (g.V.View.subscription l.view) l.hash l.owner) (take l.index (g.V.View.state l.view).log) ≡ false
