use Rattle.std.proofs.Common.{◌≡◌, ◌-◌}
use Rattle.dispatch_keyed.specs.Hashes.{NoneFreeBefore}
use Rattle.dispatch_keyed.specs.Owning.{owners_in}
use Rattle.dispatch_keyed.proofs.hashes.first_free_from.Given as goal

abbrev pub invariant-loop-from : goal.invariant-loop-from
invariant-loop-from g l =
    l.owners ≡ owners_in (g.V.View.state l.view) (g.V.View.subscription l.view)
    → NoneFreeBefore (g.V.View.state l.view) (g.V.View.subscription l.view) l.initial.from
    → NoneFreeBefore (g.V.View.state l.view) (g.V.View.subscription l.view) l.from

abbrev pub decreases-loop-from : goal.decreases-loop-from
decreases-loop-from g l = l.visible - l.from
