use Rattle.std.proofs.Common.{◌≡◌, ℕ, ◌-◌, ◌<◌, ◌≤◌}
use Rattle.std.specs.FinMap as map_of
use Rattle.dispatch_keyed.specs.Resharing.{SameButFirsts, IsRenewed}
use Rattle.dispatch_keyed.proofs.keyed.Keyed.renew_between.Given as goal

abbrev pub invariant-loop-hash : goal.invariant-loop-hash
invariant-loop-hash g l = record {
  rest : SameButFirsts l.initial.self l.self;
  start : l.from ≤ l.next;
  behind : (h : ℕ) → l.next ≤ h → map_of.get l.self.firsts.numbers h ≡ map_of.get l.initial.self.firsts.numbers h;
  others : (h : ℕ) → (l.from ≤ h → h < l.end → ⊥) → map_of.get l.self.firsts.numbers h ≡ map_of.get l.initial.self.firsts.numbers h;
  first : (h : ℕ) → l.from ≤ h → h < l.next → IsRenewed l.initial.self l.self h (g.V.View.state l.view) (g.V.View.subscription l.view);
}

abbrev pub decreases-loop-hash : goal.decreases-loop-hash
decreases-loop-hash g l = 65536 - l.next
