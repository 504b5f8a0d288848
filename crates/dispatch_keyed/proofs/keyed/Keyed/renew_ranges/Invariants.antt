use Rattle.std.proofs.Common.{◌≡◌, ℕ, ◌^◌, ◌<◌, true, false, take}
use Rattle.std.specs.FinMap as map_of
use Rattle.position_core.specs.Ranges.{have_hash}
use Rattle.dispatch_keyed.specs.Resharing.{SameButFirsts, IsRenewed}
use Rattle.dispatch_keyed.proofs.keyed.Keyed.renew_ranges.Given as goal

abbrev pub invariant-loop-range : goal.invariant-loop-range
invariant-loop-range g l = record {
  rest : SameButFirsts l.initial.self l.self;
  others : (h : ℕ) → have_hash (take l.range-index l.ranges) h ≡ false → map_of.get l.self.firsts.numbers h ≡ map_of.get l.initial.self.firsts.numbers h;
  first : (h : ℕ) → h < 2 ^ 16 → have_hash (take l.range-index l.ranges) h ≡ true → IsRenewed l.initial.self l.self h (g.V.View.state l.view) (g.V.View.subscription l.view);
}
