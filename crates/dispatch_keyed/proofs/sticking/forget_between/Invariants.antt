use Rattle.std.proofs.Common.{◌≡◌, ℕ, ◌<◌, ◌≤◌, None}
use Rattle.std.specs.FinMap as map_of
use Rattle.dispatch_keyed.proofs.sticking.forget_between.Given as goal

abbrev pub invariant-loop-hash : goal.invariant-loop-hash
invariant-loop-hash l = record {
  room : l.firsts.room ≡ l.initial.firsts.room;
  others : (h : ℕ) → (l.from ≤ h → h < l.end → ⊥) → map_of.get l.firsts.numbers h ≡ map_of.get l.initial.firsts.numbers h;
  kept : (h : ℕ) → map_of.get l.initial.firsts.numbers h ≡ None → map_of.get l.firsts.numbers h ≡ None;
}

abbrev pub decreases-loop-hash : goal.decreases-loop-hash
decreases-loop-hash l = map_of.len l.firsts.numbers
