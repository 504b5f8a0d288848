use Rattle.std.proofs.Common.{◌≡◌, ◌≢◌, ℕ, ◌-◌, ◌<◌, ◌≤◌, Some, None}
use Rattle.std.specs.FinMap as map_of
use Rattle.delivery_machine.specs.Shares.{owner_of}
use Rattle.dispatch_keyed.specs.Resharing.{SameButFirsts}
use Rattle.dispatch_keyed.proofs.keyed.Keyed.forget_owned.Given as goal

abbrev pub invariant-loop-block : goal.invariant-loop-block
invariant-loop-block l = record {
  rest : SameButFirsts l.initial.self l.self;
  within : l.from ≤ 65536;
  others : (h : ℕ) → owner_of l.initial.self.owners.shares h ≢ Some l.consumer → map_of.get l.self.firsts.numbers h ≡ map_of.get l.initial.self.firsts.numbers h;
  gone : (h : ℕ) → h < l.from → owner_of l.initial.self.owners.shares h ≡ Some l.consumer → map_of.get l.self.firsts.numbers h ≡ None;
}

abbrev pub decreases-loop-block : goal.decreases-loop-block
decreases-loop-block l = 65536 - l.from
