use Rattle.std.proofs.Common.{◌+◌, ◌-◌, ◌∙◌, ◌≤◌, ◌^◌, ap, arith}
use Rattle.std.specs.FinSet as set
use Rattle.ack_ranges.proofs.Lowering.{next_within}
use Rattle.ack_ranges.proofs.Raised.{lowered_none, raised_below, raised_on, lowered_on, passed, lowered_end}
use Rattle.ack_ranges.proofs.ack_set.AckSet.forget_below.Goals as goal

pub invariant_of-self : goal.invariant_of-self
invariant_of-self c =
    rw c.in-Some.ensures.1 (raised_on c.self.inside.base c.self.inside.spans c.self.invariant c.args.count (rw c.self.view_is c.requires))

pub returns-in-Some : goal.returns-in-Some
returns-in-Some c =
    rw (c.in-Some.ensures.1, ← c.self.view_is) (lowered_on c.self.inside.base c.self.inside.spans c.self.invariant c.args.count (rw c.self.view_is c.requires))

pub overflow_sub-kept : goal.overflow_sub-kept
overflow_sub-kept c =
    let high : 2 ^ 64 ≤ c.self.inside.base + c.args.count = omega (arith, c.in-None.ensures) in
    omega (arith, c.raised.ensures, passed c.self.inside.base c.self.inside.spans c.self.invariant c.args.count (rw c.self.view_is c.requires) c.first_missing.result c.first_missing.ensures high)

pub invariant_of-self-in-None : goal.invariant_of-self-in-None
invariant_of-self-in-None c =
    let few = next_within c.self.inside.base c.self.inside.spans c.self.invariant 0 c.first_missing.result (omega arith) c.first_missing.ensures in
    rw c.reset.ensures (raised_below (c.first_missing.result - c.raised.result) (omega (arith, few, c.raised.ensures)))

pub returns-in-None : goal.returns-in-None
returns-in-None c =
    let high : 2 ^ 64 ≤ c.self.inside.base + c.args.count = omega (arith, c.in-None.ensures) in
    rw (← c.self.view_is) (λ q.
    ap (λ (s : set.FinSet _). set.contains s q) (lowered_none c.reset.new.self ∙ c.reset.ensures)
    ∙ lowered_end c.self.inside.base c.self.inside.spans c.self.invariant c.args.count (rw c.self.view_is c.requires) c.first_missing.result c.first_missing.ensures high (c.first_missing.result - c.raised.result) (ap (λ k. c.first_missing.result - k) c.raised.ensures) q)
