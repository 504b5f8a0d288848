use Rattle.std.proofs.Common.{ℕ, ◌+◌, ◌-◌, ◌/◌, sym, ap, ◌∙◌, arith}
use Rattle.std.specs.Ordering.{nat_cmp}
use Rattle.topic_members.proofs.Halving.{steps_up, steps_down, nowhere, found, is_less, is_greater, is_equal}
use Rattle.topic_members.proofs.members.place_of_member.Goals as goal

pub loop-low-preserved-in-Less : goal.loop-low-preserved-in-Less
loop-low-preserved-in-Less c =
    let m = c.index-members-middle.result in
    let less = is_less m.number c.args.number (ap (λ (k : ℕ). nat_cmp k c.args.number) (sym c.number-other.ensures) ∙ sym c.in-Less.ensures) in
    steps_up c.args.members.now c.args.number c.loop-low.low c.loop-low.high _ m c.requires c.loop-low.invariant (omega (arith, c.loop-low-test.true)) c.index-members-middle.is less

pub returns-in-Equal : goal.returns-in-Equal
returns-in-Equal c =
    let m = c.index-members-middle.result in
    let same = is_equal m.number c.args.number (ap (λ (k : ℕ). nat_cmp k c.args.number) (sym c.number-other.ensures) ∙ sym c.in-Equal.ensures) in
    found c.args.members.now c.args.number (c.loop-low.low + (c.loop-low.high - c.loop-low.low) / 2) m c.requires (omega (arith, c.loop-low-test.true, c.loop-low.invariant.within)) c.index-members-middle.is same

pub loop-low-preserved : goal.loop-low-preserved
loop-low-preserved c =
    let m = c.index-members-middle.result in
    let greater = is_greater m.number c.args.number (ap (λ (k : ℕ). nat_cmp k c.args.number) (sym c.number-other.ensures) ∙ sym c.in-Greater.ensures) in
    steps_down c.args.members.now c.args.number c.loop-low.low c.loop-low.high _ m c.requires c.loop-low.invariant (omega arith) (omega (arith, c.loop-low-test.true)) c.index-members-middle.is greater

pub returns : goal.returns
returns c = nowhere c.args.members.now c.args.number c.loop-low.low c.loop-low.high c.loop-low.invariant (omega (arith, c.loop-low-test.false))
