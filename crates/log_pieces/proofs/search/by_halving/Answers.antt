use Rattle.std.proofs.Common.{◌≡◌, ℕ, ◌+◌, ◌-◌, ◌/◌, Some, sym, ap, ◌∙◌, arith}
use Rattle.std.specs.List.{slice_get}
use Rattle.std.specs.declared.cmp.Ordering.TheVariants.{Less, Equal, Greater}
use Rattle.position_core.specs.declared.position.Position.{Position}
use Rattle.position_core.specs.Position.{position_cmp}
use Rattle.log_pieces.specs.Pieces.{joined}
use Rattle.log_pieces.proofs.Searching.{steps_up, steps_down, nowhere, found}
use Rattle.log_pieces.proofs.search.by_halving.Goals as goal

pub loop-low-preserved-in-Less : goal.loop-low-preserved-in-Less
loop-low-preserved-in-Less c =
    let low : ℕ = c.loop-low.low in
    let high : ℕ = c.loop-low.high in
    let middle : ℕ = low + (high - low) / 2 in
    let m = c.in-Some.message.now in
    let here : slice_get (joined c.args.pieces.now) middle ≡ Some m = sym c.in-Some.ensures in
    let less : position_cmp m.position c.args.at ≡ Less = ap (λ (p : Position). position_cmp p c.args.at) (sym c.position.ensures) ∙ sym c.in-Less.ensures in
    steps_up (joined c.args.pieces.now) c.args.at low high middle m c.requires c.loop-low.invariant (omega (arith, c.loop-low-test.true)) here less

pub returns-in-Equal : goal.returns-in-Equal
returns-in-Equal c =
    let middle : ℕ = c.loop-low.low + (c.loop-low.high - c.loop-low.low) / 2 in
    let m = c.in-Some.message.now in
    let here : slice_get (joined c.args.pieces.now) middle ≡ Some m = sym c.in-Some.ensures in
    let equal : position_cmp m.position c.args.at ≡ Equal = ap (λ (p : Position). position_cmp p c.args.at) (sym c.position.ensures) ∙ sym c.in-Equal.ensures in
    found (joined c.args.pieces.now) c.args.at middle m c.requires here equal

pub loop-low-preserved : goal.loop-low-preserved
loop-low-preserved c =
    let low : ℕ = c.loop-low.low in
    let high : ℕ = c.loop-low.high in
    let middle : ℕ = low + (high - low) / 2 in
    let m = c.in-Some.message.now in
    let here : slice_get (joined c.args.pieces.now) middle ≡ Some m = sym c.in-Some.ensures in
    let greater : position_cmp m.position c.args.at ≡ Greater = ap (λ (p : Position). position_cmp p c.args.at) (sym c.position.ensures) ∙ sym c.in-Greater.ensures in
    steps_down (joined c.args.pieces.now) c.args.at low high middle m c.requires c.loop-low.invariant (omega arith) here greater

pub returns : goal.returns
returns c = nowhere (joined c.args.pieces.now) c.args.at c.loop-low.low c.loop-low.high c.loop-low.invariant (omega (arith, c.loop-low-test.false))
