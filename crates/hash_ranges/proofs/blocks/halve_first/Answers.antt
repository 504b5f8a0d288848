use Rattle.std.proofs.Common.{◌≡◌, ◌∙◌, ◌<◌, ◌+◌, ◌-◌, ap, sym, subst, arith, List, length, get_or, set}
use Rattle.std.specs.List.{insert}
use Rattle.std.proofs.lemmas.List.Quantifiers.{position-Some}
use Rattle.position_core.specs.declared.block.Block.{Block}
use Rattle.delivery_machine.specs.Shares.{halving}
use Rattle.delivery_machine.specs.ShareSets.{AreApart}
use Rattle.hash_ranges.proofs.Apart.{ends_among}
use Rattle.hash_ranges.proofs.Placed.{halved_first, none_halved, apart_halved}
use Rattle.hash_ranges.proofs.blocks.halve_first.Goals as goal

pub returns-in_default-clause-value : goal.returns-in_default-clause-value
returns-in_default-clause-value c =
    subst (λ (bs : List Block). bs ≡ halving c.args.size c.args.consumer bs) c.deref.ensures.value (none_halved c.args.size c.args.consumer c.deref.result.now c.in_default.ensures)

pub overflow_add-whole : goal.overflow_add-whole
overflow_add-whole c =
    let whole = c.index-whole.result.now in
    let at = position-Some _ c.deref.result.now c.in-Some.place whole (sym c.in-Some.ensures) in
    let inside : c.in-Some.place < length c.args.blocks.now.items = omega (arith, at.0, ap (λ (bs : List Block). length bs) c.deref.ensures.value) in
    let end = ends_among 0 c.args.blocks.now.items c.in-Some.place whole c.requires.apart inside in
    let same = ap (λ (b : Block). b.from + b.size) c.index-whole.ensures in
    omega (arith, end, same, c.half-taken.ensures)

pub returns-clause-value : goal.returns-clause-value
returns-clause-value c =
    let whole = c.index-whole.result.now in
    let there : whole ≡ get_or c.deref.result.now c.in-Some.place whole = c.index-whole.ensures ∙ ap (λ (bs : List Block). get_or bs c.in-Some.place whole) (sym c.deref.ensures.value) in
    let halves = halved_first c.args.size c.args.consumer c.deref.result.now c.in-Some.place whole c.half-taken.result c.in-Some.ensures there c.half-taken.ensures in
    c.in-Ok.ensures.items
    ∙ subst (λ (bs : List Block). insert (set bs c.in-Some.place (record { from = whole.from + c.half-taken.result; size = whole.size - c.half-taken.result; consumer = whole.consumer })) c.in-Some.place (record { from = whole.from; size = c.half-taken.result; consumer = c.args.consumer }) ≡ halving c.args.size c.args.consumer bs) c.deref.ensures.value halves

pub returns-clause-apart : goal.returns-clause-apart
returns-clause-apart c = subst (λ (bs : List Block). AreApart 0 bs) (sym (returns-clause-value c)) (apart_halved c.args.size c.args.consumer 0 c.args.blocks.now.items c.requires.two c.requires.apart)
