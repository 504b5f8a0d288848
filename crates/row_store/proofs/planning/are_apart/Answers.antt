use Rattle.std.proofs.Common.{rules, ◌<◌, length, sym, ap, ◌∙◌, arith}
use Rattle.std.specs.Prelude.{string_bytes}
use Rattle.row_rounds.specs.declared.saving.Write.{Write}
use Rattle.row_store.proofs.Lists.{apart_more, same_element}
use Rattle.row_store.proofs.planning.are_apart.Goals as goal

pub loop-place-preserved : goal.loop-place-preserved
loop-place-preserved c =
    let within : c.loop-place.place < length c.args.writes.now = omega (arith, c.loop-place-test.true) in
    apart_more c.args.writes.now c.loop-place.place c.as_str.result.now within c.requires (λ d. ap (λ (w : Write). string_bytes w.topic) (same_element c.args.writes.now c.loop-place.place d c.index-writes-place.result within) ∙ sym c.as_str.ensures.value) c.loop-place.invariant (search rules)

pub returns : goal.returns
returns c = λ _ i j d below within. c.loop-place.invariant i j d below (omega (arith, within))
