use Rattle.std.proofs.Common.{◌==◌, ℕ, sym, rules, tests, arith}
use Rattle.std.proofs.lemmas.Iterator.Consumers.{YieldsList-turn, YieldsList-end}
use Rattle.std.proofs.lemmas.Iterator.Splits.{YieldsList-from_slice_split}
use Rattle.std.proofs.lemmas.List.{length_push}
use Rattle.value_texts.proofs.HashTexts.{one_more, bad_part, all_read}
use Rattle.value_texts.proofs.ranges_text.ranges_given.Goals as goal

pub loop-part-preserved : goal.loop-part-preserved
loop-part-preserved c =
    let t = YieldsList-turn (YieldsList-from_slice_split _ (λ (byte : ℕ). byte == 44) c.args.text.now (cc c.split-part-items.ensures.rest) (cc c.split-part-items.ensures.done) (cc c.split-part-items.ensures.closure) (λ x r q k. search (rules, tests))) c.loop-part.yielded _ c.loop-part.yielded_by _ _ c.in-Some.part c.in-Some.is c.next.ensures.steps in
    rw (length_push, c.in_ok-push-in-Some-range_in.ensures.items) (one_more c.args.zeros _ _ _ c.in-Some.part.now c.in-Some-range_in.range c.loop-part.invariant t.0 t.1 (sym c.in-Some-range_in.ensures))

pub returns-in-None-range_in : goal.returns-in-None-range_in
returns-in-None-range_in c =
    let t = YieldsList-turn (YieldsList-from_slice_split _ (λ (byte : ℕ). byte == 44) c.args.text.now (cc c.split-part-items.ensures.rest) (cc c.split-part-items.ensures.done) (cc c.split-part-items.ensures.closure) (λ x r q k. search (rules, tests))) c.loop-part.yielded _ c.loop-part.yielded_by _ _ c.in-Some.part c.in-Some.is c.next.ensures.steps in
    sym (bad_part c.args.zeros _ _ _ c.in-Some.part.now c.loop-part.invariant t.0 t.1 (sym c.in-None-range_in.ensures))

pub returns : goal.returns
returns c =
    let t = YieldsList-end (YieldsList-from_slice_split _ (λ (byte : ℕ). byte == 44) c.args.text.now (cc c.split-part-items.ensures.rest) (cc c.split-part-items.ensures.done) (cc c.split-part-items.ensures.closure) (λ x r q k. search (rules, tests))) c.loop-part.yielded _ c.loop-part.yielded_by _ _ c.in-None.is c.next.ensures.steps in
    sym (all_read c.args.zeros _ _ _ c.loop-part.invariant (omega (arith, t.1)))
