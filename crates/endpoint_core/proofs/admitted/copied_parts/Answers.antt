use Rattle.std.proofs.Common.{ℕ, length, string_bytes, lit<, ◌∙◌, arith}
use Rattle.std.specs.Prelude.{◌==◌}
use Rattle.std.specs.List.{slice_split}
use Rattle.std.proofs.lemmas.Iterator.Consumers.{YieldsList-turn, YieldsList-end}
use Rattle.std.proofs.lemmas.Iterator.Splits.{YieldsList-from_str_split}
use Rattle.std.proofs.lemmas.List.{length_push, take_all}
use Rattle.endpoint_core.proofs.Named.{copied_more}
use Rattle.endpoint_core.proofs.admitted.copied_parts.Goals as goal

pub loop-part-preserved : goal.loop-part-preserved
loop-part-preserved c =
    let t = YieldsList-turn (YieldsList-from_str_split 44 c.args.text.now (lit< tt) (cc c.split-part-items.ensures.text) (cc c.split-part-items.ensures.has_more) (cc c.split-part-items.ensures.pattern)) c.loop-part.yielded _ c.loop-part.yielded_by _ _ c.in-Some.part c.in-Some.is c.next.ensures.steps in
    rw length_push (copied_more string_bytes (slice_split (λ (byte : ℕ). byte == 44) c.args.text.now) (length c.loop-part.yielded) c.loop-part.parts.items c.push.new.self.items c.in_ok-part.part c.in-Some.part.now c.loop-part.invariant t.0 t.1 c.in_ok-part.ensures.ok c.in_ok-push.ensures.items)

pub returns : goal.returns
returns c =
    let t = YieldsList-end (YieldsList-from_str_split 44 c.args.text.now (lit< tt) (cc c.split-part-items.ensures.text) (cc c.split-part-items.ensures.has_more) (cc c.split-part-items.ensures.pattern)) c.loop-part.yielded _ c.loop-part.yielded_by _ _ c.in-None.is c.next.ensures.steps in
    c.loop-part.invariant ∙ take_all (length c.loop-part.yielded) (slice_split (λ (byte : ℕ). byte == 44) c.args.text.now) (omega (arith, t.1))
