use Rattle.std.proofs.Common.{arith, true≢false, sym, subst, IsTrue, ◌∙◌}
use Rattle.json_values.proofs.Parsed.{no_object, object_read}
use Rattle.json_values.proofs.objects.object_of.Goals as goal

pub returns-then-is_object : goal.returns-then-is_object
returns-then-is_object c =
    sym (object_read c.args.text.now _ (omega arith) c.in-Ok.ensures.ok.0 c.in-Ok.ensures.ok.1 (sym c.is_object.ensures ∙ c.if-is_object.true))

pub returns-else-is_memory : goal.returns-else-is_memory
returns-else-is_memory c =
    sym (no_object c.args.text.now (omega arith) (c.in-Err.ensures.err (λ memory. true≢false (sym (subst (λ b. IsTrue b) c.if-is_memory.false (c.is_memory.ensures.1 memory))))))
