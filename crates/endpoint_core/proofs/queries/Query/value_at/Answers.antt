use Rattle.std.proofs.Common.{◌≡◌, true, false, string_bytes, String, Global, sym, ◌∙◌, arith}
use Rattle.std.specs.Str.{bytes_eq}
use Rattle.endpoint_core.specs.Queries.{Parameter}
use Rattle.endpoint_core.proofs.Found.{passed, value_there, value_nowhere}
use Rattle.endpoint_core.proofs.queries.Query.value_at.Goals as goal

abbrev seen : String Global × String Global → Parameter
seen p = (string_bytes p.0, string_bytes p.1)

pub returns-then-eq : goal.returns-then-eq
returns-then-eq c =
    let passes : bytes_eq (string_bytes c.parameter-item.result.0) c.args.name.now ≡ true = rw (← c.as_str.ensures.value) (sym c.eq.ensures ∙ c.if-eq.true) in
    let there = value_there seen c.args.name.now c.deref-parameter-items.result.now c.loop-parameter.parameter-index c.parameter-item.result c.loop-parameter.invariant c.loop-parameter-test.true c.parameter-item.is passes in
    rw (c.as_str-then-eq.ensures.value, ← c.self.view_is, ← c.deref-parameter-items.ensures.value) (sym there)

pub loop-parameter-preserved : goal.loop-parameter-preserved
loop-parameter-preserved c =
    let not : bytes_eq (string_bytes c.parameter-item.result.0) c.args.name.now ≡ false = rw (← c.as_str.ensures.value) (sym c.eq.ensures ∙ c.if-eq.false) in
    passed (λ p. bytes_eq (string_bytes p.0) c.args.name.now) c.deref-parameter-items.result.now c.loop-parameter.parameter-index c.parameter-item.result c.loop-parameter.invariant c.loop-parameter-test.true c.parameter-item.is not

pub returns : goal.returns
returns c =
    let nowhere = value_nowhere seen c.args.name.now c.deref-parameter-items.result.now (λ k d below. c.loop-parameter.invariant k d (omega arith)) in
    rw (← c.self.view_is, ← c.deref-parameter-items.ensures.value) (sym nowhere)
