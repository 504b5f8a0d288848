use Rattle.std.proofs.Common.{refl}
use Rattle.std.proofs.lemmas.Result.{err_from_is_err_and}
use Rattle.endpoint_core.proofs.Reading.{begun, went, ended, bad_name, bad_value}
use Rattle.endpoint_core.proofs.queries.Query.read.Goals as goal

pub loop-name-init : goal.loop-name-init
loop-name-init c = begun _ _ _ c.empty-query.ensures (rw (c.into_iter-name-iterator.ensures.into_iter_gives, c.raw_pairs-name-items.ensures.value, c.as_bytes.ensures.value) refl)

pub returns-in_err-name : goal.returns-in_err-name
returns-in_err-name c =
    let p = err_from_is_err_and c.from_residual.result c.from_residual.ensures.1 in
    rw (p.1, p.2) (bad_name _ _ _ _ _ _ _ c.loop-name.invariant c.in-Some.ensures.steps c.in_err-name.ensures)

pub returns-in_err-value : goal.returns-in_err-value
returns-in_err-value c =
    let p = err_from_is_err_and c.from_residual-in_err-value.result c.from_residual-in_err-value.ensures.1 in
    rw (p.1, p.2) (bad_value _ _ _ _ _ _ _ c.loop-name.invariant c.in-Some.ensures.steps c.in_err-value.ensures)

pub loop-name-preserved : goal.loop-name-preserved
loop-name-preserved c = went _ _ _ _ _ _ _ _ _ c.loop-name.invariant c.in-Some.ensures.steps c.in_ok-name.ensures c.in_ok-value.ensures c.in_ok-add.ensures.ok

pub returns : goal.returns
returns c = ended _ _ _ c.loop-name.invariant c.in-None.ensures.steps.0
