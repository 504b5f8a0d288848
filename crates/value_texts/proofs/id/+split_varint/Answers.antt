use Rattle.std.proofs.Common.{◌<◌, ◌≤◌, ◌^◌, sym, ◌∙◌, arith}
use Rattle.std.proofs.lemmas.List.{nil_from_length}
use Rattle.value_texts.proofs.Varint.{varint-low, varint-not_empty, none_after, none_with, varint_longer}
use Rattle.value_texts.proofs.id.+split_varint.Goals as goal
use Rattle.value_texts.proofs.id.+split_varint.Goals.{then-high-eq0-via-then-high-eq0, then-high-eq0-via-else-high-eq0+then-high}

pub returns-in_err-first-clause-none : goal.returns-in_err-first-clause-none
returns-in_err-first-clause-none t c = rw c.from_residual.ensures (λ n rest fits e. varint-not_empty n rest fits (sym (nil_from_length _ c.in_err-first.ensures.cases) ∙ e))

pub returns-then-first-lt128-clause-some : goal.returns-then-first-lt128-clause-some
returns-then-first-lt128-clause-some t c = rw (c.from.ensures, varint-low c.in_ok-first.first.now c.if-first-lt128.true) (c.in_ok-first.ensures.cases.0)

pub returns-in_err-high-clause-none : goal.returns-in_err-high-clause-none
returns-in_err-high-clause-none t c = rw (c.from_residual-in_err-high.ensures, c.in_ok-first.ensures.cases.0) (none_after c.in_ok-first.first.now c.in_ok-first.rest.now (omega arith) c.in_err-high.ensures.none)

pub returns-then-high-eq0-clause-none : goal.returns-then-high-eq0-clause-none
returns-then-high-eq0-clause-none t c =
    let out : 0 < c.in_ok-high.high → 2 ^ 57 ≤ c.in_ok-high.high = λ some. elim c.then-high-eq0.branch [
      | then-high-eq0-via-then-high-eq0 w ↦ absurd (omega arith)
      | then-high-eq0-via-else-high-eq0+then-high w ↦ omega arith
    ] in
    rw (c.in_ok-first.ensures.cases.0, c.in_ok-high.ensures.some) (none_with c.in_ok-first.first.now c.in_ok-high.high c.in_ok-high.rest.now (omega arith) c.in_ok-high.ensures.fits out)

pub returns-clause-some : goal.returns-clause-some
returns-clause-some t c = rw (c.in_ok-first.ensures.cases.0, c.in_ok-high.ensures.some, c.from-2.ensures) (varint_longer c.in_ok-first.first.now c.in_ok-high.high c.in_ok-high.rest.now (omega arith) (omega arith) (omega arith) (omega arith))
