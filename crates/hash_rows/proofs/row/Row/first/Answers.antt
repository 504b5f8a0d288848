use Rattle.std.proofs.Common.{arith, subst, sym, ◌∙◌, ◌+◌, ◌-◌}
use Rattle.std.proofs.lemmas.List.{get_or_default}
use Rattle.number_sets.specs.Places.{IsNext}
use Rattle.hash_rows.specs.Rows.{waits_in}
use Rattle.hash_rows.proofs.From.{first_from, none_from}
use Rattle.hash_rows.proofs.row.Row.first.Goals as goal

pub overflow_sub-result : goal.overflow_sub-result
overflow_sub-result c =
    let row = c.args.self.now in
    let next = c.in_ok-rank.ensures.some in
    let inside = row.waiting_ranks c.in_ok-rank.rank next.is_in in
    omega (arith, c.index.ensures ∙ get_or_default row.places.items c.in_ok-rank.rank c.index.result.now 0 inside, c.start-start.ensures.behind c.in_ok-rank.rank next.after inside)

pub returns-in_err-rank-clause-none : goal.returns-in_err-rank-clause-none
unfolding waits_in
returns-in_err-rank-clause-none c =
    rw c.from_residual.ensures (λ i _. none_from c.args.base c.start-start.result c.args.self.now.places.items c.start-start.ensures c.args.self.now.waiting.places c.in_err-rank.ensures.none i)

pub returns-clause-some : goal.returns-clause-some
unfolding waits_in
returns-clause-some c =
    let row = c.args.self.now in
    let next = c.in_ok-rank.ensures.some in
    subst (λ i. IsNext (λ j. waits_in row (c.args.base + j)) 0 (i - c.args.base))
    (sym (c.index.ensures ∙ get_or_default row.places.items c.in_ok-rank.rank c.index.result.now 0 (row.waiting_ranks c.in_ok-rank.rank next.is_in)))
    (first_from c.args.base c.start-start.result row.places.items c.start-start.ensures row.waiting.places c.in_ok-rank.rank row.rises row.waiting_ranks next)
