use Rattle.std.proofs.Common.{◌≡◌, ◌-◌, arith, sym, ◌∙◌, ap, inl, inr, get_or}
use Rattle.std.proofs.lemmas.Bool.{cases_lt, true≢false}
use Rattle.std.proofs.lemmas.List.{get_or_default}
use Rattle.dispatch_core.specs.Log.{holder_at}
use Rattle.hash_rows.proofs.Marks.{is_holder, is_no_holder}
use Rattle.hash_rows.proofs.From.{held_at_rank, all_from}
use Rattle.hash_rows.proofs.row.Row.are_all_at.Goals as goal

pub overflow_sub-index : goal.overflow_sub-index
overflow_sub-index g c =
    let row = c.args.self.now in
    let next = c.in-Some.ensures.some in
    let inside = row.held_ranks c.in-Some.rank next.is_in in
    omega (arith, c.index.ensures ∙ get_or_default row.places.items c.in-Some.rank c.index.result.now 0 inside, c.start-from.ensures.behind c.in-Some.rank (omega (arith, next.after, c.loop-rank.invariant.behind)) inside)

pub loop-rank-preserved : goal.loop-rank-preserved
loop-rank-preserved g c =
    let row = c.args.self.now in
    let s = g.V.View.state c.args.view.now in
    let sub = g.V.View.subscription c.args.view.now in
    let next = c.in-Some.ensures.some in
    let read = c.index.ensures ∙ get_or_default row.places.items c.in-Some.rank c.index.result.now 0 (row.held_ranks c.in-Some.rank next.is_in) in
    record {
      behind = omega (arith, next.after, c.loop-rank.invariant.behind);
      all = λ r far below is. elim (cases_lt r c.loop-rank.from) [
        | inl earlier ↦ c.loop-rank.invariant.all r far earlier is
        | inr later ↦
            let here : r ≡ c.in-Some.rank = omega (arith, below, next.least r later is) in
            ap (λ k. holder_at s sub (get_or row.places.items k 0 - c.args.base)) here
            ∙ ap (λ k. holder_at s sub (k - c.args.base)) (sym read)
            ∙ sym c.holder.ensures
            ∙ is_holder c.holder.result c.args.owner (sym c.ne.ensures ∙ c.if-ne.false)
      ];
    }

pub returns-then-ne-clause-no : goal.returns-then-ne-clause-no
returns-then-ne-clause-no g c _ all =
    let row = c.args.self.now in
    let s = g.V.View.state c.args.view.now in
    let sub = g.V.View.subscription c.args.view.now in
    let next = c.in-Some.ensures.some in
    let read = c.index.ensures ∙ get_or_default row.places.items c.in-Some.rank c.index.result.now 0 (row.held_ranks c.in-Some.rank next.is_in) in
    is_no_holder c.holder.result c.args.owner (sym c.ne.ensures ∙ c.if-ne.true)
    (c.holder.ensures ∙ ap (λ k. holder_at s sub (k - c.args.base)) read
    ∙ all (get_or row.places.items c.in-Some.rank 0 - c.args.base)
    (held_at_rank row c.args.base c.start-from.result c.start-from.ensures c.in-Some.rank (omega (arith, next.after, c.loop-rank.invariant.behind)) next.is_in))

pub returns-clause-yes : goal.returns-clause-yes
returns-clause-yes g c _ =
    all_from c.args.self.now c.args.base c.start-from.result c.start-from.ensures _ _ c.args.owner
    (λ r far is. elim (cases_lt r c.loop-rank.from) [
      | inl earlier ↦ c.loop-rank.invariant.all r far earlier is
      | inr later ↦ absurd (true≢false (sym is ∙ c.in_default.ensures.none r later))
    ])
