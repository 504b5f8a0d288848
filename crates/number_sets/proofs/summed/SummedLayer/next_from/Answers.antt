use Rattle.std.proofs.Common.{◌∙◌, sym, arith}
use Rattle.number_sets.specs.Bits.{is_used}
use Rattle.number_sets.proofs.Bits.{next_found, next_missed, none_at_all, below_all, same_next}
use Rattle.number_sets.proofs.summed.SummedLayer.next_from.Goals as goal

pub returns-in_err-word-in-None-clause-none : goal.returns-in_err-word-in-None-clause-none
returns-in_err-word-in-None-clause-none g c =
    let this = c.args.self.now in
    rw c.from_residual.ensures (none_at_all this.words.items _ c.args.from c.deref.ensures.value c.in-None.ensures.none (λ k past. sym (this.summed k) ∙ c.in_err-word-in-None.ensures.none k past))

pub overflow_mul-word : goal.overflow_mul-word
overflow_mul-word g c =
    let this = c.args.self.now in
    let next = same_next _ (is_used this.words.items) _ this.summed _ c.in_ok-word-in-None.ensures.some in
    omega (arith, below_all _ _ _ next, this.few, this.words.ok)

pub returns-in_ok-word-in-None-clause-some : goal.returns-in_ok-word-in-None-clause-some
returns-in_ok-word-in-None-clause-some g c =
    let this = c.args.self.now in
    let next = same_next _ (is_used this.words.items) _ this.summed _ c.in_ok-word-in-None.ensures.some in
    next_found this.words.items _ _ c.args.from _ c.deref.ensures.value c.deref-in-None.ensures.value c.in-None.ensures.none next _ c.next_in_word-in-None.ensures.some

pub returns-in_ok-word-in-None-clause-none : goal.returns-in_ok-word-in-None-clause-none
returns-in_ok-word-in-None-clause-none g c =
    let this = c.args.self.now in
    let next = same_next _ (is_used this.words.items) _ this.summed _ c.in_ok-word-in-None.ensures.some in
    next_missed this.words.items _ _ c.args.from _ c.deref.ensures.value c.deref-in-None.ensures.value c.in-None.ensures.none next _ c.next_in_word-in-None.ensures.unused
