use Rattle.std.proofs.Common.{arith}
use Rattle.number_sets.proofs.Bits.{next_found, next_missed, none_at_all, below_all}
use Rattle.number_sets.proofs.top.TopLayer.next_from.Goals as goal

pub returns-in_err-word-in-None-clause-none : goal.returns-in_err-word-in-None-clause-none
returns-in_err-word-in-None-clause-none c =
    rw c.from_residual.ensures (none_at_all c.args.self.now.words.items _ c.args.from c.deref.ensures.value c.in-None.ensures.none (rw c.deref-in-None.ensures.value at c.in_err-word-in-None.ensures.none))

pub overflow_mul-word : goal.overflow_mul-word
overflow_mul-word c =
    let within = below_all _ _ _ c.in_ok-word-in-None.ensures.some in
    omega (arith, within, c.deref-in-None.ensures.len, c.args.self.now.few)

pub returns-in_ok-word-in-None-clause-some : goal.returns-in_ok-word-in-None-clause-some
returns-in_ok-word-in-None-clause-some c =
    let next = rw c.deref-in-None.ensures.value at c.in_ok-word-in-None.ensures.some in
    next_found c.args.self.now.words.items _ _ c.args.from _ c.deref.ensures.value c.deref-in-None-2.ensures.value c.in-None.ensures.none next _ c.next_in_word-in-None.ensures.some

pub returns-in_ok-word-in-None-clause-none : goal.returns-in_ok-word-in-None-clause-none
returns-in_ok-word-in-None-clause-none c =
    let next = rw c.deref-in-None.ensures.value at c.in_ok-word-in-None.ensures.some in
    next_missed c.args.self.now.words.items _ _ c.args.from _ c.deref.ensures.value c.deref-in-None-2.ensures.value c.in-None.ensures.none next _ c.next_in_word-in-None.ensures.unused
