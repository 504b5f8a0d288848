use Rattle.std.proofs.Common.{◌/◌, ◌<◌, ◌^◌, get_or, arith}
use Rattle.number_sets.proofs.Bits.{none_past, none_in_word, next_is, least_within, unused_word, unused_past}
use Rattle.number_sets.proofs.words.next_in_word.Goals as goal

pub returns-then-index-words-clause-none : goal.returns-then-index-words-clause-none
returns-then-index-words-clause-none c = none_past c.args.words.now c.args.from (omega arith)

pub returns-then-rest-eq0-clause-none : goal.returns-then-rest-eq0-clause-none
returns-then-rest-eq0-clause-none c = none_in_word c.args.words.now c.args.from c.if-rest-eq0.true

pub returns-else-rest-eq0-clause-some : goal.returns-else-rest-eq0-clause-some
returns-else-rest-eq0-clause-some c =
    let small : get_or c.args.words.now (c.args.from / 64) 0 < 2 ^ 64 = omega (arith, c.type_inv.words (c.args.from / 64)) in
    next_is c.args.words.now c.args.from c.from.result c.from.ensures small c.if-rest-eq0.false

pub overflow_add-result : goal.overflow_add-result
overflow_add-result c =
    let small : get_or c.args.words.now (c.args.from / 64) 0 < 2 ^ 64 = omega (arith, c.type_inv.words (c.args.from / 64)) in
    omega (arith, least_within c.args.words.now c.args.from c.from.result c.from.ensures small c.if-rest-eq0.false)

pub returns-then-index-words-clause-unused : goal.returns-then-index-words-clause-unused
returns-then-index-words-clause-unused c = λ first. unused_past c.args.words.now c.args.from (omega arith)

pub returns-then-rest-eq0-clause-unused : goal.returns-then-rest-eq0-clause-unused
returns-then-rest-eq0-clause-unused c = unused_word c.args.words.now c.args.from c.if-rest-eq0.true
