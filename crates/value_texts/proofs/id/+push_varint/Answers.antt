use Rattle.std.proofs.Common.{length, arith, ap, append_assoc}
use Rattle.value_texts.proofs.Varint.{varint-low, varint-high}
use Rattle.value_texts.proofs.id.+push_varint.Goals as goal

pub push-requires : goal.push-requires
push-requires t c = (omega arith, omega (arith, ap length (varint-low c.args.number c.if-number-lt128.true)))

pub push-requires-else-number-lt128 : goal.push-requires-else-number-lt128
push-requires-else-number-lt128 t c = (omega arith, omega (arith, ap length (varint-high c.args.number c.if-number-lt128.false (omega arith))))

pub push_varint-requires : goal.push_varint-requires
push_varint-requires t c = (omega arith, omega (arith, ap length (varint-high c.args.number c.if-number-lt128.false (omega arith))))

pub returns-then-number-lt128 : goal.returns-then-number-lt128
returns-then-number-lt128 t c = rw (varint-low c.args.number c.if-number-lt128.true) c.push.ensures.items

pub returns-else-number-lt128 : goal.returns-else-number-lt128
returns-else-number-lt128 t c = rw (varint-high c.args.number c.if-number-lt128.false (omega arith), c.push_varint.ensures, c.push-else-number-lt128.ensures.items, append_assoc)
