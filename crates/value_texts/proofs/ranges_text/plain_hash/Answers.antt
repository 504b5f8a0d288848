use Rattle.std.proofs.Common.{sym}
use Rattle.value_texts.proofs.HashTexts.{no_hash, hash_within, hash_beyond}
use Rattle.value_texts.proofs.ranges_text.plain_hash.Goals as goal

pub returns-in_default : goal.returns-in_default
returns-in_default c = sym (no_hash c.args.text.now c.in_default.ensures)

pub returns-then-number-gt65535 : goal.returns-then-number-gt65535
returns-then-number-gt65535 c = sym (hash_beyond c.args.text.now c.in-Some.number c.in-Some.ensures c.if-number-gt65535.true)

pub returns : goal.returns
returns c = sym (hash_within c.args.text.now c.in-Some.number c.in-Some.ensures c.if-number-gt65535.false)
