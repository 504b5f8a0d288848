use Rattle.value_texts.proofs.LastDigits.{long_is_none}
use Rattle.value_texts.proofs.decimals.decimal_in.Goals as goal

pub returns-then-text-gt20 : goal.returns-then-text-gt20
returns-then-text-gt20 c = λ n is. long_is_none n c.args.text.now c.if-text-gt20.true is.0 is.1
