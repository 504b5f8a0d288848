use Rattle.std.proofs.Common.{sym, ◌∙◌}
use Rattle.std.proofs.lemmas.List.{take_rest}
use Rattle.value_texts.proofs.HashTexts.{no_dash, dash_there}
use Rattle.value_texts.proofs.ranges_text.range_in.Goals as goal

pub returns-in_default : goal.returns-in_default
returns-in_default c = sym (no_dash c.args.zeros c.args.text.now (sym c.dash_in.ensures ∙ c.in_default.is))

pub returns : goal.returns
returns c = rw (c.range_by.ensures, c.hash_in.ensures, c.hash_in-2.ensures, take_rest) (sym (dash_there c.args.zeros c.args.text.now c.in-Some.dash (sym c.in-Some.ensures)))
