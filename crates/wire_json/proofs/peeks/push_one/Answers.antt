use Rattle.std.proofs.Common.{◌∙◌, ap, ◌++◌, string_bytes}
use Rattle.wire_json.proofs.Peeked.{appended_none, appended_one}
use Rattle.wire_json.proofs.peeks.push_one.Goals as goal

pub returns-then-not-fits : goal.returns-then-not-fits
returns-then-not-fits c =
    let text = c.in_ok-shown_text.ensures in
    let too_long = rw (c.as_str.ensures.value, c.as_str-2.ensures.value) at c.if-not-fits.ensures in
    appended_none c.args.delivery.now c.args.is_first _ (string_bytes c.shown_text.new.out) text too_long

pub returns : goal.returns
returns c =
    let text = c.in_ok-shown_text.ensures in
    let short = rw (c.as_str.ensures.value, c.as_str-2.ensures.value) at c.if-not-fits.ensures in
    appended_one c.args.delivery.now c.args.is_first _ _ _ (string_bytes c.shown_text.new.out) text short c.in_ok-push_comma.ensures
    (c.in_ok-push_str.ensures.bytes ∙ ap (λ s. string_bytes c.push_comma.new.out ++ s) c.as_str-3.ensures.value)
