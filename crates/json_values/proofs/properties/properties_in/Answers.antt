use Rattle.std.proofs.Common.{◌≡◌, [], ◌∙◌, ap, sym, rules}
use Rattle.std.specs.Prelude.{codes}
use Rattle.json_values.specs.Written.{object_text, property_fields}
use Rattle.json_values.proofs.ReadBack.{properties_said}
use Rattle.json_values.proofs.Written.{object_prints}
use Rattle.json_values.proofs.properties.properties_in.Goals as goal

pub returns-then-eq-clause-shown : goal.returns-then-eq-clause-shown
returns-then-eq-clause-shown c =
    let same : c.args.text.now ≡ codes "{}" = search rules in
    same ∙ sym (object_prints []) ∙ ap (λ p. object_text (property_fields p)) (sym c.none.ensures)

pub returns-in_default-clause-all_read : goal.returns-in_default-clause-all_read
returns-in_default-clause-all_read c properties are is =
    let said = c.in_ok-properties.ensures ∙ properties_said c.args.text.now properties c.utf8.text are is in
    cc

pub returns-else-branch-clause-all_read : goal.returns-else-branch-clause-all_read
returns-else-branch-clause-all_read c properties are is =
    let said = c.in_ok-properties.ensures ∙ properties_said c.args.text.now properties c.utf8.text are is in
    let found : c.in-Some.properties ≡ properties = cc in
    let same = c.in_ok-is_text_of.ensures.1 (is ∙ ap (λ p. object_text (property_fields p)) (sym found)) in
    cc
