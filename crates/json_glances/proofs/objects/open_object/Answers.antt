use Rattle.std.proofs.Common.{◌≡◌, sym, ◌∙◌}
use Rattle.json.specs.Lex.{tokens}
use Rattle.json_glances.proofs.Opened.{opened, not_opened}
use Rattle.json_glances.proofs.objects.open_object.Goals as goal

pub returns-then-take_bracket : goal.returns-then-take_bracket
returns-then-take_bracket c =
    let first = sym c.in_ok-reader.ensures.ok ∙ c.if-take_bracket.ensures in
    c.in-Some.ensures ∙ opened (tokens c.in-Some.text.now) c.take_bracket.new.reader first

pub returns-else-take_bracket : goal.returns-else-take_bracket
returns-else-take_bracket c = c.in-Some.ensures ∙ not_opened (tokens c.in-Some.text.now) (rw c.in_ok-reader.ensures.ok at c.if-take_bracket.ensures)
