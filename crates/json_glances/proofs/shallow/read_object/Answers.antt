use Rattle.std.proofs.Common.{◌≡◌, ◌-◌, ◌∷◌, length, Some, sym, ap, ◌∙◌, arith}
use Rattle.json.specs.Token.{Token}
use Rattle.json.specs.Json.{members, value}
use Rattle.json.proofs.Grammar.{value-begin_object}
use Rattle.serde_json.specs.Read.{of_json, converted}
use Rattle.serde_json.proofs.Views.{view-Object}
use Rattle.json_glances.specs.Glances.{read_as, shallow}
use Rattle.json_glances.proofs.Values.{object_kept, object_not_kept}
use Rattle.json_glances.proofs.shallow.read_object.Goals as goal

pub returns-then-depth-eq0-clause-value : goal.returns-then-depth-eq0-clause-value
unfolding value
returns-then-depth-eq0-clause-value c =
    let none : c.args.depth ≡ 0 = omega arith in
    ap (λ depth. converted of_json (value depth (Token.begin_object ∷ c.args.reader.now))) none

pub returns-in-Some-clause-value : goal.returns-in-Some-clause-value
returns-in-Some-clause-value c =
    ap (converted (read_as shallow)) (value-begin_object c.args.depth c.args.reader.now (omega arith)) ∙ object_kept (members (value (c.args.depth - 1)) (length c.args.reader.now) c.args.reader.now) _ _ (rw c.in-Some.is at c.in_ok-members.ensures.value)
    ∙ ap (λ d. Some (d, c.read_members.new.reader)) (sym (view-Object c.in-Some.members))

pub returns-in-None-clause-value : goal.returns-in-None-clause-value
returns-in-None-clause-value c = ap (converted of_json) (value-begin_object c.args.depth c.args.reader.now (omega arith)) ∙ object_not_kept (members (value (c.args.depth - 1)) (length c.args.reader.now) c.args.reader.now) (rw c.in-None.is at c.in_ok-members.ensures.value)
