use Rattle.std.proofs.Common.{◌≡◌, [], ◌∷◌, ◌++◌, append-nil}
use Rattle.std.specs.Prelude.{codes, option_copied}
use Rattle.json.specs.Json.{string}
use Rattle.json.specs.Print.{escape_byte, print_from}
use Rattle.json_values.specs.Written.{leading}
use Rattle.json_values.proofs.Written.{finish, follow}
use Rattle.wire_json.specs.Answers.{context_field, id_field}
use Rattle.wire_json.proofs.answers.ok_text.Goals as goal

pub returns : goal.returns
unfolding escape_byte print_from
returns c =
    let context = context_field (option_copied c.args.context) in
    let start : _ ≡ codes "{" ++ leading (context ++ []) = rw append-nil c.in_ok-push_start.ensures in
    finish context (id_field c.args.id ∷ []) (codes "result", string (codes "ok")) _ _ (follow context [] (id_field c.args.id ∷ []) _ _ start c.in_ok-push_id.ensures) c.in_ok-push_str.ensures.bytes
