use Rattle.std.proofs.Common.{◌≡◌, [], ◌∷◌, ◌++◌, append-nil}
use Rattle.std.specs.Prelude.{codes, option_copied}
use Rattle.json_values.specs.Written.{leading}
use Rattle.json_values.proofs.Written.{brace_after, finish, follow}
use Rattle.wire_json.specs.Answers.{context_field, message_field, result_field}
use Rattle.wire_json.proofs.answers.error_text.Goals as goal

pub returns : goal.returns
returns c =
    let context = context_field (option_copied c.args.context) in
    let start : _ ≡ codes "{" ++ leading (context ++ []) = rw append-nil c.in_ok-push_start.ensures in
    finish context (message_field c.args.error ∷ []) (result_field c.args.error) _ _ (follow context [] (message_field c.args.error ∷ []) _ _ start c.in_ok-push_message.ensures)
    (brace_after _ _ _ _ c.in_ok-push_result.ensures c.in_ok-push_str.ensures.bytes)
