use Rattle.std.proofs.Common.{◌≡◌, false, sym, subst, ap, ◌∙◌}
use Rattle.std.specs.Prelude.{IfSome, string_bytes}
use Rattle.std.specs.List.{list_any}
use Rattle.std.specs.Str.{bytes_eq}
use Rattle.position_core.specs.TopicName.{topic_text}
use Rattle.row_rounds.specs.declared.saving.Write.{Write}
use Rattle.row_store.specs.Begun.{ReadTo}
use Rattle.row_store.proofs.knowing.reads_one_of.Goals as goal

pub returns-in-Some : goal.returns-in-Some
returns-in-Some c = λ none.
    subst (λ o. IfSome o (λ (r : ReadTo). list_any (λ (w : Write). bytes_eq (string_bytes w.topic) (topic_text r.name)) c.args.writes.now ≡ false)) (sym c.in-Some.is)
    (ap (λ t. list_any (λ (w : Write). bytes_eq (string_bytes w.topic) t) c.args.writes.now) (sym c.topic.ensures) ∙ (sym c.is_among.ensures ∙ none))
