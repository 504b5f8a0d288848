use Rattle.std.proofs.Common.{rules, not}
use Rattle.std.specs.Prelude.{string_bytes}
use Rattle.std.specs.List.{list_any}
use Rattle.std.specs.Str.{bytes_eq}
use Rattle.std.proofs.lemmas.Fn.{filter_same}
use Rattle.position_core.specs.TopicName.{topic_text}
use Rattle.row_rounds.specs.declared.saving.Write.{Write}
use Rattle.row_store.proofs.knowing.forget.Goals as goal

pub returns-clause-left : goal.returns-clause-left
returns-clause-left g c =
    filter_same _ (λ kept. not (list_any (λ (w : Write). bytes_eq (string_bytes w.topic) (topic_text kept.name)) c.args.writes.now)) _ (λ x b f' k. search rules) _ _ c.retain.ensures.filtered
