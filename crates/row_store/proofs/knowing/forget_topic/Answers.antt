use Rattle.std.proofs.Common.{rules, ◌≢◌, All, not, subst, sym}
use Rattle.std.specs.Str.{bytes_eq}
use Rattle.std.proofs.lemmas.Fn.{filter_same}
use Rattle.position_core.specs.TopicName.{same_topic, topic_text}
use Rattle.delivery_machine.specs.Places.{KeptTopic}
use Rattle.row_store.proofs.Deletions.{texts_apart}
use Rattle.row_store.proofs.knowing.forget_topic.Goals as goal

pub returns-clause-left : goal.returns-clause-left
returns-clause-left g c =
    filter_same _ (λ kept. not (same_topic kept.name c.args.name.now)) _ (λ x b f' k. search rules) _ _ c.retain.ensures.filtered

pub returns-clause-others : goal.returns-clause-others
returns-clause-others g c =
    let text = topic_text c.args.name.now in
    let left = filter_same _ (λ kept. not (bytes_eq (topic_text kept.name) text)) _ (λ x b f' k. search rules) _ _ c.retain.ensures.filtered in
    subst (All (λ (kept : KeptTopic). topic_text kept.name ≢ text)) (sym left) (texts_apart text c.args.known.now.items)
