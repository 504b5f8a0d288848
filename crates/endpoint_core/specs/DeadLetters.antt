-- What a consumer's query says of the messages that die.
use Rattle.std.specs.Prelude.{ℕ, ◌==◌, List, [], ◌∷◌, codes, Option, Some, None, ok_or, Result, Ok, if◌then◌else◌}
use Rattle.position_core.specs.Kind.{is_in_order}
use Rattle.position_core.specs.TopicName.{scheme, topic_of, dead_letter_default}
use Rattle.position_core.specs.declared.kind.Kind.{Kind}
use Rattle.position_core.specs.declared.topic_name.TopicName.{TopicName}
use Rattle.endpoint_core.specs.declared.faults.Cause.{Cause}
use Rattle.endpoint_core.specs.declared.faults.Cause.TheVariants.{BadParameter}
use Rattle.endpoint_core.specs.Fields.{name_of}
use Rattle.endpoint_core.specs.declared.fields.Field.TheVariants.{MaxRedeliverCount, DeadLetterTopic}
use Rattle.endpoint_core.specs.Faults.{and_then}
use Rattle.endpoint_core.specs.Segments.{segments_of}
use Rattle.endpoint_core.specs.Paths.{after}
use Rattle.endpoint_core.specs.Queries.{Parameter, value_at, said}
use Rattle.endpoint_core.specs.Numbers.{number_up_to}

-- a tenant, a namespace and a topic
abbrev pub whole_topic : List (List ℕ) → Option TopicName
whole_topic (tenant ∷ namespace ∷ topic ∷ []) = topic_of tenant namespace topic
whole_topic segments = None

-- the same, or a topic of `public/default`
abbrev pub short_topic : List (List ℕ) → Option TopicName
short_topic (topic ∷ []) = topic_of (codes "public") (codes "default") topic
short_topic segments = whole_topic segments

abbrev pub dead_topic_by : Option (List ℕ) → List ℕ → Option TopicName
dead_topic_by (Some rest) text = whole_topic (segments_of rest)
dead_topic_by None text = short_topic (segments_of text)

-- the topic that a text names, with the scheme or without it
abbrev pub dead_topic_of : List ℕ → Option TopicName
dead_topic_of text = dead_topic_by (after scheme text) text

-- the topic that is named, or the default, which may be too long
abbrev pub dead_topic_said : TopicName → List ℕ → Option (List ℕ) → Result TopicName Cause
dead_topic_said this subscription None = ok_or (dead_letter_default this subscription) (BadParameter DeadLetterTopic)
dead_topic_said this subscription (Some text) = ok_or (dead_topic_of text) (BadParameter DeadLetterTopic)

-- where no message dies, the topic is this one, whatever is named
abbrev pub dead_topic_in : TopicName → List ℕ → ℕ → List Parameter → Result TopicName Cause
dead_topic_in this subscription limit query =
    if limit == 0 then Ok this else dead_topic_said this subscription (value_at (name_of DeadLetterTopic) query)

-- after how many redeliveries a message dies, and where it goes
abbrev pub said_death : TopicName → List ℕ → List Parameter → Result (ℕ × TopicName) Cause
said_death this subscription query =
    and_then (said MaxRedeliverCount 0 (number_up_to 1000000) query) (λ limit.
    and_then (dead_topic_in this subscription limit query) (λ topic.
    Ok (limit, topic)))

-- none dies where the order is kept, whatever is said
abbrev pub death_in : TopicName → List ℕ → Kind → List Parameter → Result (ℕ × TopicName) Cause
death_in this subscription kind query = if is_in_order kind then Ok (0, this) else said_death this subscription query
