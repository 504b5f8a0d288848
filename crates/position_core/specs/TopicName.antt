-- The names of topics, and the one text of each.
use Rattle.std.specs.Prelude.{ℕ, Bool, ◌&&◌, List, ◌∷◌, ◌++◌, codes, Option, Some, None, if◌then◌else◌}
use Rattle.std.specs.Str.{bytes_eq}
use Rattle.position_core.specs.Name.{is_name}
use Rattle.position_core.specs.declared.topic_name.TopicName.{TopicName}

-- what each topic's text begins with
abbrev pub scheme : List ℕ
scheme = codes "persistent://"

-- the scheme, then the tenant, the namespace and the topic with a `/` between them
abbrev pub text_of_parts : List ℕ → List ℕ → List ℕ → List ℕ
text_of_parts tenant namespace topic = scheme ++ (tenant ++ 47 ∷ (namespace ++ 47 ∷ topic))

-- the one text of the topic
abbrev pub topic_text : TopicName → List ℕ
topic_text name = text_of_parts name.tenant name.namespace name.topic

-- names of one topic
abbrev pub same_topic : TopicName → TopicName → Bool
same_topic a b = bytes_eq a.tenant b.tenant && bytes_eq a.namespace b.namespace && bytes_eq a.topic b.topic

-- the topic of three texts, where they are names
abbrev pub topic_of : List ℕ → List ℕ → List ℕ → Option TopicName
topic_of tenant namespace topic =
    if is_name tenant && is_name namespace && is_name topic
    then Some (record { tenant = tenant; namespace = namespace; topic = topic }) else None

-- the topic's name, the subscription's and `DLQ`, with a `-` between them
abbrev pub dead_letter_name : List ℕ → List ℕ → List ℕ
dead_letter_name topic subscription = topic ++ codes "-" ++ subscription ++ codes "-DLQ"

-- where messages go that die in the subscription, if no topic is named: beside this topic, where that name is one
abbrev pub dead_letter_default : TopicName → List ℕ → Option TopicName
dead_letter_default this subscription =
    if is_name (dead_letter_name this.topic subscription)
    then Some (record this { topic = dead_letter_name this.topic subscription }) else None
