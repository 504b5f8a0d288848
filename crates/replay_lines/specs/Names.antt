-- Words that are names and keys, which are percent-decoded.
use Rattle.std.specs.Prelude.{◌≡◌, ℕ, zero, suc, ◌≤◌, List, length, Option, Some, None, ◌⊎◌, IsTrue, IsUtf8, codes}
use Rattle.percent_encoding.specs.Percent.{percent_decode}
use Rattle.position_core.specs.Name.{is_name}
use Rattle.position_core.specs.TopicName.{topic_text, dead_letter_default}
use Rattle.position_core.specs.declared.topic_name.TopicName.{TopicName}

-- the text that a word stands for; `-` stands for none
abbrev pub IsText : List ℕ → List ℕ → Type 0
IsText word text = (word ≡ codes "-" → ⊥) × (text ≡ percent_decode word) × IsUtf8 text

abbrev pub IsNameWord : List ℕ → List ℕ → Type 0
IsNameWord word name = IsText word name × IsTrue (is_name name)

abbrev pub IsProducerWord : List ℕ → Option (List ℕ) → Type 0
IsProducerWord word None = word ≡ codes "-"
IsProducerWord word (Some name) = IsText word name × (1 ≤ length name) × (length name ≤ 1280)

abbrev pub IsKeyWord : List ℕ → Option (List ℕ) → Type 0
IsKeyWord word None = word ≡ codes "-"
IsKeyWord word (Some key) = IsText word key × (length key ≤ 1024)

abbrev pub AreNames : TopicName → Type 0
AreNames name = IsTrue (is_name name.tenant) × IsTrue (is_name name.namespace) × IsTrue (is_name name.topic)

abbrev pub IsTopicWord : List ℕ → TopicName → Type 0
IsTopicWord word name = IsText word (topic_text name) × AreNames name

-- what `-` stands for: the topic itself where no message dies, and else the default
abbrev pub IsUnsaidTopic : TopicName → List ℕ → ℕ → TopicName → Type 0
IsUnsaidTopic this subscription zero name = name ≡ this
IsUnsaidTopic this subscription (suc limit) name = dead_letter_default this subscription ≡ Some name

unfoldable pub IsDeadTopic : TopicName → List ℕ → ℕ → List ℕ → TopicName → Type 0
IsDeadTopic this subscription limit word name =
    ((word ≡ codes "-") × IsUnsaidTopic this subscription limit name) ⊎ IsTopicWord word name
