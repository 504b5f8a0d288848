-- What a consumer is sent.
use Rattle.std.specs.Prelude.{◌≡◌, ℕ, List, [], ◌∷◌, ◌++◌, Option, Some, None, codes}
use Rattle.std.specs.Fmt.{decimal}
use Rattle.base64.specs.GeneralPurpose.{encode_of}
use Rattle.base64.specs.Engines.{standard}
use Rattle.json.specs.Json.{Json, number, string}
use Rattle.position_core.specs.declared.message.Entry.{Entry}
use Rattle.json_values.specs.Times.{IsTimeText}
use Rattle.json_values.specs.Written.{leading, object_text, object_with, property_fields}
use Rattle.wire_json.specs.Answers.{id_field}

-- the key, where the message has one
abbrev pub key_field : Option (List ℕ) → List (List ℕ × Json)
key_field None = []
key_field (Some key) = (codes "key", string key) ∷ []

-- the bytes in base64
abbrev pub payload_field : List ℕ → List ℕ × Json
payload_field payload = (codes "payload", string (encode_of standard payload))

abbrev pub properties_field : List (List ℕ × List ℕ) → List ℕ × Json
properties_field properties = (codes "properties", object_with (property_fields properties))

-- the moment, as it is written
abbrev pub time_field : List ℕ → List ℕ × Json
time_field time = (codes "publishTime", string time)

-- how often the message was redelivered
abbrev pub count_field : ℕ → List ℕ × Json
count_field count = (codes "redeliveryCount", number (decimal count))

-- the message with a text for its time
abbrev pub delivery_fields : List ℕ → Entry → ℕ → List (List ℕ × Json)
delivery_fields time message count =
    key_field message.body.key
    ++ id_field message.position ∷ payload_field message.body.payload ∷ properties_field message.body.properties ∷ time_field time ∷ count_field count ∷ []

-- the fields before the count, each with the comma behind it, in an object that is not ended yet
abbrev pub BeginsDelivery : Entry → List ℕ → Type 0
BeginsDelivery message text =
    (time : List ℕ) × IsTimeText message.time time
    × (text ≡ codes "{" ++ leading (key_field message.body.key ++ id_field message.position ∷ payload_field message.body.payload ∷ properties_field message.body.properties ∷ time_field time ∷ []))

-- the text of the delivery
abbrev pub IsDelivery : Entry → ℕ → List ℕ → Type 0
IsDelivery message count text = (time : List ℕ) × IsTimeText message.time time × (text ≡ object_text (delivery_fields time message count))
