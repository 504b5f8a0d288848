-- What a producer's text stands for.
use Rattle.std.specs.Prelude.{ℕ, List, [], length, nat_le, if◌then◌else◌, Option, Some, None, option_and_then, ok_or, codes, Result, Ok, Err}
use Rattle.serde_json.specs.Data.{Data}
use Rattle.serde_json.specs.Find.{get}
use Rattle.position_core.specs.declared.body.Content.{Content}
use Rattle.position_core.specs.declared.fault.Fault.{Fault}
use Rattle.position_core.specs.declared.fault.Fault.TheVariants.{BadJson, BadPayload}
use Rattle.json_values.specs.Bytes.{bytes_of}
use Rattle.json_values.specs.Fields.{word_of, short_text, said_at, optional, said_or, properties_of}
use Rattle.json_values.specs.Objects.{object_of, text_at}

-- what a text says: its context, where it has one, and the content or why it is refused
pub record Reading : Type 0 where
  pub context : Option (List ℕ)
  pub content : Result Content Fault

-- at most 1,048,576 bytes
abbrev pub fitting_payload : List ℕ → Option (List ℕ)
fitting_payload bytes = if nat_le (length bytes) 1048576 then Some bytes else None

-- the text has to be there, then to be base64, then to be short enough
abbrev pub payload_from : Option (List ℕ) → Result (List ℕ) Fault
payload_from None = Err BadJson
payload_from (Some text) = ok_or (option_and_then fitting_payload (bytes_of text)) BadPayload

-- the payload of the object
abbrev pub payload_in : Data → Result (List ℕ) Fault
payload_in d = payload_from (text_at (codes "payload") d)

-- its key, of at most 1,024 bytes
abbrev pub key_in : Data → Result (Option (List ℕ)) Fault
key_in d = optional (said_at (short_text 1024) (get (codes "key") d))

-- its properties, none where it names none
abbrev pub properties_in : Data → Result (List (List ℕ × List ℕ)) Fault
properties_in d = said_or [] (said_at properties_of (get (codes "properties") d))

-- its context, which every answer carries
abbrev pub context_in : Data → Result (Option (List ℕ)) Fault
context_in d = optional (said_at word_of (get (codes "context") d))

-- the payload is looked at first, then the key, then the properties
abbrev pub content_from : Result (List ℕ) Fault → Result (Option (List ℕ)) Fault → Result (List (List ℕ × List ℕ)) Fault → Result Content Fault
content_from (Err fault) key properties = Err fault
content_from (Ok payload) (Err fault) properties = Err fault
content_from (Ok payload) (Ok key) (Err fault) = Err fault
content_from (Ok payload) (Ok key) (Ok properties) = Ok (record { key = key; properties = properties; payload = payload })

-- what the object says beside its context
abbrev pub content_in : Data → Result Content Fault
content_in d = content_from (payload_in d) (key_in d) (properties_in d)

-- without a context that can be read, there is none to answer with
abbrev pub reading_with : Result (Option (List ℕ)) Fault → Result Content Fault → Reading
reading_with (Err fault) content = record { context = None; content = Err fault }
reading_with (Ok context) content = record { context = context; content = content }

-- what is no object says nothing
abbrev pub reading_of : Option Data → Reading
reading_of None = record { context = None; content = Err BadJson }
reading_of (Some d) = reading_with (context_in d) (content_in d)

-- what the text says
abbrev pub publish_of : List ℕ → Reading
publish_of text = reading_of (object_of text)
