-- What a producer is answered.
use Rattle.std.specs.Prelude.{ℕ, List, [], ◌∷◌, ◌++◌, Option, Some, None, codes}
use Rattle.std.specs.Fmt.{decimal}
use Rattle.json.specs.Json.{Json, string}
use Rattle.json_values.specs.Written.{object_text}
use Rattle.position_core.specs.declared.position.Position.{Position}
use Rattle.position_core.specs.declared.fault.Fault.{Fault}
use Rattle.position_core.specs.declared.fault.Fault.TheVariants.{BadJson, BadPayload, NoMemory, TopicFull}
use Rattle.value_texts.specs.Id.{text_of}
use Rattle.wire_json.specs.declared.answers.SendError.{SendError}
use Rattle.wire_json.specs.declared.answers.SendError.TheVariants.{CreateProducer, Subscribe, Deserialize, Serialize, Authenticate, Authorize, PayloadEncoding, Unknown}

-- the number of each error
abbrev pub number_of : SendError → ℕ
number_of CreateProducer = 1
number_of Subscribe = 2
number_of Deserialize = 3
number_of Serialize = 4
number_of Authenticate = 5
number_of Authorize = 6
number_of PayloadEncoding = 7
number_of Unknown = 8

-- what each error says
abbrev pub message_of : SendError → List ℕ
message_of CreateProducer = codes "Failed to create producer"
message_of Subscribe = codes "Failed to subscribe"
message_of Deserialize = codes "Failed to deserialize from JSON"
message_of Serialize = codes "Failed to serialize to JSON"
message_of Authenticate = codes "Failed to authenticate"
message_of Authorize = codes "Not authorized"
message_of PayloadEncoding = codes "Invalid payload encoding"
message_of Unknown = codes "Unknown error"

-- how a refused publish is answered, where it is
abbrev pub of_fault : Fault → Option SendError
of_fault BadJson = Some Deserialize
of_fault BadPayload = Some PayloadEncoding
of_fault NoMemory = Some Unknown
of_fault TopicFull = Some Unknown
of_fault fault = None

-- the context, where the request had one
abbrev pub context_field : Option (List ℕ) → List (List ℕ × Json)
context_field None = []
context_field (Some context) = (codes "context", string context) ∷ []

-- the id of the message
abbrev pub id_field : Position → List ℕ × Json
id_field position = (codes "messageId", string (text_of position))

-- the publish was taken, and has the id
abbrev pub ok_fields : Option (List ℕ) → Position → List (List ℕ × Json)
ok_fields context id = context_field context ++ id_field id ∷ (codes "result", string (codes "ok")) ∷ []

abbrev pub ok_text : Option (List ℕ) → Position → List ℕ
ok_text context id = object_text (ok_fields context id)

-- what the error says
abbrev pub message_field : SendError → List ℕ × Json
message_field error = (codes "errorMsg", string (message_of error))

-- the error's number
abbrev pub result_field : SendError → List ℕ × Json
result_field error = (codes "result", string (codes "send-error:" ++ decimal (number_of error)))

-- the publish was refused
abbrev pub error_fields : Option (List ℕ) → SendError → List (List ℕ × Json)
error_fields context error = context_field context ++ message_field error ∷ result_field error ∷ []

abbrev pub error_text : Option (List ℕ) → SendError → List ℕ
error_text context error = object_text (error_fields context error)
