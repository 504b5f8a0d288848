-- What holds of the texts: an id is a position's one text, and each written text reads back as the object that it means.
use Rattle.std.specs.Prelude.{◌≡◌, ◌↔◌, ◌<◌, ◌^◌, List, ℕ, Option, Some, IfSome, ⊤}
use Rattle.json.specs.Json.{Json, document}
use Rattle.position_core.specs.declared.message.Entry.{Entry}
use Rattle.position_core.specs.declared.position.Position.{Position}
use Rattle.value_texts.specs.Id.{IsIdOf}
use Rattle.delivery_machine.specs.declared.reply.Reply.{Reply}
use Rattle.delivery_machine.specs.declared.reply.Reply.TheVariants.{Stats}
use Rattle.json_values.specs.Times.{IsTimeText}
use Rattle.json_values.specs.Written.{object_text, object_with}
use Rattle.wire_json.specs.declared.answers.SendError.{SendError}
use Rattle.wire_json.specs.Answers.{error_fields, error_text, ok_fields, ok_text}
use Rattle.wire_json.specs.Deliveries.{IsDelivery, delivery_fields}
use Rattle.wire_json.specs.Ids.{id_of}
use Rattle.wire_json.specs.Statistics.{admin_fields}

-- a text is read as the position that it is the id of, and no other text is read
abbrev pub IdsAreRead : Type 0
IdsAreRead = (text : List ℕ) (position : Position) → (id_of text ≡ Some position) ↔ IsIdOf text position

-- what answers a publish that was taken
abbrev pub OksReadBack : Type 0
OksReadBack = (context : Option (List ℕ)) (id : Position) → document (ok_text context id) ≡ Some (object_with (ok_fields context id))

-- what answers a publish that was refused
abbrev pub ErrorsReadBack : Type 0
ErrorsReadBack = (context : Option (List ℕ)) (error : SendError) → document (error_text context error) ≡ Some (object_with (error_fields context error))

-- a delivery with a count of at most 64 bits, with a text for its time
abbrev pub DeliveriesReadBack : Type 0
DeliveriesReadBack =
    (message : Entry) (count : ℕ) (text : List ℕ) → count < 2 ^ 64 → IsDelivery message count text
    → (time : List ℕ) × IsTimeText message.time time × (document text ≡ Some (object_with (delivery_fields time message count)))

-- each number has at most 64 bits
abbrev pub HasFittingCounts : Reply → Type 0
HasFittingCounts (Stats kind members mark_delete acknowledged live pending dead gone oldest) =
    (members < 2 ^ 64) × (acknowledged < 2 ^ 64) × (live < 2 ^ 64) × (pending < 2 ^ 64) × (dead < 2 ^ 64) × (gone < 2 ^ 64) × IfSome oldest (λ moment. moment < 2 ^ 64)
HasFittingCounts reply = ⊤

-- what answers an administrator
abbrev pub AdminsReadBack : Type 0
AdminsReadBack =
    (reply : Reply) (fields : List (List ℕ × Json)) → HasFittingCounts reply → admin_fields reply ≡ Some fields → document (object_text fields) ≡ Some (object_with fields)
