-- What is to be sent, its text, and when it may be sent.
use Rattle.std.specs.Prelude.{◌≡◌, ℕ, List, [], Bool, true, false, unwrap_or, codes}
use Rattle.delivery_machine.specs.declared.delivery.Delivery.{Delivery}
use Rattle.wire_json.specs.Answers.{ok_text, error_text}
use Rattle.wire_json.specs.Deliveries.{IsDelivery}
use Rattle.wire_json.specs.Peeks.{IsPeek}
use Rattle.wire_json.specs.Statistics.{admin_text}
use Rattle.session_texts.specs.declared.answer.Answer.{Answer}
use Rattle.session_texts.specs.declared.answer.Answer.TheVariants.{Accepted, Refused, EndOfTopic, Administered, Shown, Overview}

-- a message that was collected, or what answers a text
pub data Unsent : Type 0 where
  collected : Delivery → Unsent
  answering : Answer → Unsent

-- the text of an answer; of messages that are shown it has a text for each moment
abbrev pub IsAnswerText : Answer → List ℕ → Type 0
IsAnswerText (Accepted context position length) text = text ≡ ok_text context position
IsAnswerText (Refused context error) text = text ≡ error_text context error
IsAnswerText EndOfTopic text = text ≡ codes "{\"endOfTopic\":\"false\"}"
IsAnswerText (Administered reply) text = text ≡ unwrap_or (admin_text reply) []
IsAnswerText (Shown messages) text = IsPeek messages text
IsAnswerText (Overview seen) text = text ≡ seen

-- the text of a message that was collected
unfoldable pub IsDeliveryText : Delivery → List ℕ → Type 0
IsDeliveryText delivery text = IsDelivery delivery.message delivery.count text

-- the text is what is sent of it
abbrev pub IsTextOf : Unsent → List ℕ → Type 0
IsTextOf (collected delivery) text = IsDeliveryText delivery text
IsTextOf (answering answer) text = IsAnswerText answer text

-- how many messages have to be stored before an answer is sent
abbrev pub least_durable : Answer → ℕ
least_durable (Accepted context position length) = length
least_durable answer = 0

-- how many messages have to be stored before it is sent
abbrev pub needs : Unsent → ℕ
needs (collected delivery) = 0
needs (answering answer) = least_durable answer

-- whether it answers a text
abbrev pub is_answer : Unsent → Bool
is_answer (collected delivery) = false
is_answer (answering answer) = true
