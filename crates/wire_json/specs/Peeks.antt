-- What an administrator is shown of a subscription's next messages.
use Rattle.std.specs.Prelude.{◌≡◌, ℕ, ℤ, ◌<◌, ◌≤◌, List, [], ◌∷◌, ◌++◌, length, Bool, ◌||◌, nat_le, codes, flat_map, if◌then◌else◌}
use Rattle.delivery_machine.specs.declared.delivery.Delivery.{Delivery}
use Rattle.json.specs.Json.{Json, number, string}
use Rattle.json_values.specs.Times.{IsTimeText}
use Rattle.json_values.specs.Written.{object_text}
use Rattle.std.specs.Fmt.{signed_decimal}
use Rattle.wire_json.specs.Deliveries.{delivery_fields}

-- how many bytes a text of several messages has at most
abbrev pub most_text : ℕ
most_text = 2_097_152

-- the name that the message was published under: a dead letter's says in which subscription it died
abbrev pub producer_field : List ℕ → List ℕ × Json
producer_field name = (codes "producerName", string name)

-- its number under that name
abbrev pub sequence_field : ℤ → List ℕ × Json
sequence_field number_there = (codes "sequenceId", number (signed_decimal number_there))

-- what a consumer is sent of the message, and behind it the name and the number that it was published under
abbrev pub shown_fields : List ℕ → Delivery → List (List ℕ × Json)
shown_fields time delivery =
    delivery_fields time delivery.message delivery.count ++ producer_field delivery.message.producer ∷ sequence_field delivery.message.sequence ∷ []

-- the text of a message that is shown
abbrev pub IsShown : Delivery → List ℕ → Type 0
IsShown delivery text = (time : List ℕ) × IsTimeText delivery.message.time time × (text ≡ object_text (shown_fields time delivery))

-- each text is that of its message
abbrev pub AreShown : List Delivery → List (List ℕ) → Type 0
AreShown [] [] = Unit {0}
AreShown (delivery ∷ more) (text ∷ texts) = IsShown delivery text × AreShown more texts
AreShown [] (text ∷ texts) = ⊥
AreShown (delivery ∷ more) [] = ⊥

-- the texts, with a comma between them
abbrev pub listed : List (List ℕ) → List ℕ
listed [] = []
listed (first ∷ others) = first ++ flat_map (λ other. codes "," ++ other) others

-- an array of the texts that is not ended yet
abbrev pub begun : List (List ℕ) → List ℕ
begun texts = codes "{\"messages\":[" ++ listed texts

-- what ends it
abbrev pub ending : List ℕ
ending = codes "],\"result\":\"ok\"}"

-- an object of an array that has the texts
abbrev pub messages_text : List (List ℕ) → List ℕ
messages_text texts = begun texts ++ ending

-- with the next one, where one is left, the text would be too long
abbrev pub NoneFits : List (List ℕ) → List Delivery → Type 0
NoneFits texts [] = Unit {0}
NoneFits texts (next ∷ later) = (text : List ℕ) × IsShown next text × (most_text < length (messages_text (texts ++ text ∷ [])))

-- the texts of the first deliveries: of one at least, where there is one, and of as many as fit
pub record AreThoseThatFit (deliveries : List Delivery) (texts : List (List ℕ)) : Type 0 where
  pub shown : List Delivery
  pub rest : List Delivery
  pub in_order : deliveries ≡ shown ++ rest
  pub as_written : AreShown shown texts
  pub some : shown ≡ [] → deliveries ≡ []
  pub within : 1 < length shown → length (messages_text texts) ≤ most_text
  pub no_more : NoneFits texts rest

-- an object of an array that has the first deliveries, as many as fit, each with whom it was published by
unfoldable pub IsPeek : List Delivery → List ℕ → Type 0
IsPeek deliveries text = (texts : List (List ℕ)) × AreThoseThatFit deliveries texts × (text ≡ messages_text texts)

-- all of it but its end
unfoldable pub BeginsPeek : List Delivery → List ℕ → Type 0
BeginsPeek deliveries text = (texts : List (List ℕ)) × AreThoseThatFit deliveries texts × (text ≡ begun texts)

-- whether a text fits behind what stands there; the first one does
abbrev pub fits : Bool → List ℕ → List ℕ → Bool
fits is_first before text = is_first || nat_le (length (before ++ codes "," ++ text ++ ending)) most_text

-- where the text of the message fits, it stands at the end then, behind a comma unless it is the first; else nothing changes
unfoldable pub Appends : Bool → Bool → Delivery → List ℕ → List ℕ → Type 0
Appends has_fit is_first delivery before after =
    (text : List ℕ) × IsShown delivery text × (has_fit ≡ fits is_first before text)
    × (after ≡ before ++ (if has_fit then (if is_first then [] else codes ",") ++ text else []))
