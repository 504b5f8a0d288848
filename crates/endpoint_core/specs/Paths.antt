-- The path of a target: whom it is for, and the names in it.
use Rattle.std.specs.Prelude.{ℕ, ◌==◌, ◌&&◌, List, [], ◌∷◌, ◌++◌, length, drop, nat_eq, codes, Option, Some, None, option_and_then, ok_or, Result, Ok, Err, if◌then◌else◌}
use Rattle.std.specs.List.{starts_with}
use Rattle.url.specs.declared.error.ParseError.{ParseError}
use Rattle.url.specs.Parts.{Parts}
use Rattle.url.specs.Parser.{parse_url}
use Rattle.position_core.specs.Name.{is_name}
use Rattle.position_core.specs.declared.topic_name.TopicName.{TopicName}
use Rattle.endpoint_core.specs.declared.faults.Role.{Role}
use Rattle.endpoint_core.specs.declared.faults.Role.TheVariants.{Unknown, Producer, Consumer, Admin}
use Rattle.endpoint_core.specs.declared.faults.Cause.{Cause}
use Rattle.endpoint_core.specs.declared.faults.Cause.TheVariants.{UnknownPath, BadName}
use Rattle.endpoint_core.specs.Faults.{and_then}
use Rattle.endpoint_core.specs.OneReading.{has_one_reading}
use Rattle.endpoint_core.specs.Texts.{text_of}

-- the URL, where the text is one
abbrev pub if_url : Result Parts ParseError → Result Parts Cause
if_url (Ok url) = Ok url
if_url (Err error) = Err UnknownPath

-- the URL of a target, which begins with `/` and which every reader takes for one path
abbrev pub url_of : List ℕ → Result Parts Cause
url_of target =
    if starts_with nat_eq target (codes "/") && has_one_reading target
    then if_url (parse_url None (codes "ws://localhost" ++ target)) else Err UnknownPath

-- what follows the front, where the text begins with it
abbrev pub after : List ℕ → List ℕ → Option (List ℕ)
after front text = if starts_with nat_eq text front then Some (drop (length front) text) else None

-- the first front that the path has says whom it is for
abbrev pub asked_by : Option (List ℕ) → Option (List ℕ) → Option (List ℕ) → Role × List ℕ
asked_by (Some rest) consumer admin = (Producer, rest)
asked_by None (Some rest) admin = (Consumer, rest)
asked_by None None (Some rest) = (Admin, rest)
asked_by None None None = (Unknown, [])

-- whom a path is for, and what follows its front
abbrev pub asked : List ℕ → Role × List ℕ
asked path =
    asked_by (after (codes "/ws/v2/producer/persistent/") path)
    (after (codes "/ws/v2/consumer/persistent/") path)
    (after (codes "/ws/v2/admin/persistent/") path)

abbrev pub if_name : List ℕ → Option (List ℕ)
if_name text = if is_name text then Some text else None

-- the name that a segment stands for
abbrev pub name_at : List ℕ → Result (List ℕ) Cause
name_at segment = ok_or (option_and_then if_name (text_of segment)) BadName

abbrev pub topic_at : List ℕ → List ℕ → List ℕ → Result TopicName Cause
topic_at tenant namespace topic =
    and_then (name_at tenant) (λ t.
    and_then (name_at namespace) (λ n.
    and_then (name_at topic) (λ x.
    Ok (record { tenant = t; namespace = n; topic = x }))))

-- a topic's path ends with just its three names; one that ends with a slash is another
abbrev pub topic_in : List (List ℕ) → Result TopicName Cause
topic_in (tenant ∷ namespace ∷ topic ∷ []) = if length topic == 0 then Err UnknownPath else topic_at tenant namespace topic
topic_in segments = Err UnknownPath

abbrev pub subscription_at : TopicName → List ℕ → Result (TopicName × List ℕ) Cause
subscription_at topic subscription = and_then (name_at subscription) (λ s. Ok (topic, s))

-- a subscription's with its name after them
abbrev pub subscription_in : List (List ℕ) → Result (TopicName × List ℕ) Cause
subscription_in (tenant ∷ namespace ∷ topic ∷ subscription ∷ []) =
    if length subscription == 0 then Err UnknownPath else and_then (topic_at tenant namespace topic) (λ t. subscription_at t subscription)
subscription_in segments = Err UnknownPath
