-- A producer's endpoint.
use Rattle.std.specs.Prelude.{ℕ, List, codes, ℤ, Option, Some, None, is_some, option_map, Result, Ok, Err, if◌then◌else◌}
use Rattle.position_core.specs.declared.topic_name.TopicName.{TopicName}
use Rattle.endpoint_core.specs.declared.faults.Cause.{Cause}
use Rattle.endpoint_core.specs.declared.faults.Cause.TheVariants.{Encryption}
use Rattle.endpoint_core.specs.declared.producers.ProducerEndpoint.{ProducerEndpoint}
use Rattle.endpoint_core.specs.declared.fields.Field.TheVariants.{ProducerName, InitialSequenceId}
use Rattle.endpoint_core.specs.Faults.{and_then}
use Rattle.endpoint_core.specs.Queries.{Parameter, value_at, said}
use Rattle.endpoint_core.specs.Numbers.{base_of}
use Rattle.endpoint_core.specs.Words.{producer_name_of}

abbrev pub name_said : List Parameter → Result (Option (List ℕ)) Cause
name_said query = said ProducerName None (λ text. option_map Some (producer_name_of text)) query

abbrev pub base_said : List Parameter → Result (Option ℤ) Cause
base_said query = said InitialSequenceId None (λ text. option_map Some (base_of text)) query

-- keys are refused after all else
abbrev pub producer_of : TopicName → List Parameter → Result ProducerEndpoint Cause
producer_of topic query =
    and_then (name_said query) (λ name.
    and_then (base_said query) (λ base.
    if is_some (value_at (codes "encryptionKeys") query) then Err Encryption
    else Ok (record { topic = topic; name = name; base = base })))
