-- The endpoint that a target stands for.
use Rattle.std.specs.Prelude.{ℕ, List, [], unwrap_or, Result, Ok, Err, if◌then◌else◌}
use Rattle.url.specs.Parts.{Parts}
use Rattle.endpoint_core.specs.declared.faults.Role.{Role}
use Rattle.endpoint_core.specs.declared.faults.Role.TheVariants.{Unknown, Producer, Consumer, Admin}
use Rattle.endpoint_core.specs.declared.faults.Cause.{Cause}
use Rattle.endpoint_core.specs.declared.faults.Cause.TheVariants.{UnknownPath, BadParameter}
use Rattle.endpoint_core.specs.declared.fields.Field.TheVariants.{DeadLetterTopic}
use Rattle.endpoint_core.specs.declared.faults.RouteFault.{RouteFault}
use Rattle.endpoint_core.specs.declared.consumers.ConsumerEndpoint.{ConsumerEndpoint}
use Rattle.endpoint_core.specs.declared.letters.Letters.{Letters}
use Rattle.endpoint_core.specs.declared.routes.Endpoint.{Endpoint}
use Rattle.endpoint_core.specs.declared.routes.Endpoint.TheVariants as endpoints
use Rattle.endpoint_core.specs.Faults.{and_then, refusal}
use Rattle.endpoint_core.specs.Segments.{segments_of}
use Rattle.endpoint_core.specs.Paths.{url_of, asked, topic_in, subscription_in}
use Rattle.endpoint_core.specs.Queries.{parameters_of}
use Rattle.endpoint_core.specs.Producers.{producer_of}
use Rattle.endpoint_core.specs.Consumers.{consumer_of}
use Rattle.endpoint_core.specs.Letters.{keeps_letters}

-- the names of the path are looked at first, then the whole query, then the parameters
abbrev pub producer_at : List (List ℕ) → List ℕ → Result Endpoint Cause
producer_at segments query =
    and_then (topic_in segments) (λ topic.
    and_then (parameters_of query) (λ parameters.
    and_then (producer_of topic parameters) (λ producer.
    Ok (endpoints.Producer producer))))

-- the consumer, unless its dead letters would go where they may not
abbrev pub if_kept : Letters → ConsumerEndpoint → Result Endpoint Cause
if_kept letters consumer =
    if keeps_letters letters consumer.topic consumer.dead_topic then Ok (endpoints.Consumer consumer) else Err (BadParameter DeadLetterTopic)

abbrev pub consumer_at : Letters → List (List ℕ) → List ℕ → Result Endpoint Cause
consumer_at letters segments query =
    and_then (subscription_in segments) (λ named.
    and_then (parameters_of query) (λ parameters.
    and_then (consumer_of named.0 named.1 parameters) (if_kept letters)))

abbrev pub admin_at : List (List ℕ) → List ℕ → Result Endpoint Cause
admin_at segments query =
    and_then (topic_in segments) (λ topic.
    and_then (parameters_of query) (λ parameters.
    Ok (endpoints.Admin (record { topic = topic }))))

abbrev pub endpoint_at : Letters → Role → List ℕ → List ℕ → Result Endpoint Cause
endpoint_at letters Unknown rest query = Err UnknownPath
endpoint_at letters Producer rest query = producer_at (segments_of rest) query
endpoint_at letters Consumer rest query = consumer_at letters (segments_of rest) query
endpoint_at letters Admin rest query = admin_at (segments_of rest) query

-- a refusal names whom the path is for
abbrev pub refused_for : Role → Result Endpoint Cause → Result Endpoint RouteFault
refused_for role (Ok endpoint) = Ok endpoint
refused_for role (Err cause) = Err (refusal role cause)

abbrev pub route_by : Letters → Role × List ℕ → List ℕ → Result Endpoint RouteFault
route_by letters asked query = refused_for asked.0 (endpoint_at letters asked.0 asked.1 query)

abbrev pub route_in : Letters → Result Parts Cause → Result Endpoint RouteFault
route_in letters (Ok url) = route_by letters (asked url.path) (unwrap_or url.query [])
route_in letters (Err cause) = Err (refusal Unknown cause)

-- the endpoint that a target is, or why it is none
abbrev pub route_of : Letters → List ℕ → Result Endpoint RouteFault
route_of letters target = route_in letters (url_of target)
