-- The parameters of a query that may be wrong.
use Rattle.std.specs.Prelude.{ℕ, List, codes}
use Rattle.endpoint_core.specs.declared.fields.Field.{Field}
use Rattle.endpoint_core.specs.declared.fields.Field.TheVariants.{Query, ProducerName, InitialSequenceId, SubscriptionType, PriorityLevel, PullMode, ReceiverQueueSize, AckTimeoutMillis, NegativeAckRedeliveryDelay, MaxRedeliverCount, DeadLetterTopic, SubscriptionInitialPosition, SubscriptionMode, KeySharedRanges}

-- its name in the query, or a word for the query as a whole
abbrev pub name_of : Field → List ℕ
name_of Query = codes "query"
name_of ProducerName = codes "producerName"
name_of InitialSequenceId = codes "initialSequenceId"
name_of SubscriptionType = codes "subscriptionType"
name_of PriorityLevel = codes "priorityLevel"
name_of PullMode = codes "pullMode"
name_of ReceiverQueueSize = codes "receiverQueueSize"
name_of AckTimeoutMillis = codes "ackTimeoutMillis"
name_of NegativeAckRedeliveryDelay = codes "negativeAckRedeliveryDelay"
name_of MaxRedeliverCount = codes "maxRedeliverCount"
name_of DeadLetterTopic = codes "deadLetterTopic"
name_of SubscriptionInitialPosition = codes "subscriptionInitialPosition"
name_of SubscriptionMode = codes "subscriptionMode"
name_of KeySharedRanges = codes "keySharedRanges"
