-- The number of each refusal, which is the same on the wire and in printed lines.
use Rattle.std.specs.Prelude.{ℕ}
use Rattle.position_core.specs.declared.fault.Fault.{Fault}
use Rattle.position_core.specs.declared.fault.Fault.TheVariants.{NoMemory, ProducerBusy, NoSession, TopicFull, WrongKind, ConsumerBusy, TooMany, NoSuchMessage, NotCumulative, NotPending, NoSuchSubscription, SubscriptionBusy, TooManyPermits, DeadLetterSelf, JournalFull, StoreFailed, BadId, BadJson, BadPayload, BadRoute, NoRoom, PushMode, HashOverlap, MixedPolicy}

abbrev pub number_of : Fault → ℕ
number_of NoMemory = 1
number_of ProducerBusy = 2
number_of NoSession = 3
number_of TopicFull = 4
number_of WrongKind = 5
number_of ConsumerBusy = 6
number_of TooMany = 7
number_of NoSuchMessage = 8
number_of NotCumulative = 9
number_of NotPending = 10
number_of NoSuchSubscription = 11
number_of SubscriptionBusy = 12
number_of TooManyPermits = 13
number_of DeadLetterSelf = 14
number_of JournalFull = 15
number_of StoreFailed = 16
number_of BadId = 17
number_of BadJson = 18
number_of BadPayload = 19
number_of BadRoute = 20
number_of NoRoom = 21
number_of PushMode = 22
number_of HashOverlap = 23
number_of MixedPolicy = 24
