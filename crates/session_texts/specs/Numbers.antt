-- The sequence numbers that a session gives, and the reasons of its closes.
use Rattle.std.specs.Prelude.{ℤ, pos, ◌+ℤ◌, int_lt, ℕ, List, Option, Some, None, codes, if◌then◌else◌}
use Rattle.position_core.specs.declared.fault.Fault.{Fault}
use Rattle.position_core.specs.declared.fault.Fault.TheVariants.{NoMemory, ProducerBusy, NoSession, TopicFull, WrongKind, ConsumerBusy, TooMany, NoSuchMessage, NotCumulative, NotPending, NoSuchSubscription, SubscriptionBusy, TooManyPermits, DeadLetterSelf, JournalFull, StoreFailed, BadId, BadJson, BadPayload, BadRoute, NoRoom, PushMode, HashOverlap, MixedPolicy}

-- the number after a number, up to the last of 64 bits
abbrev pub number_after : ℤ → Option ℤ
number_after n = if int_lt n (pos 9223372036854775807) then Some (n +ℤ pos 1) else None

-- the reason of a close is the number of the refusal
abbrev pub reason_of : Fault → List ℕ
reason_of NoMemory = codes "F1"
reason_of ProducerBusy = codes "F2"
reason_of NoSession = codes "F3"
reason_of TopicFull = codes "F4"
reason_of WrongKind = codes "F5"
reason_of ConsumerBusy = codes "F6"
reason_of TooMany = codes "F7"
reason_of NoSuchMessage = codes "F8"
reason_of NotCumulative = codes "F9"
reason_of NotPending = codes "F10"
reason_of NoSuchSubscription = codes "F11"
reason_of SubscriptionBusy = codes "F12"
reason_of TooManyPermits = codes "F13"
reason_of DeadLetterSelf = codes "F14"
reason_of JournalFull = codes "F15"
reason_of StoreFailed = codes "F16"
reason_of BadId = codes "F17"
reason_of BadJson = codes "F18"
reason_of BadPayload = codes "F19"
reason_of BadRoute = codes "F20"
reason_of NoRoom = codes "F21"
reason_of PushMode = codes "F22"
reason_of HashOverlap = codes "F23"
reason_of MixedPolicy = codes "F24"
