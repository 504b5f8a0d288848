-- How a connection is refused whose request was not accepted, where that is told by a response.
use Rattle.std.specs.Prelude.{◌||◌, ◌++◌, ℕ, Bool, true, false, List, [], Option, Some, None, codes, decimal, length}
use Rattle.position_core.specs.declared.fault.Fault.{Fault}
use Rattle.position_core.specs.declared.fault.Fault.TheVariants.{NoMemory, ProducerBusy, NoSession, TopicFull, WrongKind, ConsumerBusy, TooMany, NoSuchMessage, NotCumulative, NotPending, NoSuchSubscription, SubscriptionBusy, TooManyPermits, DeadLetterSelf, JournalFull, StoreFailed, BadId, BadJson, BadPayload, BadRoute, NoRoom, PushMode, HashOverlap, MixedPolicy}
use Rattle.position_core.specs.Fault.{number_of}
use Rattle.socket_conn.specs.declared.asked.Asked.{Asked}
use Rattle.session_texts.specs.Numbers.{reason_of}
use Rattle.worker_pool.specs.Pages.{beginning, ending, nothing_else}
use Rattle.worker_pool.specs.declared.pages.Status.{Status}
use Rattle.worker_pool.specs.declared.pages.Status.TheVariants.{BadRequest, Conflict, NotFound, Unavailable}
use Rattle.worker_pool.specs.declared.refusing.Refused.{Refused}
use Rattle.worker_pool.specs.declared.refusing.Refused.TheVariants as ways

-- the broker was started so that refusals are told by a status
abbrev pub is_by_status : Refused → Bool
is_by_status ways.Close = false
is_by_status ways.Status = true

-- a refusal is told by a status: the broker was started so, or the request asks for it
abbrev pub tells_status : Refused → Asked → Bool
tells_status refused asked = is_by_status refused || asked.wants_status

-- a name or a subscription is taken; something is not there; the broker has no room or cannot serve now; or the request is wrong
abbrev pub status_of : Fault → Status
status_of ProducerBusy = Conflict
status_of WrongKind = Conflict
status_of ConsumerBusy = Conflict
status_of SubscriptionBusy = Conflict
status_of HashOverlap = Conflict
status_of MixedPolicy = Conflict
status_of NoSession = NotFound
status_of NoSuchMessage = NotFound
status_of NoSuchSubscription = NotFound
status_of NoMemory = Unavailable
status_of TopicFull = Unavailable
status_of TooMany = Unavailable
status_of JournalFull = Unavailable
status_of StoreFailed = Unavailable
status_of NoRoom = Unavailable
status_of fault = BadRequest

-- what a refusal says
abbrev pub words_of : Fault → List ℕ
words_of NoMemory = codes "memory was refused"
words_of ProducerBusy = codes "the producer's name is connected"
words_of NoSession = codes "no producer or consumer has the number; or no session, which is to end; or an administrator ended the session"
words_of TopicFull = codes "the log has 1,048,576 messages, or the ledger would pass 2^62; or with the message, which is no duplicate, those that are kept would have more bytes than the broker's most"
words_of WrongKind = codes "the subscription has consumers of another type"
words_of ConsumerBusy = codes "the subscription is Exclusive and has a consumer"
words_of TooMany = codes "256 topics are in use, or 256 are being opened; or there are 256 producers, 64 subscriptions, or 64 consumers of the subscription; or the client's address has as much as it may; or a counter has come to its end"
words_of NoSuchMessage = codes "no visible message that is kept has the id; in a replay also: the first stored dead letter has another ordinal"
words_of NotCumulative = codes "acknowledgeCumulative in Shared or Key_Shared"
words_of NotPending = codes "the message that is given back is not pending at the consumer"
words_of NoSuchSubscription = codes "the topic has no subscription of the name; or an administrator's topic does not exist, or was deleted"
words_of SubscriptionBusy = codes "a subscription that is to be made is there; one that is to be dropped has consumers, or dead letters that were not moved; a topic that is to be deleted has producers, consumers, or such letters; or a copy of the database is waited for already"
words_of TooManyPermits = codes "the permits of a consumer would pass 2^31-1"
words_of DeadLetterSelf = codes "the dead-letter topic is the topic itself"
words_of JournalFull = codes "the journal of a topic has no line left"
words_of StoreFailed = codes "the database failed; or the rows of the topic are damaged"
words_of BadId = codes "messageId or position is not an id that this broker gives"
words_of BadJson = codes "the text is not one of the endpoint's"
words_of BadPayload = codes "payload is not base64, or too long"
words_of BadRoute = codes "the path or the query names no endpoint; or no copy of the database is made for this client"
words_of NoRoom = codes "1,024 sessions are at the topic"
words_of PushMode = codes "permit of a consumer without pullMode"
words_of HashOverlap = codes "a hash of keySharedRanges is another consumer's"
words_of MixedPolicy = codes "the consumers of the Key_Shared subscription came with keySharedRanges and this one without, or the other way about"

-- behind these words, what of the target is wrong, where that is known
abbrev pub wrong_after : List ℕ → Option (List ℕ) → List ℕ
wrong_after words None = []
wrong_after words (Some wrong) = words ++ wrong

-- the refusal as an object of JSON: its number, what it says, and what is wrong
abbrev pub refusal_text : Fault → Option (List ℕ) → List ℕ
refusal_text fault wrong =
    codes "{\"fault\":" ++ decimal (number_of fault) ++ codes ",\"reason\":\"" ++ words_of fault ++ wrong_after (codes "\",\"wrong\":\"") wrong ++ codes "\"}\n"

-- the head of its response up to the length of the body, with a line for clients whose library gives them no body
abbrev pub refusal_head : Fault → Option (List ℕ) → List ℕ
refusal_head fault wrong =
    beginning (status_of fault) (codes "application/json") ++ codes "\r\nX-Refusal: " ++ reason_of fault ++ wrong_after (codes " ") wrong
    ++ codes "\r\nContent-Length: "

-- the response by which a refusal is told
abbrev pub refusal_response : Fault → Option (List ℕ) → List ℕ
refusal_response fault wrong =
    let text = refusal_text fault wrong in
    refusal_head fault wrong ++ decimal (length text) ++ ending nothing_else ++ text
