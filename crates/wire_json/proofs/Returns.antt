-- Each written text reads back as the object that it means.
use Rattle.std.proofs.Common.{◌≡◌, ℕ, zero, suc, ◌<◌, ◌^◌, List, [], ◌∷◌, ◌++◌, Option, Some, None, refl, sym, ap, ◌∙◌, arith}
use Rattle.json.specs.Tree.{MembersHaveNumbers, members_depth}
use Rattle.json.proofs.Printed.Decimals.{IsNumber-decimal}
use Rattle.json.specs.Json.{Json, document}
use Rattle.position_core.specs.declared.fault.Fault.{Fault}
use Rattle.position_core.specs.declared.fault.Fault.TheVariants.{BadJson, BadPayload, NoMemory, ProducerBusy, NoSession, TopicFull, WrongKind, ConsumerBusy, TooMany, NoSuchMessage, NotCumulative, NotPending, NoSuchSubscription, SubscriptionBusy, TooManyPermits, DeadLetterSelf, JournalFull, StoreFailed, BadId, BadRoute, NoRoom, PushMode, HashOverlap, MixedPolicy}
use Rattle.position_core.specs.declared.kind.Kind.{Kind}
use Rattle.position_core.specs.declared.message.Entry.{Entry}
use Rattle.position_core.specs.declared.position.Position.{Position}
use Rattle.delivery_machine.specs.declared.reply.Reply.TheVariants.{Done, Refused, Stats}
use Rattle.position_core.specs.Fault.{number_of}
use Rattle.json_values.specs.Written.{members_of, object_text, object_with, property_fields}
use Rattle.json_values.proofs.Written.{reads_back}
use Rattle.wire_json.specs.Answers.{error_fields, ok_fields}
use Rattle.wire_json.specs.Answers.{id_field}
use Rattle.wire_json.specs.Deliveries.{count_field, key_field, payload_field, properties_field, time_field}
use Rattle.wire_json.specs.Laws.{AdminsReadBack, DeliveriesReadBack, ErrorsReadBack, HasFittingCounts, OksReadBack}
use Rattle.wire_json.specs.Statistics.{done_fields, refused_fields, statistics_fields}

abbrev fields_with : Option (List ℕ) → Entry → List ℕ → ℕ → List (List ℕ × Json)
fields_with key message time count =
    key_field key ++ id_field message.position ∷ payload_field message.body.payload ∷ properties_field message.body.properties ∷ time_field time ∷ count_field count ∷ []

pub oks_read_back : OksReadBack
oks_read_back None id = reads_back (ok_fields None id) (tt, (tt, tt)) (omega arith)
oks_read_back (Some context) id = reads_back (ok_fields (Some context) id) (tt, (tt, (tt, tt))) (omega arith)

pub errors_read_back : ErrorsReadBack
errors_read_back None error = reads_back (error_fields None error) (tt, (tt, tt)) (omega arith)
errors_read_back (Some context) error = reads_back (error_fields (Some context) error) (tt, (tt, (tt, tt))) (omega arith)

abbrev Pairs : Type 0
Pairs = List (List ℕ × List ℕ)

no_numbers : (properties : Pairs) → MembersHaveNumbers (members_of (property_fields properties))
no_numbers [] = tt
no_numbers (p ∷ others) = (tt, no_numbers others)

flat : (properties : Pairs) → members_depth (members_of (property_fields properties)) ≡ 0
flat [] = refl
flat (p ∷ others) = rw (flat others) refl

with_time : (key : Option (List ℕ)) (message : Entry) (time : List ℕ) (count : ℕ) → count < 2 ^ 64 → (let fields = fields_with key message time count in document (object_text fields) ≡ Some (object_with fields))
with_time None message time count fits =
    reads_back (fields_with None message time count) (tt, (tt, (no_numbers message.body.properties, (tt, (IsNumber-decimal count fits, tt))))) (rw (flat message.body.properties) (omega arith))
with_time (Some key) message time count fits =
    reads_back (fields_with (Some key) message time count) (tt, (tt, (tt, (no_numbers message.body.properties, (tt, (IsNumber-decimal count fits, tt)))))) (rw (flat message.body.properties) (omega arith))

pub deliveries_read_back : DeliveriesReadBack
deliveries_read_back message count text fits (time, is_time, is) = (time, is_time, ap document is ∙ with_time message.body.key message time count fits)

small : (fault : Fault) → number_of fault < 2 ^ 64
small NoMemory = omega arith
small ProducerBusy = omega arith
small NoSession = omega arith
small TopicFull = omega arith
small WrongKind = omega arith
small ConsumerBusy = omega arith
small TooMany = omega arith
small NoSuchMessage = omega arith
small NotCumulative = omega arith
small NotPending = omega arith
small NoSuchSubscription = omega arith
small SubscriptionBusy = omega arith
small TooManyPermits = omega arith
small DeadLetterSelf = omega arith
small JournalFull = omega arith
small StoreFailed = omega arith
small BadId = omega arith
small BadJson = omega arith
small BadPayload = omega arith
small BadRoute = omega arith
small NoRoom = omega arith
small PushMode = omega arith
small HashOverlap = omega arith
small MixedPolicy = omega arith

statistics_back : (kind : Kind) (members : ℕ) (mark_delete : Option Position) (acknowledged live pending dead gone : ℕ) (oldest : Option ℕ) → HasFittingCounts (Stats kind members mark_delete acknowledged live pending dead gone oldest)
    → (let fields = statistics_fields kind members mark_delete acknowledged live pending dead gone oldest in document (object_text fields) ≡ Some (object_with fields))
statistics_back kind members None acknowledged live pending dead zero oldest (m, a, l, p, d, g, o) =
    reads_back (statistics_fields kind members None acknowledged live pending dead zero oldest)
    (IsNumber-decimal acknowledged a, (IsNumber-decimal dead d, (tt, (IsNumber-decimal live l, (IsNumber-decimal members m, (IsNumber-decimal pending p, (tt, tt))))))) (omega arith)
statistics_back kind members None acknowledged live pending dead (suc more) None (m, a, l, p, d, g, o) =
    reads_back (statistics_fields kind members None acknowledged live pending dead (suc more) None)
    (IsNumber-decimal acknowledged a, (IsNumber-decimal dead d, (IsNumber-decimal (suc more) g, (tt, (IsNumber-decimal live l, (IsNumber-decimal members m, (IsNumber-decimal pending p, (tt, tt)))))))) (omega arith)
statistics_back kind members None acknowledged live pending dead (suc more) (Some moment) (m, a, l, p, d, g, o) =
    reads_back (statistics_fields kind members None acknowledged live pending dead (suc more) (Some moment))
    (IsNumber-decimal acknowledged a, (IsNumber-decimal dead d, (IsNumber-decimal (suc more) g, (tt, (IsNumber-decimal live l, (IsNumber-decimal members m, (IsNumber-decimal moment o, (IsNumber-decimal pending p, (tt, tt))))))))) (omega arith)
statistics_back kind members (Some position) acknowledged live pending dead zero oldest (m, a, l, p, d, g, o) =
    reads_back (statistics_fields kind members (Some position) acknowledged live pending dead zero oldest)
    (IsNumber-decimal acknowledged a, (IsNumber-decimal dead d, (tt, (IsNumber-decimal live l, (tt, (IsNumber-decimal members m, (IsNumber-decimal pending p, (tt, tt)))))))) (omega arith)
statistics_back kind members (Some position) acknowledged live pending dead (suc more) None (m, a, l, p, d, g, o) =
    reads_back (statistics_fields kind members (Some position) acknowledged live pending dead (suc more) None)
    (IsNumber-decimal acknowledged a, (IsNumber-decimal dead d, (IsNumber-decimal (suc more) g, (tt, (IsNumber-decimal live l, (tt, (IsNumber-decimal members m, (IsNumber-decimal pending p, (tt, tt))))))))) (omega arith)
statistics_back kind members (Some position) acknowledged live pending dead (suc more) (Some moment) (m, a, l, p, d, g, o) =
    reads_back (statistics_fields kind members (Some position) acknowledged live pending dead (suc more) (Some moment))
    (IsNumber-decimal acknowledged a, (IsNumber-decimal dead d, (IsNumber-decimal (suc more) g, (tt, (IsNumber-decimal live l, (tt, (IsNumber-decimal members m, (IsNumber-decimal moment o, (IsNumber-decimal pending p, (tt, tt)))))))))) (omega arith)

same_fields : (a b : List (List ℕ × Json)) → (let x : Option (List (List ℕ × Json)) = Some a in x ≡ Some b) → document (object_text a) ≡ Some (object_with a) → document (object_text b) ≡ Some (object_with b)
same_fields a b is back = let one : a ≡ b = cc in rw (sym one) back

pub admins_read_back : AdminsReadBack
admins_read_back Done fields fit is = same_fields done_fields fields is (reads_back done_fields (tt, tt) (omega arith))
admins_read_back (Refused fault) fields fit is = same_fields (refused_fields fault) fields is (reads_back (refused_fields fault) (IsNumber-decimal (number_of fault) (small fault), (tt, tt)) (omega arith))
admins_read_back (Stats kind members mark_delete acknowledged live pending dead gone oldest) fields fit is =
    same_fields (statistics_fields kind members mark_delete acknowledged live pending dead gone oldest) fields is (statistics_back kind members mark_delete acknowledged live pending dead gone oldest fit)
admins_read_back reply fields fit is = absurd (cc)
