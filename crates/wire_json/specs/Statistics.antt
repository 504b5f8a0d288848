-- What an administrator is answered.
use Rattle.std.specs.Prelude.{ℕ, zero, suc, List, [], ◌∷◌, ◌++◌, Option, Some, None, option_map, codes}
use Rattle.std.specs.Fmt.{decimal}
use Rattle.json.specs.Json.{Json, number, string}
use Rattle.position_core.specs.declared.fault.Fault.{Fault}
use Rattle.position_core.specs.declared.kind.Kind.{Kind}
use Rattle.position_core.specs.declared.kind.Kind.TheVariants.{Exclusive, Failover, Shared, KeyShared}
use Rattle.position_core.specs.declared.position.Position.{Position}
use Rattle.position_core.specs.Fault.{number_of}
use Rattle.value_texts.specs.Id.{text_of}
use Rattle.delivery_machine.specs.declared.reply.Reply.{Reply}
use Rattle.delivery_machine.specs.declared.reply.Reply.TheVariants.{Done, Refused, Stats}
use Rattle.json_values.specs.Written.{object_text}

-- the name of each kind
abbrev pub kind_text : Kind → List ℕ
kind_text Exclusive = codes "Exclusive"
kind_text Failover = codes "Failover"
kind_text Shared = codes "Shared"
kind_text KeyShared = codes "Key_Shared"

abbrev pub kind_field : Kind → List ℕ × Json
kind_field kind = (codes "kind", string (kind_text kind))

-- how the command came out
abbrev pub result_field : List ℕ → List ℕ × Json
result_field result = (codes "result", string result)

-- a number under its name
abbrev pub number_field : List ℕ → ℕ → List ℕ × Json
number_field name n = (name, number (decimal n))

-- the last message up to which all are acknowledged, where there is one
abbrev pub mark_delete_field : Option Position → List (List ℕ × Json)
mark_delete_field None = []
mark_delete_field (Some position) = (codes "markDelete", string (text_of position)) ∷ []

-- the command was taken
abbrev pub done_fields : List (List ℕ × Json)
done_fields = result_field (codes "ok") ∷ []

-- the command was refused
abbrev pub refused_fields : Fault → List (List ℕ × Json)
refused_fields fault = number_field (codes "fault") (number_of fault) ∷ result_field (codes "refused") ∷ []

-- how many messages of the topic are gone, where any is
abbrev pub gone_field : ℕ → List (List ℕ × Json)
gone_field zero = []
gone_field (suc more) = number_field (codes "gone") (suc more) ∷ []

-- and when the first of the others was published
abbrev pub oldest_field : ℕ → Option ℕ → List (List ℕ × Json)
oldest_field zero moment = []
oldest_field (suc more) None = []
oldest_field (suc more) (Some moment) = number_field (codes "oldest") moment ∷ []

-- the statistics before `markDelete`
abbrev pub early_fields : Kind → ℕ → ℕ → ℕ → ℕ → List (List ℕ × Json)
early_fields kind acknowledged live dead gone =
    (number_field (codes "acknowledged") acknowledged ∷ number_field (codes "dead") dead ∷ []) ++ (gone_field gone ++ (kind_field kind ∷ number_field (codes "live") live ∷ []))

-- and after it
abbrev pub late_fields : ℕ → ℕ → ℕ → Option ℕ → List (List ℕ × Json)
late_fields members pending gone oldest =
    (number_field (codes "members") members ∷ []) ++ (oldest_field gone oldest ++ (number_field (codes "pending") pending ∷ []))

-- how far the subscription is
abbrev pub statistics_fields : Kind → ℕ → Option Position → ℕ → ℕ → ℕ → ℕ → ℕ → Option ℕ → List (List ℕ × Json)
statistics_fields kind members mark_delete acknowledged live pending dead gone oldest =
    early_fields kind acknowledged live dead gone ++ (mark_delete_field mark_delete ++ late_fields members pending gone oldest ++ result_field (codes "ok") ∷ [])

-- what answers the reply, where it is an answer to an administrator
abbrev pub admin_fields : Reply → Option (List (List ℕ × Json))
admin_fields Done = Some done_fields
admin_fields (Refused fault) = Some (refused_fields fault)
admin_fields (Stats kind members mark_delete acknowledged live pending dead gone oldest) = Some (statistics_fields kind members mark_delete acknowledged live pending dead gone oldest)
admin_fields reply = None

-- the text that answers the reply
abbrev pub admin_text : Reply → Option (List ℕ)
admin_text reply = option_map object_text (admin_fields reply)
