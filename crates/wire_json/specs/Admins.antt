-- What the text of an administrator stands for.
use Rattle.std.specs.Prelude.{ℕ, List, if◌then◌else◌, Option, Some, None, option_and_then, option_map, ok_or, codes, Result, Ok, Err}
use Rattle.std.specs.Str.{bytes_eq}
use Rattle.serde_json.specs.Data.{Data}
use Rattle.position_core.specs.Name.{is_name}
use Rattle.position_core.specs.declared.fault.Fault.{Fault}
use Rattle.position_core.specs.declared.fault.Fault.TheVariants.{BadId, BadJson}
use Rattle.delivery_machine.specs.declared.event.Target.{Target}
use Rattle.delivery_machine.specs.declared.event.Target.TheVariants.{Earliest, Latest, At}
use Rattle.delivery_machine.specs.declared.retention.Retention.{Retention}
use Rattle.delivery_machine.specs.declared.retention.Retention.TheVariants.{All, Messages, Age}
use Rattle.json_values.specs.Fields.{ok_as}
use Rattle.json_values.specs.Objects.{between, object_of, text_at, whole_at}
use Rattle.wire_json.specs.declared.admins.AdminCommand.{AdminCommand}
use Rattle.wire_json.specs.declared.admins.AdminCommand.TheVariants.{Seek, SeekTime, Skip, DropSubscription, Stats, CreateSubscription, Peek, Keep, Disconnect, BackUp, Overview, DeleteTopic}
use Rattle.wire_json.specs.Ids.{id_of}

-- a text that is a name
abbrev pub if_name : List ℕ → Option (List ℕ)
if_name text = if is_name text then Some text else None

-- the subscription that a command is of
abbrev pub subscription_in : Data → Option (List ℕ)
subscription_in d = option_and_then if_name (text_at (codes "subscription") d)

-- where a text says to go on from
abbrev pub target_of : List ℕ → Option Target
target_of text =
    if bytes_eq text (codes "earliest") then Some Earliest
    else (if bytes_eq text (codes "latest") then Some Latest else option_map At (id_of text))

-- the text has to be there, and then to be a target
abbrev pub target_from : Option (List ℕ) → Result Target Fault
target_from None = Err BadJson
target_from (Some text) = ok_or (target_of text) BadId

-- where a subscription is to go on from
abbrev pub target_in : Data → Result Target Fault
target_in d = target_from (text_at (codes "position") d)

-- the moment from which a subscription is to go on
abbrev pub moment_in : Data → Result ℕ Fault
moment_in d = ok_or (option_and_then (between 0 253402300799999) (whole_at (codes "time") d)) BadJson

-- how many messages are to be skipped
abbrev pub count_in : Data → Result ℕ Fault
count_in d = ok_or (option_and_then (between 0 2147483647) (whole_at (codes "messages") d)) BadJson

-- how many messages are to be shown
abbrev pub few_in : Data → Result ℕ Fault
few_in d = ok_or (option_and_then (between 1 100) (whole_at (codes "messages") d)) BadJson

-- the number of a session
abbrev pub number_in : Data → Result ℕ Fault
number_in d = ok_or (whole_at (codes "session") d) BadJson

-- a rule by its name: all is kept, or what the broker keeps
abbrev pub rule_named : List ℕ → Result (Option Retention) Fault
rule_named name =
    if bytes_eq name (codes "all") then Ok (Some All)
    else (if bytes_eq name (codes "default") then Ok None else Err BadJson)

-- so many messages are kept
abbrev pub messages_in : ℕ → Option Retention
messages_in n = option_map Messages (between 0 1048576 n)

-- those are kept that are not older, in milliseconds
abbrev pub age_in : ℕ → Option Retention
age_in n = option_map Age (between 0 253402300799999 n)

-- so many messages where their number is there, and else by age
abbrev pub rule_by : Option ℕ → Data → Option Retention
rule_by (Some n) d = messages_in n
rule_by None d = option_and_then age_in (whole_at (codes "millis") d)

abbrev pub rule_counted : Data → Option Retention
rule_counted d = rule_by (whole_at (codes "messages") d) d

-- the name of a rule goes before its numbers
abbrev pub rule_from : Option (List ℕ) → Data → Result (Option Retention) Fault
rule_from (Some name) d = rule_named name
rule_from None d = ok_or (option_map Some (rule_counted d)) BadJson

-- what a topic is to keep
abbrev pub rule_in : Data → Result (Option Retention) Fault
rule_in d = rule_from (text_at (codes "keep") d) d

-- the command of a type that makes or shows something, for the subscription
abbrev pub own_named : List ℕ → List ℕ → Data → Result AdminCommand Fault
own_named type subscription d =
    if bytes_eq type (codes "createSubscription") then ok_as (CreateSubscription subscription) (target_in d)
    else (if bytes_eq type (codes "peek") then ok_as (Peek subscription) (few_in d) else Err BadJson)

-- the command of the type, for the subscription
abbrev pub admin_named : List ℕ → List ℕ → Data → Result AdminCommand Fault
admin_named type subscription d =
    if bytes_eq type (codes "seek") then ok_as (Seek subscription) (target_in d)
    else (if bytes_eq type (codes "seekTime") then ok_as (SeekTime subscription) (moment_in d)
    else (if bytes_eq type (codes "skip") then ok_as (Skip subscription) (count_in d)
    else (if bytes_eq type (codes "dropSubscription") then Ok (DropSubscription subscription)
    else (if bytes_eq type (codes "stats") then Ok (Stats subscription) else own_named type subscription d))))

-- the subscription has to be there
abbrev pub admin_for : List ℕ → Option (List ℕ) → Data → Result AdminCommand Fault
admin_for type None d = Err BadJson
admin_for type (Some subscription) d = admin_named type subscription d

-- The type has to be there. The deletion of the topic, its rule, the end of a session, and what is asked of the whole broker are for no
-- subscription, and one that is there is not looked at.
abbrev pub admin_from : Option (List ℕ) → Data → Result AdminCommand Fault
admin_from None d = Err BadJson
admin_from (Some type) d =
    if bytes_eq type (codes "deleteTopic") then Ok DeleteTopic
    else (if bytes_eq type (codes "backup") then Ok BackUp
    else (if bytes_eq type (codes "overview") then Ok Overview
    else (if bytes_eq type (codes "keep") then ok_as Keep (rule_in d)
    else (if bytes_eq type (codes "disconnect") then ok_as Disconnect (number_in d) else admin_for type (subscription_in d) d))))

-- what is no object is no command
abbrev pub admin_in : Option Data → Result AdminCommand Fault
admin_in None = Err BadJson
admin_in (Some d) = admin_from (text_at (codes "type") d) d

-- what the text says
abbrev pub admin_of : List ℕ → Result AdminCommand Fault
admin_of text = admin_in (object_of text)
