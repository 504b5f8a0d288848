-- What a consumer's text stands for.
use Rattle.std.specs.Prelude.{ℕ, List, if◌then◌else◌, Option, Some, None, option_and_then, ok_or, codes, Result, Ok, Err}
use Rattle.std.specs.Str.{bytes_eq}
use Rattle.serde_json.specs.Data.{Data}
use Rattle.serde_json.specs.Find.{as_str, get}
use Rattle.position_core.specs.declared.position.Position.{Position}
use Rattle.position_core.specs.declared.fault.Fault.{Fault}
use Rattle.position_core.specs.declared.fault.Fault.TheVariants.{BadId, BadJson}
use Rattle.json_values.specs.Fields.{Said, absent, other_form, says, ok_as, said_at}
use Rattle.json_values.specs.Objects.{between, object_of, text_at, whole_at}
use Rattle.wire_json.specs.declared.commands.Command.{Command}
use Rattle.wire_json.specs.declared.commands.Command.TheVariants.{Acknowledge, AcknowledgeUpTo, NegativeAcknowledge, Permit, IsEndOfTopic}
use Rattle.wire_json.specs.Ids.{id_of}

-- the text has to be there, and then to be an id
abbrev pub id_from : Option (List ℕ) → Result Position Fault
id_from None = Err BadJson
id_from (Some text) = ok_or (id_of text) BadId

-- the message that a command is of
abbrev pub message_in : Data → Result Position Fault
message_in d = id_from (text_at (codes "messageId") d)

-- for how many messages a permit is
abbrev pub permits_in : Data → Result ℕ Fault
permits_in d = ok_or (option_and_then (between 1 2147483647) (whole_at (codes "permitMessages") d)) BadJson

-- the command of the type
abbrev pub command_named : List ℕ → Data → Result Command Fault
command_named type d =
    if bytes_eq type (codes "acknowledgeCumulative") then ok_as AcknowledgeUpTo (message_in d)
    else (if bytes_eq type (codes "negativeAcknowledge") then ok_as NegativeAcknowledge (message_in d)
    else (if bytes_eq type (codes "permit") then ok_as Permit (permits_in d)
    else (if bytes_eq type (codes "isEndOfTopic") then Ok IsEndOfTopic else Err BadJson)))

-- without a type, a message is acknowledged
abbrev pub command_from : Said (List ℕ) → Data → Result Command Fault
command_from absent d = ok_as Acknowledge (message_in d)
command_from other_form d = Err BadJson
command_from (says type) d = command_named type d

-- what is no object is no command
abbrev pub command_in : Option Data → Result Command Fault
command_in None = Err BadJson
command_in (Some d) = command_from (said_at as_str (get (codes "type") d)) d

-- what the text says
abbrev pub command_of : List ℕ → Result Command Fault
command_of text = command_in (object_of text)
