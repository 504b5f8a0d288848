-- The members that are looked for in a consumer's command, and what is seen of their values: the last value of a name stays.
use Rattle.std.specs.Prelude.{ℕ, List, if◌then◌else◌, Option, Some, Result, Ok, Err, ok_or, option_and_then, option_map, codes}
use Rattle.std.specs.Str.{bytes_eq}
use Rattle.serde_json.specs.Data.{Data}
use Rattle.serde_json.specs.Find.{as_number, as_str, as_u64, get}
use Rattle.position_core.specs.declared.position.Position.{Position}
use Rattle.position_core.specs.declared.fault.Fault.{Fault}
use Rattle.position_core.specs.declared.fault.Fault.TheVariants.{BadJson}
use Rattle.json_values.specs.Fields.{Said, absent, other_form, says, ok_as, said_at}
use Rattle.json_values.specs.Objects.{between}
use Rattle.wire_json.specs.Commands.{id_from}
use Rattle.json_glances.specs.Glances.{flat, seen_as}
use Rattle.wire_json.specs.declared.commands.Command.{Command}
use Rattle.wire_json.specs.declared.commands.Command.TheVariants.{Acknowledge, AcknowledgeUpTo, NegativeAcknowledge, Permit, IsEndOfTopic}
use Rattle.wire_json.specs.declared.command_fields.CommandFields.{CommandFields}

-- the members of a consumer's command
pub record Fields : Type 0 where
  pub type : Option Data
  pub message_id : Option Data
  pub permit_messages : Option Data

abbrev pub fields_in : Data → Fields
fields_in d = record {
  type = option_map flat (get (codes "type") d);
  message_id = option_map flat (get (codes "messageId") d);
  permit_messages = option_map flat (get (codes "permitMessages") d);
}

abbrev pub seen_in : CommandFields → Fields
seen_in f = record {
  type = option_map seen_as f.kind;
  message_id = option_map seen_as f.message_id;
  permit_messages = option_map seen_as f.permit_messages;
}

-- a further value that was seen at a glance
abbrev pub with_glance : List ℕ → Data → Fields → Fields
with_glance name d f =
    if bytes_eq name (codes "messageId") then record { type = f.type; message_id = Some d; permit_messages = f.permit_messages }
    else (if bytes_eq name (codes "type") then record { type = Some d; message_id = f.message_id; permit_messages = f.permit_messages }
    else (if bytes_eq name (codes "permitMessages") then record { type = f.type; message_id = f.message_id; permit_messages = Some d } else f))

-- a further member
abbrev pub with_member : List ℕ → Data → Fields → Fields
with_member name d f = with_glance name (flat d) f

-- what the members say, as the whole object says it
abbrev pub message_from : Fields → Result Position Fault
message_from f = id_from (option_and_then as_str f.message_id)

abbrev pub permits_from : Fields → Result ℕ Fault
permits_from f = ok_or (option_and_then (between 1 2147483647) (option_and_then as_u64 (option_and_then as_number f.permit_messages))) BadJson

abbrev pub named : List ℕ → Fields → Result Command Fault
named type f =
    if bytes_eq type (codes "acknowledgeCumulative") then ok_as AcknowledgeUpTo (message_from f)
    else (if bytes_eq type (codes "negativeAcknowledge") then ok_as NegativeAcknowledge (message_from f)
    else (if bytes_eq type (codes "permit") then ok_as Permit (permits_from f)
    else (if bytes_eq type (codes "isEndOfTopic") then Ok IsEndOfTopic else Err BadJson)))

abbrev pub command_from : Said (List ℕ) → Fields → Result Command Fault
command_from absent f = ok_as Acknowledge (message_from f)
command_from other_form f = Err BadJson
command_from (says type) f = named type f

abbrev pub command_seen : Fields → Result Command Fault
command_seen f = command_from (said_at as_str f.type) f
