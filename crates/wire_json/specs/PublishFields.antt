-- The members that are looked for in a publish, and what is seen of their values: the last value of a name stays.
use Rattle.std.specs.Prelude.{ℕ, List, [], if◌then◌else◌, Option, Some, Result, option_and_then, option_map, codes}
use Rattle.std.specs.Str.{bytes_eq}
use Rattle.serde_json.specs.Data.{Data}
use Rattle.serde_json.specs.Find.{as_str, get}
use Rattle.serde_json.specs.View.{view}
use Rattle.position_core.specs.declared.body.Content.{Content}
use Rattle.position_core.specs.declared.fault.Fault.{Fault}
use Rattle.json_values.specs.Fields.{optional, properties_of, said_at, said_or, short_text, word_of}
use Rattle.json_glances.specs.Glances.{flat, seen_as, shallow}
use Rattle.wire_json.specs.Publishes.{Reading, content_from, payload_from, reading_with}
use Rattle.wire_json.specs.declared.publish_fields.PublishFields.{PublishFields}

-- the members of a publish
pub record Fields : Type 0 where
  pub context : Option Data
  pub payload : Option Data
  pub key : Option Data
  pub properties : Option Data

abbrev pub fields_in : Data → Fields
fields_in d = record {
  context = option_map flat (get (codes "context") d);
  payload = option_map flat (get (codes "payload") d);
  key = option_map flat (get (codes "key") d);
  properties = option_map shallow (get (codes "properties") d);
}

abbrev pub seen_in : PublishFields → Fields
seen_in f = record {
  context = option_map seen_as f.context;
  payload = option_map seen_as f.payload;
  key = option_map seen_as f.key;
  properties = option_map view f.properties;
}

-- a further value that was seen at a glance
abbrev pub with_glance : List ℕ → Data → Fields → Fields
with_glance name d p =
    if bytes_eq name (codes "payload") then record { context = p.context; payload = Some d; key = p.key; properties = p.properties }
    else (if bytes_eq name (codes "context") then record { context = Some d; payload = p.payload; key = p.key; properties = p.properties }
    else (if bytes_eq name (codes "key") then record { context = p.context; payload = p.payload; key = Some d; properties = p.properties } else p))

-- further properties
abbrev pub with_properties : Data → Fields → Fields
with_properties d p = record { context = p.context; payload = p.payload; key = p.key; properties = Some d }

-- a further member
abbrev pub with_member : List ℕ → Data → Fields → Fields
with_member name d p = if bytes_eq name (codes "properties") then with_properties (shallow d) p else with_glance name (flat d) p

-- what the members say, as the whole object says it
abbrev pub context_from : Option Data → Result (Option (List ℕ)) Fault
context_from seen = optional (said_at word_of seen)

abbrev pub key_from : Option Data → Result (Option (List ℕ)) Fault
key_from seen = optional (said_at (short_text 1024) seen)

abbrev pub properties_from : Option Data → Result (List (List ℕ × List ℕ)) Fault
properties_from seen = said_or [] (said_at properties_of seen)

abbrev pub content_seen : Fields → Result Content Fault
content_seen f = content_from (payload_from (option_and_then as_str f.payload)) (key_from f.key) (properties_from f.properties)

abbrev pub reading_seen : Fields → Reading
reading_seen f = reading_with (context_from f.context) (content_seen f)
