use Rattle.std.proofs.Common.{◌≡◌, ◌≤◌, ◌+◌, ◌++◌, length, map, string_bytes, string_capacity, string_len}
use Rattle.std.specs.Map.Iter.{deref_pair}
use Rattle.json_values.specs.Written.{fields_text, property_fields}
use Rattle.json_values.proofs.Written.{has_none}
use Rattle.json_values.proofs.properties.push_property_list.Given as goal

abbrev pub invariant-loop-name : goal.invariant-loop-name
invariant-loop-name l = record {
  first : l.is_first ≡ has_none (property_fields (map (λ e. (string_bytes e.0, string_bytes e.1)) (map deref_pair l.yielded)));
  written : string_bytes l.out ≡ string_bytes l.initial.out ++ fields_text (property_fields (map (λ e. (string_bytes e.0, string_bytes e.1)) (map deref_pair l.yielded)));
  grown : string_capacity l.initial.out ≤ string_capacity l.out;
  long : string_len l.out ≡ string_len l.initial.out + length (fields_text (property_fields (map (λ e. (string_bytes e.0, string_bytes e.1)) (map deref_pair l.yielded))));
}
