use Rattle.std.proofs.Common.{◌≡◌, [], ◌∷◌, length-append, map, rules, arith, string_bytes}
use Rattle.std.proofs.lemmas.List.{map-append}
use Rattle.std.specs.Map.Iter.{deref_pair}
use Rattle.std.proofs.lemmas.Map.Iter.{iter_end}
use Rattle.position_core.specs.Properties.{pairs_of}
use Rattle.json_values.specs.Written.{property_field, property_fields}
use Rattle.json_values.proofs.Written.{object_length}
use Rattle.json_values.proofs.Lengths.{next_fits, one_more_room}
use Rattle.json_values.proofs.properties.room_for_properties.Goals as goal

pub loop-name-preserved : goal.loop-name-preserved
loop-name-preserved c =
    let start : c.into_iter-name-iterator.result ≡ c.as_map.result.now.entries = search rules in
    let fit = next_fits c.as_map.result.now.entries c.loop-name.yielded _ _ _ c.next.result start c.loop-name.yielded_by (c.in-Some.name, c.in-Some.value) c.in-Some.is c.next.ensures.steps c.as_map.ensures.within in
    let enough = (rw (c.as_str.ensures.value, c.as_str-in-loop-name.ensures.value) at c.room_for_property.ensures.enough) fit.0 in
    let small = (rw (c.as_str.ensures.value, c.as_str-in-loop-name.ensures.value) at c.room_for_property.ensures.small) fit.0 in
    let more = one_more_room _ (property_field (string_bytes c.in-Some.name.now, string_bytes c.in-Some.value.now)) c.loop-name.room c.room_for_property.result c.loop-name.invariant.enough enough in
    record {
      enough = rw (map-append, map-append, map-append) (omega (arith, more, c.saturating_add-room.ensures, c.loop-name.invariant.small, small, fit.1));
      small = omega (arith, c.saturating_add-room.ensures, c.loop-name.invariant.small, small, length-append c.loop-name.yielded ((c.in-Some.name, c.in-Some.value) ∷ []));
    }

pub returns : goal.returns
returns c =
    let all : map deref_pair c.loop-name.yielded ≡ c.as_map.result.now.entries = search (rules, iter_end) in
    let enough = rw all at c.loop-name.invariant.enough in
    rw (← c.as_map.ensures.value) (omega (arith, enough, object_length (property_fields (pairs_of c.as_map.result.now))))
