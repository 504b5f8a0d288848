use Rattle.std.proofs.Common.{◌≡◌, ◌<◌, ◌+◌, length, map, rules, arith, string_bytes, string_len, string_capacity}
use Rattle.std.proofs.lemmas.List.{map-append}
use Rattle.std.specs.Map.Iter.{deref_pair}
use Rattle.std.proofs.lemmas.Map.Iter.{iter_end}
use Rattle.json_values.proofs.Written.{next_written, none_after_one}
use Rattle.json_values.proofs.Lengths.{one_longer, written, next_within, on_err}
use Rattle.json_values.specs.Written.{property_field}
use Rattle.json_values.proofs.properties.push_property_list.Goals as goal

pub loop-name-preserved : goal.loop-name-preserved
loop-name-preserved c =
    let later = rw (c.as_str.ensures.value, c.as_str-in-loop-name.ensures.value) at c.in_ok-push_property.ensures.bytes in
    record {
      first = rw (map-append, map-append, map-append) (none_after_one _ _);
      written = rw (map-append, map-append, map-append) (next_written _ (property_field (string_bytes c.in-Some.name.now, string_bytes c.in-Some.value.now)) c.loop-name.is_first _ _ _ c.loop-name.invariant.first c.loop-name.invariant.written later);
      grown = omega (arith, c.loop-name.invariant.grown, c.push_property.ensures.capacity);
      long =
          let more = rw (c.as_str.ensures.value, c.as_str-in-loop-name.ensures.value) at c.in_ok-push_property.ensures.len in
          rw (map-append, map-append, map-append) (omega (arith, c.loop-name.invariant.long, more, one_longer _ (property_field (string_bytes c.in-Some.name.now, string_bytes c.in-Some.value.now)) c.loop-name.is_first c.loop-name.invariant.first));
    }

pub returns-clause-bytes : goal.returns-clause-bytes
returns-clause-bytes c =
    let all : map deref_pair c.loop-name.yielded ≡ c.args.values.now.entries = search (rules, iter_end) in
    rw all at c.loop-name.invariant.written

pub returns-clause-len : goal.returns-clause-len
returns-clause-len c =
    let all : map deref_pair c.loop-name.yielded ≡ c.args.values.now.entries = search (rules, iter_end) in
    rw all at c.loop-name.invariant.long

pub returns-in_err-push_property-clause-full : goal.returns-in_err-push_property-clause-full
returns-in_err-push_property-clause-full c =
    let start : c.into_iter-name-iterator.result ≡ c.args.values.now.entries = search rules in
    let within = next_within c.args.values.now.entries c.loop-name.yielded _ _ _ c.next.result start c.loop-name.yielded_by (c.in-Some.name, c.in-Some.value) c.in-Some.is c.next.ensures.steps in
    let small = rw (c.as_str.ensures.value, c.as_str-in-loop-name.ensures.value) at c.in_err-push_property.ensures.full in
    let more = one_longer _ (property_field (string_bytes c.in-Some.name.now, string_bytes c.in-Some.value.now)) c.loop-name.is_first c.loop-name.invariant.first in
    let lacks : string_capacity c.args.out.now < string_len c.args.out.now + length (written c.args.values.now.entries) = omega (arith, c.loop-name.invariant.grown, c.loop-name.invariant.long, small, more, within) in
    on_err c.from_residual.result lacks
