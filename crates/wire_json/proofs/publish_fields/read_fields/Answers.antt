use Rattle.std.proofs.Common.{◌≡◌, Some, true, false, refl, sym, ap, ◌∙◌, arith}
use Rattle.json.specs.Reads.{token_of}
use Rattle.serde_json.specs.Data.{object}
use Rattle.json_glances.proofs.Taken.{object_taken, object_and_more, object_refused}
use Rattle.wire_json.specs.PublishFields.{fields_in, seen_in, with_member}
use Rattle.wire_json.proofs.SeenPublishes.{member_seen}
use Rattle.wire_json.proofs.publish_fields.read_fields.Goals as goal

pub returns-then-not-taken : goal.returns-then-not-taken
returns-then-not-taken c =
    let no : c.in_ok-taken.taken ≡ false = grind arith in
    sym (object_refused (λ ms. fields_in (object ms)) fields_in (λ ms. refl) with_member member_seen c.args.reader.now (rw (no, c.none-fields.ensures) at c.in_ok-taken.ensures))

pub returns-in-Some : goal.returns-in-Some
returns-in-Some c =
    let yes : c.in_ok-taken.taken ≡ true = grind arith in
    let seen = seen_in c.take_members.new.fields in
    let done = rw (yes, c.none-fields.ensures) at c.in_ok-taken.ensures in
    sym (object_and_more (λ ms. fields_in (object ms)) fields_in (λ ms. refl) with_member member_seen c.args.reader.now seen (token_of c.in-Some.field-0) c.next.new.self (done ∙ ap (λ r. Some (seen, r)) c.in-Some.ensures.value))

pub returns : goal.returns
returns c =
    let yes : c.in_ok-taken.taken ≡ true = grind arith in
    let seen = seen_in c.take_members.new.fields in
    let done = rw (yes, c.none-fields.ensures) at c.in_ok-taken.ensures in
    sym (object_taken (λ ms. fields_in (object ms)) fields_in (λ ms. refl) with_member member_seen c.args.reader.now seen (done ∙ ap (λ r. Some (seen, r)) c.in-None.ensures.value.0))
