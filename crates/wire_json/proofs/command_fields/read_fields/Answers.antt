use Rattle.std.proofs.Common.{◌≡◌, Some, true, false, refl, sym, ap, ◌∙◌, arith}
use Rattle.json.specs.Reads.{token_of}
use Rattle.serde_json.specs.Data.{object}
use Rattle.json_glances.proofs.Taken.{object_taken, object_and_more, object_refused}
use Rattle.wire_json.specs.CommandFields.{fields_in, seen_in, with_member}
use Rattle.wire_json.proofs.SeenCommands.{member_seen}
use Rattle.wire_json.proofs.command_fields.read_fields.Goals as goal

pub returns-then-not-taken : goal.returns-then-not-taken
returns-then-not-taken c =
    let no : c.take_members-taken.result ≡ false = grind arith in
    sym (object_refused (λ ms. fields_in (object ms)) fields_in (λ ms. refl) with_member member_seen c.args.reader.now (rw (no, c.none-fields.ensures) at c.take_members-taken.ensures))

pub returns-in-Some : goal.returns-in-Some
returns-in-Some c =
    let yes : c.take_members-taken.result ≡ true = grind arith in
    let seen = seen_in c.take_members-taken.new.fields in
    let done = rw (yes, c.none-fields.ensures) at c.take_members-taken.ensures in
    sym (object_and_more (λ ms. fields_in (object ms)) fields_in (λ ms. refl) with_member member_seen c.args.reader.now seen (token_of c.in-Some.field-0) c.next.new.self (done ∙ ap (λ r. Some (seen, r)) c.in-Some.ensures.value))

pub returns-in-None : goal.returns-in-None
returns-in-None c =
    let yes : c.take_members-taken.result ≡ true = grind arith in
    let seen = seen_in c.take_members-taken.new.fields in
    let done = rw (yes, c.none-fields.ensures) at c.take_members-taken.ensures in
    sym (object_taken (λ ms. fields_in (object ms)) fields_in (λ ms. refl) with_member member_seen c.args.reader.now seen (done ∙ ap (λ r. Some (seen, r)) c.in-None.ensures.value.0))
