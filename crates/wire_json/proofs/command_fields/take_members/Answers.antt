use Rattle.std.proofs.Common.{◌≡◌, ◌-◌, Some, length, sym, ap, ◌∙◌, arith}
use Rattle.json.specs.Json.{read_key, members, value}
use Rattle.json.proofs.Grammar.{read_key-shorter}
use Rattle.serde_json.specs.Read.{converted}
use Rattle.json_glances.specs.Glances.{flat, seen_as, taking_all}
use Rattle.json_glances.proofs.Turns.{read_further, member_taken, member_refused, key_refused, members_over}
use Rattle.wire_json.specs.CommandFields.{seen_in, with_glance, with_member}
use Rattle.wire_json.proofs.command_fields.take_members.Goals as goal

pub members-preserved : goal.members-preserved
members-preserved c =
    let p = value 126 in
    let l = c.members in
    let n = l.invariant.0 in
    let f = seen_in l.fields in
    let k = c.in-Ok-Some.name.now in
    let s = c.next_key.new.self in
    let named : read_key l.reader ≡ Some (Some k, s) = rw c.in-Ok-Some.field-0-is at c.in-Ok-Some.ensures.value in
    let done = c.in-Ok.ensures in
    let r = c.pass_value.new.reader in
    let less = read_key-shorter l.reader (Some k) s named in
    let lesser = done.shorter in
    let now = with_glance k (seen_as c.in-Ok.seen) f in
    let seen = read_further flat (λ d. with_glance k d f) (p s) (seen_as c.in-Ok.seen) r done.ok in (
      n - 1,
      omega (arith, l.invariant.1),
      l.invariant.2 ∙ member_taken with_member p f n k l.reader s r now (omega (arith, l.invariant.1)) named seen
          ∙ ap (λ g. converted (λ ms. taking_all with_member ms g) (members p (n - 1) r)) (sym c.put.ensures),
      omega (arith, l.invariant.3),
    )

pub returns-in-Err-pass_value : goal.returns-in-Err-pass_value
returns-in-Err-pass_value c =
    let l = c.members in
    let s = c.next_key.new.self in
    let k = c.in-Ok-Some.name.now in
    let named : read_key l.reader ≡ Some (Some k, s) = rw c.in-Ok-Some.field-0-is at c.in-Ok-Some.ensures.value in
    l.invariant.2 ∙ member_refused with_member (value 126) (seen_in l.fields) l.invariant.0 k l.reader s named c.in-Err-pass_value.ensures.err

pub returns-in-Ok-None : goal.returns-in-Ok-None
returns-in-Ok-None c =
    let l = c.members in
    l.invariant.2 ∙ members_over with_member (value 126) (seen_in l.fields) l.invariant.0 l.reader c.next_key.new.self l.invariant.1 (rw c.in-Ok-None.field-0-is at c.in-Ok-None.ensures.value)

pub returns-in-Err : goal.returns-in-Err
returns-in-Err c =
    let l = c.members in
    l.invariant.2 ∙ key_refused with_member (value 126) (seen_in l.fields) l.invariant.0 l.reader c.in-Err.ensures.value
