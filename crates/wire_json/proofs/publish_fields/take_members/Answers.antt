use Rattle.std.proofs.Common.{◌≡◌, ◌-◌, Some, true, false, ◌∙◌, arith}
use Rattle.json.specs.Json.{read_key, value}
use Rattle.json.proofs.Grammar.{read_key-shorter}
use Rattle.json_glances.proofs.Turns.{member_taken, member_refused, key_refused, members_over}
use Rattle.wire_json.specs.PublishFields.{seen_in, with_member}
use Rattle.wire_json.proofs.publish_fields.take_members.Goals as goal

pub returns-in-Ok-None : goal.returns-in-Ok-None
returns-in-Ok-None c =
    let l = c.members in
    l.invariant.2 ∙ members_over with_member (value 126) (seen_in l.fields) l.invariant.0 l.reader c.next_key.new.self l.invariant.1 (rw c.in-Ok-None.field-0-is at c.in-Ok-None.ensures.value)

pub returns-in-Err : goal.returns-in-Err
returns-in-Err c =
    let l = c.members in
    l.invariant.2 ∙ key_refused with_member (value 126) (seen_in l.fields) l.invariant.0 l.reader c.in-Err.ensures.value

pub returns-then-not-taken : goal.returns-then-not-taken
returns-then-not-taken c =
    let l = c.members in
    let s = c.next_key.new.self in
    let k = c.in-Ok-Some.name.now in
    let named : read_key l.reader ≡ Some (Some k, s) = rw c.in-Ok-Some.field-0-is at c.in-Ok-Some.ensures.value in
    let no : c.in_ok-taken-in-Ok-Some.taken ≡ false = grind arith in
    l.invariant.2 ∙ member_refused with_member (value 126) (seen_in l.fields) l.invariant.0 k l.reader s named (rw no at c.in_ok-taken-in-Ok-Some.ensures.value)

pub members-preserved : goal.members-preserved
members-preserved c =
    let p = value 126 in
    let l = c.members in
    let n = l.invariant.0 in
    let k = c.in-Ok-Some.name.now in
    let s = c.next_key.new.self in
    let named : read_key l.reader ≡ Some (Some k, s) = rw c.in-Ok-Some.field-0-is at c.in-Ok-Some.ensures.value in
    let yes : c.in_ok-taken-in-Ok-Some.taken ≡ true = grind arith in
    let r = c.take_member.new.reader in
    let less = read_key-shorter l.reader (Some k) s named in
    let lesser = c.in_ok-taken-in-Ok-Some.ensures.shorter yes in
    let seen = rw yes at c.in_ok-taken-in-Ok-Some.ensures.value in (
      n - 1,
      omega (arith, l.invariant.1),
      l.invariant.2 ∙ member_taken with_member p (seen_in l.fields) n k l.reader s r (seen_in c.take_member.new.fields) (omega (arith, l.invariant.1)) named seen,
      omega (arith, l.invariant.3),
    )
