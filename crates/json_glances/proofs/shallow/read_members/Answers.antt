use Rattle.std.proofs.Common.{◌≡◌, ◌-◌, Some, length, sym, ap, ◌∙◌, arith}
use Rattle.json.specs.Json.{read_key, members, value}
use Rattle.json.proofs.Grammar.{read_key-shorter}
use Rattle.serde_json.specs.Data.{put}
use Rattle.serde_json.specs.Read.{converted}
use Rattle.serde_json.specs.View.{members_view}
use Rattle.json_glances.specs.Glances.{flat, flat_put, seen_as, taking_all}
use Rattle.json_glances.proofs.Turns.{read_further, member_taken, member_refused, key_refused, members_over}
use Rattle.json_glances.proofs.shallow.read_members.Goals as goal

pub members-preserved : goal.members-preserved
members-preserved c =
    let p = value c.args.depth in
    let l = c.members in
    let n = l.invariant.0 in
    let old = members_view l.found.entries in
    let k = c.in-Ok-Some.name.now in
    let s = c.next_key.new.self in
    let named : read_key l.reader ≡ Some (Some k, s) = rw c.in-Ok-Some.field-0-is at c.in-Ok-Some.ensures.value in
    let done = c.in-Ok.ensures in
    let r = c.pass_value.new.reader in
    let less = read_key-shorter l.reader (Some k) s named in
    let lesser = done.shorter in
    let now = put k (seen_as c.in-Ok.seen) old in
    let seen = read_further flat (λ d. put k d old) (p s) (seen_as c.in-Ok.seen) r done.ok in (
      n - 1,
      omega (arith, l.invariant.1),
      l.invariant.2 ∙ member_taken flat_put p old n k l.reader s r now (omega (arith, l.invariant.1)) named seen
          ∙ ap (λ found. converted (λ ms. taking_all flat_put ms found) (members p (n - 1) r)) (sym c.in_ok-keep-in-Ok.ensures),
      omega (arith, l.invariant.3),
    )

pub returns-in-Err-pass_value-clause-value : goal.returns-in-Err-pass_value-clause-value
returns-in-Err-pass_value-clause-value c =
    let l = c.members in
    let s = c.next_key.new.self in
    let k = c.in-Ok-Some.name.now in
    let named : read_key l.reader ≡ Some (Some k, s) = rw c.in-Ok-Some.field-0-is at c.in-Ok-Some.ensures.value in
    l.invariant.2 ∙ member_refused flat_put (value c.args.depth) (members_view l.found.entries) l.invariant.0 k l.reader s named c.in-Err-pass_value.ensures.err

pub returns-in-Ok-None-clause-value : goal.returns-in-Ok-None-clause-value
returns-in-Ok-None-clause-value c =
    let l = c.members in
    l.invariant.2
    ∙ members_over flat_put (value c.args.depth) (members_view l.found.entries) l.invariant.0 l.reader c.next_key.new.self l.invariant.1 (rw c.in-Ok-None.field-0-is at c.in-Ok-None.ensures.value)

pub returns-in-Err-clause-value : goal.returns-in-Err-clause-value
returns-in-Err-clause-value c =
    let l = c.members in
    l.invariant.2 ∙ key_refused flat_put (value c.args.depth) (members_view l.found.entries) l.invariant.0 l.reader c.in-Err.ensures.value
