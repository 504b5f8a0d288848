use Rattle.std.proofs.Common.{◌≡◌, ◌-◌, ◌<◌, [], ◌∷◌, length, Some, None, sym, ap, ap₂, ◌∙◌, arith, rules}
use Rattle.std.specs.Prelude.{⊤}
use Rattle.json.specs.Token.{Token}
use Rattle.json.specs.Json.{after_end_array, read_key, items, members, value}
use Rattle.json.specs.Reads.{token_of}
use Rattle.json.proofs.Grammar.{value_is, value-begin_array, value-begin_object, read_key-shorter}
use Rattle.serde_json.specs.Read.{of_json, converted}
use Rattle.json_glances.specs.Glances.{flat, passing, read_as}
use Rattle.json_glances.proofs.Turns.{read_further, item_passed, item_refused, items_over, member_taken, member_refused, key_refused, members_over}
use Rattle.json_glances.proofs.Values.{list_passed, list_refused, object_passed, object_not_passed}
use Rattle.json_glances.proofs.glances.+pass_value.Goals as goal

pub pass_from-returns-then-depth-eq0-clause-err : goal.pass_from-returns-then-depth-eq0-clause-err
unfolding value
pass_from-returns-then-depth-eq0-clause-err t c =
    let none : c.args.depth ≡ 0 = omega arith in
    ap (converted of_json) (ap₂ value none (ap (λ k. token_of k ∷ c.args.reader.now) c.in-BeginArray.is))

pub pass_from-returns-then-depth-eq0-2-clause-err : goal.pass_from-returns-then-depth-eq0-2-clause-err
unfolding value
pass_from-returns-then-depth-eq0-2-clause-err t c =
    let none : c.args.depth ≡ 0 = omega arith in
    ap (converted of_json) (ap₂ value none (ap (λ k. token_of k ∷ c.args.reader.now) c.in-BeginObject.is))

pub pass_from-returns-in_err-pass_items-in-BeginArray-clause-err : goal.pass_from-returns-in_err-pass_items-in-BeginArray-clause-err
pass_from-returns-in_err-pass_items-in-BeginArray-clause-err t c =
    let opened = ap (λ k. value c.args.depth (token_of k ∷ c.args.reader.now)) c.in-BeginArray.is ∙ value-begin_array c.args.depth c.args.reader.now (omega arith) in
    let none = ap (converted of_json) opened ∙ list_refused (items (value (c.args.depth - 1)) (length c.args.reader.now) c.args.reader.now) c.in_err-pass_items-in-BeginArray.ensures.value in
    grind (arith, none)

pub pass_from-returns-in_err-pass_members-in-BeginObject-clause-err : goal.pass_from-returns-in_err-pass_members-in-BeginObject-clause-err
pass_from-returns-in_err-pass_members-in-BeginObject-clause-err t c =
    let opened = ap (λ k. value c.args.depth (token_of k ∷ c.args.reader.now)) c.in-BeginObject.is ∙ value-begin_object c.args.depth c.args.reader.now (omega arith) in
    let none = ap (converted of_json) opened ∙ object_not_passed (members (value (c.args.depth - 1)) (length c.args.reader.now) c.args.reader.now) c.in_err-pass_members-in-BeginObject.ensures.value in
    grind (arith, none)

pub pass_from-returns-in_ok-pass_items-in-BeginArray-clause-ok : goal.pass_from-returns-in_ok-pass_items-in-BeginArray-clause-ok
pass_from-returns-in_ok-pass_items-in-BeginArray-clause-ok t c =
    let opened = ap (λ k. value c.args.depth (token_of k ∷ c.args.reader.now)) c.in-BeginArray.is ∙ value-begin_array c.args.depth c.args.reader.now (omega arith) in
    ap (converted (read_as flat)) opened ∙ list_passed (items (value (c.args.depth - 1)) (length c.args.reader.now) c.args.reader.now) _ c.in_ok-pass_items-in-BeginArray.ensures.value

pub pass_from-returns-in_ok-pass_members-in-BeginObject-clause-ok : goal.pass_from-returns-in_ok-pass_members-in-BeginObject-clause-ok
pass_from-returns-in_ok-pass_members-in-BeginObject-clause-ok t c =
    let opened = ap (λ k. value c.args.depth (token_of k ∷ c.args.reader.now)) c.in-BeginObject.is ∙ value-begin_object c.args.depth c.args.reader.now (omega arith) in
    ap (converted (read_as flat)) opened ∙ object_passed (members (value (c.args.depth - 1)) (length c.args.reader.now) c.args.reader.now) _ c.in_ok-pass_members-in-BeginObject.ensures.value

pub pass_from-returns-in-String-clause-ok : goal.pass_from-returns-in-String-clause-ok
pass_from-returns-in-String-clause-ok t c =
    ap (converted (read_as flat)) (ap (λ k. value c.args.depth (token_of k ∷ c.args.reader.now)) c.in-String.is ∙ value_is c.args.depth (Token.string c.in-String.text.now ∷ c.args.reader.now))

pub pass_from-returns-in-Bool-clause-ok : goal.pass_from-returns-in-Bool-clause-ok
pass_from-returns-in-Bool-clause-ok t c =
    ap (converted (read_as flat)) (ap (λ k. value c.args.depth (token_of k ∷ c.args.reader.now)) c.in-Bool.is ∙ value_is c.args.depth (Token.boolean c.in-Bool.truth ∷ c.args.reader.now))

pub pass_from-returns-in-Null-clause-ok : goal.pass_from-returns-in-Null-clause-ok
pass_from-returns-in-Null-clause-ok t c =
    ap (converted (read_as flat)) (ap (λ k. value c.args.depth (token_of k ∷ c.args.reader.now)) c.in-Null.is ∙ value_is c.args.depth (Token.null ∷ c.args.reader.now))

pub pass_from-returns-in-Some-clause-ok : goal.pass_from-returns-in-Some-clause-ok
pass_from-returns-in-Some-clause-ok t c =
    ap (converted (read_as flat)) (ap (λ k. value c.args.depth (token_of k ∷ c.args.reader.now)) c.in-Number.is ∙ value_is c.args.depth (Token.number c.in-Number.text.now ∷ c.args.reader.now))
    ∙ rw (← c.in-Some.ensures)

pub pass_from-returns-in-None-clause-err : goal.pass_from-returns-in-None-clause-err
pass_from-returns-in-None-clause-err t c =
    ap (converted of_json) (ap (λ k. value c.args.depth (token_of k ∷ c.args.reader.now)) c.in-Number.is ∙ value_is c.args.depth (Token.number c.in-Number.text.now ∷ c.args.reader.now))
    ∙ rw (← c.in-None.ensures)

pub pass_from-returns-in-EndObject-clause-err : goal.pass_from-returns-in-EndObject-clause-err
pass_from-returns-in-EndObject-clause-err t c =
    let ts = token_of c.args.token ∷ c.args.reader.now in
    let none : value c.args.depth ts ≡ None = rw (value_is c.args.depth ts) (grind arith) in
    ap (converted of_json) none

pub pass_value-returns-in-None-clause-err : goal.pass_value-returns-in-None-clause-err
pass_value-returns-in-None-clause-err t c = ap (converted of_json) (ap (value c.args.depth) c.in-None.ensures.value.0 ∙ value_is c.args.depth [])

pub pass_items-returns-in_err-pass_value-clause-value : goal.pass_items-returns-in_err-pass_value-clause-value
pass_items-returns-in_err-pass_value-clause-value t c =
    let l = c.items in
    let going : (after_end_array l.reader ≡ None) × (c.take_end_array.new.self ≡ l.reader) = grind arith in
    let none = l.invariant.2 ∙ item_refused (value c.args.depth) l.invariant.0 l.reader going.0 (rw going.1 at c.in_err-pass_value.ensures.err) in
    grind (arith, none)

pub pass_items-items-preserved : goal.pass_items-items-preserved
pass_items-items-preserved t c =
    let l = c.items in
    let n = l.invariant.0 in
    let going : (after_end_array l.reader ≡ None) × (c.take_end_array.new.self ≡ l.reader) = grind arith in
    let done = c.in_ok-pass_value.ensures in
    let r = c.pass_value.new.reader in
    let less : length r < length l.reader = rw (← going.1) done.shorter in
    let read = rw going.1 at done.ok in
    let turn = item_passed (value c.args.depth) flat n l.reader r _ (omega (arith, l.invariant.1)) going.0 read in (
      n - 1,
      omega (arith, l.invariant.1),
      l.invariant.2 ∙ turn,
      omega (arith, l.invariant.3),
    )

pub pass_items-returns-clause-value : goal.pass_items-returns-clause-value
pass_items-returns-clause-value t c =
    let l = c.items in
    l.invariant.2 ∙ items_over (value c.args.depth) l.invariant.0 l.reader c.take_end_array.new.self l.invariant.1 (grind arith)

pub pass_members-returns-in_err-next_key-clause-value : goal.pass_members-returns-in_err-next_key-clause-value
pass_members-returns-in_err-next_key-clause-value t c =
    let l = c.members in
    let none = l.invariant.2 ∙ key_refused passing (value c.args.depth) tt l.invariant.0 l.reader c.in_err-next_key.ensures.value in
    grind (arith, none)

pub pass_members-returns-in_err-pass_value-clause-value : goal.pass_members-returns-in_err-pass_value-clause-value
pass_members-returns-in_err-pass_value-clause-value t c =
    let l = c.members in
    let s = c.next_key.new.self in
    let named : read_key l.reader ≡ Some (Some c.in-Some.field-0.now, s) = grind arith in
    let none = l.invariant.2 ∙ member_refused passing (value c.args.depth) tt l.invariant.0 c.in-Some.field-0.now l.reader s named c.in_err-pass_value.ensures.err in
    grind (arith, none)

pub pass_members-members-preserved : goal.pass_members-members-preserved
pass_members-members-preserved t c =
    let l = c.members in
    let n = l.invariant.0 in
    let k = c.in-Some.field-0.now in
    let s = c.next_key.new.self in
    let named : read_key l.reader ≡ Some (Some k, s) = grind arith in
    let done = c.in_ok-pass_value.ensures in
    let r = c.pass_value.new.reader in
    let less = read_key-shorter l.reader (Some k) s named in
    let lesser = done.shorter in
    let seen : converted (read_as {A = ⊤} (λ d. tt)) (value c.args.depth s) ≡ Some (tt, r) = read_further {B = ⊤} flat (λ d. tt) (value c.args.depth s) _ r done.ok in (
      n - 1,
      omega (arith, l.invariant.1),
      l.invariant.2 ∙ member_taken passing (value c.args.depth) tt n k l.reader s r tt (omega (arith, l.invariant.1)) named seen,
      omega (arith, l.invariant.3),
    )

pub pass_members-returns-clause-value : goal.pass_members-returns-clause-value
pass_members-returns-clause-value t c =
    let l = c.members in
    l.invariant.2 ∙ members_over passing (value c.args.depth) tt l.invariant.0 l.reader c.next_key.new.self l.invariant.1 (grind arith)
