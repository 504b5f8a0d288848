use Rattle.std.proofs.Common.{◌≡◌, ◌∷◌, [], ◌++◌, Some, None, option_map, string_bytes, string_cmp, sym, ap, ◌∙◌, subst, append_assoc, refl}
use Rattle.std.specs.List.Sorted.{IsStrictlySortedBy}
use Rattle.std.specs.Map.{keys_of}
use Rattle.serde_json.proofs.Views.{Entry}
use Rattle.serde_json.specs.View.{view}
use Rattle.json_values.proofs.Pairs.{next_taken, none_taken, null_said, value_said}
use Rattle.json_values.proofs.fields.pairs_in.Goals as goal

pub loop-name-preserved-then-is_null : goal.loop-name-preserved-then-is_null
loop-name-preserved-then-is_null c =
    let done = c.loop-name.invariant.0 in
    let e : Entry = (c.in-Some.name.now, c.in-Some.value.now) in
    let left = c.next.new.self in
    let all : c.args.fields.now.entries ≡ done ++ e ∷ left = c.loop-name.invariant.1 ∙ ap (λ es. done ++ es) c.in-Some.ensures.steps in
    let sorted = subst (λ es. IsStrictlySortedBy string_cmp (keys_of es)) all c.iter-name-items.ensures.ordered in
    let said = null_said (view e.1) (sym c.if-is_null.true ∙ c.is_null.ensures) in
    (done ++ e ∷ [], all ∙ sym (append_assoc done (e ∷ []) left), next_taken None done e left _ _ sorted c.loop-name.invariant.2 said refl)

pub loop-name-preserved : goal.loop-name-preserved
loop-name-preserved c =
    let done = c.loop-name.invariant.0 in
    let e : Entry = (c.in-Some.name.now, c.in-Some.value.now) in
    let left = c.next.new.self in
    let all : c.args.fields.now.entries ≡ done ++ e ∷ left = c.loop-name.invariant.1 ∙ ap (λ es. done ++ es) c.in-Some.ensures.steps in
    let sorted = subst (λ es. IsStrictlySortedBy string_cmp (keys_of es)) all c.iter-name-items.ensures.ordered in
    let found = ap (option_map string_bytes) (sym c.in-Some-2.is) ∙ c.in_ok-text.ensures in
    let said = value_said (view e.1) (Some (string_bytes c.in-Some-2.text)) (sym c.if-is_null.false ∙ c.is_null.ensures) found in (
      done ++ e ∷ [],
      all ∙ sym (append_assoc done (e ∷ []) left),
      next_taken (Some (string_bytes c.in-Some-2.text)) done e left _ _ sorted c.loop-name.invariant.2 said c.in_ok-add_property-in-Some-2.ensures,
    )

pub returns-in-None-2 : goal.returns-in-None-2
returns-in-None-2 c =
    let done = c.loop-name.invariant.0 in
    let e : Entry = (c.in-Some.name.now, c.in-Some.value.now) in
    let left = c.next.new.self in
    let all : c.args.fields.now.entries ≡ done ++ e ∷ left = c.loop-name.invariant.1 ∙ ap (λ es. done ++ es) c.in-Some.ensures.steps in
    let found = ap (option_map string_bytes) (sym c.in-None-2.is) ∙ c.in_ok-text.ensures in
    let said = value_said (view e.1) None (sym c.if-is_null.false ∙ c.is_null.ensures) found in
    sym (rw all (none_taken done e left _ c.loop-name.invariant.2 said))
