use Rattle.std.proofs.Common.{◌≡◌, ℕ, List, [], ◌∷◌, ◌++◌, rules, ap, ap₂, ◌∙◌, w64, to_z, of_z}
use Rattle.std.specs.Prelude.{ℤ}
use Rattle.std.specs.List.{find}
use Rattle.std.specs.Option.{option_map_or}
use Rattle.std.specs.Int.{int_max}
use Rattle.std.proofs.lemmas.Int.{to_z-of_z}
use Rattle.position_core.specs.declared.message.Entry.{Entry}
use Rattle.delivery_machine.specs.State.{Author}
use Rattle.delivery_machine.specs.Words.{removed}
use Rattle.delivery_machine.specs.Trimming.{is_author}
use Rattle.dedup_core.proofs.Remembering.{as_last}
use Rattle.dedup_core.proofs.authors.remember.Goals as goal

pub returns : goal.returns
returns c =
    let e = c.args.message.now in
    let items = c.args.authors.now.items in
    let named : c.in_ok-name.name ≡ e.producer = c.in_ok-name.ensures.cases ∙ ap (λ (x : Entry). x.producer) c.entry-entry.ensures in
    let numbered : to_z w64 (of_z w64 c.entry-entry.result.now.sequence) ≡ e.sequence = to_z-of_z w64 c.entry-entry.result.now.sequence (search rules) ∙ ap (λ (x : Entry). x.sequence) c.entry-entry.ensures in
    c.in_ok-push.ensures.items
    ∙ ap₂ (λ (name : List ℕ) (n : ℤ). c.take_out.new.authors.items ++ record { name = name; sequence = n; index = c.args.index } ∷ []) named (to_z-of_z w64 c.raised-sequence.result (search rules))
    ∙ as_last c.args.index e items c.take_out.new.authors.items c.take_out.result c.raised-sequence.result c.requires
    (c.take_out.ensures.found ∙ ap (λ (name : List ℕ). find (is_author name) items) named)
    (c.take_out.ensures.left ∙ ap (λ (name : List ℕ). removed (is_author name) items) named)
    (c.raised-sequence.ensures ∙ ap (λ (n : ℤ). option_map_or (λ (a : Author). int_max a.sequence n) c.take_out.result n) numbered)
