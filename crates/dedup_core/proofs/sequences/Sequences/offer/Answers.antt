use Rattle.std.proofs.Common.{rules, ap, ap₂, ◌≡◌, ◌∙◌, w64, to_z, of_z, List, ℕ}
use Rattle.std.specs.Prelude.{ℤ}
use Rattle.std.proofs.lemmas.Int.{to_z-of_z}
use Rattle.std.specs.Option.{option_map_or}
use Rattle.std.specs.Int.{int_max}
use Rattle.std.specs.FinMap as map_of
use Rattle.dedup_core.specs.Names.{numbers_in}
use Rattle.dedup_core.specs.Sequences.{Numbers}
use Rattle.dedup_core.specs.declared.table.LastNumber.{LastNumber}
use Rattle.dedup_core.proofs.Found.{numbers_in-updated}
use Rattle.dedup_core.proofs.Agreed.{agrees_with, raised}
use Rattle.dedup_core.proofs.sequences.Sequences.offer.Goals as goal

pub returns-clause-ok : goal.returns-clause-ok
returns-clause-ok c =
    let same : to_z w64 (of_z w64 c.args.sequence) ≡ c.args.sequence = to_z-of_z w64 c.args.sequence c.ranges.sequence in
    let last : to_z w64 (of_z w64 c.last.result) ≡ c.last.result = to_z-of_z w64 c.last.result (search rules) in
    let most : to_z w64 (of_z w64 c.max-sequence.result) ≡ c.max-sequence.result = to_z-of_z w64 c.max-sequence.result (search rules) in
    let es = c.self.inside.table.entries in
    let greatest : to_z w64 (of_z w64 c.max-sequence.result) ≡ option_map_or (λ x. int_max x.sequence c.args.sequence) (map_of.get c.args.self.now c.args.name.now) c.args.sequence =
    most
    ∙ c.max-sequence.ensures.value
    ∙ ap₂ int_max last same
    ∙ raised (map_of.get c.args.self.now c.args.name.now) c.args.sequence c.last.result (c.last.ensures ∙ ap (option_map_or (λ x. x.sequence) (map_of.get c.args.self.now c.args.name.now)) same) in
    let value : LastNumber = record { sequence = to_z w64 (of_z w64 c.max-sequence.result); index = c.args.index } in
    numbers_in-updated es c.insert.new.self.entries c.in_ok-clone.field-0 value (λ other. c.in_ok-insert.ensures.updates.0 (record { name = other }))
    ∙ ap₂ (λ (m : Numbers) (name : List ℕ). map_of.insert m name value) c.self.view_is c.in_ok-clone.ensures.cases
    ∙ ap (λ (n : ℤ). map_of.insert c.args.self.now c.args.name.now (record { sequence = n; index = c.args.index })) greatest

pub returns-clause-agrees : goal.returns-clause-agrees
returns-clause-agrees c =
    agrees_with c.args.self.now (numbers_in c.insert.new.self.entries) c.args.name.now c.args.sequence c.args.index (returns-clause-ok c)
