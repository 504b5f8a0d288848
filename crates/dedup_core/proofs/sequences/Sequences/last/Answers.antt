use Rattle.std.proofs.Common.{rules, ap, ◌∙◌, Option, w64}
use Rattle.std.proofs.lemmas.Int.{to_z-of_z}
use Rattle.std.specs.Option.{option_map_or}
use Rattle.dedup_core.specs.declared.table.LastNumber.{LastNumber}
use Rattle.dedup_core.proofs.Found.{seen}
use Rattle.dedup_core.proofs.sequences.Sequences.last.Goals as goal

pub returns-in-Some : goal.returns-in-Some
returns-in-Some c =
    to_z-of_z w64 c.in-Some.last.sequence (search rules)
    ∙ ap (λ (o : Option LastNumber). option_map_or (λ n. n.sequence) o c.args.base) (c.in-Some.ensures ∙ seen c.self.inside.table.entries c.args.name.now c.args.self.now c.self.view_is)

pub returns-in-None : goal.returns-in-None
returns-in-None c =
    to_z-of_z w64 c.args.base c.ranges.base
    ∙ ap (λ (o : Option LastNumber). option_map_or (λ n. n.sequence) o c.args.base) (c.in-None.ensures ∙ seen c.self.inside.table.entries c.args.name.now c.args.self.now c.self.view_is)
