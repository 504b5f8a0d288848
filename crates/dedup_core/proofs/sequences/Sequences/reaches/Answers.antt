use Rattle.std.proofs.Common.{Option, ap, ◌∙◌, false}
use Rattle.std.specs.Prelude.{nat_le}
use Rattle.std.specs.Option.{option_map_or}
use Rattle.dedup_core.specs.declared.table.LastNumber.{LastNumber}
use Rattle.dedup_core.proofs.Found.{seen}
use Rattle.dedup_core.proofs.sequences.Sequences.reaches.Goals as goal

pub returns-in-Some : goal.returns-in-Some
returns-in-Some c =
    ap (λ (o : Option LastNumber). option_map_or (λ n. nat_le c.args.index n.index) o false) (c.in-Some.ensures ∙ seen c.self.inside.table.entries c.args.name.now c.args.self.now c.self.view_is)

pub returns-in-None : goal.returns-in-None
returns-in-None c =
    ap (λ (o : Option LastNumber). option_map_or (λ n. nat_le c.args.index n.index) o false) (c.in-None.ensures ∙ seen c.self.inside.table.entries c.args.name.now c.args.self.now c.self.view_is)
