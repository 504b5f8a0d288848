use Rattle.std.proofs.Common.{ap, length, ◌∙◌, refl, arith}
use Rattle.std.specs.Option.{option_map}
use Rattle.std.proofs.lemmas.List.{length-map}
use Rattle.std.proofs.lemmas.Option.{slice_get-map, slice_get_read}
use Rattle.pending_core.specs.declared.node.Node.{Node}
use Rattle.pending_core.proofs.tree.DueTree.swap_remove.Goals as goal

pub returns-clause-slot : goal.returns-clause-slot
returns-clause-slot c =
    let nodes = c.self.inside.nodes.items in
    rw (← c.self.view_is)
    (slice_get-map (λ (node : Node). node.slot) nodes c.args.at
    ∙ ap (option_map (λ (node : Node). node.slot)) (slice_get_read nodes _ c.args.at c.index.result.now refl (omega (arith, c.requires, ap length c.self.view_is, length-map nodes (λ (node : Node). node.slot))) c.index.ensures))
