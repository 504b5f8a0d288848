use Rattle.std.proofs.Common.{ap, sym, ◌∙◌, subst}
use Rattle.std.proofs.lemmas.List.{get_or_default}
use Rattle.number_sets.specs.Nodes.{lowered, IsNotBelow}
use Rattle.number_sets.proofs.Lowered.{leaf_there, leaf_put, leaf_aside, room_put}
use Rattle.number_sets.proofs.chunks.lower_in.Goals as goal

pub lower-requires : goal.lower-requires
lower-requires c k small =
    subst (IsNotBelow c.args.by) (leaf_there c.args.chunks.now c.args.chunk c.index-chunks-chunk.result c.requires.within k) (c.requires.low k small)

pub returns-clause-here : goal.returns-clause-here
returns-clause-here c k =
    leaf_put c.args.chunks.now c.args.chunk c.lower.new.self c.requires.within k
    ∙ c.lower.ensures.leaves k
    ∙ ap (lowered c.args.by) (sym (leaf_there c.args.chunks.now c.args.chunk c.index-chunks-chunk.result c.requires.within k))

pub returns-clause-others : goal.returns-clause-others
returns-clause-others c d k other = leaf_aside c.args.chunks.now c.args.chunk c.lower.new.self c.requires.within d k other

pub returns-clause-room : goal.returns-clause-room
returns-clause-room c d =
    room_put c.args.chunks.now c.args.chunk c.lower.new.self c.requires.within _
    (get_or_default c.args.chunks.now c.args.chunk c.index-chunks-chunk.result c.lower.new.self c.requires.within)
    c.lower.ensures.room d
