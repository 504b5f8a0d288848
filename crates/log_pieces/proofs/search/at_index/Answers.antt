use Rattle.std.proofs.Common.{◌≡◌, sym, ap, ◌∙◌}
use Rattle.std.specs.declared.cmp.Ordering.TheVariants.{Equal}
use Rattle.position_core.specs.declared.position.Position.{Position}
use Rattle.position_core.specs.Position.{position_cmp}
use Rattle.log_pieces.specs.Pieces.{joined}
use Rattle.log_pieces.proofs.Searching.{found}
use Rattle.log_pieces.proofs.search.at_index.Goals as goal

pub returns-in-Equal : goal.returns-in-Equal
returns-in-Equal c =
    let m = c.in-Some.message.now in
    let equal : position_cmp m.position c.args.at ≡ Equal = ap (λ (p : Position). position_cmp p c.args.at) (sym c.position.ensures) ∙ sym c.in-Equal.ensures in
    found (joined c.args.pieces.now) c.args.at c.args.index m c.requires (sym c.in-Some.ensures) equal
