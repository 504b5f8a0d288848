use Rattle.std.proofs.Common.{sym, ◌∙◌}
use Rattle.row_forms.specs.Places.{seen}
use Rattle.row_forms.proofs.PlacesIn.{found_place, no_place}
use Rattle.row_forms.proofs.places.place_in.Goals as goal

pub returns-in-Some-clause-index : goal.returns-in-Some-clause-index
returns-in-Some-clause-index c = found_place (seen c.args.kept).log c.args.at c.in-Some.index (sym c.in-Some.ensures)

pub returns-in-None-clause-index : goal.returns-in-None-clause-index
returns-in-None-clause-index c = c.count.ensures ∙ no_place (seen c.args.kept).log c.args.at (sym c.in-None.ensures)
