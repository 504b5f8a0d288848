-- Places as code holds them: an index behind the messages that are gone.
use Rattle.std.specs.Prelude.{ℕ, ◌+◌}
use Rattle.log_pieces.specs.Pieces.{joined}
use Rattle.row_forms.specs.declared.places.Kept.{Kept}
use Rattle.row_forms.specs.declared.places.Place.{Place}
use Rattle.row_forms.specs.Forms.{Span}

-- the place among all messages that the topic ever had
abbrev pub number_of : Place → ℕ
number_of place = place.gone + place.index

abbrev pub seen : Kept → Span
seen kept = record { gone = kept.gone; log = joined kept.log.now }
