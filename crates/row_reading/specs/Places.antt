-- A log as code holds it, behind the messages that are gone.
use Rattle.log_pieces.specs.Pieces.{joined}
use Rattle.row_forms.specs.Forms.{Span}
use Rattle.row_reading.specs.declared.places.Kept.{Kept}

abbrev pub seen : Kept → Span
seen kept = record { gone = kept.gone; log = joined kept.log.now }
