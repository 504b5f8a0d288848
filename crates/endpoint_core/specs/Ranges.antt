-- What a consumer's query says of the hashes that it takes.
use Rattle.std.specs.Prelude.{List, Option, Some, None, option_map, Result, Ok, if◌then◌else◌}
use Rattle.position_core.specs.declared.kind.Kind.{Kind}
use Rattle.position_core.specs.declared.kind.Kind.TheVariants.{KeyShared}
use Rattle.position_core.specs.declared.ranges.HashRange.{HashRange}
use Rattle.position_core.specs.Kind.{same_kind}
use Rattle.value_texts.specs.declared.ranges_text.LeadingZeros.TheVariants.{Allowed}
use Rattle.value_texts.specs.RangesText.{ranges_of}
use Rattle.endpoint_core.specs.declared.faults.Cause.{Cause}
use Rattle.endpoint_core.specs.declared.fields.Field.TheVariants.{KeySharedRanges}
use Rattle.endpoint_core.specs.Queries.{Parameter, said}

abbrev pub ranges_said : List Parameter → Result (Option (List HashRange)) Cause
ranges_said query = said KeySharedRanges None (λ text. option_map Some (ranges_of Allowed text)) query

-- in the other kinds a consumer takes whatever it gets, whatever is said
abbrev pub ranges_in : Kind → List Parameter → Result (Option (List HashRange)) Cause
ranges_in kind query = if same_kind kind KeyShared then ranges_said query else Ok None
