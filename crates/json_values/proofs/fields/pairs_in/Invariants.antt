use Rattle.std.proofs.Common.{◌≡◌, List, ◌++◌, Some}
use Rattle.position_core.specs.Properties.{pairs_of}
use Rattle.serde_json.specs.View.{members_view}
use Rattle.serde_json.proofs.Views.{Entry}
use Rattle.json_values.specs.Fields.{pairs_in}
use Rattle.json_values.proofs.fields.pairs_in.Given as goal

abbrev pub invariant-loop-name : goal.invariant-loop-name
invariant-loop-name l =
    (done : List Entry) × (l.fields.entries ≡ done ++ l.name-iterator) × (pairs_in (members_view done) ≡ Some (pairs_of l.properties))
