use Rattle.form_urlencoded.specs.Parse.{raw_pairs_left}
use Rattle.endpoint_core.proofs.Reading.{IsRead}
use Rattle.endpoint_core.proofs.queries.Query.read.Given as goal

abbrev pub invariant-loop-name : goal.invariant-loop-name
invariant-loop-name l = IsRead l.text l.query (raw_pairs_left l.name-iterator)
