use Rattle.std.proofs.Common.{[], List, sym, subst, arith}
use Rattle.std.proofs.lemmas.List.Elements.{All-nil}
use Rattle.position_core.specs.declared.message.Entry.{Entry}
use Rattle.row_reading.specs.Reading.{IsSoFar}
use Rattle.row_reading.proofs.Entries.{log_none}
use Rattle.row_reading.proofs.log_reader.LogReader.of.Goals as goal

pub invariant_of-result : goal.invariant_of-result
invariant_of-result c =
    let head = c.in_ok-head.head in
    let says = c.in_ok-head.ensures.shown.2 in
    let front = c.in_ok-front.front in
    let none : IsSoFar head front [] = record { ordinal = says.last_ordinal; gone = c.in_ok-front.ensures.shown.at_most; sound = log_none head.ledger_size head.ledger says.last_ledger; sequences = All-nil _; short = omega arith } in
    subst (λ (l : List Entry). IsSoFar head front l) (sym c.new.ensures) none
