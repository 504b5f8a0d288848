use Rattle.std.proofs.Common.{◌≡◌, take}
use Rattle.row_reading.specs.Reading.{GoOn}
use Rattle.row_reading.proofs.log_reader.LogReader.take.Given as goal

abbrev pub invariant-rows : goal.invariant-rows
invariant-rows l = record {
  head : l.self.head ≡ l.initial.self.head;
  front : l.self.front ≡ l.initial.self.front;
  rows : GoOn l.initial.self.front.gone l.initial.self.log (take l.row-index l.rows) l.self.log;
}
