use Rattle.std.proofs.Common.{List, take}
use Rattle.delivery_machine.specs.State.{Author}
use Rattle.delivery_machine.specs.Trimming.{with_authors}
use Rattle.delivery_machine.specs.WellFormed.{AreAuthors}
use Rattle.log_pieces.specs.Pieces.{joined}
use Rattle.dedup_core.specs.Sequences.{AgreesWith}
use Rattle.topic_log.proofs.restoring.add_messages.Given as goal

abbrev pub invariant-loop-index : goal.invariant-loop-index
invariant-loop-index l =
    (authors : List Author) → AreAuthors l.gone authors → AgreesWith authors l.initial.sequences → AgreesWith (with_authors l.gone (take l.index (joined l.pieces)) authors) l.sequences
