use Rattle.std.proofs.Common.{◌==◌, length}
use Rattle.std.specs.List.{slice_split}
use Rattle.value_texts.proofs.HashTexts.{AreOf}
use Rattle.value_texts.proofs.ranges_text.ranges_given.Given as goal

abbrev pub invariant-loop-part : goal.invariant-loop-part
invariant-loop-part l = AreOf l.zeros (slice_split (λ byte. byte == 44) l.text) (length l.yielded) l.given.items
