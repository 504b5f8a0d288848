use Rattle.std.proofs.Common.{length}
use Rattle.value_texts.proofs.id.+split_varint.Given as goal

abbrev pub decreases-split_varint : goal.decreases-split_varint
decreases-split_varint l = length l.bytes.now
