use Rattle.std.proofs.Common.{◌≡◌, ◌++◌, take, flat_map}
use Rattle.std.specs.Prelude.{string_bytes}
use Rattle.replay_core.specs.Printing.{copy_text}
use Rattle.replay_core.proofs.printing.append_copies.Given as goal

abbrev pub invariant-loop-delivery : goal.invariant-loop-delivery
invariant-loop-delivery l = string_bytes l.out ≡ string_bytes l.fn.out ++ flat_map copy_text (take l.delivery-index l.copies)
