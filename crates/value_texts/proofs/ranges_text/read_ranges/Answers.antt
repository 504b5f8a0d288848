use Rattle.std.proofs.Common.{◌≡◌, Some, sym}
use Rattle.value_texts.specs.RangesText.{ranges_given}
use Rattle.value_texts.proofs.RangesTold.{of_given, of_text}
use Rattle.value_texts.proofs.ranges_text.read_ranges.Goals as goal

pub returns-in-Some : goal.returns-in-Some
returns-in-Some c =
    let there : ranges_given c.args.zeros c.args.text.now ≡ Some c.in-Some.given.items = sym (rw c.in-Some.is at c.in_ok-given.ensures) in
    of_text c.args.zeros c.args.text.now c.in-Some.given.items c.new.result there (of_given c.in-Some.given.items c.new.result c.new.ensures.fits c.new.ensures.value c.new.ensures.within)
