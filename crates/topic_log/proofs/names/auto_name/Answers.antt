use Rattle.std.proofs.Common.{◌≡◌, ◌≤◌, ◌<◌, ◌^◌, ◌∙◌, ap, length, lit<, arith, ℕ}
use Rattle.std.specs.Arc.{arc_str_bytes}
use Rattle.std.proofs.lemmas.Fmt.{length-decimal-le}
use Rattle.delivery_machine.specs.Producing.{auto_name}
use Rattle.topic_log.proofs.names.auto_name.Goals as goal

auto_name_fits : (n : ℕ) → n < 2 ^ 64 → (1 ≤ length (auto_name n)) × (length (auto_name n) ≤ 1280)
auto_name_fits n small =
    let digits = length-decimal-le 20 n (lit< tt) (omega arith) small in
    (omega arith, omega (arith, digits))

pub unreachable-requires : goal.unreachable-requires
unreachable-requires c =
    let text : arc_str_bytes c.in_ok-text.text ≡ auto_name c.args.number = c.in_ok-text.ensures.ok ∙ c.in_ok-format.ensures.ok in
    let fits = auto_name_fits c.args.number (omega arith) in
    let bytes = ap length text in
    let there = c.in-None.ensures.fits.1 (omega (arith, fits.0, bytes), omega (arith, fits.1, bytes)) in
    cc there
