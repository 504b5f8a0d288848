use Rattle.std.proofs.Common.{arith, ap, ◌∙◌}
use Rattle.std.specs.Prelude.{◌==◌, not, ℕ}
use Rattle.std.specs.List.{filter}
use Rattle.std.proofs.lemmas.Bool.Decides.{nat_tests}
use Rattle.std.proofs.lemmas.Fn.{filter_same}
use Rattle.dispatch_keyed.proofs.seats.Line.take_out.Goals as goal

pub returns : goal.returns
returns c =
    filter_same _ _ _ (λ x b f' k. grind (arith, nat_tests)) _ _ c.retain.ensures.filtered
    ∙ ap (filter (λ (number : ℕ). not (number == c.args.consumer))) c.self.view_is
