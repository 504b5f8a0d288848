use Rattle.std.proofs.Common.{sym, ◌∙◌, ap}
use Rattle.std.proofs.lemmas.Map.Lookups.{exact_bytes}
use Rattle.delivery_machine.specs.Places.{KeptPlaces}
use Rattle.row_forms.proofs.side.KeptSubscriptionKeyed.order.Goals as goal

pub returns : goal.returns
returns c = λ equal.
    sym (ap (λ (kept : KeptPlaces). kept.name) c.self.view_is)
    ∙ exact_bytes _ _ (sym c.order.ensures ∙ equal)
    ∙ ap (λ (kept : KeptPlaces). kept.name) c.other.view_is
