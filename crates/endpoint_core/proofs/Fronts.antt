-- What follows the front of a text.
use Rattle.std.proofs.Common.{◌≡◌, ℕ, List, length, drop, Option, Some, None, Bor, MatchOption, true, false, refl, ◌∙◌, ap, eqb}
use Rattle.std.specs.List.{starts_with}
use Rattle.std.specs.Option.{option_copied}
use Rattle.std.specs.Str.Pattern.{FindsTextPrefix, StripsPrefix}
use Rattle.std.proofs.lemmas.Bool.{false_from_ne_true}
use Rattle.std.proofs.lemmas.Bool.Decides.{Decides-eqb}
use Rattle.std.proofs.lemmas.Slice.Eq.{starts_is}
use Rattle.endpoint_core.specs.Paths.{after}

pub after_is : (front text : List ℕ) (r : Option (Bor (List ℕ))) → MatchOption r (FindsTextPrefix front text None) (λ x. StripsPrefix (FindsTextPrefix front) text x.now) → option_copied r ≡ after front text
after_is front text None h =
    let is = starts_is Decides-eqb text front (starts_with eqb text front) refl in
    let not : starts_with eqb text front ≡ false = false_from_ne_true _ (λ e. h (drop (length front) text) (is.0 e)) in
    rw not refl
after_is front text (Some x) h =
    let is = starts_is Decides-eqb text front (starts_with eqb text front) refl in
    let starts : starts_with eqb text front ≡ true = is.1 (drop h.0 text) h.1.1 in
    rw starts (ap Some (h.2 ∙ ap (λ (n : ℕ). drop n text) h.1.0))
