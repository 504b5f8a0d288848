-- What follows the first `://` of a text.
use Rattle.std.proofs.Common.{◌≡◌, ℕ, zero, suc, ◌+◌, ◌<◌, ◌≤◌, List, [], ◌∷◌, ◌++◌, length, drop, Option, Some, None, option_map, MatchOption, true, false, codes, Bor, refl, ap, arith, eqb}
use Rattle.std.specs.List.{starts_with}
use Rattle.std.specs.Str.Pattern.{FindsText, LacksTextAt, SplitsAroundMatch}
use Rattle.std.proofs.lemmas.Bool.{false_from_ne_true}
use Rattle.std.proofs.lemmas.Bool.Decides.{Decides-eqb}
use Rattle.std.proofs.lemmas.Slice.Eq.{starts_is}
use Rattle.endpoint_core.specs.Origins.{authority_of}

abbrev mark : List ℕ
mark = codes "://"

lacks : (text : List ℕ) → LacksTextAt mark text 0 → starts_with eqb text mark ≡ false
lacks text not =
    let is = starts_is Decides-eqb text mark (starts_with eqb text mark) refl in
    false_from_ne_true _ (λ e. not (drop (length mark) text) (is.0 e))

has : (text rest : List ℕ) → text ≡ mark ++ rest → starts_with eqb text mark ≡ true
has text rest e =
    let is = starts_is Decides-eqb text mark (starts_with eqb text mark) refl in
    is.1 rest e

nowhere : (text : List ℕ) → ((i : ℕ) → i ≤ length text → LacksTextAt mark text i) → authority_of text ≡ None
nowhere [] not = refl
nowhere (byte ∷ rest) not =
    let first : starts_with eqb (byte ∷ rest) mark ≡ false = lacks (byte ∷ rest) (not 0 (omega arith)) in
    rw first (nowhere rest (λ i within. not (suc i) (omega arith)))

there : (text : List ℕ) (i : ℕ) → ((k : ℕ) → k < i → LacksTextAt mark text k) → drop i text ≡ mark ++ drop (i + 3) text → authority_of text ≡ Some (drop (i + 3) text)
there [] zero not is = cc is
there [] (suc i) not is = cc is
there (byte ∷ rest) zero not is =
    let first : starts_with eqb (byte ∷ rest) mark ≡ true = has (byte ∷ rest) (drop 3 (byte ∷ rest)) is in
    rw first refl
there (byte ∷ rest) (suc i) not is =
    let first : starts_with eqb (byte ∷ rest) mark ≡ false = lacks (byte ∷ rest) (not 0 (omega arith)) in
    let further : suc i + 3 ≡ suc (i + 3) = omega arith in
    let on : drop i rest ≡ mark ++ drop (i + 3) rest = rw further at is in
    rw (first, further) (there rest i (λ k below. not (suc k) (omega arith)) on)

pub authority_is : (text : List ℕ) (r : Option (Bor (List ℕ) × Bor (List ℕ))) → MatchOption r (FindsText mark text None) (λ x. SplitsAroundMatch (FindsText mark) text x.0.now x.1.now) → option_map (λ x. x.1.now) r ≡ authority_of text
authority_is text None none = rw (nowhere text none) refl
authority_is text (Some x) h =
    let found = there text h.0 h.2.0 (rw h.2.1.ends at h.2.1.split) in
    rw found (ap Some (rw h.2.1.ends at h.4))
