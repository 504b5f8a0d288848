-- How often a message was redelivered, by the list that has the counts.
use Rattle.std.proofs.Common.{◌≡◌, ℕ, cond, Bool, true, false, List, [], ◌∷◌, map, Option, Some, None, refl, ap, ◌∙◌, sym}
use Rattle.std.specs.List.{find}
use Rattle.std.specs.Option.{option_map, unwrap_or}
use Rattle.std.specs.FinMap as map_of
use Rattle.std.specs.FinMap.Entries as entries_of
use Rattle.position_core.specs.declared.position.Position.{Position}
use Rattle.position_core.specs.Position.{position_cmp, same_position}
use Rattle.delivery_machine.specs.Places.{KeptPlaces}
use Rattle.delivery_machine.specs.declared.counts.Counted.{Counted}
use Rattle.session_links.specs.Looking.{times_of}

abbrev pub is_of : Position → Counted → Bool
is_of position one = same_position position one.position

chosen : (b : Bool) (one : Counted) (rest : Option Counted) (found : Option ℕ) → option_map (λ (x : Counted). x.times) rest ≡ found → option_map (λ (x : Counted). x.times) (cond b (Some one) rest) ≡ cond b (Some one.times) found
chosen true one rest found is = refl
chosen false one rest found is = is

found : (position : Position) (counted : List Counted) → option_map (λ (x : Counted). x.times) (find (is_of position) counted) ≡ entries_of.find position_cmp position (map (λ (x : Counted). (x.position, x.times)) counted)
found position [] = refl
found position (one ∷ others) = chosen (is_of position one) one (find (is_of position) others) _ (found position others)

pub times : (kept : KeptPlaces) (position : Position) (counted : List Counted) → map (λ (x : Counted). (x.position, x.times)) counted ≡ map_of.entries kept.counts
    → times_of kept position ≡ unwrap_or (option_map (λ (x : Counted). x.times) (find (is_of position) counted)) 0
times kept position counted is =
    ap (λ o. unwrap_or o 0) (map_of.get-entries kept.counts position ∙ (ap (entries_of.find position_cmp position) (sym is) ∙ sym (found position counted)))

pub some_times : (kept : KeptPlaces) (position : Position) (counted : List Counted) (one : Counted) (n : ℕ) → map (λ (x : Counted). (x.position, x.times)) counted ≡ map_of.entries kept.counts
    → find (is_of position) counted ≡ Some one → n ≡ one.times → n ≡ times_of kept position
some_times kept position counted one n is at e = e ∙ sym (times kept position counted is ∙ ap (λ (o : Option Counted). unwrap_or (option_map (λ (x : Counted). x.times) o) 0) at)

pub no_times : (kept : KeptPlaces) (position : Position) (counted : List Counted) → map (λ (x : Counted). (x.position, x.times)) counted ≡ map_of.entries kept.counts → find (is_of position) counted ≡ None → 0 ≡ times_of kept position
no_times kept position counted is at = sym (times kept position counted is ∙ ap (λ (o : Option Counted). unwrap_or (option_map (λ (x : Counted). x.times) o) 0) at)
