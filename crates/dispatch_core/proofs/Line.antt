-- The members of a subscription as they are seen, by their places in line.
use Rattle.std.proofs.Common.{◌≡◌, ℕ, suc, ◌+◌, ◌<◌, [], ◌∷◌, Some, None, drop, length, inl, inr, sym, ap, ◌∙◌, arith}
use Rattle.std.specs.Prelude.{slice_get}
use Rattle.std.proofs.Math.Numerals.{add-one}
use Rattle.std.proofs.Math.Seq.{drop-cons}
use Rattle.std.proofs.lemmas.List.{length-map, drop_all}
use Rattle.std.proofs.lemmas.Option.{slice_get-map, slice_get_within, slice_get_cases, get_or_from_slice_get, none-some}
use Rattle.delivery_machine.specs.State.{State, Subscription}
use Rattle.delivery_machine.specs.Words.{members_of}
use Rattle.dispatch_core.specs.Offers.{seen_of, seen_at, seen_members}
use Rattle.dispatch_core.specs.declared.view.Seen.{Seen}

seen_there : (s : State) (sub : Subscription) (place : ℕ) → slice_get (seen_members s sub) place ≡ seen_at s sub place
seen_there s sub place = slice_get-map (seen_of s sub) (members_of s sub.name) place

pub place_within : (s : State) (sub : Subscription) (place : ℕ) (seen : Seen) → Some seen ≡ seen_at s sub place → place < length (members_of s sub.name)
place_within s sub place seen there =
    let within = slice_get_within (seen_members s sub) place seen (seen_there s sub place ∙ sym there) in
    omega (arith, length-map (members_of s sub.name) (seen_of s sub))

-- who is seen at the place stands in front of the others that are left
pub seen_next : (s : State) (sub : Subscription) (place : ℕ) (seen : Seen) → Some seen ≡ seen_at s sub place → drop place (seen_members s sub) ≡ seen ∷ drop (place + 1) (seen_members s sub)
seen_next s sub place seen there =
    let all = seen_members s sub in
    let at = seen_there s sub place ∙ sym there in
    drop-cons all place seen (slice_get_within all place seen at)
    ∙ ap (λ (x : Seen). x ∷ drop (suc place) all) (get_or_from_slice_get all place seen seen at)
    ∙ ap (λ (n : ℕ). seen ∷ drop n all) (sym (add-one place))

pub seen_all : (s : State) (sub : Subscription) (place : ℕ) → None ≡ seen_at s sub place → drop place (seen_members s sub) ≡ []
seen_all s sub place past =
    elim (slice_get_cases (seen_members s sub) place).1 [
      | inl at ↦ absurd (none-some at.0 (past ∙ sym (seen_there s sub place) ∙ at.2))
      | inr over ↦ drop_all place (seen_members s sub) over.0
    ]
