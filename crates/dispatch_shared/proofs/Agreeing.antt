-- The line of seats after somebody joined or left.
use Rattle.std.proofs.Common.{◌≡◌, ℕ, Bool, true, false, not, cond, List, [], ◌∷◌, ◌++◌, map, length, Some, None, Result, Ok, Err, refl, sym, ap, ◌∙◌}
use Rattle.std.specs.Prelude.{◌==◌, slice_get, OnOk}
use Rattle.std.specs.List.{filter}
use Rattle.std.proofs.lemmas.List.{map-append, length-map}
use Rattle.std.proofs.lemmas.Option.{same_Some, none-some}
use Rattle.delivery_machine.specs.State.{State, Subscription, Member}
use Rattle.delivery_machine.specs.Words.{members_of}
use Rattle.dispatch_core.specs.Log.{line_of}
use Rattle.dispatch_core.specs.Offers.{seen_at}
use Rattle.dispatch_core.specs.Changes.{Joined, Left}
use Rattle.dispatch_core.specs.declared.view.Seen.{Seen}
use Rattle.dispatch_core.specs.Waiting.{Waiting}
use Rattle.dispatch_core.proofs.Telling.{tells-line}
use Rattle.dispatch_shared.specs.Turn.{Agrees, pair_of}
use Rattle.dispatch_shared.specs.Seats.{seat_pair}
use Rattle.dispatch_shared.specs.declared.seat.Seat.{Seat}
use Rattle.dispatch_shared.proofs.Goes.{stands_at}

pub nobody_in_line : (s : State) (sub : Subscription) (seats : List Seat) → seats ≡ [] → members_of s sub.name ≡ [] → map seat_pair seats ≡ line_of s sub
unfolding line_of
nobody_in_line s sub seats none empty =
    ap (map seat_pair) none ∙ sym (ap (map (λ (m : Member). (m.number, m.level))) empty)

-- ---- who left

map-filter : (consumer : ℕ) (seats : List Seat) → map seat_pair (filter (λ (seat : Seat). not (seat.consumer == consumer)) seats) ≡ filter (λ m. not (m.0 == consumer)) (map seat_pair seats)
map-filter consumer [] = refl
map-filter consumer (x ∷ seats) = by (not (x.consumer == consumer)) (map-filter consumer seats)
  where
    kept : List Seat
    kept = filter (λ (seat : Seat). not (seat.consumer == consumer)) seats

    by : (b : Bool) → map seat_pair kept ≡ filter (λ m. not (m.0 == consumer)) (map seat_pair seats) → map seat_pair (cond b (x ∷ kept) kept) ≡ cond b (seat_pair x ∷ filter (λ m. not (m.0 == consumer)) (map seat_pair seats)) (filter (λ m. not (m.0 == consumer)) (map seat_pair seats))
    by true same = ap (λ (ps : List (ℕ × ℕ)). seat_pair x ∷ ps) same
    by false same = same

pub leaves : (w : Waiting) (last : ℕ) (seats kept : List Seat) (consumer : ℕ) (s : State) (sub : Subscription) (t : State) (new : Subscription) → kept ≡ filter (λ (seat : Seat). not (seat.consumer == consumer)) seats → Left consumer s sub t new → Agrees (record { waiting = w; line = map seat_pair seats; last = last }) s sub → Agrees (record { waiting = w; line = map seat_pair kept; last = last }) t new
leaves w last seats kept consumer s sub t new is change agreed = record {
  kind = change.stays.log.kind ∙ agreed.kind;
  waiting = tells-line w s sub t new agreed.waiting change.stays;
  line =
      ap (map seat_pair) is ∙ map-filter consumer seats
      ∙ ap (filter (λ m. not (m.0 == consumer))) agreed.line
      ∙ sym change.line;
}

-- ---- who joined

-- the last in line
at_end : (line : List (ℕ × ℕ)) (x : ℕ × ℕ) → slice_get (line ++ x ∷ []) (length line) ≡ Some x
at_end [] x = refl
at_end (y ∷ line) x = at_end line x

module _ (w : Waiting) (last : ℕ) (seats : List Seat) (consumer : ℕ) (s : State) (sub : Subscription) (t : State) (new : Subscription) (change : Joined None consumer s sub t new) (agreed : Agrees (record { waiting = w; line = map seat_pair seats; last = last }) s sub) where
  last_in_line : slice_get (line_of t new) (length seats) ≡ Some (consumer, change.level)
  last_in_line =
      ap (λ (l : List (ℕ × ℕ)). slice_get l (length seats)) change.line
      ∙ ap (slice_get (line_of s sub ++ (consumer, change.level) ∷ [])) (sym (length-map seats seat_pair) ∙ ap length agreed.line)
      ∙ at_end (line_of s sub) (consumer, change.level)

  pub joins_unseen : (n : ℕ) → n ≡ length seats → None ≡ seen_at t new n → ⊥
  joins_unseen n last_place none =
      none-some _ (none ∙ ap (seen_at t new) last_place ∙ (stands_at t new (length seats) (consumer, change.level) last_in_line).shown)

  pub joins : (n : ℕ) (seat : Seat) (seen : Seen) (more : List Seat) → n ≡ length seats → seat_pair seat ≡ pair_of seen → Some seen ≡ seen_at t new n → more ≡ seats ++ seat ∷ [] → Agrees (record { waiting = w; line = map seat_pair more; last = last }) t new
  joins n seat seen more last_place is shown pushed =
      let stands = stands_at t new (length seats) (consumer, change.level) last_in_line in
      let same : seen ≡ stands.seen = same_Some _ _ (shown ∙ ap (seen_at t new) last_place ∙ stands.shown) in
      let here : seat_pair seat ≡ (consumer, change.level) = is ∙ ap pair_of same ∙ stands.is in
      record {
        kind = change.stays.log.kind ∙ agreed.kind;
        waiting = tells-line w s sub t new agreed.waiting change.stays;
        line =
            ap (map seat_pair) pushed ∙ map-append seat_pair seats (seat ∷ [])
            ∙ ap (λ (p : ℕ × ℕ). map seat_pair seats ++ p ∷ []) here
            ∙ ap (λ (l : List (ℕ × ℕ)). l ++ (consumer, change.level) ∷ []) agreed.line
            ∙ sym change.line;
      }

pub then_ok : {T E P Q : Type 0} (r : Result T E) → (P → Q) → OnOk r P → OnOk r Q
then_ok (Ok x) then held = then held
then_ok (Err e) then held = tt
