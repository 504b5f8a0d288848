-- The one that goes first, of two, of all, and of those gone through so far.
use Rattle.std.proofs.Common.{◌≡◌, ℕ, ◌+◌, ◌<◌, List, [], ◌∷◌, ◌++◌, map, take, Bool, true, false, cond, Option, Some, None, length, inl, inr, refl, sym, ap, ◌∙◌, subst, arith}
use Rattle.std.specs.Prelude.{slice_get}
use Rattle.std.specs.List.{filter}
use Rattle.std.specs.Option.{option_map}
use Rattle.std.proofs.lemmas.List.{append-nil, take_more, take_all, length-map}
use Rattle.std.proofs.lemmas.List.Elements.{All-push, All-weaker, Contains-push, Contains-append_left, filter-append}
use Rattle.std.proofs.lemmas.Bool.Decides.{nat_tests}
use Rattle.std.proofs.lemmas.Option.{slice_get-map, slice_get_cases, slice_get-get_or, same_Some, none-some}
use Rattle.delivery_machine.specs.State.{State, Subscription, Member}
use Rattle.delivery_machine.specs.Words.{members_of}
use Rattle.dispatch_core.specs.Log.{line_of}
use Rattle.dispatch_core.specs.Offers.{seen_of, seen_at, seen_members}
use Rattle.dispatch_core.specs.declared.view.Seen.{Seen}
use Rattle.dispatch_shared.specs.Turn.{pair_of, goes_first, goes_before, roomy, roomy_among, IsFirst}
use Rattle.dispatch_shared.specs.Seats.{seat_pair}
use Rattle.dispatch_shared.specs.declared.seat.Seat.{Seat}

-- ---- of two

-- nobody goes before himself
pub goes_first-same : (last : ℕ) (a : ℕ × ℕ) → goes_first last a a ≡ false
goes_first-same last a = grind (arith, nat_tests)

-- who does not go before one does not go before those that go before it
pub still_behind : (last : ℕ) (a b other : ℕ × ℕ) → goes_first last a b ≡ true → goes_first last other b ≡ false → goes_first last other a ≡ false
still_behind last a b other first behind = grind (arith, nat_tests)

-- ---- of those so far, and one more

alone : (last : ℕ) (x : Seen) → IsFirst last (x ∷ []) (Some x)
alone last x =
    (Contains-push [] x, All-push (λ other. goes_first last (pair_of other) (pair_of x) ≡ false) [] x (λ k d below. absurd (omega (arith, below))) (goes_first-same last (pair_of x)))

pub next_goes_first : (last : ℕ) (ms : List Seen) (best : Option Seen) (x : Seen) → goes_before last (pair_of x) best ≡ true → IsFirst last ms best → IsFirst last (ms ++ x ∷ []) (Some x)
next_goes_first last ms None x before is = subst (λ (all : List Seen). IsFirst last (all ++ x ∷ []) (Some x)) (sym is) (alone last x)
next_goes_first last ms (Some best) x before is = (
  Contains-push ms x,
  All-push (λ other. goes_first last (pair_of other) (pair_of x) ≡ false) ms x
      (All-weaker (λ other. goes_first last (pair_of other) (pair_of best) ≡ false) (λ other. goes_first last (pair_of other) (pair_of x) ≡ false) (λ other. still_behind last (pair_of x) (pair_of best) (pair_of other) before) ms is.1)
      (goes_first-same last (pair_of x)),
)

pub next_is_behind : (last : ℕ) (ms : List Seen) (best : Option Seen) (x : Seen) → goes_before last (pair_of x) best ≡ false → IsFirst last ms best → IsFirst last (ms ++ x ∷ []) best
next_is_behind last ms None x behind is = cc
next_is_behind last ms (Some best) x behind is =
    (Contains-append_left ms (x ∷ []) best is.0, All-push (λ other. goes_first last (pair_of other) (pair_of best) ≡ false) ms x is.1 behind)

-- ---- the members as they are seen

-- the member at the place, of whom the line has the number and the level
pub record StandsAt (s : State) (sub : Subscription) (place : ℕ) (pair : ℕ × ℕ) : Type 0 where
  pub seen : Seen
  pub shown : seen_at s sub place ≡ Some seen
  pub is : pair_of seen ≡ pair
  pub more : take (place + 1) (seen_members s sub) ≡ take place (seen_members s sub) ++ seen ∷ []

pub stands_at : (s : State) (sub : Subscription) (place : ℕ) (pair : ℕ × ℕ) → slice_get (line_of s sub) place ≡ Some pair → StandsAt s sub place pair
unfolding line_of
stands_at s sub place pair there =
    let ms = members_of s sub.name in
    elim (slice_get_cases ms place).1 [
      | inl at ↦
          let within : place < length (seen_members s sub) = omega (arith, at.1, length-map ms (seen_of s sub)) in
          let seen : Seen = seen_of s sub at.0 in
          let found : slice_get (seen_members s sub) place ≡ Some seen = slice_get-map (seen_of s sub) ms place ∙ ap (option_map (seen_of s sub)) at.2 in
          record {
            seen = seen;
            shown = ap (option_map (seen_of s sub)) at.2;
            is = same_Some _ _ (sym (slice_get-map (λ (m : Member). (m.number, m.level)) ms place ∙ ap (option_map (λ (m : Member). (m.number, m.level))) at.2) ∙ there);
            more =
                take_more (seen_members s sub) place seen within
                ∙ ap (λ (x : Seen). take place (seen_members s sub) ++ x ∷ []) (same_Some _ _ (sym (slice_get-get_or (seen_members s sub) place seen within) ∙ found));
          }
      | inr past ↦ absurd (none-some pair (sym (slice_get-map (λ (m : Member). (m.number, m.level)) ms place ∙ ap (option_map (λ (m : Member). (m.number, m.level))) past.1) ∙ there))
    ]

module _ (last : ℕ) (s : State) (sub : Subscription) (place : ℕ) (pair : ℕ × ℕ) (best : Option Seen) (there : slice_get (line_of s sub) place ≡ Some pair) (is : IsFirst last (roomy_among place s sub) best) where
  one_more : (room : Bool) → (stands_at s sub place pair there).seen.room ≡ room → roomy_among (place + 1) s sub ≡ cond room (roomy_among place s sub ++ (stands_at s sub place pair there).seen ∷ []) (roomy_among place s sub)
  one_more true room =
      ap (filter (λ seen. seen.room)) (stands_at s sub place pair there).more
      ∙ filter-append (λ (m : Seen). m.room) (take place (seen_members s sub)) ((stands_at s sub place pair there).seen ∷ [])
      ∙ ap (λ (b : Bool). roomy_among place s sub ++ cond b ((stands_at s sub place pair there).seen ∷ []) []) room
  one_more false room =
      ap (filter (λ seen. seen.room)) (stands_at s sub place pair there).more
      ∙ filter-append (λ (m : Seen). m.room) (take place (seen_members s sub)) ((stands_at s sub place pair there).seen ∷ [])
      ∙ ap (λ (b : Bool). roomy_among place s sub ++ cond b ((stands_at s sub place pair there).seen ∷ []) []) room
      ∙ append-nil (roomy_among place s sub)

  -- who does not go before the best so far
  pub behind_best : goes_before last pair best ≡ false → IsFirst last (roomy_among (place + 1) s sub) best
  behind_best behind = by (stands_at s sub place pair there).seen.room refl
    where
      by : (room : Bool) → (stands_at s sub place pair there).seen.room ≡ room → IsFirst last (roomy_among (place + 1) s sub) best
      by true room = subst (λ (all : List Seen). IsFirst last all best) (sym (one_more true room))
          (next_is_behind last (roomy_among place s sub) best (stands_at s sub place pair there).seen (ap (λ (p : ℕ × ℕ). goes_before last p best) (stands_at s sub place pair there).is ∙ behind) is)
      by false room = subst (λ (all : List Seen). IsFirst last all best) (sym (one_more false room)) is

  -- who goes before it and has room
  pub before_best : (seen : Seen) → goes_before last pair best ≡ true → Some seen ≡ seen_at s sub place → seen.room ≡ true → IsFirst last (roomy_among (place + 1) s sub) (Some seen)
  before_best seen before shown room =
      let at = stands_at s sub place pair there in
      let same : seen ≡ at.seen = same_Some _ _ (shown ∙ at.shown) in
      subst (λ (x : Seen). IsFirst last (roomy_among (place + 1) s sub) (Some x)) (sym same)
      (subst (λ (all : List Seen). IsFirst last all (Some at.seen)) (sym (one_more true (ap (λ (x : Seen). x.room) (sym same) ∙ room)))
      (next_goes_first last (roomy_among place s sub) best at.seen (ap (λ (p : ℕ × ℕ). goes_before last p best) at.is ∙ before) is))

  -- who has no room
  pub without_room : ((seen : Seen) → Some seen ≡ seen_at s sub place → seen.room ≡ false) → IsFirst last (roomy_among (place + 1) s sub) best
  without_room full =
      let at = stands_at s sub place pair there in
      subst (λ (all : List Seen). IsFirst last all best) (sym (one_more false (full at.seen (sym at.shown)))) is

abbrev pair : Member → ℕ × ℕ
pair m = (m.number, m.level)

as_many : (ms : List Member) → length {A = ℕ × ℕ} (map pair ms) ≡ length ms
as_many ms = length-map ms pair

pub many_seats : (seats : List Seat) (line : List (ℕ × ℕ)) → map seat_pair seats ≡ line → length line ≡ length seats
many_seats seats line same = sym (ap length same) ∙ length-map seats seat_pair

pub all_gone_through : (last : ℕ) (s : State) (sub : Subscription) (n : ℕ) (best : Option Seen) → n ≡ length (line_of s sub) → IsFirst last (roomy_among n s sub) best → IsFirst last (roomy s sub) best
unfolding line_of
all_gone_through last s sub n best all is =
    subst (λ (ms : List Seen). IsFirst last (filter (λ seen. seen.room) ms) best)
    (take_all n (seen_members s sub) (omega (arith, all, as_many (members_of s sub.name), length-map (members_of s sub.name) (seen_of s sub)))) is
