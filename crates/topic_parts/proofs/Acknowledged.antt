-- A message is acknowledged: what the parts stand for, and what ties them.
use Rattle.std.proofs.Common.{◌≡◌, ℕ, List, [], ◌∷◌, map, Some, None, Option, Bool, true, false, cond, get_or, refl, ap, ◌∙◌, sym, subst, true≢false}
use Rattle.std.specs.List.{filter, find, position}
use Rattle.std.specs.Option.{option_map}
use Rattle.std.specs.Str.{bytes_eq}
use Rattle.std.specs.List.Sorted.{IsStrictlyIncreasing}
use Rattle.std.specs.FinMap as map_of
use Rattle.std.proofs.lemmas.List.{get_or_default}
use Rattle.std.proofs.lemmas.List.Elements.{All-contains}
use Rattle.std.proofs.lemmas.List.Folds.{Any-from_list_any}
use Rattle.std.proofs.lemmas.List.Quantifiers.{position-Some}
use Rattle.position_core.specs.declared.position.Position.{Position}
use Rattle.position_core.specs.declared.message.Entry.{Entry}
use Rattle.position_core.specs.declared.held.Held.{Held}
use Rattle.delivery_machine.specs.State.{State, Member, Subscription}
use Rattle.delivery_machine.specs.Words.{changed, is_at, is_member, is_named, members_of}
use Rattle.delivery_machine.specs.Acknowledging.{acknowledging, forgetting}
use Rattle.delivery_machine.specs.WellFormed.{IsWellFormed, IsWellFormedIn}
use Rattle.delivery_machine.proofs.Firsts.{filter_contained, found_contained}
use Rattle.delivery_machine.proofs.Places.{changed-position, fails_everywhere}
use Rattle.log_pieces.specs.Pieces.{index_of}
use Rattle.topic_members.specs.Members.{NumbersRise, leaving_out}
use Rattle.topic_subscriptions.specs.Placed.{IsPlacedIn, IsRising, Placed, acknowledged_at, line_at, sub_in}
pub use Rattle.topic_subscriptions.proofs.Changes.{acknowledged_in, acknowledged_placed, placed_beside, stands}
use Rattle.topic_parts.specs.Leaving.{left_out_of}
use Rattle.topic_parts.proofs.Forgotten.{forgotten_at, forgotten_nowhere}

-- ---- the subscription, by the index of the position

pub acknowledged_of : (log : List Entry) (i : ℕ) (q : Position) (p : Placed) → IsRising log → index_of q log ≡ Some i → sub_in log (acknowledged_at i q p) ≡ acknowledging (q ∷ []) (sub_in log p)
acknowledged_of log i q p rising is =
    let at = stands log q i is in
    subst (λ (r : Position). sub_in log (acknowledged_at i r p) ≡ acknowledging (r ∷ []) (sub_in log p)) at.2 (acknowledged_in log i at.0 p rising at.1)

pub placed_of : (log : List Entry) (ms : List Member) (i : ℕ) (q : Position) (p : Placed) → IsRising log → index_of q log ≡ Some i → IsPlacedIn log ms p → IsPlacedIn log ms (acknowledged_at i q p)
placed_of log ms i q p rising is placed =
    let at = stands log q i is in
    subst (λ (r : Position). IsPlacedIn log ms (acknowledged_at i r p)) at.2 (acknowledged_placed log ms i at.0 p rising at.1 placed)

-- ---- the members

-- a change that keeps numbers and subscriptions
line_kept : (f : Member → Member) (q : Member → Bool) (ms : List Member) (name : List ℕ) → ((m : Member) → (f m).number ≡ m.number) → ((m : Member) → (f m).subscription ≡ m.subscription) → line_at name (changed q f ms) ≡ line_at name ms
line_kept f q [] name numbers names = refl
line_kept f q (m ∷ ms) name numbers names = by (q m) (line_kept f q ms name numbers names)
  where
    at_is : is_at name (f m) ≡ is_at name m
    at_is = ap (λ (n : List ℕ). bytes_eq n name) (names m)

    first : (b : Bool) (n k : ℕ) (rest : List ℕ) → n ≡ k → cond b (n ∷ rest) rest ≡ cond b (k ∷ rest) rest
    first true n k rest is = ap (λ x. x ∷ rest) is
    first false n k rest is = refl

    pushed : (b : Bool) (x : Member) (xs : List Member) → map (λ (m : Member). m.number) (cond b (x ∷ xs) xs) ≡ cond b (x.number ∷ map (λ (m : Member). m.number) xs) (map (λ (m : Member). m.number) xs)
    pushed true x xs = refl
    pushed false x xs = refl

    by : (b : Bool) → line_at name (changed q f ms) ≡ line_at name ms → line_at name (cond b (f m ∷ ms) (m ∷ changed q f ms)) ≡ line_at name (m ∷ ms)
    by true rest =
        pushed (is_at name (f m)) (f m) (filter (is_at name) ms)
        ∙ ap (λ b. cond b ((f m).number ∷ line_at name ms) (line_at name ms)) at_is
        ∙ first (is_at name m) (f m).number m.number (line_at name ms) (numbers m)
        ∙ sym (pushed (is_at name m) m (filter (is_at name) ms))
    by false rest =
        pushed (is_at name m) m (filter (is_at name) (changed q f ms))
        ∙ ap (λ (l : List ℕ). cond (is_at name m) (m.number ∷ l) l) rest
        ∙ sym (pushed (is_at name m) m (filter (is_at name) ms))

numbers_kept : (f : Member → Member) (q : Member → Bool) (ms : List Member) → ((m : Member) → (f m).number ≡ m.number) → map (λ (m : Member). m.number) (changed q f ms) ≡ map (λ (m : Member). m.number) ms
numbers_kept f q [] numbers = refl
numbers_kept f q (m ∷ ms) numbers = by (q m) (numbers_kept f q ms numbers)
  where
    by : (b : Bool) → map (λ (m : Member). m.number) (changed q f ms) ≡ map (λ (m : Member). m.number) ms → map (λ (m : Member). m.number) (cond b (f m ∷ ms) (m ∷ changed q f ms)) ≡ map (λ (m : Member). m.number) (m ∷ ms)
    by true rest = ap (λ n. n ∷ map (λ (m : Member). m.number) ms) (numbers m)
    by false rest = ap (λ (l : List ℕ). m.number ∷ l) rest

pub line_left_out : (holder : Option ℕ) (p : Position) (ms : List Member) (name : List ℕ) → line_at name (left_out_of holder p ms) ≡ line_at name ms
line_left_out None p ms name = refl
line_left_out (Some n) p ms name = line_kept (leaving_out (p ∷ [])) (is_member n) ms name (λ _. refl) (λ _. refl)

pub numbers_left_out : (holder : Option ℕ) (p : Position) (ms : List Member) → NumbersRise ms → NumbersRise (left_out_of holder p ms)
numbers_left_out None p ms rise = rise
numbers_left_out (Some n) p ms rise = subst (λ (ns : List ℕ). IsStrictlyIncreasing ns) (sym (numbers_kept (leaving_out (p ∷ [])) (is_member n) ms (λ _. refl))) rise

-- the holder's copy is the only one
pub left_out_is : (s : State) (name : List ℕ) (sub : Subscription) (p : Position) → IsWellFormed s → NumbersRise s.members → find (is_named name) s.subscriptions ≡ Some sub
    → left_out_of (option_map (λ (h : Held). h.consumer) (map_of.get sub.pending p)) p s.members ≡ map (forgetting name (p ∷ [])) s.members
left_out_is s name sub p well rising named = by (map_of.get sub.pending p) refl
  where
    by : (o : Option Held) → map_of.get sub.pending p ≡ o → left_out_of (option_map (λ (h : Held). h.consumer) o) p s.members ≡ map (forgetting name (p ∷ [])) s.members
    by None free = sym (forgotten_nowhere s well name sub named p free)
    by (Some h) held = by_seat (position (is_member h.consumer) s.members) refl
      where
        formed : IsWellFormedIn s sub
        formed = All-contains (IsWellFormedIn s) s.subscriptions sub well.subscriptions (found_contained (is_named name) s.subscriptions sub named)

        by_seat : (o : Option ℕ) → position (is_member h.consumer) s.members ≡ o → changed (is_member h.consumer) (leaving_out (p ∷ [])) s.members ≡ map (forgetting name (p ∷ [])) s.members
        by_seat None nowhere =
            let any = Any-from_list_any (is_member h.consumer) (members_of s sub.name) (formed.pending p h held).member in
            let there = filter_contained (is_at sub.name) s.members any.1 (any.0, any.2, any.3) in
            absurd (true≢false (sym any.4 ∙ ap (is_member h.consumer) (sym there.2) ∙ fails_everywhere (is_member h.consumer) s.members nowhere there.0 any.1 there.1))
        by_seat (Some seat) there =
            let any = Any-from_list_any (is_member h.consumer) (members_of s sub.name) (formed.pending p h held).member in
            let low = (position-Some (is_member h.consumer) s.members seat any.1 there).0 in
            let m = get_or s.members seat any.1 in
            changed-position (is_member h.consumer) (leaving_out (p ∷ [])) s.members seat any.1 there
            ∙ sym (forgotten_at s well name sub named p h seat m held (sym there) (get_or_default s.members seat any.1 m low) rising)
