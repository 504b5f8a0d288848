-- The shares and the line, as they change.
use Rattle.std.proofs.Common.{◌≡◌, ℕ, suc, ◌+◌, length, List, [], ◌∷◌, ◌++◌, map, Bool, true, false, cond, Option, Some, None, refl, sym, ap, ap₂, ◌∙◌}
use Rattle.std.specs.Prelude.{◌==◌, not, nat_lt, slice_get}
use Rattle.std.specs.List.{filter, find, position, position_or_len}
use Rattle.std.specs.Option.{option_map}
use Rattle.std.proofs.lemmas.List.{map-append}
use Rattle.std.proofs.lemmas.List.Quantifiers.{position-Some}
use Rattle.std.proofs.lemmas.Option.{slice_get-get_or}
use Rattle.position_core.specs.declared.ranges.HashRange.{HashRange}
use Rattle.position_core.specs.declared.kind.Kind.{Kind}
use Rattle.position_core.specs.declared.kind.Kind.TheVariants.{KeyShared}
use Rattle.delivery_machine.specs.State.{State, Subscription, Member}
use Rattle.delivery_machine.specs.Shares.{Shares, shares_with, shares_without}
use Rattle.delivery_machine.specs.Words.{is_member, members_of}
use Rattle.delivery_machine.proofs.Places.{find-position, found_nothing}
use Rattle.dispatch_core.specs.Changes.{Joined, Left}
use Rattle.dispatch_core.specs.Log.{line_of}
use Rattle.dispatch_core.specs.Offers.{seen_at, seen_of}
use Rattle.dispatch_keyed.specs.Owning.{numbers_in, owners_in, owners_with}
use Rattle.dispatch_keyed.specs.declared.seats.Owners.{Owners}

pub shares_in : {o p : Owners} → o ≡ p → o.shares ≡ p.shares
shares_in same = ap (λ (o : Owners). o.shares) same

pub line_in : {o p : Owners} → o ≡ p → o.line ≡ p.line
line_in same = ap (λ (o : Owners). o.line) same

abbrev firsts_of : List (ℕ × ℕ) → List ℕ
firsts_of line = map (λ m. m.0) line

module _ (s : State) (sub : Subscription) (t : State) (new : Subscription) where
  -- they stay
  pub same_owners : (o : Owners) → o ≡ owners_in s sub → new.shares ≡ sub.shares → line_of t new ≡ line_of s sub → o ≡ owners_in t new
  same_owners o was shares line = was ∙ ap₂ (λ (shares : Shares) (l : List (ℕ × ℕ)). owners_with shares (firsts_of l)) (sym shares) (sym line)

  -- somebody joined
  pub joined_owners : (ranges : Option (List HashRange)) (consumer : ℕ) (old joined : Owners) → Joined ranges consumer s sub t new → sub.kind ≡ KeyShared → old ≡ owners_in s sub → joined ≡ owners_with (shares_with KeyShared ranges consumer old.shares) (old.line ++ consumer ∷ []) → joined ≡ owners_in t new
  joined_owners ranges consumer old joined change kind was is = is ∙ ap₂ owners_with shares line
    where
      shares : shares_with KeyShared ranges consumer old.shares ≡ new.shares
      shares = ap (λ (o : Owners). shares_with KeyShared ranges consumer o.shares) was ∙ sym (change.shares ∙ ap (λ (k : Kind). shares_with k ranges consumer sub.shares) kind)

      line : old.line ++ consumer ∷ [] ≡ numbers_in t new
      line =
          ap (λ (o : Owners). o.line ++ consumer ∷ []) was
          ∙ sym (map-append (λ (m : ℕ × ℕ). m.0) (line_of s sub) ((consumer, change.level) ∷ []))
          ∙ ap firsts_of (sym change.line)

  -- somebody left
  pub left_owners : (consumer : ℕ) (old left : Owners) → Left consumer s sub t new → old ≡ owners_in s sub → left ≡ owners_with (shares_without consumer old.shares) (filter (λ number. not (number == consumer)) old.line) → left ≡ owners_in t new
  left_owners consumer old left change was is = is ∙ ap₂ owners_with shares line
    where
      shares : shares_without consumer old.shares ≡ new.shares
      shares = ap (λ (o : Owners). shares_without consumer o.shares) was ∙ sym change.shares

      firsts_left : (l : List (ℕ × ℕ)) → filter (λ number. not (number == consumer)) (firsts_of l) ≡ firsts_of (filter (λ m. not (m.0 == consumer)) l)
      firsts_left [] = refl
      firsts_left (m ∷ l) = by (not (m.0 == consumer)) (firsts_left l)
        where
          by : (b : Bool) → filter (λ number. not (number == consumer)) (firsts_of l) ≡ firsts_of (filter (λ m. not (m.0 == consumer)) l)
              → cond b (m.0 ∷ filter (λ number. not (number == consumer)) (firsts_of l)) (filter (λ number. not (number == consumer)) (firsts_of l)) ≡ firsts_of (cond b (m ∷ filter (λ m. not (m.0 == consumer)) l) (filter (λ m. not (m.0 == consumer)) l))
          by true rest = ap (λ ns. m.0 ∷ ns) rest
          by false rest = rest

      line : filter (λ number. not (number == consumer)) old.line ≡ numbers_in t new
      line = ap (λ (o : Owners). filter (λ number. not (number == consumer)) o.line) was ∙ firsts_left (line_of s sub) ∙ ap firsts_of (sym change.line)

-- nobody is in line where no member is
pub nobody_in_line : (s : State) (sub : Subscription) → members_of s sub.name ≡ [] → numbers_in s sub ≡ []
unfolding line_of
nobody_in_line s sub none = ap (λ (ms : List Member). firsts_of (map (λ m. (m.number, m.level)) ms)) none

-- ---- the member of a number stands at its place

abbrev numbers_of : List Member → List ℕ
numbers_of ms = firsts_of (map (λ m. (m.number, m.level)) ms)

first_numbered : (consumer : ℕ) (ms : List Member) → position_or_len (λ number. number == consumer) (numbers_of ms) ≡ position_or_len (is_member consumer) ms
first_numbered consumer [] = refl
first_numbered consumer (m ∷ ms) = ap (λ (n : ℕ). cond (not (m.number == consumer)) (1 + n) 0) (first_numbered consumer ms)

as_many : (ms : List Member) → length (numbers_of ms) ≡ length ms
as_many [] = refl
as_many (m ∷ ms) = ap suc (as_many ms)

place_numbered : (consumer : ℕ) (ms : List Member) → position (λ number. number == consumer) (numbers_of ms) ≡ position (is_member consumer) ms
place_numbered consumer ms = ap₂ (λ i n. cond (nat_lt i n) (Some i) None) (first_numbered consumer ms) (as_many ms)

module _ (s : State) (sub : Subscription) (line : List ℕ) (consumer : ℕ) (is : line ≡ numbers_in s sub) where
  pub place_in_line : position (λ number. number == consumer) line ≡ position (is_member consumer) (members_of s sub.name)
  unfolding line_of
  place_in_line = ap (position (λ number. number == consumer)) is ∙ place_numbered consumer (members_of s sub.name)

  pub member_there : (place : ℕ) → Some place ≡ position (λ number. number == consumer) line → seen_at s sub place ≡ option_map (seen_of s sub) (find (is_member consumer) (members_of s sub.name))
  member_there place there = by (members_of s sub.name) (sym place_in_line ∙ sym there)
    where
      by : (ms : List Member) → position (is_member consumer) ms ≡ Some place → option_map (seen_of s sub) (slice_get ms place) ≡ option_map (seen_of s sub) (find (is_member consumer) ms)
      by [] nowhere = cc
      by (m ∷ ms) at =
          ap (option_map (seen_of s sub)) (slice_get-get_or (m ∷ ms) place m (position-Some (is_member consumer) (m ∷ ms) place m at).0 ∙ sym (find-position (is_member consumer) (m ∷ ms) place m at))

  pub member_nowhere : None ≡ position (λ number. number == consumer) line → None ≡ option_map (seen_of s sub) (find (is_member consumer) (members_of s sub.name))
  member_nowhere nowhere = sym (ap (option_map (seen_of s sub)) (found_nothing (is_member consumer) (members_of s sub.name) (nowhere ∙ place_in_line)))
