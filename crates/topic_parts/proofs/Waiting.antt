-- The next message that waits, as places are looked at one after another.
use Rattle.std.proofs.Common.{◌≡◌, ℕ, ◌+◌, ◌<◌, ◌≤◌, zero, suc, List, [], ◌∷◌, Some, None, Option, Bool, true, false, refl, ap, ap₂, ◌∙◌, sym, subst, arith, length, inl, inr, true≢false}
use Rattle.std.specs.Prelude.{◌&&◌, not, slice_get, is_some}
use Rattle.std.specs.Option.{option_map, option_map_or}
use Rattle.std.specs.FinMap as map_of
use Rattle.std.proofs.lemmas.Bool.{cases_lt}
use Rattle.std.proofs.lemmas.Grind.{common_steps}
use Rattle.position_core.specs.declared.message.Entry.{Entry}
use Rattle.position_core.specs.declared.held.Held.{Held}
use Rattle.position_core.specs.declared.position.Position.{Position}
use Rattle.position_core.specs.Position.{position_cmp}
use Rattle.delivery_machine.specs.State.{State, Subscription}
use Rattle.delivery_machine.specs.Words.{is_waiting, visible}
use Rattle.dispatch_core.specs.Log.{waits_at, IsNextReady, NoneReady}
use Rattle.topic_subscriptions.specs.Placed.{Placed, IsNextLive, is_live_at, sub_in}
use Rattle.topic_parts.specs.Parts.{IsSeenIn}

pub held_by_nobody : (pending : map_of.FinMap position_cmp Held) (q : Position) → None ≡ option_map (λ (h : Held). h.consumer) (map_of.get pending q) → map_of.contains_key pending q ≡ false
held_by_nobody pending q none = by (map_of.get pending q) none
  where
    by : (o : Option Held) → None ≡ option_map (λ (h : Held). h.consumer) o → is_some o ≡ false
    by None none = refl
    by (Some h) none = cc

pub held_by_one : (pending : map_of.FinMap position_cmp Held) (q : Position) (n : ℕ) → Some n ≡ option_map (λ (h : Held). h.consumer) (map_of.get pending q) → map_of.contains_key pending q ≡ true
held_by_one pending q n some = by (map_of.get pending q) some
  where
    by : (o : Option Held) → Some n ≡ option_map (λ (h : Held). h.consumer) o → is_some o ≡ true
    by None some = cc
    by (Some h) some = refl

-- what stands before the end is there
pub there_is : {A : Type 0} (xs : List A) (k : ℕ) → k < length xs → slice_get xs k ≡ None → ⊥
there_is [] k low none = absurd (omega arith)
there_is (x ∷ xs) zero low none = cc
there_is (x ∷ xs) (suc k) low none = there_is xs k (omega arith) none

pub length_visible : (s : State) → s.durable ≤ length s.log → length (visible s) ≡ s.durable
length_visible s within = grind (arith, common_steps)

module _ (s : State) (p : Placed) (tied : IsSeenIn s.log s.members p) where
  sub : Subscription
  sub = sub_in s.log p

  -- what is not live does not wait
  not_live : (k : ℕ) → is_live_at p k ≡ false → waits_at s (sub_in s.log p) k ≡ false
  unfolding waits_at
  not_live k out = by (slice_get s.log k) refl
    where
      by : (o : Option Entry) → slice_get s.log k ≡ o → option_map_or (is_waiting (sub_in s.log p)) o false ≡ false
      by None at = refl
      by (Some e) at = ap (λ b. b && not (map_of.contains_key p.pending.pending e.position)) (tied.live k e at ∙ out)

  -- what is live waits where nobody holds it
  pub live_waits : (k : ℕ) (e : Entry) (b : Bool) → slice_get s.log k ≡ Some e → is_live_at p k ≡ true → map_of.contains_key p.pending.pending e.position ≡ b → waits_at s (sub_in s.log p) k ≡ not b
  unfolding waits_at
  live_waits k e b at live held =
      ap (λ o. option_map_or (is_waiting (sub_in s.log p)) o false) at
      ∙ ap₂ (λ a c. a && not c) (tied.live k e at ∙ live) held

  -- from the first place on none waits before the second, whose message may be live
  pub record IsSearched (from place : ℕ) : Type 0 where
    pub after : from ≤ place
    pub live : is_live_at p place ≡ true
    pub none : (k : ℕ) → from ≤ k → k < place → waits_at s (sub_in s.log p) k ≡ false

  pub begins : (from place : ℕ) → IsNextLive p from place → IsSearched from place
  begins from place next = record {
    after = next.after;
    live = next.live;
    none = λ k le lt. not_live k (next.least k le lt);
  }

  pub goes_on : (from place more : ℕ) → IsSearched from place → waits_at s (sub_in s.log p) place ≡ false → IsNextLive p (place + 1) more → IsSearched from more
  goes_on from place more searched held next = record {
    after = omega (arith, searched.after, next.after);
    live = next.live;
    none = none_before;
  }
    where
      none_before : (k : ℕ) → from ≤ k → k < more → waits_at s (sub_in s.log p) k ≡ false
      none_before k le lt = elim (cases_lt k place) [
        | inl before ↦ searched.none k le before
        | inr beyond ↦ elim (cases_lt place k) [
          | inl after ↦ not_live k (next.least k (omega arith) lt)
          | inr same ↦ let is : place ≡ k = omega arith in subst (λ (n : ℕ). waits_at s (sub_in s.log p) n ≡ false) is held
        ]
      ]

  pub finds : (from place : ℕ) → IsSearched from place → place < length (visible s) → waits_at s (sub_in s.log p) place ≡ true → IsNextReady s (sub_in s.log p) from place
  finds from place searched seen waits = record {
    after = searched.after;
    ready = record { seen = seen; waits = waits };
    least = λ k le ready. least k le ready.waits;
  }
    where
      least : (k : ℕ) → from ≤ k → waits_at s (sub_in s.log p) k ≡ true → place ≤ k
      least k le waits_there = elim (cases_lt k place) [
        | inl before ↦ absurd (true≢false (sym waits_there ∙ searched.none k le before))
        | inr beyond ↦ beyond
      ]

  pub finds_none : (from place : ℕ) → IsSearched from place → length (visible s) ≤ place → NoneReady s (sub_in s.log p) from
  finds_none from place searched past k le ready = true≢false (sym ready.waits ∙ searched.none k le (omega (arith, ready.seen, past)))
