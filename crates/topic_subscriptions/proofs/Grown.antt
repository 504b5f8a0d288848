-- The log has one message more: what is kept of a subscription speaks of the longer log.
use Rattle.std.proofs.Common.{◌≡◌, ℕ, ◌+◌, ◌<◌, List, [], ◌∷◌, ◌++◌, length, Some, Option, Bool, true, false, refl, ap, ap₂, ◌∙◌, sym, arith, inl, inr, slice_get, All}
use Rattle.std.specs.Prelude.{◌||◌, ◌&&◌, not, IsTrue}
use Rattle.std.specs.List.{list_any}
use Rattle.std.specs.Ordering.{nat_cmp}
use Rattle.std.specs.FinSet as set
use Rattle.std.proofs.lemmas.Bool.{cases_lt}
use Rattle.std.proofs.lemmas.Cmp.{tied_itself}
use Rattle.std.proofs.lemmas.List.{length-append}
use Rattle.std.proofs.lemmas.List.Elements.{All-head, All-tail}
use Rattle.std.proofs.lemmas.Option.{slice_get_within}
use Rattle.position_core.specs.declared.position.Position.{Position}
use Rattle.position_core.specs.declared.message.Entry.{Entry}
use Rattle.position_core.specs.Position.{position_cmp, positions_total, same_position}
use Rattle.log_pieces.proofs.Searching.{found}
use Rattle.pending_core.proofs.Elements.{slice_get_push_end, slice_get_push_other}
use Rattle.delivery_machine.specs.State.{Member, DeadLetter, Subscription}
use Rattle.delivery_machine.specs.Words.{is_dead, is_live}
use Rattle.delivery_machine.specs.Places.{AreBelow}
use Rattle.delivery_machine.specs.WellFormed.{has_message}
use Rattle.topic_subscriptions.specs.Placed.{IsLiveIn, IsPlacedIn, IsRising, Placed, is_live_at, sub_in}
use Rattle.topic_subscriptions.proofs.Links.{at_place, contains_at, eq_of_less, positions_stay, same_places}
use Rattle.topic_subscriptions.proofs.Changes.{stands}

longer : (log : List Entry) (e : Entry) → length (log ++ e ∷ []) ≡ length log + 1
longer log e = length-append log (e ∷ [])

-- a message stands where it stood
stays : (log : List Entry) (e : Entry) (k : ℕ) → k < length log → slice_get (log ++ e ∷ []) k ≡ slice_get log k
stays log e k low = slice_get_push_other log e k (λ is. absurd (omega (arith, is, low)))

-- the message that comes is none of the dead ones
pub new_is_alive : (log : List Entry) (e : Entry) (ls : List DeadLetter) → IsRising (log ++ e ∷ []) → All (λ (l : DeadLetter). IsTrue (has_message log l.position)) ls → list_any (λ (l : DeadLetter). same_position l.position e.position) ls ≡ false
new_is_alive log e [] rising there = refl
new_is_alive log e (l ∷ ls) rising there =
    ap₂ (λ a b. a || b) apart (new_is_alive log e ls rising (All-tail (λ (l : DeadLetter). IsTrue (has_message log l.position)) l ls there))
  where
    apart : same_position l.position e.position ≡ false
    apart =
        let at = at_place log l.position (All-head (λ (l : DeadLetter). IsTrue (has_message log l.position)) l ls there) in
        let low = slice_get_within log at.0 at.1 at.2 in
        ap (λ (q : Position). same_position q e.position) (sym at.3)
        ∙ same_places (log ++ e ∷ []) at.0 (length log) at.1 e rising (stays log e at.0 low ∙ at.2) (slice_get_push_end log e)
        ∙ eq_of_less at.0 (length log) low

pub grown_in : (log : List Entry) (e : Entry) (ms : List Member) (p : Placed) → IsPlacedIn log ms p → sub_in (log ++ e ∷ []) p ≡ sub_in log p
grown_in log e ms p placed = ap (λ a. let s : Subscription = record (sub_in log p) { acknowledged = a } in s) (positions_stay log e p.places placed.within)

outside : (end : ℕ) (s : set.FinSet nat_cmp) → AreBelow end s → set.contains s end ≡ false
outside end s within = by (set.contains s end) refl
  where
    by : (b : Bool) → set.contains s end ≡ b → set.contains s end ≡ false
    by true inside = absurd (let low = within end inside in omega (arith, low))
    by false out = out

pub grown_placed : (log : List Entry) (e : Entry) (ms : List Member) (p : Placed) → IsRising (log ++ e ∷ []) → is_dead (sub_in log p) e.position ≡ false → IsPlacedIn log ms p → IsPlacedIn (log ++ e ∷ []) ms p
grown_placed log e ms p rising alive placed = record {
  within = λ k inside. let low = placed.within k inside in omega (arith, low, longer log e);
  buried_within = λ k inside. let low = placed.buried_within k inside in omega (arith, low, longer log e);
  live = live_there;
  line = placed.line;
  pending = λ q key. still (placed.pending q key);
  counted = λ q key. still (placed.counted q key);
}
  where
    still : {q : Position} → IsLiveIn log p q → IsLiveIn (log ++ e ∷ []) p q
    still {q} l =
        let at = stands log q l.place l.there in
        let low = slice_get_within log l.place at.0 at.1 in
        record {
          place = l.place;
          there = sym (found (log ++ e ∷ []) q l.place at.0 rising (stays log e l.place low ∙ at.1) (ap (position_cmp at.0.position) (sym at.2) ∙ tied_itself positions_total at.0.position));
          live = l.live;
        }

    live_there : (k : ℕ) (d : Entry) → slice_get (log ++ e ∷ []) k ≡ Some d → is_live (sub_in (log ++ e ∷ []) p) d ≡ is_live_at p k
    live_there k d there = elim (cases_lt k (length log)) [
      | inl low ↦ ap (λ (s : Subscription). is_live s d) (grown_in log e ms p placed) ∙ placed.live k d (sym (stays log e k low) ∙ there)
      | inr past ↦
          let last : length log ≡ k = omega (arith, past, longer log e, slice_get_within (log ++ e ∷ []) k d there) in
          let it : d ≡ e = one (sym there ∙ ap (slice_get (log ++ e ∷ [])) (sym last) ∙ slice_get_push_end log e) in
          ap₂ (λ a b. not a && not b)
          (contains_at (log ++ e ∷ []) p.places k d rising there ∙ ap (set.contains p.places) (sym last) ∙ outside (length log) p.places placed.within)
          (ap (λ (x : Entry). is_dead (sub_in log p) x.position) it ∙ alive)
          ∙ sym (ap (is_live_at p) (sym last) ∙ ap₂ (λ a b. not (a || b)) (outside (length log) p.places placed.within) (outside (length log) p.buried placed.buried_within))
    ]
      where
        one : ◌≡◌ {A = Option Entry} (Some d) (Some e) → d ≡ e
        one is = cc
