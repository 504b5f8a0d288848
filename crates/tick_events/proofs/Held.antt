-- A message that is pending in a subscription is live, stands in the log, and may be released or die.
use Rattle.std.proofs.Common.{◌≡◌, ℕ, List, [], ◌∷◌, Some, None, Option, true, get_or, slice_get, refl, ap, ◌∙◌, sym, true≢false}
use Rattle.std.specs.Prelude.{is_some}
use Rattle.std.specs.List.{position}
use Rattle.std.specs.FinMap as map_of
use Rattle.position_core.specs.declared.position.Position.{Position}
use Rattle.position_core.specs.declared.held.Held.{Held}
use Rattle.log_pieces.specs.Pieces.{index_of}
use Rattle.delivery_machine.specs.State.{DeadLetter}
use Rattle.delivery_machine.specs.Dying.{burying}
use Rattle.delivery_machine.specs.Ticking.{redelivered, redelivering}
use Rattle.delivery_machine.specs.WellFormed.{IsWellFormed}
use Rattle.delivery_machine.proofs.Tended.{some_is}
use Rattle.dispatch_core.specs.Changes.{Gone, Released}
use Rattle.topic_served.specs.Happening.{HappensAt}
use Rattle.topic_served.specs.Stepping.{buried}
use Rattle.topic_served.proofs.Gone.{gone_buried}
use Rattle.topic_served.proofs.Released.{held_live, released_redelivered}
use Rattle.topic_subscriptions.specs.Placed.{IsPlacedIn, IsRising, Placed, is_live_at, is_placed, sub_in}
use Rattle.topic_parts.specs.Parts.{AreTied, log_of, state_of}
use Rattle.topic_parts.specs.declared.parts.Parts.{Parts}
use Rattle.topic_parts.proofs.Changing.{placed_there}
use Rattle.topic_parts.proofs.Sought.{formed_at}
use Rattle.topic_served.proofs.Telling.{about, place_within}

module _ (t : Parts) (name : List ℕ) (place : ℕ) (x : Placed) (q : Position) (named : Some place ≡ position (is_placed name) t.subscriptions.items)
    (at : x ≡ get_or t.subscriptions.items place x) (pending : map_of.contains_key x.pending.pending q ≡ true)
  where
    pub placed : AreTied t → IsPlacedIn (log_of t) t.members.members x
    placed tied = placed_there (log_of t) t.subscriptions.items name place named t.members.members x tied at

    pub stands_somewhere : AreTied t → None ≡ index_of q (log_of t) → ⊥
    stands_somewhere tied nowhere = none_is (nowhere ∙ ((placed tied).pending q pending).there)
      where
        none_is : {n : ℕ} → ◌≡◌ {A = Option ℕ} None (Some n) → ⊥
        none_is is = cc

    pub is_live : AreTied t → (k : ℕ) → index_of q (log_of t) ≡ Some k → is_live_at x k ≡ true
    is_live tied k is =
        let l = (placed tied).pending q pending in
        ap (is_live_at x) (some_is (index_of q (log_of t)) k l.place is l.there) ∙ l.live

    pub happens_released : IsRising (log_of t) → IsWellFormed (state_of t) → Some x ≡ slice_get t.subscriptions.items place → (k : ℕ) → index_of q (log_of t) ≡ Some k
        → HappensAt place (Released k) (state_of t) (sub_in (log_of t) x) (redelivered (state_of t) name (q ∷ [])) (redelivering (q ∷ []) (sub_in (log_of t) x))
    happens_released rising well there k is = by (map_of.get x.pending.pending q) refl pending
      where
        by : (o : Option Held) → map_of.get x.pending.pending q ≡ o → is_some o ≡ true
            → HappensAt place (Released k) (state_of t) (sub_in (log_of t) x) (redelivered (state_of t) name (q ∷ [])) (redelivering (q ∷ []) (sub_in (log_of t) x))
        by None free none = absurd (true≢false (sym none))
        by (Some h) held some =
            let formed = formed_at t place x well (place_within (is_placed name) t.subscriptions.items place named) at in
            released_redelivered (state_of t) name place (sub_in (log_of t) x) q k (about t name place x q k rising named there is)
            (held_live (state_of t) (sub_in (log_of t) x) q k h is held (formed.pending q h held))

pub happens_buried : (t : Parts) (name : List ℕ) (place : ℕ) (x : Placed) (letter : DeadLetter) (k : ℕ) → Some place ≡ position (is_placed name) t.subscriptions.items → IsRising (log_of t) → Some x ≡ slice_get t.subscriptions.items place → index_of letter.position (log_of t) ≡ Some k
    → HappensAt place (Gone k) (state_of t) (sub_in (log_of t) x) (buried (state_of t) name letter) (burying letter (sub_in (log_of t) x))
happens_buried t name place x letter k named rising there is = gone_buried (state_of t) name place (sub_in (log_of t) x) letter k (about t name place x letter.position k rising named there is)
