-- A change of a subscription that touches the message of one position alone.
use Rattle.std.proofs.Common.{◌≡◌, ℕ, List, Some, None, Option, Bool, true, false, refl, ap, ap₂, ◌∙◌}
use Rattle.std.specs.Prelude.{◌<◌, slice_get, not, ◌&&◌, is_some, length}
use Rattle.std.specs.List.{position}
use Rattle.std.specs.Option.{option_map}
use Rattle.std.specs.FinSet as set
use Rattle.std.specs.FinMap as map_of
use Rattle.position_core.specs.declared.position.Position.{Position}
use Rattle.position_core.specs.declared.message.Entry.{Entry}
use Rattle.position_core.specs.declared.held.Held.{Held}
use Rattle.position_core.specs.Position.{same_position}
use Rattle.log_pieces.specs.Pieces.{index_of}
use Rattle.log_pieces.proofs.Searching.{IsRising}
use Rattle.delivery_machine.specs.State.{State, Subscription}
use Rattle.delivery_machine.specs.Words.{is_dead, is_live, is_named, is_waiting, visible}
use Rattle.machine_laws.proofs.Ranks.{KeepsRanks}
use Rattle.dispatch_core.specs.Log.{waits_at, holder_at}
use Rattle.dispatch_core.specs.Changes.{OnlyChangesAt, Gone, Released, Sent}
use Rattle.topic_served.proofs.Seeing.{seen_alike, stays_at, waits_is, holder_is, same_line}
use Rattle.topic_served.proofs.Standing.{apart, stands_there}

-- the subscription of the name stands at the one place, and the message of the position at the other
pub record IsAbout (s : State) (name : List ℕ) (i : ℕ) (sub : Subscription) (p : Position) (k : ℕ) : Type 0 where
  pub rising : IsRising s.log
  pub place : position (is_named name) s.subscriptions ≡ Some i
  pub was : slice_get s.subscriptions i ≡ Some sub
  pub stands : index_of p s.log ≡ Some k

-- nothing is otherwise but at the position
pub record TouchesOne (p : Position) (sub new : Subscription) : Type 0 where
  pub name : new.name ≡ sub.name
  pub kind : new.kind ≡ sub.kind
  pub shares : new.shares ≡ sub.shares
  pub acknowledged : (q : Position) → same_position q p ≡ false → set.contains new.acknowledged q ≡ set.contains sub.acknowledged q
  pub dead : (q : Position) → same_position q p ≡ false → is_dead new q ≡ is_dead sub q
  pub pending : (q : Position) → same_position q p ≡ false → map_of.get new.pending q ≡ map_of.get sub.pending q

module _ (s t : State) (name : List ℕ) (i : ℕ) (sub new : Subscription) (p : Position) (k : ℕ) (about : IsAbout s name i sub p k) (log : t.log ≡ s.log) (durable : t.durable ≡ s.durable) (ranks : KeepsRanks s.members t.members) (touches : TouchesOne p sub new) where
  pub only_there : OnlyChangesAt k s sub t new
  only_there = record {
    log = record { kind = touches.kind; log = log; durable = durable };
    line = same_line s t sub new touches.name ranks;
    shares = touches.shares;
    others = λ j other. stays_at s t sub new j log (λ x at.
        let differs = apart s.log p k about.rising about.stands j x other at in
        seen_alike sub new x (touches.acknowledged x.position differs) (touches.dead x.position differs) (ap (λ o. option_map (λ (h : Held). h.consumer) o) (touches.pending x.position differs)));
  }

  message : (e : Entry) × (slice_get s.log k ≡ Some e) × (e.position ≡ p)
  message = stands_there s.log p k about.stands

  here : slice_get t.log k ≡ Some message.0
  here = ap (λ (es : List Entry). slice_get es k) log ∙ message.1

  waits_of : (live held : Bool) → (new_live : is_live new message.0 ≡ live) → map_of.contains_key new.pending p ≡ held → waits_at t new k ≡ (live && not held)
  waits_of live held is_alive is_held =
      waits_is t new k message.0 here
      ∙ ap₂ (λ a b. a && not b) is_alive (ap (map_of.contains_key new.pending) message.2 ∙ is_held)

  holder_of_it : (o : Option Held) → map_of.get new.pending p ≡ o → holder_at t new k ≡ option_map (λ (h : Held). h.consumer) o
  holder_of_it o is =
      holder_is t new k message.0 here
      ∙ ap (λ (h : Option Held). option_map (λ (x : Held). x.consumer) h) (ap (map_of.get new.pending) message.2 ∙ is)

  -- what is not live, and pending nowhere, is gone
  pub gone_there : ((e : Entry) → e.position ≡ p → is_live new e ≡ false) → map_of.get new.pending p ≡ None → Gone k s sub t new
  gone_there out nowhere = record {
    stays = only_there;
    waits = waits_of false false (out message.0 message.2) (ap is_some nowhere);
    holder = holder_of_it None nowhere;
  }

  -- what is live, and pending nowhere though it was, is released
  pub released_there : (h : Held) → map_of.get sub.pending p ≡ Some h → ((e : Entry) → e.position ≡ p → is_live new e ≡ true) → map_of.get new.pending p ≡ None → Released k s sub t new
  released_there h was_held alive nowhere = record {
    stays = only_there;
    held = ap is_some held_before;
    waits = waits_of true false (alive message.0 message.2) (ap is_some nowhere);
    holder = holder_of_it None nowhere;
  }
    where
      held_before : holder_at s sub k ≡ Some h.consumer
      held_before =
          holder_is s sub k message.0 message.1
          ∙ ap (λ (o : Option Held). option_map (λ (x : Held). x.consumer) o) (ap (map_of.get sub.pending) message.2 ∙ was_held)

  -- what waited is pending
  pub sent_there : (h : Held) → k < length (visible s) → ((e : Entry) → e.position ≡ p → is_waiting sub e ≡ true) → map_of.get new.pending p ≡ Some h → Sent k h.consumer s sub t new
  sent_there h seen waited now_held = record {
    stays = only_there;
    seen = seen;
    waited = waits_is s sub k message.0 message.1 ∙ waited message.0 message.2;
    waits = waits_of (is_live new message.0) true refl (ap is_some now_held) ∙ and_false (is_live new message.0);
    holder = holder_of_it (Some h) now_held;
  }
    where
      and_false : (b : Bool) → (b && false) ≡ false
      and_false true = refl
      and_false false = refl
