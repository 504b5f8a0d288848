-- Every act leaves what holds of the world, and so does every list of acts.
use Rattle.std.proofs.Common.{◌≡◌, ℕ, List, [], ◌∷◌, true, sym, subst}
use Rattle.std.specs.Prelude.{codes, nat_eq}
use Rattle.std.specs.List.{starts_with}
use Rattle.position_core.specs.declared.topic_name.TopicName.{TopicName}
use Rattle.delivery_machine.specs.declared.reply.Reply.{Reply}
use Rattle.dead_letters.specs.declared.route.Route.{Route}
use Rattle.dead_letters.specs.declared.hand.Hand.{Hand}
use Rattle.dead_letters.specs.declared.hand.Hand.TheVariants.{Empty, Holds, Joined, Copied, Leaves, Waits, Moved}
use Rattle.dead_letters.specs.Moving.{after, move_of}
use Rattle.dead_letters.specs.Worlds.{World, Act, at_source, at_target, view_source, view_target, store_source, store_target, reopen_source, reopen_target, delete_source, delete_target, courier, turned_away, let_go, crash, Happens, AnswersAt, AllHappen, opened, kept_for, with_hand}
use Rattle.dead_letters.proofs.Hands.{HandHolds, IsInside}
use Rattle.dead_letters.proofs.Invariant.{Holds as Stays}
use Rattle.dead_letters.proofs.Acting.{at_source_holds, at_target_holds, view_source_holds, store_source_holds, view_target_holds, store_target_holds, reopen_source_holds, reopen_target_holds, delete_source_holds, delete_target_holds, crash_holds, opened_holds}
use Rattle.dead_letters.proofs.CourierMoves.{empty_moves, holds_moves, copied_moves, leaves_moves, waits_moves, turned_away_holds, let_go_holds}
use Rattle.dead_letters.proofs.Copying.{joined_moves, moved_moves}

module _ (route : Route) (target : TopicName) where
  abbrev Is : World → Type 0
  Is w = Stays route target w

  settled : (w v : World) → v ≡ w → Is w → Is v
  settled w v is holds = subst Is (sym is) holds

  abbrev MovesWith : World → ℕ → ℕ → Reply → World → Hand → Type 0
  MovesWith w number now reply v hand =
      AnswersAt route (move_of route hand now).side w (move_of route hand now).event reply (with_hand number (kept_for target (after hand reply)) w.hands) v

  courier_moves : (w : World) (number now : ℕ) (reply : Reply) (v : World) (hand : Hand) → Is w → HandHolds route target w.source w.moved w.target w.target_stored w.target_viewed hand
      → (IsInside route target hand → IsInside route target (w.hands number)) → MovesWith w number now reply v hand → Is v
  courier_moves w number now reply v Empty holds held inside h = settled _ v h.2 (empty_moves route target w number reply h.0 holds h.1)
  courier_moves w number now reply v (Holds l) holds held inside h = settled _ v h.2 (holds_moves route target w number l reply h.0 holds held h.1)
  courier_moves w number now reply v (Joined l p) holds held inside h = settled _ v h.2 (joined_moves route target w l holds held.0 number p now (inside tt) held.1 reply h.0 h.1)
  courier_moves w number now reply v (Copied l p count) holds held inside h = settled _ v h.2 (copied_moves route target w number l p count reply h.0 holds (inside tt) held h.1)
  courier_moves w number now reply v (Leaves p) holds held inside h = settled _ v h.2 (leaves_moves route target w number p reply h.0 holds (inside tt) h.1)
  courier_moves w number now reply v (Waits l count) holds held inside h = settled _ v h.2 (waits_moves route target w number l count reply h.0 holds held h.1)
  courier_moves w number now reply v (Moved l) holds held inside h = settled _ v h.2 (moved_moves route target w l holds held.0 number reply h.0 held.1 held.2 h.1)

  pub acts_hold : (w : World) (act : Act) (v : World) → Happens route target w act v → Is w → Is v
  acts_hold w (at_source event reply) v h holds = settled _ v h.2.2 (at_source_holds route target w event reply h.2.0 holds h.2.1 h.0 h.1)
  acts_hold w (at_target event reply) v h holds = settled _ v h.2.2 (at_target_holds route target w event reply h.2.0 holds h.2.1 h.0 h.1)
  acts_hold w view_source v h holds = settled _ v h (view_source_holds route target w holds)
  acts_hold w view_target v h holds = settled _ v h (view_target_holds route target w holds)
  acts_hold w store_source v h holds = settled _ v h (store_source_holds route target w holds)
  acts_hold w store_target v h holds = settled _ v h (store_target_holds route target w holds)
  acts_hold w reopen_source v h holds = settled _ v h.1 (reopen_source_holds route target w holds)
  acts_hold w reopen_target v h holds = settled _ v h.1 (reopen_target_holds route target w h.0 holds)
  acts_hold w delete_source v h holds = settled _ v h.1 (delete_source_holds route target w h.0 holds)
  acts_hold w delete_target v h holds = settled _ v h.1 (delete_target_holds route target w h.0 holds)
  acts_hold w (courier number now reply) v h holds = courier_moves w number now reply v (w.hands number) holds (holds.hands number) (λ x. x) h
  acts_hold w (turned_away number fault) v h holds = settled _ v h (turned_away_holds route target w number fault holds)
  acts_hold w (let_go number) v h holds = settled _ v h (let_go_holds route target w number holds)
  acts_hold w crash v h holds = settled _ v h (crash_holds route target w holds)

  pub all_acts_hold : (w : World) (acts : List Act) (v : World) → AllHappen route target w acts v → Is w → Is v
  all_acts_hold w [] v h holds = settled w v h holds
  all_acts_hold w (act ∷ acts) v h holds = all_acts_hold h.0 acts v h.2 (acts_hold w act h.0 h.1 holds)

  -- whatever happens
  pub always : (source : TopicName) (ledger_size : ℕ) (acts : List Act) (w : World) → starts_with nat_eq route.name (codes "dlq/") ≡ true → AllHappen route target (opened source target ledger_size) acts w → Is w
  always source ledger_size acts w named h = all_acts_hold (opened source target ledger_size) acts w h (opened_holds route target named source target ledger_size)
