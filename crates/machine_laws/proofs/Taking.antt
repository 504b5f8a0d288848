-- What each rule takes from a subscription in which the order is kept.
use Rattle.std.proofs.Common.{◌≡◌, ℕ, ◌<◌, List, [], ◌∷◌, map, get_or, length, zero, suc, Some, None, Option, Bool, true, false, cond, refl, ap, ◌∙◌, sym, arith, true≢false}
use Rattle.std.specs.Prelude.{not, ◌&&◌, ◌||◌, is_some, nat_lt, drop, slice_get}
use Rattle.std.specs.List.{list_any, filter, Contains}
use Rattle.std.specs.Cmp.{Equal-is, tied_itself}
use Rattle.std.specs.FinSet as set
use Rattle.std.specs.FinMap as map_of
use Rattle.std.proofs.lemmas.List.Folds.{Any-from_list_any}
use Rattle.position_core.specs.declared.position.Position.{Position}
use Rattle.position_core.specs.declared.message.Entry.{Entry}
use Rattle.position_core.specs.declared.held.Held.{Held}
use Rattle.position_core.specs.Position.{position_cmp, same_position, positions_total}
use Rattle.position_core.specs.declared.ranges.HashRange.{HashRange}
use Rattle.delivery_machine.specs.State.{State, Subscription, Member}
use Rattle.delivery_machine.specs.State as state
use Rattle.delivery_machine.specs.Words.{is_live, is_held_by, has_position}
use Rattle.delivery_machine.specs.Acknowledging.{acknowledging, is_one_of}
use Rattle.delivery_machine.specs.Producing.{storing, storing_below}
use Rattle.delivery_machine.specs.Joining.{joining}
use Rattle.delivery_machine.specs.Delivering.{holding}
use Rattle.delivery_machine.specs.Ticking.{redelivering, pending_positions}
use Rattle.delivery_machine.specs.Dying.{moving, first_safe}
use Rattle.delivery_machine.proofs.Behind.{IsIdle}
use Rattle.delivery_machine.proofs.Tended.{position_is}
use Rattle.delivery_machine.proofs.Tending.{part_retained, part_held_again, got_retained}
use Rattle.delivery_machine.proofs.Messages.{either_way}
use Rattle.machine_laws.proofs.InOrder.{is_pending_in, IsTakenFrom, taken_nothing, held_retained, live_acknowledged}

pub taken_acknowledged : (sub : Subscription) (positions : List Position) → IsTakenFrom sub (acknowledging positions sub)
taken_acknowledged sub positions = record {
  name = refl;
  kind = refl;
  stays = λ e. not (is_one_of positions e.position);
  live = live_acknowledged sub positions;
  held = λ e. held_retained sub.pending (λ p. not (is_one_of positions p)) e.position;
  part = part_retained sub.pending (λ p. not (is_one_of positions p));
}

-- ---- a dead letter that is moved

pub first_letter : (sub : Subscription) (letter : state.DeadLetter) → first_safe sub ≡ Some letter → (rest : List state.DeadLetter) × (sub.dead ≡ letter ∷ rest)
first_letter sub letter is = by (nat_lt 0 sub.safe) sub.dead is refl
  where
    by : (b : Bool) (dead : List state.DeadLetter) → cond b (slice_get dead 0) None ≡ Some letter → sub.dead ≡ dead → (rest : List state.DeadLetter) × (sub.dead ≡ letter ∷ rest)
    by true [] is e = cc
    by true (d ∷ rest) is e = let same : d ≡ letter = cc in (rest, e ∙ ap (λ z. z ∷ rest) same)
    by false dead is e = cc

pub taken_moved : (sub : Subscription) (letter : state.DeadLetter) → first_safe sub ≡ Some letter → IsTakenFrom sub (moving letter sub)
taken_moved sub letter is = record {
  name = refl;
  kind = refl;
  stays = λ e. not (is_one_of (letter.position ∷ []) e.position);
  live = live;
  held = λ e. held_retained sub.pending (λ p. not (is_one_of (letter.position ∷ []) p)) e.position;
  part = part_retained sub.pending (λ p. not (is_one_of (letter.position ∷ []) p));
}
  where
    found : (rest : List state.DeadLetter) × (sub.dead ≡ letter ∷ rest)
    found = first_letter sub letter is

    by : (a x y r : Bool) → x ≡ y → ((not a && not (y || r)) && not (x || false)) ≡ (not (a || (x || false)) && not r)
    by true x y r e = refl
    by false true true r e = refl
    by false false false true e = refl
    by false false false false e = refl
    by false true false r e = cc
    by false false true r e = cc

    live : (e : Entry) → is_live (moving letter sub) e ≡ (is_live sub e && not (is_one_of (letter.position ∷ []) e.position))
    live e =
        ap (λ b. not b && not (list_any (λ (d : state.DeadLetter). same_position d.position e.position) (drop 1 sub.dead)))
        (set.contains-union positions_total sub.acknowledged (set.from_list (letter.position ∷ [])) e.position
        ∙ ap (λ b. set.contains sub.acknowledged e.position || b) (set.contains-from_list positions_total (letter.position ∷ []) e.position))
        ∙ ap (λ (dead : List state.DeadLetter). not (set.contains sub.acknowledged e.position || (same_position e.position letter.position || false)) && not (list_any (λ (d : state.DeadLetter). same_position d.position e.position) (drop 1 dead))) (found.1)
        ∙ sym (by (set.contains sub.acknowledged e.position) (same_position e.position letter.position) (same_position letter.position e.position)
        (list_any (λ (d : state.DeadLetter). same_position d.position e.position) (found.0)) (either_way e.position letter.position))
        ∙ sym (ap (λ (dead : List state.DeadLetter). (not (set.contains sub.acknowledged e.position) && not (list_any (λ (d : state.DeadLetter). same_position d.position e.position) dead)) && not (is_one_of (letter.position ∷ []) e.position)) (found.1))

-- ---- what takes nothing

pub taken_joined : (sub : Subscription) (ranges : Option (List HashRange)) (consumer : ℕ) → IsTakenFrom sub (joining sub.kind ranges consumer sub)
taken_joined sub ranges consumer = taken_nothing sub (joining sub.kind ranges consumer sub) refl refl (λ e. refl) (λ e. refl) (λ p h is. (h, is, refl))

pub taken_stored : (sub : Subscription) → IsTakenFrom sub (storing sub)
taken_stored sub = taken_nothing sub (storing sub) refl refl (λ e. refl) (λ e. refl) (λ p h is. (h, is, refl))

pub taken_stored_to : (ordinal : ℕ) (sub : Subscription) → IsTakenFrom sub (storing_below ordinal sub)
taken_stored_to ordinal sub = taken_nothing sub (storing_below ordinal sub) refl refl (λ e. refl) (λ e. refl) (λ p h is. (h, is, refl))

-- a message that is pending at the consumer falls due at another moment
pub taken_held_again : (sub : Subscription) (p : Position) (held : Held) → is_held_by held.consumer (map_of.get sub.pending p) ≡ true → IsTakenFrom sub (holding p held sub)
taken_held_again sub p held was = taken_nothing sub (holding p held sub) refl refl (λ e. refl) still (part_held_again sub.pending p held was)
  where
    there : (o : Option Held) → is_held_by held.consumer o ≡ true → is_some o ≡ true
    there None e = cc
    there (Some h) e = refl

    by : (q : Position) (b : Bool) → same_position q p ≡ b → is_some (cond b (Some held) (map_of.get sub.pending q)) ≡ is_some (map_of.get sub.pending q)
    by q true e = sym (ap (λ z. is_some (map_of.get sub.pending z)) (position_is q p e) ∙ there (map_of.get sub.pending p) was)
    by q false e = refl

    still : (e : Entry) → is_pending_in (holding p held sub) e ≡ is_pending_in sub e
    still e = ap is_some (map_of.get-insert positions_total sub.pending p held e.position) ∙ by e.position (same_position e.position p) refl

-- ---- what takes everything

-- each pending message is one of those of the log
pub pending_listed : (s : State) (sub : Subscription) → ((p : Position) (h : Held) → map_of.get sub.pending p ≡ Some h → list_any (has_position p) s.log ≡ true) → (p : Position) (h : Held) → map_of.get sub.pending p ≡ Some h → is_one_of (pending_positions s sub) p ≡ true
pending_listed s sub in_log p h was =
    let there = Any-from_list_any (has_position p) s.log (in_log p h was) in
    listed s.log there.1 (there.0, there.2, there.3) (position_is there.1.position p there.4) (held there.1 (position_is there.1.position p there.4) was)
  where
    held : (e : Entry) → e.position ≡ p → map_of.get sub.pending p ≡ Some h → is_pending_in sub e ≡ true
    held e at got = ap (λ q. is_some (map_of.get sub.pending q)) at ∙ ap is_some got

    listed : (log : List Entry) (e : Entry) → Contains log e → e.position ≡ p → is_pending_in sub e ≡ true → is_one_of (map (λ (x : Entry). x.position) (filter (is_pending_in sub) log)) p ≡ true
    listed [] e at same pending = let below = at.1 in absurd (omega arith)
    listed (x ∷ log) e at same pending = by at.0 at.1 at.2 (λ later. listed log e later same pending)
      where
        here : same_position p p ≡ true
        here = (Equal-is (position_cmp p p)).1 (tied_itself positions_total p)

        either : (b : Bool) (rest : List Position) → is_one_of rest p ≡ true → is_one_of (cond b (x.position ∷ rest) rest) p ≡ true
        either true rest t = by_test (same_position p x.position) t
          where
            by_test : (c : Bool) → is_one_of rest p ≡ true → (c || is_one_of rest p) ≡ true
            by_test true t = refl
            by_test false t = t
        either false rest t = t

        split_at : (b : Bool) → map (λ (y : Entry). y.position) (cond b (x ∷ filter (is_pending_in sub) log) (filter (is_pending_in sub) log)) ≡ cond b (x.position ∷ map (λ (y : Entry). y.position) (filter (is_pending_in sub) log)) (map (λ (y : Entry). y.position) (filter (is_pending_in sub) log))
        split_at true = refl
        split_at false = refl

        by : (k : ℕ) → k < length (x ∷ log) → get_or (x ∷ log) k e ≡ e → (Contains log e → is_one_of (map (λ (y : Entry). y.position) (filter (is_pending_in sub) log)) p ≡ true)
            → is_one_of (map (λ (y : Entry). y.position) (filter (is_pending_in sub) (x ∷ log))) p ≡ true
        by zero below is rest =
            ap (λ b. is_one_of (map (λ (y : Entry). y.position) (cond b (x ∷ filter (is_pending_in sub) log) (filter (is_pending_in sub) log))) p) (ap (is_pending_in sub) is ∙ pending)
            ∙ ap (λ b. b || is_one_of (map (λ (y : Entry). y.position) (filter (is_pending_in sub) log)) p) (ap (same_position p) (ap (λ (z : Entry). z.position) is ∙ same) ∙ here)
        by (suc k) below is rest =
            ap (λ ps. is_one_of ps p) (split_at (is_pending_in sub x)) ∙ either (is_pending_in sub x) _ (rest (k, omega arith, is))

-- all pending messages of the log are redelivered
pub idle_redelivered : (s : State) (sub : Subscription) → ((p : Position) (h : Held) → map_of.get sub.pending p ≡ Some h → list_any (has_position p) s.log ≡ true) → IsIdle (redelivering (pending_positions s sub) sub)
idle_redelivered s sub in_log p h is =
    let was = got_retained sub.pending (λ q. not (is_one_of (pending_positions s sub) q)) p h is in
    true≢false (sym was.0 ∙ ap not (pending_listed s sub in_log p h was.1))
