-- What a subscription in which the order is kept has: what is pending is the first of what is live, and is at the active member.
use Rattle.std.proofs.Common.{◌≡◌, ℕ, ◌≤◌, List, [], ◌∷◌, Some, None, Option, Bool, true, false, cond, refl, ap, ◌∙◌, sym, subst, ap₂}
use Rattle.std.specs.Prelude.{not, ◌&&◌, ◌||◌, is_some}
use Rattle.std.specs.List.{list_any}
use Rattle.std.specs.FinSet as set
use Rattle.std.specs.FinMap as map_of
use Rattle.position_core.specs.declared.position.Position.{Position}
use Rattle.position_core.specs.declared.message.Entry.{Entry}
use Rattle.position_core.specs.declared.held.Held.{Held}
use Rattle.position_core.specs.declared.kind.Kind.TheVariants.{Exclusive}
use Rattle.position_core.specs.Kind.{is_in_order}
use Rattle.position_core.specs.Position.{position_cmp, same_position, positions_total, exact_positions}
use Rattle.delivery_machine.specs.State.{Subscription, Member}
use Rattle.delivery_machine.specs.State as state
use Rattle.delivery_machine.specs.Words.{is_live}
use Rattle.delivery_machine.specs.Acknowledging.{acknowledging, is_one_of}
use Rattle.delivery_machine.proofs.Behind.{IsIdle}
use Rattle.delivery_machine.proofs.Tended.{IsPartOf}
use Rattle.delivery_machine.proofs.HeldFirst.{is_ordered, ordered_none, ordered_part}
use Rattle.machine_laws.proofs.Ranks.{KeepsRanks, active_number, seats_at, same_active, same_seats}

abbrev pub is_pending_in : Subscription → Entry → Bool
is_pending_in sub e = map_of.contains_key sub.pending e.position

pub record IsOrderly (log : List Entry) (durable : ℕ) (members : List Member) (sub : Subscription) : Type 0 where
  pub leads : is_ordered (is_live sub) (is_pending_in sub) durable log ≡ true
  pub at_active : (p : Position) (h : Held) → map_of.get sub.pending p ≡ Some h → active_number members sub.name ≡ Some h.consumer
  pub alone : sub.kind ≡ Exclusive → seats_at members sub.name ≤ 1

abbrev pub IsOrderlyIn : List Entry → ℕ → List Member → Subscription → Type 0
IsOrderlyIn log durable members sub = is_in_order sub.kind ≡ true → IsOrderly log durable members sub

-- ---- where nothing is pending

pub unheld : (sub : Subscription) → IsIdle sub → (e : Entry) → is_pending_in sub e ≡ false
unheld sub idle e = by (map_of.get sub.pending e.position) (idle e.position)
  where
    by : (o : Option Held) → ((h : Held) → o ≡ Some h → ⊥) → is_some o ≡ false
    by None none = refl
    by (Some h) none = absurd (none h refl)

pub none_held : (sub : Subscription) → IsIdle sub → (log : List Entry) → list_any (is_pending_in sub) log ≡ false
none_held sub idle [] = refl
none_held sub idle (e ∷ log) = ap₂ (λ a b. a || b) (unheld sub idle e) (none_held sub idle log)

pub leads_idle : (log : List Entry) (durable : ℕ) (sub : Subscription) → IsIdle sub → is_ordered (is_live sub) (is_pending_in sub) durable log ≡ true
leads_idle log durable sub idle = ordered_none (is_live sub) (is_pending_in sub) durable log (none_held sub idle log)

pub orderly_idle : (log : List Entry) (durable : ℕ) (members : List Member) (sub : Subscription) → IsIdle sub → (sub.kind ≡ Exclusive → seats_at members sub.name ≤ 1) → IsOrderly log durable members sub
orderly_idle log durable members sub idle alone = record { leads = leads_idle log durable sub idle; at_active = λ p h is. absurd (idle p h is); alone = alone }

-- ---- where messages are taken away, and members keep their ranks

-- by a test of messages, some are neither live nor pending any longer
pub record IsTakenFrom (old new : Subscription) : Type 0 where
  pub name : new.name ≡ old.name
  pub kind : new.kind ≡ old.kind
  pub stays : Entry → Bool
  pub live : (e : Entry) → is_live new e ≡ (is_live old e && stays e)
  pub held : (e : Entry) → is_pending_in new e ≡ (is_pending_in old e && stays e)
  pub part : IsPartOf new.pending old.pending

pub orderly_taken : (log : List Entry) (durable : ℕ) (before after : List Member) (old new : Subscription) → IsTakenFrom old new → KeepsRanks before after → IsOrderlyIn log durable before old → IsOrderlyIn log durable after new
orderly_taken log durable before after old new taken same was order =
    let old_one = was (sym (ap is_in_order taken.kind) ∙ order) in
    record {
      leads = ordered_part (is_live old) (is_pending_in old) (is_live new) (is_pending_in new) taken.stays taken.live taken.held durable log old_one.leads;
      at_active = λ p h is.
          let at = taken.part p h is in
          same_active before after new.name same ∙ ap (active_number before) taken.name ∙ old_one.at_active p at.0 at.1 ∙ ap Some at.2;
      alone = λ exclusive.
          subst (λ (n : ℕ). n ≤ 1) (sym (same_seats before after new.name same ∙ ap (seats_at before) taken.name)) (old_one.alone (sym taken.kind ∙ exclusive));
    }

-- ---- what is taken

all_stay : (b : Bool) → b ≡ (b && true)
all_stay true = refl
all_stay false = refl

-- where what is live and what is pending stays
pub taken_nothing : (old new : Subscription) → new.name ≡ old.name → new.kind ≡ old.kind → ((e : Entry) → is_live new e ≡ is_live old e) → ((e : Entry) → is_pending_in new e ≡ is_pending_in old e) → IsPartOf new.pending old.pending → IsTakenFrom old new
taken_nothing old new name kind live held part = record {
  name = name;
  kind = kind;
  stays = λ e. true;
  live = λ e. live e ∙ all_stay (is_live old e);
  held = λ e. held e ∙ all_stay (is_pending_in old e);
  part = part;
}

pub held_retained : {X : Type 0} (kept : map_of.FinMap position_cmp X) (keeps : Position → Bool) (p : Position) → map_of.contains_key (map_of.retain_keys kept keeps) p ≡ (map_of.contains_key kept p && keeps p)
held_retained {X} kept keeps p =
    ap is_some (map_of.get-retain_keys kept keeps p (λ x t. ap keeps (sym (exact_positions p x t)))) ∙ by (keeps p) (map_of.get kept p)
  where
    by : (b : Bool) (o : Option X) → is_some (cond b o None) ≡ (is_some o && b)
    by true None = refl
    by true (Some h) = refl
    by false None = refl
    by false (Some h) = refl

pub live_acknowledged : (sub : Subscription) (positions : List Position) (e : Entry) → is_live (acknowledging positions sub) e ≡ (is_live sub e && not (is_one_of positions e.position))
live_acknowledged sub positions e =
    ap (λ b. not b && dead) (set.contains-union positions_total sub.acknowledged (set.from_list positions) e.position)
    ∙ ap (λ b. not (set.contains sub.acknowledged e.position || b) && dead) (set.contains-from_list positions_total positions e.position)
    ∙ by (set.contains sub.acknowledged e.position) (is_one_of positions e.position) dead
  where
    dead : Bool
    dead = not (list_any (λ (d : state.DeadLetter). same_position d.position e.position) sub.dead)

    by : (a b d : Bool) → (not (a || b) && d) ≡ ((not a && d) && not b)
    by true b d = refl
    by false true true = refl
    by false true false = refl
    by false false true = refl
    by false false false = refl
