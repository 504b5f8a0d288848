-- The limits stay where a subscription or a member changes.
use Rattle.std.proofs.Common.{◌≡◌, ℕ, ◌+◌, List, [], ◌∷◌, map, take, Some, Option, Bool, true, false, refl, sym, subst, arith}
use Rattle.std.specs.Prelude.{if◌then◌else◌}
use Rattle.std.specs.List.{All, find}
use Rattle.std.proofs.lemmas.List.Elements.{All-drop, All-push}
use Rattle.position_core.specs.declared.held.Held.{Held}
use Rattle.position_core.specs.declared.position.Position.{Position}
use Rattle.delivery_machine.specs.State.{Member, State, Subscription}
use Rattle.delivery_machine.specs.State as state
use Rattle.delivery_machine.specs.Words.{changed, emptied, emptied_at, is_at, is_named, removed}
use Rattle.delivery_machine.specs.Acknowledging.{acknowledging, forgetting, with_acknowledged, without}
use Rattle.delivery_machine.specs.Delivering.{holding}
use Rattle.delivery_machine.specs.Dying.{burying, died, letter_of, moved, moving}
use Rattle.delivery_machine.specs.Joining.{all_released, is_taken_over, releasing_all, taken_over}
use Rattle.delivery_machine.specs.Seeking.{seeking, sought}
use Rattle.delivery_machine.specs.Ticking.{redelivered, redelivering}
use Rattle.delivery_machine.proofs.Keyed.{kept_if, keys_changed, keys_mapped}
use Rattle.machine_laws.proofs.Named.{AreNamed, found_left}
use Rattle.machine_laws.proofs.WellKept.{storing_so}
use Rattle.row_reading.proofs.Limits.{AreSeated, IsLetterWithin, KeepsLimits, length_removed, seated_changed, seated_mapped, will_of, wills}

-- ---- one subscription is changed, and its members keep their wills

pub record IsChange (s : State) (n : List ℕ) (f : Subscription → Subscription) (members : List Member) : Type 0 where
  pub name : (sub : Subscription) → (f sub).name ≡ sub.name
  pub kind : (sub : Subscription) → (f sub).kind ≡ sub.kind
  pub letters : (sub : Subscription) → find (is_named n) s.subscriptions ≡ Some sub → All (IsLetterWithin s.name) sub.dead → All (IsLetterWithin s.name) (f sub).dead
  pub wills : wills members ≡ wills s.members

pub limits_changed : (s : State) (n : List ℕ) (f : Subscription → Subscription) (members : List Member) (next : ℕ) → IsChange s n f members → KeepsLimits s
    → KeepsLimits (record s { subscriptions = changed (is_named n) f s.subscriptions; members = members; next_ordinal = next })
limits_changed s n f members next change keeps = record {
  size = keeps.size;
  authors = keeps.authors;
  rule = keeps.rule;
  log = keeps.log;
  producers = keeps.producers;
  seated = subst (λ all. AreSeated s.name all (changed (is_named n) f s.subscriptions)) (sym change.wills)
      (seated_changed s.name (wills s.members) n f s.subscriptions change.name change.kind change.letters keeps.seated);
}

module _ (s : State) (n : List ℕ) where
  wills_forgotten : (positions : List Position) → wills (map (forgetting n positions) s.members) ≡ wills s.members
  wills_forgotten positions = keys_mapped will_of (forgetting n positions) (λ m. kept_if will_of (is_at n m) m (record m { out = without positions m.out }) refl) s.members

  wills_emptied : wills (map (emptied_at n) s.members) ≡ wills s.members
  wills_emptied = keys_mapped will_of (emptied_at n) (λ m. kept_if will_of (is_at n m) m (emptied m) refl) s.members

  pub limits_acknowledged : (positions : List Position) → KeepsLimits s → KeepsLimits (with_acknowledged s n positions)
  limits_acknowledged positions keeps =
      limits_changed s n (acknowledging positions) (map (forgetting n positions) s.members) s.next_ordinal
      (record { name = λ _. refl; kind = λ _. refl; letters = λ _ _ all. all; wills = wills_forgotten positions }) keeps

  pub limits_redelivered : (positions : List Position) → KeepsLimits s → KeepsLimits (redelivered s n positions)
  limits_redelivered positions keeps =
      limits_changed s n (redelivering positions) (map (forgetting n positions) s.members) s.next_ordinal
      (record { name = λ _. refl; kind = λ _. refl; letters = λ _ _ all. all; wills = wills_forgotten positions }) keeps

  pub limits_sought : (count : ℕ) → KeepsLimits s → KeepsLimits (sought s n count)
  limits_sought count keeps =
      limits_changed s n (seeking (take count s.log)) (map (emptied_at n) s.members) s.next_ordinal
      (record { name = λ _. refl; kind = λ _. refl; letters = λ _ _ all. all; wills = wills_emptied }) keeps

  limits_released : KeepsLimits s → KeepsLimits (all_released n s)
  limits_released keeps =
      limits_changed s n releasing_all (map (emptied_at n) s.members) s.next_ordinal
      (record { name = λ _. refl; kind = λ _. refl; letters = λ _ _ all. all; wills = wills_emptied }) keeps

  pub limits_taken_over : (before : Option ℕ) → KeepsLimits s → KeepsLimits (taken_over n before s)
  limits_taken_over before keeps = by (is_taken_over n before s)
    where
      by : (b : Bool) → KeepsLimits (if b then all_released n s else s)
      by true = limits_released keeps
      by false = keeps

  pub limits_held : (position : Position) (held : Held) (q : Member → Bool) (f : Member → Member) → ((m : Member) → will_of (f m) ≡ will_of m) → KeepsLimits s
      → KeepsLimits (record s { subscriptions = changed (is_named n) (holding position held) s.subscriptions; members = changed q f s.members })
  limits_held position held q f same keeps =
      limits_changed s n (holding position held) (changed q f s.members) s.next_ordinal
      (record { name = λ _. refl; kind = λ _. refl; letters = λ _ _ all. all; wills = keys_changed will_of q f same s.members }) keeps

  pub limits_nacked : (position : Position) (held : Held) → KeepsLimits s → KeepsLimits (record s { subscriptions = changed (is_named n) (holding position held) s.subscriptions })
  limits_nacked position held keeps =
      limits_changed s n (holding position held) s.members s.next_ordinal
      (record { name = λ _. refl; kind = λ _. refl; letters = λ _ _ all. all; wills = refl }) keeps

  -- a letter more, which goes elsewhere
  pub limits_died : (position : Position) (m : Member) → IsLetterWithin s.name (letter_of s position m) → KeepsLimits s → KeepsLimits (died s n position m)
  limits_died position m letter keeps =
      limits_changed s n (burying (letter_of s position m)) (map (forgetting n (position ∷ [])) s.members) (s.next_ordinal + 1)
      (record {
        name = λ _. refl;
        kind = λ _. refl;
        letters = λ sub _ all. All-push (IsLetterWithin s.name) sub.dead (letter_of s position m) all letter;
        wills = wills_forgotten (position ∷ []);
      }) keeps

  pub limits_moved : (letter : state.DeadLetter) → KeepsLimits s → KeepsLimits (moved s n letter)
  limits_moved letter keeps =
      limits_changed s n (moving letter) (map (forgetting n (letter.position ∷ [])) s.members) s.next_ordinal
      (record { name = λ _. refl; kind = λ _. refl; letters = λ sub _ all. All-drop (IsLetterWithin s.name) 1 sub.dead all; wills = wills_forgotten (letter.position ∷ []) }) keeps

-- ---- all subscriptions, and members

pub limits_stored : (s : State) (safe : Subscription → ℕ) (durable : ℕ) → KeepsLimits s
    → KeepsLimits (record s { durable = durable; subscriptions = map (storing_so safe) s.subscriptions })
limits_stored s safe durable keeps = record {
  size = keeps.size;
  authors = keeps.authors;
  rule = keeps.rule;
  log = keeps.log;
  producers = keeps.producers;
  seated = seated_mapped s.name (wills s.members) (storing_so safe) s.subscriptions (λ _. refl) (λ _. refl) (λ _. refl) keeps.seated;
}

pub limits_members : (s : State) (q : Member → Bool) (f : Member → Member) → ((m : Member) → will_of (f m) ≡ will_of m) → KeepsLimits s → KeepsLimits (record s { members = changed q f s.members })
limits_members s q f same keeps = record {
  size = keeps.size;
  authors = keeps.authors;
  rule = keeps.rule;
  log = keeps.log;
  producers = keeps.producers;
  seated = subst (λ all. AreSeated s.name all s.subscriptions) (sym (keys_changed will_of q f same s.members)) keeps.seated;
}

-- a subscription goes
pub limits_dropped : (s : State) (n : List ℕ) → AreNamed s.subscriptions → KeepsLimits s → KeepsLimits (record s { subscriptions = removed (is_named n) s.subscriptions })
limits_dropped s n named keeps = record {
  size = keeps.size;
  authors = keeps.authors;
  rule = keeps.rule;
  log = keeps.log;
  producers = keeps.producers;
  seated = record {
    few = let fewer = length_removed (is_named n) s.subscriptions in omega (arith, fewer, keeps.seated.few);
    targets = keeps.seated.targets;
    each = λ name sub found. keeps.seated.each name sub (found_left name n s.subscriptions sub named found).0;
  };
}
