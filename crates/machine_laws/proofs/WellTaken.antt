-- What is well kept stays so where messages are taken out of a subscription, and where one is sent.
use Rattle.std.proofs.Common.{◌≡◌, ℕ, ◌+◌, ◌<◌, List, [], ◌∷◌, map, take, Some, Option, Bool, true, false, cond, refl, ap, ◌∙◌, subst, arith}
use Rattle.std.specs.Prelude.{◌^◌, ◌==◌, if◌then◌else◌}
use Rattle.std.specs.List.{find}
use Rattle.std.specs.FinMap as map_of
use Rattle.position_core.specs.declared.position.Position.{Position}
use Rattle.position_core.specs.declared.held.Held.{Held}
use Rattle.delivery_machine.specs.State.{State, Member, Subscription}
use Rattle.delivery_machine.specs.State as state
use Rattle.delivery_machine.specs.Words.{changed, is_named, is_at, emptied, emptied_at}
use Rattle.delivery_machine.specs.Joining.{releasing_all, all_released, is_taken_over, taken_over}
use Rattle.delivery_machine.specs.Acknowledging.{acknowledging, with_acknowledged, forgetting, is_one_of, without}
use Rattle.delivery_machine.specs.Ticking.{redelivering, redelivered}
use Rattle.delivery_machine.specs.Seeking.{seeking, sought}
use Rattle.delivery_machine.specs.Dying.{burying, letter_of, died, first_safe, moving, moved}
use Rattle.delivery_machine.specs.WellFormed.{has_message}
use Rattle.delivery_machine.proofs.Firsts.{found_contained}
use Rattle.delivery_machine.proofs.Sending.{taken_contained}
use Rattle.delivery_machine.proofs.Tended.{some_is}
use Rattle.delivery_machine.proofs.Keyed.{keys_mapped, kept_if}
use Rattle.machine_laws.proofs.Ordinals.{times_append, times_dropped, among_changed, once_more, below_next}
use Rattle.machine_laws.proofs.Formed.{ArePending, formed_acknowledging, formed_redelivering, formed_burying, formed_moving, formed_seeking, formed_released}
use Rattle.machine_laws.proofs.Uncollected.{uncollected_taken, uncollected_emptied}
use Rattle.machine_laws.proofs.WellKept.{IsWellKept, well_changed, ordinals_stay, letters, numbers_of, names_of}

-- the positions are of messages of the log
abbrev pub AreLogged : State → List Position → Type 0
AreLogged s positions = (p : Position) → is_one_of positions p ≡ true → has_message s.log p ≡ true

-- ---- members that forget what they were sent

abbrev number : Member → ℕ
number m = m.number

abbrev name_of : Member → List ℕ
name_of m = m.subscription

module _ (s : State) (n : List ℕ) where
  forgotten_numbers : (positions : List Position) → numbers_of (map (forgetting n positions) s.members) ≡ numbers_of s.members
  forgotten_numbers positions = keys_mapped number (forgetting n positions) (λ m. kept_if number (is_at n m) m (record m { out = without positions m.out }) refl) s.members

  forgotten_names : (positions : List Position) → names_of (map (forgetting n positions) s.members) ≡ names_of s.members
  forgotten_names positions = keys_mapped name_of (forgetting n positions) (λ m. kept_if name_of (is_at n m) m (record m { out = without positions m.out }) refl) s.members

  emptied_numbers : numbers_of (map (emptied_at n) s.members) ≡ numbers_of s.members
  emptied_numbers = keys_mapped number (emptied_at n) (λ m. kept_if number (is_at n m) m (emptied m) refl) s.members

  emptied_names : names_of (map (emptied_at n) s.members) ≡ names_of s.members
  emptied_names = keys_mapped name_of (emptied_at n) (λ m. kept_if name_of (is_at n m) m (emptied m) refl) s.members

  -- ---- messages are taken out

  pub well_acknowledged : (positions : List Position) → AreLogged s positions → IsWellKept s → IsWellKept (with_acknowledged s n positions)
  well_acknowledged positions there well =
      well_changed s n (acknowledging positions) (map (forgetting n positions) s.members) s.next_ordinal
      (record {
        name = λ _. refl;
        formed = λ sub _. formed_acknowledging s.log s.durable positions sub there;
        numbers = forgotten_numbers positions;
        names = forgotten_names positions;
        ordinals = ordinals_stay s.next_ordinal n (acknowledging positions) s.subscriptions (λ k sub. omega arith) well.ordinals;
        uncollected = uncollected_taken s.log s.members s.subscriptions n positions (acknowledging positions) (λ _. refl) (λ _. refl) well.uncollected;
      }) well

  -- messages that are pending wait again
  pub well_redelivered : (sub : Subscription) (positions : List Position) → find (is_named n) s.subscriptions ≡ Some sub → ArePending sub positions → IsWellKept s → IsWellKept (redelivered s n positions)
  well_redelivered sub positions found pending well =
      well_changed s n (redelivering positions) (map (forgetting n positions) s.members) s.next_ordinal
      (record {
        name = λ _. refl;
        formed = λ other there. formed_redelivering s.log s.durable positions other (subst (λ (z : Subscription). ArePending z positions) (some_is _ sub other found there) pending);
        numbers = forgotten_numbers positions;
        names = forgotten_names positions;
        ordinals = ordinals_stay s.next_ordinal n (redelivering positions) s.subscriptions (λ k sub. omega arith) well.ordinals;
        uncollected = uncollected_taken s.log s.members s.subscriptions n positions (redelivering positions) (λ _. refl) (λ _. refl) well.uncollected;
      }) well

  -- a message that is pending dies
  pub well_died : (sub : Subscription) (position : Position) (held : Held) (m : Member) → find (is_named n) s.subscriptions ≡ Some sub → map_of.get sub.pending position ≡ Some held → s.next_ordinal < 2 ^ 62 → IsWellKept s → IsWellKept (died s n position m)
  well_died sub position held m found pending room well =
      well_changed s n (burying letter) (map (forgetting n (position ∷ [])) s.members) (s.next_ordinal + 1)
      (record {
        name = λ _. refl;
        formed = λ other there.
            formed_burying s.log s.durable letter held other (ap (λ (z : Subscription). map_of.get z.pending position) (some_is _ other sub there found) ∙ pending)
            (below_next letters s.next_ordinal s.subscriptions other (found_contained (is_named n) s.subscriptions other there) well.ordinals);
        numbers = forgotten_numbers (position ∷ []);
        names = forgotten_names (position ∷ []);
        ordinals = once_more letters s.next_ordinal s.subscriptions (changed (is_named n) (burying letter) s.subscriptions) room
            (λ k. among_changed letters k (cond {A = ℕ} (s.next_ordinal == k) 1 0) (is_named n) (burying letter) (λ other. let more = times_append k other.dead (letter ∷ []) in omega arith) s.subscriptions) well.ordinals;
        uncollected = uncollected_taken s.log s.members s.subscriptions n (position ∷ []) (burying letter) (λ _. refl) (λ _. refl) well.uncollected;
      }) well
    where
      letter : state.DeadLetter
      letter = letter_of s position m

  pub well_moved : (sub : Subscription) (letter : state.DeadLetter) → find (is_named n) s.subscriptions ≡ Some sub → first_safe sub ≡ Some letter → IsWellKept s → IsWellKept (moved s n letter)
  well_moved sub letter found first well =
      well_changed s n (moving letter) (map (forgetting n (letter.position ∷ [])) s.members) s.next_ordinal
      (record {
        name = λ _. refl;
        formed = λ other there. formed_moving s.log s.durable letter other (ap first_safe (some_is _ other sub there found) ∙ first);
        numbers = forgotten_numbers (letter.position ∷ []);
        names = forgotten_names (letter.position ∷ []);
        ordinals = ordinals_stay s.next_ordinal n (moving letter) s.subscriptions (λ k sub. times_dropped k sub.dead) well.ordinals;
        uncollected = uncollected_taken s.log s.members s.subscriptions n (letter.position ∷ []) (moving letter) (λ _. refl) (λ _. refl) well.uncollected;
      }) well

  -- ---- everything is taken out

  pub well_sought : (count : ℕ) → IsWellKept s → IsWellKept (sought s n count)
  well_sought count well =
      well_changed s n (seeking (take count s.log)) (map (emptied_at n) s.members) s.next_ordinal
      (record {
        name = λ _. refl;
        formed = λ sub _. formed_seeking s.log s.durable (take count s.log) sub (λ e. taken_contained count s.log e);
        numbers = emptied_numbers;
        names = emptied_names;
        ordinals = ordinals_stay s.next_ordinal n (seeking (take count s.log)) s.subscriptions (λ k sub. omega arith) well.ordinals;
        uncollected = uncollected_emptied s.log s.members s.subscriptions n (seeking (take count s.log)) (λ _. refl) well.uncollected;
      }) well

  pub well_released : IsWellKept s → IsWellKept (all_released n s)
  well_released well =
      well_changed s n releasing_all (map (emptied_at n) s.members) s.next_ordinal
      (record {
        name = λ _. refl;
        formed = λ sub _. formed_released s.log s.durable sub;
        numbers = emptied_numbers;
        names = emptied_names;
        ordinals = ordinals_stay s.next_ordinal n releasing_all s.subscriptions (λ k sub. omega arith) well.ordinals;
        uncollected = uncollected_emptied s.log s.members s.subscriptions n releasing_all (λ _. refl) well.uncollected;
      }) well

  pub well_taken_over : (before : Option ℕ) → IsWellKept s → IsWellKept (taken_over n before s)
  well_taken_over before well = by (is_taken_over n before s)
    where
      by : (b : Bool) → IsWellKept (if b then all_released n s else s)
      by true = well_released well
      by false = well
