-- The next waiting message, as the log is gone through.
use Rattle.std.proofs.Common.{◌≡◌, ℕ, ◌+◌, ◌<◌, ◌≤◌, inl, inr, true, false, Option, get_or, length, ap, ◌∙◌, sym, arith}
use Rattle.std.specs.Option.{option_map_or}
use Rattle.std.proofs.lemmas.Bool.{false≢true, cases_lt}
use Rattle.std.proofs.lemmas.List.{length-take}
use Rattle.std.proofs.lemmas.Option.{slice_get-get_or}
use Rattle.position_core.specs.declared.message.Entry.{Entry}
use Rattle.delivery_machine.specs.State.{State, Subscription}
use Rattle.delivery_machine.specs.Words.{is_waiting, visible}
use Rattle.dispatch_core.specs.Log.{waits_at, IsReadyAt, IsNextReady}

waits_at-log : (s : State) (sub : Subscription) (i : ℕ) (d : Entry) → i < length s.log → waits_at s sub i ≡ is_waiting sub (get_or s.log i d)
unfolding waits_at
waits_at-log s sub i d within = ap (λ (o : Option Entry). option_map_or (is_waiting sub) o false) (slice_get-get_or s.log i d within)

within_log : (s : State) (i : ℕ) → i < length (visible s) → i < length s.log
within_log s i seen = let l = length-take s.durable s.log in omega arith

pub next_found : (s : State) (sub : Subscription) (from i : ℕ) (d : Entry) → from ≤ i → i < length (visible s) → true ≡ is_waiting sub (get_or s.log i d) → ((k : ℕ) → from ≤ k → k < i → IsReadyAt s sub k → ⊥) → IsNextReady s sub from i
next_found s sub from i d after seen waits none = record {
  after = after;
  ready = record { seen = seen; waits = waits_at-log s sub i d (within_log s i seen) ∙ sym waits };
  least = λ k past ready. elim (cases_lt k i) [ inl before ↦ absurd (none k past before ready) | inr not_before ↦ not_before ];
}

pub passed_over : (s : State) (sub : Subscription) (from i : ℕ) (d : Entry) → i < length (visible s) → false ≡ is_waiting sub (get_or s.log i d) → ((k : ℕ) → from ≤ k → k < i → IsReadyAt s sub k → ⊥) → (k : ℕ) → from ≤ k → k < i + 1 → IsReadyAt s sub k → ⊥
passed_over s sub from i d seen waits none k past below ready =
    elim (cases_lt k i) [
      | inl before ↦ none k past before ready
      | inr not_before ↦
          let is : i ≡ k = omega arith in
          false≢true (waits ∙ sym (waits_at-log s sub i d (within_log s i seen)) ∙ ap (waits_at s sub) is ∙ ready.waits)
    ]
