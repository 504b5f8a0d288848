-- Messages that stay, to which the definitions are held.
use Rattle.std.proofs.Common.{◌≡◌, ℕ, ◌+◌, List, [], ◌∷◌, length, Bool, true, false, cond, refl, sym, arith}
use Rattle.std.specs.Prelude.{◌&&◌, not}
use Rattle.std.specs.FinSet as set
use Rattle.std.specs.FinMap as map_of
use Rattle.std.proofs.lemmas.Bool.{false≢true}
use Rattle.position_core.specs.declared.message.Entry.{Entry}
use Rattle.delivery_machine.specs.State.{State, Subscription}
use Rattle.delivery_machine.specs.Trimming.{free_at_front, going, is_done_with}
use Rattle.delivery_machine.specs.Words.{is_dead}
use Rattle.topic_subscriptions.specs.Done.{done_by, done_by_all}

last_that_may_go_stays : (s : State) (keep before most : ℕ) → free_at_front s before ≡ 64 → going s keep before most ≡ 0
last_that_may_go_stays s keep before most free = omega (arith, free)

those_before_it_go : (s : State) (before : ℕ) → free_at_front s before ≡ 65 → length s.log ≡ 65 → s.gone ≡ 0 → going s 0 before 64 ≡ 64
those_before_it_go s before free many none = omega (arith, free, many, none)

message_of_a_dead_letter_stays : (e : Entry) (log : List Entry) (sub : Subscription) → is_dead sub e.position ≡ true → done_by sub (e ∷ log) ≡ 0
message_of_a_dead_letter_stays e log sub = by (set.contains sub.acknowledged e.position) (map_of.contains_key sub.pending e.position) (is_dead sub e.position)
  where
    by : (a b c : Bool) → c ≡ true → cond (a && not b && not c) (1 + done_by sub log) 0 ≡ 0
    by true true true dead = refl
    by true false true dead = refl
    by false b true dead = refl
    by a b false dead = absurd (false≢true dead)

what_one_has_not_acknowledged_stays : (e : Entry) (log : List Entry) (one other : Subscription) → set.contains other.acknowledged e.position ≡ false → done_by_all (one ∷ other ∷ []) (e ∷ log) ≡ 0
what_one_has_not_acknowledged_stays e log one other = by (is_done_with e one) (set.contains other.acknowledged e.position)
  where
    by : (a b : Bool) → b ≡ false → cond (a && (b && not (map_of.contains_key other.pending e.position) && not (is_dead other e.position) && true)) (1 + done_by_all (one ∷ other ∷ []) log) 0 ≡ 0
    by true true missing = absurd (false≢true (sym missing))
    by true false missing = refl
    by false b missing = refl
