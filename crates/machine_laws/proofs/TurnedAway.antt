-- A consumer that is turned away, by the first test that fails and never for lack of memory, and one that is let in.
use Rattle.std.proofs.Common.{◌≡◌, ◌^◌, ◌<◌, ℕ, List, Bool, true, false, Option, Some, None, refl, subst, arith}
use Rattle.std.specs.Prelude.{not, ◌&&◌, nat_lt, nat_le, length, if◌then◌else◌}
use Rattle.std.proofs.lemmas.Bool.Decides.{nat_tests}
use Rattle.position_core.specs.declared.topic_name.TopicName.{TopicName}
use Rattle.position_core.specs.declared.flow.Flow.{Flow}
use Rattle.position_core.specs.declared.kind.Kind.{Kind}
use Rattle.position_core.specs.declared.kind.Kind.TheVariants.{Exclusive}
use Rattle.position_core.specs.declared.ranges.HashRange.{HashRange}
use Rattle.position_core.specs.declared.fault.Fault.{Fault}
use Rattle.position_core.specs.declared.fault.Fault.TheVariants.{WrongKind, ConsumerBusy, MixedPolicy, HashOverlap, TooMany, DeadLetterSelf}
use Rattle.position_core.specs.Kind.{same_kind}
use Rattle.delivery_machine.specs.State.{State}
use Rattle.delivery_machine.specs.Words.{members_of, has_kind, has_subscription}
use Rattle.delivery_machine.specs.Refusals.{subscribing_refused, mixes_policies, overlaps, is_used_up, dies_into_itself}
use Rattle.delivery_machine.specs.Run.{Answers}
use Rattle.delivery_machine.specs.declared.event.Initial.{Initial}
use Rattle.delivery_machine.specs.declared.event.Event.TheVariants.{Subscribe}
use Rattle.delivery_machine.specs.declared.reply.Reply.TheVariants.{Refused}

-- the tests in their order
abbrev first_of : Bool → Bool → Bool → Bool → Bool → Bool → Bool → Bool → Option Fault
first_of a b m o c d e f =
    if a then Some WrongKind
    else if b then Some ConsumerBusy
    else if m then Some MixedPolicy
    else if o then Some HashOverlap
    else if c then Some TooMany
    else if d then Some TooMany
    else if e then Some TooMany
    else if f then Some DeadLetterSelf
    else None

some_is : (x y : Fault) → ◌≡◌ {A = Option Fault} (Some x) (Some y) → x ≡ y
some_is x y e = cc

-- what holds of each of the faults holds of the one that is answered
one_of_these : (P : Fault → Type 0) (a b m o c d e f : Bool) (fault : Fault) → first_of a b m o c d e f ≡ Some fault
    → P WrongKind → P ConsumerBusy → P MixedPolicy → P HashOverlap → P TooMany → P DeadLetterSelf → P fault
one_of_these P true b m o c d e f fault is wrong busy mixed overlap many itself = subst P (some_is _ _ is) wrong
one_of_these P false true m o c d e f fault is wrong busy mixed overlap many itself = subst P (some_is _ _ is) busy
one_of_these P false false true o c d e f fault is wrong busy mixed overlap many itself = subst P (some_is _ _ is) mixed
one_of_these P false false false true c d e f fault is wrong busy mixed overlap many itself = subst P (some_is _ _ is) overlap
one_of_these P false false false false true d e f fault is wrong busy mixed overlap many itself = subst P (some_is _ _ is) many
one_of_these P false false false false false true e f fault is wrong busy mixed overlap many itself = subst P (some_is _ _ is) many
one_of_these P false false false false false false true f fault is wrong busy mixed overlap many itself = subst P (some_is _ _ is) many
one_of_these P false false false false false false false true fault is wrong busy mixed overlap many itself = subst P (some_is _ _ is) itself
one_of_these P false false false false false false false false fault is wrong busy mixed overlap many itself = cc

-- where none fails, of those that say something of a consumer that is let in
record NonePasses (a m o c e : Bool) : Type 0 where
  kind : a ≡ false
  policy : m ≡ false
  free : o ≡ false
  few : c ≡ false
  number : e ≡ false

none_holds : (a b m o c d e f : Bool) → first_of a b m o c d e f ≡ None → NonePasses a m o c e
none_holds true b m o c d e f is = cc
none_holds false true m o c d e f is = cc
none_holds false false true o c d e f is = cc
none_holds false false false true c d e f is = cc
none_holds false false false false true d e f is = cc
none_holds false false false false false true e f is = cc
none_holds false false false false false false true f is = cc
none_holds false false false false false false false f is = record { kind = refl; policy = refl; free = refl; few = refl; number = refl }

module _ (s : State) (name : List ℕ) (kind : Kind) (max_redeliver : ℕ) (dead_topic : TopicName) (ranges : Option (List HashRange)) where
  pub turned_away : (level : ℕ) (flow : Flow) (ack_timeout nack_delay : ℕ) (initial : Initial) (fault : Fault) → subscribing_refused s name kind max_redeliver dead_topic ranges ≡ Some fault
      → Answers s (Subscribe name kind level flow ack_timeout nack_delay max_redeliver dead_topic initial ranges) (Refused fault) s
  turned_away level flow ack_timeout nack_delay initial fault is =
      one_of_these (λ f. subscribing_refused s name kind max_redeliver dead_topic ranges ≡ Some f → Answers s (Subscribe name kind level flow ack_timeout nack_delay max_redeliver dead_topic initial ranges) (Refused f) s)
      (nat_lt 0 (length (members_of s name)) && not (has_kind s name kind)) (nat_lt 0 (length (members_of s name)) && same_kind kind Exclusive) (mixes_policies s name kind ranges) (overlaps s name kind ranges)
      (nat_le 64 (length (members_of s name))) (nat_le 64 (length s.subscriptions) && not (has_subscription s name)) (is_used_up s.next_consumer) (dies_into_itself s kind max_redeliver dead_topic) fault is
      (λ e. (e, refl)) (λ e. (e, refl)) (λ e. (e, refl)) (λ e. (e, refl)) (λ e. (e, refl)) (λ e. (e, refl)) is

-- it has the members' kind and policy, asks for no hash that is taken, and there are a place and a number for it
pub record IsLetIn (s : State) (name : List ℕ) (kind : Kind) (ranges : Option (List HashRange)) : Type 0 where
  pub of_kind : (nat_lt 0 (length (members_of s name)) && not (has_kind s name kind)) ≡ false
  pub policy : mixes_policies s name kind ranges ≡ false
  pub free : overlaps s name kind ranges ≡ false
  pub few : length (members_of s name) < 64
  pub number : s.next_consumer < 2 ^ 63

pub is_let_in : (s : State) (name : List ℕ) (kind : Kind) (max_redeliver : ℕ) (dead_topic : TopicName) (ranges : Option (List HashRange)) → subscribing_refused s name kind max_redeliver dead_topic ranges ≡ None → IsLetIn s name kind ranges
is_let_in s name kind max_redeliver dead_topic ranges is =
    let none =
    none_holds (nat_lt 0 (length (members_of s name)) && not (has_kind s name kind)) (nat_lt 0 (length (members_of s name)) && same_kind kind Exclusive) (mixes_policies s name kind ranges) (overlaps s name kind ranges)
    (nat_le 64 (length (members_of s name))) (nat_le 64 (length s.subscriptions) && not (has_subscription s name)) (is_used_up s.next_consumer) (dies_into_itself s kind max_redeliver dead_topic) is in
    record { of_kind = none.kind; policy = none.policy; free = none.free; few = less (length (members_of s name)) none.few; number = left s.next_consumer none.number }
  where
    less : (n : ℕ) → nat_le 64 n ≡ false → n < 64
    less n e = grind (arith, nat_tests)

    left : (n : ℕ) → is_used_up n ≡ false → n < 2 ^ 63
    left n e = grind (arith, nat_tests)
