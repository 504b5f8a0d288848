-- What every state of a run within limits keeps: of its log, what is remembered of it, its producers, its members and its subscriptions.
use Rattle.std.proofs.Common.{◌≡◌, ℕ, zero, suc, ◌+◌, ◌≤◌, List, [], ◌∷◌, ◌++◌, map, length, Some, Bool, true, false, cond, ap, ◌∙◌, sym, subst, subst₂, arith}
use Rattle.std.specs.Prelude.{◌≤ℤ◌, ◌&&◌, negsuc, nat_lt, not}
use Rattle.std.specs.List.{All, AllByRecursion, find, insert}
use Rattle.std.specs.Str.{bytes_eq}
use Rattle.std.proofs.lemmas.List.{length-map}
use Rattle.std.proofs.lemmas.List.Elements.{All-contains, All-from_recursion, All-push, Contains-get_or, recursion_from_All}
use Rattle.position_core.specs.declared.kind.Kind.{Kind}
use Rattle.position_core.specs.declared.message.Entry.{Entry}
use Rattle.position_core.specs.declared.topic_name.TopicName.{TopicName}
use Rattle.position_core.specs.Kind.{is_in_order}
use Rattle.position_core.specs.TopicName.{same_topic}
use Rattle.delivery_machine.specs.State.{DeadLetter, Member, Producer, State, Subscription}
use Rattle.delivery_machine.specs.Words.{changed, is_named, removed}
use Rattle.delivery_machine.proofs.Among.{contained_removed}
use Rattle.delivery_machine.proofs.EachFirst.{EachFirst, each_changed, each_mapped}
use Rattle.delivery_machine.proofs.Keyed.{keys_changed}
use Rattle.row_reading.specs.Limits.{IsSubscriptionName, IsTopic}
use Rattle.row_reading.specs.Reading.{IsLedgerSize, IsReadableAuthor, IsReadableMessage, IsText, MayBeRule}

-- ---- what is kept

pub record IsLogWithin (log : List Entry) : Type 0 where
  pub each : All IsReadableMessage log
  pub few : length log ≤ 1048576

pub record IsProducerWithin (p : Producer) : Type 0 where
  pub name : IsText 1 1280 p.name
  pub base : negsuc 0 ≤ℤ p.base

pub record AreProducersWithin (producers : List Producer) : Type 0 where
  pub each : All IsProducerWithin producers
  pub few : length producers ≤ 256

-- where a member is, and where its messages go that were redelivered too often
pub record Will : Type 0 where
  pub subscription : List ℕ
  pub max_redeliver : ℕ
  pub target : TopicName

abbrev pub will_of : Member → Will
will_of m = record { subscription = m.subscription; max_redeliver = m.max_redeliver; target = m.dead_topic }

abbrev pub wills : List Member → List Will
wills members = map will_of members

-- messages of a subscription of the kind would die into the topic itself
abbrev pub dies_into : TopicName → Kind → Will → Bool
dies_into own kind w = not (is_in_order kind) && nat_lt 0 w.max_redeliver && same_topic w.target own

-- nobody at the subscription of the name has such a will
abbrev pub AreElsewhere : TopicName → List ℕ → Kind → List Will → Type 0
AreElsewhere own name kind all = AllByRecursion (λ w. bytes_eq w.subscription name ≡ true → dies_into own kind w ≡ false) all

abbrev pub IsLetterWithin : TopicName → DeadLetter → Type 0
IsLetterWithin own d = IsTopic d.target × (same_topic d.target own ≡ false)

pub record IsSubWithin (own : TopicName) (all : List Will) (sub : Subscription) : Type 0 where
  pub name : IsSubscriptionName sub.name
  pub letters : All (IsLetterWithin own) sub.dead
  pub elsewhere : AreElsewhere own sub.name sub.kind all

pub record AreSeated (own : TopicName) (all : List Will) (subs : List Subscription) : Type 0 where
  pub few : length subs ≤ 64
  pub targets : AllByRecursion (λ w. IsTopic w.target) all
  pub each : EachFirst (IsSubWithin own all) subs

pub record KeepsLimits (s : State) : Type 0 where
  pub size : IsLedgerSize s.ledger_size
  pub authors : All IsReadableAuthor s.authors
  pub rule : MayBeRule s.retention
  pub log : IsLogWithin s.log
  pub producers : AreProducersWithin s.producers
  pub seated : AreSeated s.name (wills s.members) s.subscriptions

-- ---- lists

module _ {A : Type 0} where
  pub length_removed : (q : A → Bool) (xs : List A) → length (removed q xs) ≤ length xs
  length_removed q [] = omega arith
  length_removed q (x ∷ xs) = by (q x) (length_removed q xs)
    where
      by : (b : Bool) → length (removed q xs) ≤ length xs → length (cond b xs (x ∷ removed q xs)) ≤ length (x ∷ xs)
      by true rest = omega arith
      by false rest = omega arith

  pub all_removed : (P : A → Type 0) (q : A → Bool) (xs : List A) → All P xs → All P (removed q xs)
  all_removed P q xs all k x low = All-contains P xs _ all (contained_removed q xs _ (Contains-get_or (removed q xs) k x low))

  pub length_inserted : (xs : List A) (i : ℕ) (y : A) → length (insert xs i y) ≡ length xs + 1
  length_inserted xs zero y = omega arith
  length_inserted [] (suc i) y = omega arith
  length_inserted (x ∷ xs) (suc i) y = let rest = length_inserted xs i y in omega arith

  pub all_with : (P : A → Type 0) (xs : List A) (x : A) → AllByRecursion P xs → P x → AllByRecursion P (xs ++ x ∷ [])
  all_with P xs x all one = recursion_from_All P (xs ++ x ∷ []) (All-push P xs x (All-from_recursion P xs all) one)

  -- what holds of each as it is seen
  pub all_seen : {B : Type 0} (P : B → Type 0) (f : A → B) (xs : List A) → AllByRecursion P (map f xs) → AllByRecursion (λ x. P (f x)) xs
  all_seen P f [] all = tt
  all_seen P f (x ∷ xs) all = (all.0, all_seen P f xs all.1)

-- ---- a subscription is changed

pub as_many : (n : List ℕ) (f : Subscription → Subscription) (subs : List Subscription) → ((sub : Subscription) → (f sub).name ≡ sub.name) → length (changed (is_named n) f subs) ≡ length subs
as_many n f subs name =
    sym (length-map (changed (is_named n) f subs) (λ (sub : Subscription). sub.name))
    ∙ ap length (keys_changed (λ (sub : Subscription). sub.name) (is_named n) f name subs)
    ∙ length-map subs (λ (sub : Subscription). sub.name)

module _ (own : TopicName) (all : List Will) where
  -- another one of the name and kind
  within_as : (x y : Subscription) → y.name ≡ x.name → y.kind ≡ x.kind → All (IsLetterWithin own) y.dead → IsSubWithin own all x → IsSubWithin own all y
  within_as x y name kind letters within = record {
    name = subst IsSubscriptionName (sym name) within.name;
    letters = letters;
    elsewhere = subst₂ (λ (n : List ℕ) (k : Kind). AreElsewhere own n k all) (sym name) (sym kind) within.elsewhere;
  }

  pub seated_changed : (n : List ℕ) (f : Subscription → Subscription) (subs : List Subscription) → ((sub : Subscription) → (f sub).name ≡ sub.name) → ((sub : Subscription) → (f sub).kind ≡ sub.kind)
      → ((sub : Subscription) → find (is_named n) subs ≡ Some sub → All (IsLetterWithin own) sub.dead → All (IsLetterWithin own) (f sub).dead)
      → AreSeated own all subs → AreSeated own all (changed (is_named n) f subs)
  seated_changed n f subs name kind letters seated = record {
    few = let same = as_many n f subs name in omega (arith, same, seated.few);
    targets = seated.targets;
    each = each_changed (IsSubWithin own all) (IsSubWithin own all) n f subs name (λ sub other within. within)
        (λ sub found within. within_as sub (f sub) (name sub) (kind sub) (letters sub found within.letters) within) seated.each;
  }

  pub seated_mapped : (f : Subscription → Subscription) (subs : List Subscription) → ((sub : Subscription) → (f sub).name ≡ sub.name) → ((sub : Subscription) → (f sub).kind ≡ sub.kind)
      → ((sub : Subscription) → (f sub).dead ≡ sub.dead) → AreSeated own all subs → AreSeated own all (map f subs)
  seated_mapped f subs name kind dead seated = record {
    few = let same = length-map subs f in omega (arith, same, seated.few);
    targets = seated.targets;
    each = each_mapped (IsSubWithin own all) (IsSubWithin own all) f subs name
        (λ sub within. within_as sub (f sub) (name sub) (kind sub) (subst (All (IsLetterWithin own)) (sym (dead sub)) within.letters) within) seated.each;
  }
