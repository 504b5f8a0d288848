-- Every reached state is well formed, and its snapshot is sound.
use Rattle.std.proofs.Common.{◌≡◌, ℕ, ◌<◌, ◌≤◌, List, [], ◌∷◌, map, length, Some, Bool, true, false, cond, get_or, refl, ap, ap₂, ◌∙◌, sym, subst, arith}
use Rattle.std.specs.Prelude.{◌&&◌, ◌||◌, not, nat_lt}
use Rattle.std.specs.List.{AllByRecursion, find, filter, count_by, list_any}
use Rattle.std.proofs.lemmas.Bool.Decides.{nat_tests}
use Rattle.std.proofs.lemmas.List.Elements.{All-map, All-from_recursion, recursion_from_All, Contains-get_or}
use Rattle.std.proofs.lemmas.List.Sums.{sum_by-cons}
use Rattle.position_core.specs.declared.message.Entry.{Entry}
use Rattle.position_core.specs.declared.position.Position.{Position}
use Rattle.position_core.specs.declared.kind.Kind.TheVariants.{KeyShared}
use Rattle.position_core.specs.Position.{same_position}
use Rattle.position_core.specs.Kind.{same_kind}
use Rattle.delivery_machine.specs.State.{State, Member, Subscription, DeadLetter}
use Rattle.delivery_machine.specs.Words.{visible, has_position, is_named, is_at, is_member, is_live, has_subscription}
use Rattle.delivery_machine.specs.Producing.{had, storing, storing_below, stored, stored_to}
use Rattle.delivery_machine.specs.Snapshot.{KeptSubscription, kept_of, snapshot_of}
use Rattle.delivery_machine.specs.WellFormed.{has_message, IsWellFormedLog, IsWellFormed, IsWellFormedIn, IsSound, IsSoundSubscription, HaveOrdinals, NamesRise}
use Rattle.delivery_machine.proofs.Firsts.{any_contained, found_contained}
use Rattle.delivery_machine.proofs.Messages.{message_there, position_itself}
use Rattle.delivery_machine.specs.Words.{used_after}
use Rattle.delivery_machine.proofs.Rising.{IsRising, ledgers_below}
use Rattle.delivery_machine.proofs.Keyed.{keys_mapped}
use Rattle.machine_laws.proofs.Named.{all_from_each}
use Rattle.machine_laws.proofs.Seated.{AllThere, any_found}
use Rattle.machine_laws.proofs.Ordinals.{letters_mapped, ordinals_once, below_next}
use Rattle.machine_laws.proofs.Formed.{IsLiveAt}
use Rattle.machine_laws.proofs.WellKept.{IsLedgered, letters, names_of}
use Rattle.machine_laws.proofs.WellReached.{IsAllKept}

log_formed : (ledger_size ledger : ℕ) (log : List Entry) → IsRising log ledger → IsLedgered ledger_size ledger log → IsWellFormedLog ledger_size ledger log
log_formed ledger_size ledger log rising ledgered = record {
  positions = rising.sorted;
  ledgers = λ k d low. (ledgers_below ledger (used_after ledger log) (get_or log k d).position (rising.below k d low), rising.bounded k d low);
  entries = ledgered.entries;
  last_ledger = ledgered.last_ledger;
}

-- one that passes is one of those that pass another test, where it passes both
among_those : {A : Type 0} (p q : A → Bool) (xs : List A) → list_any p (filter q xs) ≡ list_any (λ x. q x && p x) xs
among_those p q [] = refl
among_those {A} p q (x ∷ xs) = by (q x) (among_those p q xs)
  where
    by : (b : Bool) → list_any p (filter q xs) ≡ list_any (λ x. q x && p x) xs → list_any p (cond b (x ∷ filter q xs) (filter q xs)) ≡ ((b && p x) || list_any (λ x. q x && p x) xs)
    by true rest = ap (λ c. p x || c) rest
    by false rest = rest

-- a live position among the messages is of a live one of them
live_message : (sub : Subscription) (messages : List Entry) (p : Position) → IsLiveAt sub p → has_message messages p ≡ true → has_message (filter (is_live sub) messages) p ≡ true
live_message sub messages p live there =
    let at = message_there messages p there in
    let both : IsLiveAt sub at.0.position = subst (IsLiveAt sub) (sym at.2) live in
    let is_live_there : is_live sub at.0 ≡ true = ap₂ (λ a d. not a && not d) both.0 both.1 in
    among_those (has_position p) (is_live sub) messages
    ∙ any_contained (λ e. is_live sub e && has_position p e) messages at.0 at.1 (ap₂ (λ a b. a && b) is_live_there (ap (λ (q : Position). same_position q p) at.2 ∙ position_itself p))

subscription_formed : (t : State) → IsAllKept t → (name : List ℕ) (sub : Subscription) → find (is_named name) t.subscriptions ≡ Some sub → IsWellFormedIn t sub
subscription_formed t all name sub found =
    let formed = all.well.each name sub found in
    record {
      acknowledged = formed.acknowledged;
      pending = λ p held is. record {
        message = live_message sub (visible t) p (formed.live p held is) (formed.visible p held is);
        member = among_those (is_member held.consumer) (is_at sub.name) t.members ∙ (all.order.kept.tended.first name sub found).at_members p held is;
      };
      counted = formed.counted;
      dead = formed.dead;
      safe = formed.safe;
      shares = (all.shared name sub found).are;
      sharers = λ number. (all.shared name sub found).owners number ∙ sym (ap (λ b. same_kind sub.kind KeyShared && b) (among_those (is_member number) (is_at sub.name) t.members));
    }

at_subscriptions : (t : State) (members : List Member) → AllThere (names_of members) t.subscriptions → AllByRecursion (λ m. has_subscription t m.subscription ≡ true) members
at_subscriptions t [] all = tt
at_subscriptions t (m ∷ members) all = (any_found (is_named m.subscription) t.subscriptions ∙ all.0, at_subscriptions t members all.1)

pub well_formed : (t : State) → IsAllKept t → IsWellFormed t
well_formed t all = record {
  log = log_formed t.ledger_size t.ledger t.log all.order.kept.rising all.well.ledgered;
  gone = all.well.gone;
  authors = all.well.authors;
  durable = all.order.all.durable;
  producers = all.well.connected.numbers;
  producer_names = all.well.connected.names;
  members = all.well.members;
  at_subscriptions = All-from_recursion (λ m. has_subscription t m.subscription ≡ true) t.members (at_subscriptions t t.members all.well.there);
  names = all.well.named;
  subscriptions = all_from_each (IsWellFormedIn t) t.subscriptions all.well.named (subscription_formed t all);
  ordinals = ordinals_once letters t.next_ordinal t.subscriptions all.well.ordinals;
  sent = λ k m low j d below.
      all.well.uncollected (get_or t.members k m) (Contains-get_or t.members k m low)
      (get_or (get_or t.members k m).out j d) (Contains-get_or (get_or t.members k m).out j d below);
}

-- ---- its snapshot

pub sound_snapshot : (t : State) → IsAllKept t → IsSound (snapshot_of t)
sound_snapshot t all = record {
  log = log_formed t.ledger_size t.ledger t.log all.order.kept.rising all.well.ledgered;
  gone = all.well.gone;
  authors = all.well.authors;
  names = subst NamesRise (sym (keys_mapped (λ (kept : KeptSubscription). kept.name) kept_of (λ _. refl) t.subscriptions)) all.well.named;
  subscriptions = All-map (IsSoundSubscription t.log) kept_of t.subscriptions
      (all_from_each (λ sub. IsSoundSubscription t.log (kept_of sub)) t.subscriptions all.well.named
      (λ name sub found. let formed = all.well.each name sub found in record { acknowledged = formed.acknowledged; counted = formed.counted; dead = formed.dead }));
  ordinals = subst (HaveOrdinals t.next_ordinal) (sym (letters_mapped (λ (kept : KeptSubscription). kept.dead) letters kept_of (λ _. refl) t.subscriptions)) (ordinals_once letters t.next_ordinal t.subscriptions all.well.ordinals);
}

-- ---- what is stored

all_counted : (next : ℕ) (dead : List DeadLetter) → AllByRecursion (λ (d : DeadLetter). d.ordinal < next) dead → count_by (λ d. nat_lt d.ordinal next) dead ≡ length dead
all_counted next [] below = refl
all_counted next (d ∷ dead) below =
    let rest = all_counted next dead below.1 in
    let one : cond {A = ℕ} (nat_lt d.ordinal next) 1 0 ≡ 1 = counts d.ordinal next below.0 in
    let more = sum_by-cons (λ (d : DeadLetter). cond {A = ℕ} (nat_lt d.ordinal next) 1 0) d dead in
    omega (arith, rest, one, more)
  where
    counts : (a b : ℕ) → a < b → cond {A = ℕ} (nat_lt a b) 1 0 ≡ 1
    counts a b low = grind (arith, nat_tests)

all_stored : (next : ℕ) (sub : Subscription) → AllByRecursion (λ (d : DeadLetter). d.ordinal < next) sub.dead → sub.safe ≤ length sub.dead → storing sub ≡ storing_below next sub
all_stored next sub below low = let all = all_counted next sub.dead below in ap (λ (n : ℕ). record sub { safe = n }) (omega (arith, all, low))

same_map : (f g : Subscription → Subscription) (subs : List Subscription) → AllByRecursion (λ sub. f sub ≡ g sub) subs → map f subs ≡ map g subs
same_map f g [] same = refl
same_map f g (sub ∷ subs) same = ap₂ (λ (x : Subscription) (xs : List Subscription). x ∷ xs) same.0 (same_map f g subs same.1)

pub stored_is : (t : State) → IsAllKept t → stored t ≡ stored_to t (had t) t.next_ordinal
stored_is t all =
    let low = all.order.all.durable in
    ap₂ (λ (durable : ℕ) (subs : List Subscription). record t { durable = durable; subscriptions = subs }) (omega (arith, low))
    (same_map storing (storing_below t.next_ordinal) t.subscriptions
    (recursion_from_All (λ sub. storing sub ≡ storing_below t.next_ordinal sub) t.subscriptions
    (all_from_each (λ sub. storing sub ≡ storing_below t.next_ordinal sub) t.subscriptions all.well.named
    (λ name sub found. all_stored t.next_ordinal sub (below_next letters t.next_ordinal t.subscriptions sub (found_contained (is_named name) t.subscriptions sub found) all.well.ordinals) (all.well.each name sub found).safe))))
