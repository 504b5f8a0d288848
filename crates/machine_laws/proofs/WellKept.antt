-- What every reached state keeps beside `IsKept`: numbers, names, ordinals, and well-formed subscriptions and members.
use Rattle.std.proofs.Common.{◌≡◌, ℕ, ◌+◌, ◌<◌, ◌≤◌, List, [], ◌∷◌, ◌++◌, map, length, length-append, Some, Option, Bool, true, false, cond, refl, ap, ◌∙◌, sym, subst, arith}
use Rattle.std.specs.Prelude.{◌^◌, nat_lt, nat_le}
use Rattle.std.specs.List.{All, IsDistinct, list_any, find}
use Rattle.std.specs.Str.{bytes_eq}
use Rattle.std.proofs.lemmas.Bool.Decides.{nat_tests}
use Rattle.std.proofs.lemmas.List.Elements.{All-push, Contains-append_left}
use Rattle.position_core.specs.declared.position.Position.{Position}
use Rattle.position_core.specs.declared.message.Entry.{Entry}
use Rattle.delivery_machine.specs.State.{State, Producer, Member, Subscription, DeadLetter}
use Rattle.delivery_machine.specs.Words.{changed, removed, is_named, is_connected, has_position, next_position}
use Rattle.delivery_machine.specs.Refusals.{is_full}
use Rattle.delivery_machine.specs.Producing.{with_message, with_producer}
use Rattle.delivery_machine.specs.declared.retention.Retention.{Retention}
use Rattle.delivery_machine.specs.WellFormed.{AreGiven, AreAuthors}
use Rattle.delivery_machine.proofs.Deciding.{or_false, within}
use Rattle.delivery_machine.proofs.Firsts.{any_changed, any_mapped, any_pushed}
use Rattle.delivery_machine.specs.Words.{used_after}
use Rattle.delivery_machine.proofs.Rising.{next_of}
use Rattle.delivery_machine.proofs.Messages.{taken_more, first_pushed}
use Rattle.delivery_machine.proofs.Given.{names, given_pushed, given_removed, names_pushed, names_removed}
use Rattle.delivery_machine.proofs.EachFirst.{EachFirst, each_kept, each_changed, each_mapped}
use Rattle.machine_laws.proofs.Named.{AreNamed, named_changed, named_mapped}
use Rattle.machine_laws.proofs.Ordinals.{times, AreOnce, among_changed, among_mapped, once_fewer}
use Rattle.machine_laws.proofs.Seated.{AllThere, all_there}
use Rattle.machine_laws.proofs.Uncollected.{AllUncollected, uncollected_same, holds_mapped}
use Rattle.machine_laws.proofs.Formed.{IsFormed, formed_in_more, formed_with}

-- an entry is below the size of a ledger, and 2^62 + 1 is the last ledger
pub record IsLedgered (ledger_size ledger : ℕ) (log : List Entry) : Type 0 where
  pub entries : 0 < ledger_size → All (λ e. e.position.entry < ledger_size) log
  pub last_ledger : ledger ≤ 2 ^ 62 + 1

pub record AreConnected (next : ℕ) (producers : List Producer) : Type 0 where
  pub numbers : AreGiven next (map (λ p. p.number) producers)
  pub names : IsDistinct bytes_eq (names producers)

abbrev pub numbers_of : List Member → List ℕ
numbers_of members = map (λ m. m.number) members

abbrev pub names_of : List Member → List (List ℕ)
names_of members = map (λ m. m.subscription) members

abbrev pub letters : Subscription → List DeadLetter
letters sub = sub.dead

pub record IsWellKept (s : State) : Type 0 where
  pub ledgered : IsLedgered s.ledger_size s.ledger s.log
  pub gone : s.gone ≤ 2 ^ 62
  pub authors : AreAuthors s.gone s.authors
  pub connected : AreConnected s.next_producer s.producers
  pub members : AreGiven s.next_consumer (numbers_of s.members)
  pub there : AllThere (names_of s.members) s.subscriptions
  pub named : AreNamed s.subscriptions
  pub ordinals : AreOnce letters s.next_ordinal s.subscriptions
  pub each : EachFirst (IsFormed s.log s.durable) s.subscriptions
  pub uncollected : AllUncollected s.log s.members s.subscriptions

-- ---- one subscription is changed, and its members keep their numbers and stay at it

pub record IsChange (s : State) (n : List ℕ) (f : Subscription → Subscription) (members : List Member) (next : ℕ) : Type 0 where
  pub name : (sub : Subscription) → (f sub).name ≡ sub.name
  pub formed : (sub : Subscription) → find (is_named n) s.subscriptions ≡ Some sub → IsFormed s.log s.durable sub → IsFormed s.log s.durable (f sub)
  pub numbers : numbers_of members ≡ numbers_of s.members
  pub names : names_of members ≡ names_of s.members
  pub ordinals : AreOnce letters next (changed (is_named n) f s.subscriptions)
  pub uncollected : AllUncollected s.log members (changed (is_named n) f s.subscriptions)

pub well_changed : (s : State) (n : List ℕ) (f : Subscription → Subscription) (members : List Member) (next : ℕ) → IsChange s n f members next → IsWellKept s
    → IsWellKept (record s { subscriptions = changed (is_named n) f s.subscriptions; members = members; next_ordinal = next })
well_changed s n f members next change well = record {
  ledgered = well.ledgered;
  gone = well.gone;
  authors = well.authors;
  connected = well.connected;
  members = subst (AreGiven s.next_consumer) (sym change.numbers) well.members;
  there = subst (λ (ns : List (List ℕ)). AllThere ns (changed (is_named n) f s.subscriptions)) (sym change.names)
      (all_there (names_of s.members) s.subscriptions (changed (is_named n) f s.subscriptions)
      (λ name at. any_changed (is_named name) (is_named n) f (λ sub. ap (λ (m : List ℕ). bytes_eq m name) (change.name sub)) s.subscriptions ∙ at) well.there);
  named = named_changed n f s.subscriptions change.name well.named;
  ordinals = change.ordinals;
  each = each_changed (IsFormed s.log s.durable) (IsFormed s.log s.durable) n f s.subscriptions change.name (λ sub _ formed. formed) change.formed well.each;
  uncollected = change.uncollected;
}

-- none of them dies
pub ordinals_stay : (next : ℕ) (n : List ℕ) (f : Subscription → Subscription) (subs : List Subscription) → ((k : ℕ) (sub : Subscription) → times k (f sub).dead ≤ times k sub.dead) → AreOnce letters next subs → AreOnce letters next (changed (is_named n) f subs)
ordinals_stay next n f subs fewer all = once_fewer letters next subs (changed (is_named n) f subs) (λ k. let low = among_changed letters k 0 (is_named n) f (λ sub. let less = fewer k sub in omega arith) subs in omega arith) all

-- ---- the topic's own retention

pub well_retaining : (s : State) (retention : Option Retention) → IsWellKept s → IsWellKept (record s { retention = retention })
well_retaining s retention well = record {
  ledgered = well.ledgered;
  gone = well.gone;
  authors = well.authors;
  connected = well.connected;
  members = well.members;
  there = well.there;
  named = well.named;
  ordinals = well.ordinals;
  each = well.each;
  uncollected = well.uncollected;
}

-- ---- more is stored

abbrev pub storing_so : (Subscription → ℕ) → Subscription → Subscription
storing_so safe sub = record sub { safe = safe sub }

pub well_stored : (s : State) (safe : Subscription → ℕ) (durable : ℕ) → ((sub : Subscription) → sub.safe ≤ length sub.dead → safe sub ≤ length sub.dead) → s.durable ≤ durable → IsWellKept s
    → IsWellKept (record s { durable = durable; subscriptions = map (storing_so safe) s.subscriptions })
well_stored s safe durable enough longer well = record {
  ledgered = well.ledgered;
  gone = well.gone;
  authors = well.authors;
  connected = well.connected;
  members = well.members;
  there = all_there (names_of s.members) s.subscriptions (map (storing_so safe) s.subscriptions) (λ name at. any_mapped (is_named name) (storing_so safe) (λ _. refl) s.subscriptions ∙ at) well.there;
  named = named_mapped (storing_so safe) s.subscriptions (λ _. refl) well.named;
  ordinals = once_fewer letters s.next_ordinal s.subscriptions (map (storing_so safe) s.subscriptions) (λ k. let same = among_mapped letters k (storing_so safe) (λ _. refl) s.subscriptions in omega arith) well.ordinals;
  each = each_mapped (IsFormed s.log s.durable) (IsFormed s.log durable) (storing_so safe) s.subscriptions (λ _. refl)
      (λ sub formed.
      formed_in_more s.log s.log s.durable durable (storing_so safe sub) (λ p at. at) (λ p at. taken_more (has_position p) s.durable durable s.log longer at)
      (formed_with s.log s.durable sub.kind sub.shares (safe sub) sub (enough sub formed.safe) formed)) well.each;
  uncollected = uncollected_same s.log s.members s.subscriptions (map (storing_so safe) s.subscriptions) (λ name consumer p at. holds_mapped name consumer p (storing_so safe) s.subscriptions (λ _. refl) (λ _. refl) ∙ at) well.uncollected;
}

-- ---- the log

pub well_published : (s : State) (e : Entry) → e.position ≡ next_position s → is_full s ≡ false → s.durable ≤ length s.log → IsWellKept s → IsWellKept (with_message s e)
well_published s e is room low well = record {
  ledgered = record {
    entries = λ some. All-push (λ x. x.position.entry < s.ledger_size) s.log e (well.ledgered.entries some) (in_ledger s.ledger s.ledger_size (used_after s.ledger s.log) e.position is some);
    last_ledger = let at_most = within (2 ^ 62) e.position.ledger (ap (λ (p : Position). nat_lt (2 ^ 62) p.ledger) is ∙ (or_false (nat_le 1048576 (length s.log)) (nat_lt (2 ^ 62) (next_position s).ledger) room).1) in omega arith;
  };
  authors = well.authors;
  gone = well.gone;
  connected = well.connected;
  members = well.members;
  there = well.there;
  named = well.named;
  ordinals = well.ordinals;
  each = each_kept (IsFormed s.log s.durable) (IsFormed (s.log ++ e ∷ []) s.durable) s.subscriptions
      (λ sub. formed_in_more s.log (s.log ++ e ∷ []) s.durable s.durable sub (λ p at. any_pushed (has_position p) s.log e at)
      (λ p at. subst (λ (xs : List Entry). list_any (has_position p) xs ≡ true) (sym (first_pushed s.durable s.log e low)) at)) well.each;
  uncollected = λ m at d out. let one = well.uncollected m at d out in (Contains-append_left s.log (e ∷ []) d.message one.0, one.1);
}
  where
    in_ledger : (ledger size used : ℕ) (p : Position) → p ≡ next_of ledger used size → 0 < size → p.entry < size
    in_ledger ledger size used p is some = by (nat_lt used size) refl is
      where
        by : (b : Bool) → nat_lt used size ≡ b → p ≡ cond b (record { ledger = ledger; entry = used }) (record { ledger = ledger + 1; entry = 0 }) → p.entry < size
        by true low is = let same = ap (λ (q : Position). q.entry) is in grind (arith, nat_tests)
        by false high is = let same = ap (λ (q : Position). q.entry) is in omega arith

-- ---- producers

pub well_connected : (s : State) (p : Producer) → p.number ≡ s.next_producer → is_connected s p.name ≡ false → IsWellKept s → IsWellKept (with_producer s p)
well_connected s p is new well = record {
  ledgered = well.ledgered;
  gone = well.gone;
  authors = well.authors;
  connected = record {
    numbers = given_pushed (λ (q : Producer). q.number) s.next_producer s.producers p is well.connected.numbers;
    names = names_pushed s.producers p new well.connected.names;
  };
  members = well.members;
  there = well.there;
  named = well.named;
  ordinals = well.ordinals;
  each = well.each;
  uncollected = well.uncollected;
}

pub well_disconnected : (s : State) (q : Producer → Bool) → IsWellKept s → IsWellKept (record s { producers = removed q s.producers })
well_disconnected s q well = record {
  ledgered = well.ledgered;
  gone = well.gone;
  authors = well.authors;
  connected = record {
    numbers = given_removed (λ (p : Producer). p.number) s.next_producer q s.producers well.connected.numbers;
    names = names_removed q s.producers well.connected.names;
  };
  members = well.members;
  there = well.there;
  named = well.named;
  ordinals = well.ordinals;
  each = well.each;
  uncollected = well.uncollected;
}
