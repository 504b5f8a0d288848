-- What members were sent and have not collected stays pending at them.
use Rattle.std.proofs.Common.{◌≡◌, ℕ, List, [], ◌∷◌, ◌++◌, map, Some, None, Option, Bool, true, false, cond, refl, ap, ◌∙◌, sym, subst, subst₂, arith, inl, inr, Contains, true≢false}
use Rattle.std.specs.Prelude.{◌==◌, not, is_some}
use Rattle.std.specs.List.{find}
use Rattle.std.specs.Option.{option_map_or}
use Rattle.std.specs.Str.{bytes_eq}
use Rattle.std.specs.FinMap as map_of
use Rattle.std.proofs.lemmas.Bool.Decides.{nat_tests}
use Rattle.std.proofs.lemmas.List.Elements.{Contains-push_cases}
use Rattle.position_core.specs.declared.position.Position.{Position}
use Rattle.position_core.specs.declared.message.Entry.{Entry}
use Rattle.position_core.specs.declared.held.Held.{Held}
use Rattle.position_core.specs.Position.{position_cmp, same_position, positions_total, exact_positions}
use Rattle.delivery_machine.specs.State.{Member, Subscription}
use Rattle.delivery_machine.specs.Words.{changed, removed, is_named, is_at, is_member, is_held_by, emptied, emptied_at}
use Rattle.delivery_machine.specs.Joining.{placed, leaving}
use Rattle.delivery_machine.specs.Acknowledging.{forgetting, without, is_one_of}
use Rattle.delivery_machine.specs.Delivering.{holding, given}
use Rattle.delivery_machine.specs.declared.delivery.Delivery.{Delivery}
use Rattle.delivery_machine.proofs.Firsts.{filter_contained, found_contained}
use Rattle.delivery_machine.proofs.Passes.{passes}
use Rattle.delivery_machine.proofs.Finding.{find_inserted, find_removed, still_changed, still_mapped, found_itself_changed}
use Rattle.delivery_machine.proofs.Behind.{same_name, is_same_name, other_name}
use Rattle.delivery_machine.proofs.Among.{contained_mapped, contained_changed, contained_removed}
use Rattle.delivery_machine.proofs.Tended.{position_is, some_is}
use Rattle.delivery_machine.proofs.Messages.{position_itself}
use Rattle.delivery_machine.proofs.Deciding.{number_is, itself}

-- the message at the position is pending at the consumer in the subscription of the name
abbrev pub holds_in : List Subscription → List ℕ → ℕ → Position → Bool
holds_in subs name consumer p = option_map_or (λ sub. is_held_by consumer (map_of.get sub.pending p)) (find (is_named name) subs) false

abbrev pub IsUncollected : List Entry → List Subscription → Member → Delivery → Type 0
IsUncollected log subs m d = Contains log d.message × (holds_in subs m.subscription m.number d.message.position ≡ true)

abbrev pub AllUncollected : List Entry → List Member → List Subscription → Type 0
AllUncollected log members subs = (m : Member) → Contains members m → (d : Delivery) → Contains m.out d → IsUncollected log subs m d

pub none_out : {A : Type 0} (x : A) → Contains [] x → ⊥
none_out x at = let below = at.1 in omega arith

-- ---- subscriptions

-- where the subscription of the name keeps it pending
holds_changed : (n name : List ℕ) (consumer : ℕ) (p : Position) (f : Subscription → Subscription) (subs : List Subscription) → ((sub : Subscription) → (f sub).name ≡ sub.name)
    → ((sub : Subscription) → name ≡ n → is_held_by consumer (map_of.get sub.pending p) ≡ true → is_held_by consumer (map_of.get (f sub).pending p) ≡ true)
    → holds_in subs name consumer p ≡ true → holds_in (changed (is_named n) f subs) name consumer p ≡ true
holds_changed n name consumer p f subs names keeps held =
    still_changed (is_named name) (λ sub. is_held_by consumer (map_of.get sub.pending p)) (is_named n) f (λ sub. ap (λ (m : List ℕ). bytes_eq m name) (names sub))
    (λ sub at_n at_name. keeps sub (sym (same_name sub.name name at_name) ∙ same_name sub.name n at_n)) subs held

-- ---- messages are taken out of a subscription

still_retained : (pending : map_of.FinMap position_cmp Held) (keeps : Position → Bool) (consumer : ℕ) (p : Position) → keeps p ≡ true → is_held_by consumer (map_of.get pending p) ≡ true → is_held_by consumer (map_of.get (map_of.retain_keys pending keeps) p) ≡ true
still_retained pending keeps consumer p stays held =
    ap (is_held_by consumer) (map_of.get-retain_keys pending keeps p (λ x t. ap keeps (sym (exact_positions p x t))) ∙ ap (λ b. cond b (map_of.get pending p) None) stays) ∙ held

-- and out of what its members have not collected
pub uncollected_taken : (log : List Entry) (members : List Member) (subs : List Subscription) (n : List ℕ) (positions : List Position) (f : Subscription → Subscription) → ((sub : Subscription) → (f sub).name ≡ sub.name)
    → ((sub : Subscription) → (f sub).pending ≡ map_of.retain_keys sub.pending (λ p. not (is_one_of positions p)))
    → AllUncollected log members subs → AllUncollected log (map (forgetting n positions) members) (changed (is_named n) f subs)
uncollected_taken log members subs n positions f names pending all m at =
    let was = contained_mapped (forgetting n positions) members m at in
    subst (λ (m : Member). (d : Delivery) → Contains m.out d → IsUncollected log (changed (is_named n) f subs) m d) (sym was.2) (by was.0 was.1 (is_at n was.0) refl)
  where
    by : (x : Member) → Contains members x → (b : Bool) → is_at n x ≡ b → (d : Delivery) → Contains (cond b (record x { out = without positions x.out }) x).out d → IsUncollected log (changed (is_named n) f subs) (cond b (record x { out = without positions x.out }) x) d
    by x there true here d at =
        let stays : Delivery → Bool = λ d. not (is_one_of positions d.message.position) in
        let one = all x there d (filter_contained stays x.out d at) in (
          one.0,
          holds_changed n x.subscription x.number d.message.position f subs names
              (λ sub _ held. subst (λ (z : map_of.FinMap position_cmp Held). is_held_by x.number (map_of.get z d.message.position) ≡ true) (sym (pending sub))
              (still_retained sub.pending (λ p. not (is_one_of positions p)) x.number d.message.position (passes stays x.out d at) held)) one.1,
        )
    by x there false elsewhere d at =
        let one = all x there d at in
        (one.0, holds_changed n x.subscription x.number d.message.position f subs names (λ sub is _. absurd (true≢false (sym (is_same_name x.subscription n is) ∙ elsewhere))) one.1)

-- where nothing is left in the subscription, nor to be collected by its members
pub uncollected_emptied : (log : List Entry) (members : List Member) (subs : List Subscription) (n : List ℕ) (f : Subscription → Subscription) → ((sub : Subscription) → (f sub).name ≡ sub.name)
    → AllUncollected log members subs → AllUncollected log (map (emptied_at n) members) (changed (is_named n) f subs)
uncollected_emptied log members subs n f names all m at =
    let was = contained_mapped (emptied_at n) members m at in
    subst (λ (m : Member). (d : Delivery) → Contains m.out d → IsUncollected log (changed (is_named n) f subs) m d) (sym was.2) (by was.0 was.1 (is_at n was.0) refl)
  where
    by : (x : Member) → Contains members x → (b : Bool) → is_at n x ≡ b → (d : Delivery) → Contains (cond b (emptied x) x).out d → IsUncollected log (changed (is_named n) f subs) (cond b (emptied x) x) d
    by x there true here d at = absurd (none_out d at)
    by x there false elsewhere d at =
        let one = all x there d at in
        (one.0, holds_changed n x.subscription x.number d.message.position f subs names (λ sub is _. absurd (true≢false (sym (is_same_name x.subscription n is) ∙ elsewhere))) one.1)

-- ---- a message is pending

still_held : (pending : map_of.FinMap position_cmp Held) (p : Position) (held : Held) (consumer : ℕ) (q : Position) → (q ≡ p → held.consumer ≡ consumer) → is_held_by consumer (map_of.get pending q) ≡ true → is_held_by consumer (map_of.get (map_of.insert pending p held) q) ≡ true
still_held pending p held consumer q alike was = ap (is_held_by consumer) (map_of.get-insert positions_total pending p held q) ∙ by (same_position q p) refl
  where
    by : (b : Bool) → same_position q p ≡ b → is_held_by consumer (cond b (Some held) (map_of.get pending q)) ≡ true
    by true same = ap (λ k. k == consumer) (alike (position_is q p same)) ∙ itself consumer
    by false other = was

-- what is pending at two consumers is pending at one
one_holder : (o : Option Subscription) (p : Position) (a b : ℕ) → option_map_or (λ sub. is_held_by a (map_of.get sub.pending p)) o false ≡ true → option_map_or (λ sub. is_held_by b (map_of.get sub.pending p)) o false ≡ true → a ≡ b
one_holder None p a b at_a at_b = cc
one_holder (Some sub) p a b at_a at_b = by (map_of.get sub.pending p) at_a at_b
  where
    by : (o : Option Held) → is_held_by a o ≡ true → is_held_by b o ≡ true → a ≡ b
    by None at_a at_b = cc
    by (Some h) at_a at_b = sym (number_is h.consumer a at_a) ∙ number_is h.consumer b at_b

-- where it is pending at nobody else already
uncollected_with : (log : List Entry) (members : List Member) (subs : List Subscription) (n : List ℕ) (p : Position) (held : Held) → ((consumer : ℕ) → holds_in subs n consumer p ≡ true → held.consumer ≡ consumer)
    → (m : Member) (d : Delivery) → IsUncollected log subs m d → IsUncollected log (changed (is_named n) (holding p held) subs) m d
uncollected_with log members subs n p held alone m d one = (
  one.0,
  holds_changed n m.subscription m.number d.message.position (holding p held) subs (λ _. refl)
      (λ sub named. still_held sub.pending p held m.number d.message.position
      (λ same. alone m.number (subst₂ (λ (name : List ℕ) (q : Position). holds_in subs name m.number q ≡ true) named same one.1))) one.1,
)

-- a message that is pending at the consumer falls due at another moment
pub uncollected_held : (log : List Entry) (members : List Member) (subs : List Subscription) (n : List ℕ) (p : Position) (held : Held) → holds_in subs n held.consumer p ≡ true → AllUncollected log members subs → AllUncollected log members (changed (is_named n) (holding p held) subs)
uncollected_held log members subs n p held was all m at d out =
    uncollected_with log members subs n p held (λ consumer. one_holder (find (is_named n) subs) p held.consumer consumer was) m d (all m at d out)

-- a message that was pending at nobody is sent to the member
pub uncollected_sent : (log : List Entry) (members : List Member) (subs : List Subscription) (n : List ℕ) (sub : Subscription) (d : Delivery) (held : Held) (m : Member) → find (is_named n) subs ≡ Some sub → map_of.contains_key sub.pending d.message.position ≡ false
    → held.consumer ≡ m.number → m.subscription ≡ n → find (is_member m.number) members ≡ Some m → Contains log d.message
    → AllUncollected log members subs → AllUncollected log (changed (is_member m.number) (given d) members) (changed (is_named n) (holding d.message.position held) subs)
uncollected_sent log members subs n sub d held m found waits holds named there logged all x at y out = elim (contained_changed (is_member m.number) (given d) members x at) [
  | inl other ↦ old x y (all x other y out)
  | inr this ↦ by this.0 (some_is _ this.0 m this.1 there) (subst (λ (z : Member). Contains z.out y) this.2 out) this.2
]
  where
    after : List Subscription
    after = changed (is_named n) (holding d.message.position held) subs

    nobody : (consumer : ℕ) → holds_in subs n consumer d.message.position ≡ true → held.consumer ≡ consumer
    nobody consumer at = absurd (not_held (map_of.get sub.pending d.message.position) waits (sym (ap (λ o. option_map_or (λ (z : Subscription). is_held_by consumer (map_of.get z.pending d.message.position)) o false) found) ∙ at))
      where
        not_held : (o : Option Held) → is_some o ≡ false → is_held_by consumer o ≡ true → ⊥
        not_held None none at = true≢false (sym at)
        not_held (Some h) none at = true≢false none

    old : (z : Member) (y : Delivery) → IsUncollected log subs z y → IsUncollected log after z y
    old z y one = uncollected_with log members subs n d.message.position held nobody z y one

    now : holds_in after m.subscription m.number d.message.position ≡ true
    now =
        ap (λ o. option_map_or (λ (z : Subscription). is_held_by m.number (map_of.get z.pending d.message.position)) o false)
        (ap (λ (name : List ℕ). find (is_named name) after) named ∙ found_itself_changed (is_named n) (holding d.message.position held) (λ _. refl) subs sub found)
        ∙ ap (is_held_by m.number) (map_of.get-insert positions_total sub.pending d.message.position held d.message.position ∙ ap (λ b. cond b (Some held) (map_of.get sub.pending d.message.position)) (position_itself d.message.position))
        ∙ ap (λ k. k == m.number) holds ∙ itself m.number

    by : (z : Member) → z ≡ m → Contains (z.out ++ d ∷ []) y → x ≡ given d z → IsUncollected log after x y
    by z is out same = elim (Contains-push_cases z.out d y out) [
      | inl before ↦ subst (λ (w : Member). IsUncollected log after w y) (sym same) (old z y (all z (subst (Contains members) (sym is) (found_contained (is_member m.number) members m there)) y before))
      | inr new ↦ subst₂ (λ (w : Member) (y : Delivery). IsUncollected log after w y) (sym (same ∙ ap (given d) is)) new (logged, now)
    ]

-- ---- members

-- where a change of a member keeps its number and its subscription, and adds nothing to be collected
pub uncollected_changed : (log : List Entry) (members : List Member) (subs : List Subscription) (q : Member → Bool) (f : Member → Member) → ((m : Member) → (f m).number ≡ m.number) → ((m : Member) → (f m).subscription ≡ m.subscription)
    → ((m : Member) (d : Delivery) → Contains (f m).out d → Contains m.out d) → AllUncollected log members subs → AllUncollected log (changed q f members) subs
uncollected_changed log members subs q f numbers names fewer all m at d out = elim (contained_changed q f members m at) [
  | inl other ↦ all m other d out
  | inr this ↦
      let one = all this.0 (found_contained q members this.0 this.1) d (fewer this.0 d (subst (λ (z : Member). Contains z.out d) this.2 out)) in
      (one.0, subst₂ (λ (name : List ℕ) (k : ℕ). holds_in subs name k d.message.position ≡ true) (sym (ap (λ (z : Member). z.subscription) this.2 ∙ names this.0)) (sym (ap (λ (z : Member). z.number) this.2 ∙ numbers this.0)) one.1)
]

-- where a member without anything to collect comes
pub uncollected_pushed : (log : List Entry) (members : List Member) (subs : List Subscription) (m : Member) → m.out ≡ [] → AllUncollected log members subs → AllUncollected log (members ++ m ∷ []) subs
uncollected_pushed log members subs m none all x at d out = elim (Contains-push_cases members m x at) [
  | inl old ↦ all x old d out
  | inr new ↦ absurd (none_out d (subst (λ (ds : List Delivery). Contains ds d) none (subst (λ (z : Member). Contains z.out d) (sym new) out)))
]

-- where the member of a number goes, with what is pending at it
pub uncollected_left : (log : List Entry) (members : List Member) (subs : List Subscription) (n : List ℕ) (consumer : ℕ) → ((m : Member) → Contains (removed (is_member consumer) members) m → (m.number == consumer) ≡ false)
    → AllUncollected log members subs → AllUncollected log (removed (is_member consumer) members) (changed (is_named n) (leaving consumer) subs)
uncollected_left log members subs n consumer others all m at d out =
    let one = all m (contained_removed (is_member consumer) members m at) d out in (
      one.0,
      holds_changed n m.subscription m.number d.message.position (leaving consumer) subs (λ _. refl)
          (λ sub _ held. still_retained sub.pending (λ p. not (is_held_by consumer (map_of.get sub.pending p))) m.number d.message.position (by (map_of.get sub.pending d.message.position) held) held) one.1,
    )
  where
    apart : (a b c : ℕ) → (a == b) ≡ true → (b == c) ≡ false → not (a == c) ≡ true
    apart a b c e f = grind (arith, nat_tests)

    by : (o : Option Held) → is_held_by m.number o ≡ true → not (is_held_by consumer o) ≡ true
    by None held = refl
    by (Some h) held = apart h.consumer m.number consumer held (others m at)

-- ---- subscriptions that keep what is pending

pub uncollected_same : (log : List Entry) (members : List Member) (before after : List Subscription) → ((name : List ℕ) (consumer : ℕ) (p : Position) → holds_in before name consumer p ≡ true → holds_in after name consumer p ≡ true) → AllUncollected log members before → AllUncollected log members after
uncollected_same log members before after keeps all m at d out = let one = all m at d out in (one.0, keeps m.subscription m.number d.message.position one.1)

pub holds_kept : (n name : List ℕ) (consumer : ℕ) (p : Position) (f : Subscription → Subscription) (subs : List Subscription) → ((sub : Subscription) → (f sub).name ≡ sub.name) → ((sub : Subscription) → (f sub).pending ≡ sub.pending)
    → holds_in subs name consumer p ≡ true → holds_in (changed (is_named n) f subs) name consumer p ≡ true
holds_kept n name consumer p f subs names same = holds_changed n name consumer p f subs names (λ sub _ held. subst (λ (z : map_of.FinMap position_cmp Held). is_held_by consumer (map_of.get z p) ≡ true) (sym (same sub)) held)

pub holds_mapped : (name : List ℕ) (consumer : ℕ) (p : Position) (f : Subscription → Subscription) (subs : List Subscription) → ((sub : Subscription) → (f sub).name ≡ sub.name) → ((sub : Subscription) → (f sub).pending ≡ sub.pending) → holds_in (map f subs) name consumer p ≡ holds_in subs name consumer p
holds_mapped name consumer p f subs names same =
    still_mapped (is_named name) (λ sub. is_held_by consumer (map_of.get sub.pending p)) f (λ sub. ap (λ (m : List ℕ). bytes_eq m name) (names sub)) (λ sub. ap (λ (z : map_of.FinMap position_cmp Held). is_held_by consumer (map_of.get z p)) (same sub)) subs

-- where a subscription of a further name comes
pub holds_placed : (name : List ℕ) (consumer : ℕ) (p : Position) (new : Subscription) (subs : List Subscription) → find (is_named new.name) subs ≡ None → holds_in subs name consumer p ≡ true → holds_in (placed new subs) name consumer p ≡ true
holds_placed name consumer p new subs none held = ap (λ o. option_map_or (λ (sub : Subscription). is_held_by consumer (map_of.get sub.pending p)) o false) (find_inserted (is_named name) subs _ new (by (is_named name new) refl)) ∙ held
  where
    by : (b : Bool) → is_named name new ≡ b → b ≡ false
    by false f = refl
    by true t =
        let nobody = sym (ap (λ (m : List ℕ). holds_in subs m consumer p) (same_name new.name name t)) in
        absurd (true≢false (sym held ∙ nobody ∙ ap (λ o. option_map_or (λ (sub : Subscription). is_held_by consumer (map_of.get sub.pending p)) o false) none))

-- where the subscription of another name goes
pub holds_removed : (n name : List ℕ) (consumer : ℕ) (p : Position) (subs : List Subscription) → bytes_eq name n ≡ false → holds_in (removed (is_named n) subs) name consumer p ≡ holds_in subs name consumer p
holds_removed n name consumer p subs differ = ap (λ o. option_map_or (λ (sub : Subscription). is_held_by consumer (map_of.get sub.pending p)) o false) (find_removed (is_named name) (is_named n) (λ sub. other_name name n sub differ) subs)
