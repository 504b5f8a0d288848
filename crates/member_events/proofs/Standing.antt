-- Where subscriptions stand, and that they keep their names.
use Rattle.std.proofs.Common.{◌≡◌, ◌≢◌, ℕ, ◌<◌, List, [], ◌∷◌, map, length, Some, None, Option, All, get_or, set, slice_get, refl, ap, ◌∙◌, sym, subst, arith, inl, inr}
use Rattle.std.specs.Prelude.{IsSomeAnd}
use Rattle.std.specs.List.{find, position}
use Rattle.std.specs.Str.{bytes_eq}
use Rattle.std.proofs.Math.ListN.{get_or-map}
use Rattle.std.proofs.lemmas.Bool.{cases_eq}
use Rattle.std.proofs.lemmas.List.{length-set, map-set}
use Rattle.std.proofs.lemmas.List.Quantifiers.{position-Some}
use Rattle.std.proofs.lemmas.Option.{get_or_from_slice_get, slice_get-get_or}
use Rattle.position_core.specs.declared.message.Entry.{Entry}
use Rattle.delivery_machine.specs.State.{Member, Subscription}
use Rattle.delivery_machine.specs.Words.{is_member}
use Rattle.delivery_machine.specs.WellFormed.{NamesRise}
use Rattle.delivery_machine.proofs.Behind.{same_name}
use Rattle.machine_laws.proofs.Named.{AreNamed}
use Rattle.topic_served.proofs.Spots.{set_at, set_other, there}
use Rattle.topic_subscriptions.specs.Placed.{Placed, is_placed, line_at, sub_in}
use Rattle.topic_parts.specs.declared.parts.Parts.{Parts}
use Rattle.topic_parts.specs.Parts.{AreTied, log_of, state_of}
use Rattle.topic_parts.proofs.Changing.{placed_there, written_back}
use Rattle.topic_parts.proofs.Mapped.{position_mapped}
use Rattle.member_events.specs.Places.{AreOrdered, IsMemberAt, KeepNames, StandsAt, names_of}

-- the one at the place has the name
pub its_name : (subs : List Placed) (name : List ℕ) (place : ℕ) (x : Placed) → Some place ≡ position (is_placed name) subs → x ≡ get_or subs place x → x.name ≡ name
its_name subs name place x named at =
    let is = position-Some (is_placed name) subs place x (sym named) in
    same_name x.name name (ap (is_placed name) at ∙ is.1)

pub one_there : (subs : List Placed) (name : List ℕ) (place : ℕ) (x : Placed) → Some place ≡ position (is_placed name) subs → x ≡ get_or subs place x → Some x ≡ slice_get subs place
one_there subs name place x named at =
    let is = position-Some (is_placed name) subs place x (sym named) in
    ap (λ (p : Placed). Some p) at ∙ sym (slice_get-get_or subs place x is.0)

pub line_named : (t : Parts) (place : ℕ) (name : List ℕ) (x : Placed) → Some place ≡ position (is_placed name) t.subscriptions.items → x ≡ get_or t.subscriptions.items place x → AreTied t → x.line ≡ line_at name t.members.members
line_named t place name x named at tied =
    (placed_there (log_of t) t.subscriptions.items name place named t.members.members x tied at).line
    ∙ ap (λ (n : List ℕ). line_at n t.members.members) (its_name t.subscriptions.items name place x named at)

-- a name is found where it was
pub same_place : (old new : List Placed) (name : List ℕ) → names_of new ≡ names_of old → position (is_placed name) new ≡ position (is_placed name) old
same_place old new name names =
    sym (position_mapped (λ (p : Placed). p.name) (is_placed name) (λ (n : List ℕ). bytes_eq n name) (λ _. refl) new)
    ∙ ap (position (λ (n : List ℕ). bytes_eq n name)) names
    ∙ position_mapped (λ (p : Placed). p.name) (is_placed name) (λ (n : List ℕ). bytes_eq n name) (λ _. refl) old

pub names_written : (subs : List Placed) (place : ℕ) (x y : Placed) → x ≡ get_or subs place x → y.name ≡ x.name → names_of (set subs place y) ≡ names_of subs
names_written subs place x y at same =
    map-set (λ (p : Placed). p.name) subs place y
    ∙ written_back (names_of subs) place x.name y.name (ap (λ (p : Placed). p.name) at ∙ sym (get_or-map (λ (p : Placed). p.name) subs place x)) same

pub still_named : (old new : Parts) (place : ℕ) (name : List ℕ) → KeepNames old new → Some place ≡ position (is_placed name) old.subscriptions.items → Some place ≡ position (is_placed name) new.subscriptions.items
still_named old new place name kept named = named ∙ sym (same_place old.subscriptions.items new.subscriptions.items name kept.names)

pub still_stands : (old new : Parts) (place : ℕ) → KeepNames old new → StandsAt old place → StandsAt new place
still_stands old new place kept stands = record { name = stands.name; named = still_named old new place stands.name kept stands.named }

pub stands_named : (t : Parts) (place : ℕ) (subs : List Placed) (stands : StandsAt t place) → names_of subs ≡ names_of t.subscriptions.items → Some place ≡ position (is_placed stands.name) subs
stands_named t place subs stands names = stands.named ∙ sym (same_place t.subscriptions.items subs stands.name names)

pub keep_itself : (t : Parts) → KeepNames t t
keep_itself t = record { rest = refl; names = refl }

pub keep_on : (a b c : Parts) → KeepNames a b → KeepNames b c → KeepNames a c
keep_on a b c first second = record {
  rest = second.rest ∙ ap (λ (t : Parts). record t { subscriptions = c.subscriptions }) first.rest;
  names = second.names ∙ first.names;
}

-- in the machine's words
names_in : (log : List Entry) (subs : List Placed) → map (λ (sub : Subscription). sub.name) (map (sub_in log) subs) ≡ names_of subs
names_in log [] = refl
names_in log (p ∷ subs) = ap (λ (ns : List (List ℕ)). p.name ∷ ns) (names_in log subs)

pub are_named : (t : Parts) → AreOrdered t → AreNamed (state_of t).subscriptions
are_named t ordered = subst NamesRise (sym (names_in (log_of t) t.subscriptions.items)) ordered

pub are_ordered : (t : Parts) → AreNamed (state_of t).subscriptions → AreOrdered t
are_ordered t named = subst NamesRise (names_in (log_of t) t.subscriptions.items) named

-- one is written, and what holds of the others is said of their places
pub all_but : {A : Type 0} (P : A → Type 0) (xs : List A) (i : ℕ) (y : A) → i < length xs → P y → ((k : ℕ) (x : A) → k ≢ i → slice_get xs k ≡ Some x → P x) → All P (set xs i y)
all_but P xs i y low new others k d within = elim (cases_eq k i) [
  | inl same ↦ subst P (sym (get_or_from_slice_get (set xs i y) k y d (ap (slice_get (set xs i y)) same ∙ set_at xs i y low))) new
  | inr other ↦
      let at = there xs k (omega (arith, within, length-set xs i y)) in
      subst P (sym (get_or_from_slice_get (set xs i y) k at.0 d (set_other xs i k y other ∙ at.1))) (others k at.0 other at.1)
]

-- what is there, with its test
pub one_of : {A : Type 0} (P : A → Type 0) (o : Option A) → IsSomeAnd o P → (x : A) × (o ≡ Some x) × P x
one_of P None is = absurd is
one_of P (Some x) is = (x, refl, is)

pub still_member : (old new : Parts) (place consumer : ℕ) → KeepNames old new → IsMemberAt old place consumer → IsMemberAt new place consumer
still_member old new place consumer kept member =
    let m = one_of (λ (m : Member). Some place ≡ position (is_placed m.subscription) old.subscriptions.items) (find (is_member consumer) old.members.members) member in
    subst (λ (o : Option Member). IsSomeAnd o (λ m. Some place ≡ position (is_placed m.subscription) new.subscriptions.items))
    (sym (ap (λ (t : Parts). find (is_member consumer) t.members.members) kept.rest ∙ m.1)) (still_named old new place m.0.subscription kept m.2)
