-- What is known stays right while the topic changes around it.
use Rattle.std.proofs.Common.{◌≡◌, ℕ, zero, suc, ◌<◌, ◌≤◌, Bool, true, false, List, [], ◌∷◌, ◌++◌, length, Option, None, inl, inr, refl, sym, ap, ◌∙◌, subst, arith}
use Rattle.std.specs.Prelude.{◌==◌, ◌&&◌, nat_lt, is_some, slice_get}
use Rattle.std.specs.Option.{option_and_then}
use Rattle.std.proofs.lemmas.Bool.{cases_eq, cases_lt, ne_eqb, eqb-true, lt-ltb, le-ltb, ltb-true, and_parts}
use Rattle.std.proofs.lemmas.List.{length-take}
use Rattle.std.proofs.lemmas.Option.{slice_get_cases}
use Rattle.murmur_core.specs.Sticky.{sticky_hash}
use Rattle.position_core.specs.declared.message.Entry.{Entry}
use Rattle.delivery_machine.specs.State.{State, Subscription}
use Rattle.delivery_machine.specs.Words.{visible}
use Rattle.delivery_machine.specs.Shares.{owner_of}
use Rattle.dispatch_core.specs.Log.{waits_at, holder_at, holder_of, key_at}
use Rattle.dispatch_core.specs.Changes.{StaysAt, Appended, Kept}
use Rattle.hash_rows.specs.Hashes.{hash_at}
use Rattle.hash_rows.specs.Standing.{Found, waits_there, holds_there}
use Rattle.hash_rows.specs.Knowing.{Knows, IsRowOf, IsFirstOf, AreHeldBy, is_read}

-- ---- one row

-- what a row holds was read, and has the hash
pub held_read : (row : Found) (hash read : ℕ) (s : State) (sub : Subscription) (i : ℕ) → IsRowOf row hash read s sub → holds_there row i ≡ true → (i < read) × (hash_at s i ≡ hash) × (is_some (holder_at s sub i) ≡ true)
held_read row hash read s sub i of_row held =
    let both = and_parts (is_read s hash read i) (is_some (holder_at s sub i)) (sym (of_row.holds i) ∙ held) in
    let first = and_parts (nat_lt i read) (hash_at s i == hash) both.0 in
    (ltb-true i read first.0, eqb-true (hash_at s i) hash first.1, both.1)

pub waiting_read : (row : Found) (hash read : ℕ) (s : State) (sub : Subscription) (i : ℕ) → IsRowOf row hash read s sub → waits_there row i ≡ true → (i < read) × (hash_at s i ≡ hash) × (waits_at s sub i ≡ true)
waiting_read row hash read s sub i of_row waits =
    let both = and_parts (is_read s hash read i) (waits_at s sub i) (sym (of_row.waits i) ∙ waits) in
    let first = and_parts (nat_lt i read) (hash_at s i == hash) both.0 in
    (ltb-true i read first.0, eqb-true (hash_at s i) hash first.1, both.1)

-- the same is found by the same hash
pub same_read : (hash read i : ℕ) (s t : State) (a b : Bool) → (i < read → hash_at t i ≡ hash_at s i) → (i < read → hash_at s i ≡ hash → b ≡ a) → (is_read s hash read i && a) ≡ (is_read t hash read i && b)
same_read hash read i s t a b hashes same = elim (cases_lt i read) [
  | inr past ↦
      ap (λ (x : Bool). (x && hash_at s i == hash) && a) (le-ltb i read past)
      ∙ sym (ap (λ (x : Bool). (x && hash_at t i == hash) && b) (le-ltb i read past))
  | inl below ↦
      ap (λ (x : ℕ). (nat_lt i read && x == hash) && a) (sym (hashes below))
      ∙ elim (cases_eq (hash_at t i) hash) [
        | inl is ↦ ap (λ (x : Bool). is_read t hash read i && x) (sym (same below (sym (hashes below) ∙ is)))
        | inr other ↦
            ap (λ (x : Bool). (nat_lt i read && x) && a) (ne_eqb (hash_at t i) hash other)
            ∙ ap (λ (x : Bool). (x && false) && a) (lt-ltb i read below)
            ∙ sym (ap (λ (x : Bool). (nat_lt i read && x) && b) (ne_eqb (hash_at t i) hash other)
            ∙ ap (λ (x : Bool). (x && false) && b) (lt-ltb i read below))
      ]
]

module _ (row : Found) (hash read : ℕ) (s : State) (sub : Subscription) (t : State) (new : Subscription) (hashes : (i : ℕ) → i < read → hash_at t i ≡ hash_at s i) (stays : (i : ℕ) → i < read → hash_at s i ≡ hash → StaysAt i s sub t new) (of_row : IsRowOf row hash read s sub) where
  still_held_by : (consumer : ℕ) → AreHeldBy row s sub consumer → AreHeldBy row t new consumer
  still_held_by consumer all i held =
      let at = held_read row hash read s sub i of_row held in
      (stays i at.0 at.1).holder ∙ all i held

  held_by_before : (consumer : ℕ) → AreHeldBy row t new consumer → AreHeldBy row s sub consumer
  held_by_before consumer all i held =
      let at = held_read row hash read s sub i of_row held in
      sym (stays i at.0 at.1).holder ∙ all i held

  pub row_stays : IsRowOf row hash read t new
  row_stays = record {
    places = of_row.places;
    waits = λ i. of_row.waits i ∙ same_read hash read i s t (waits_at s sub i) (waits_at t new i) (hashes i) (λ below is. (stays i below is).waits);
    holds = λ i.
        of_row.holds i
        ∙ same_read hash read i s t (is_some (holder_at s sub i)) (is_some (holder_at t new i)) (hashes i) (λ below is. ap (λ (o : Option ℕ). is_some o) (stays i below is).holder);
    keeper = λ consumer is. still_held_by consumer (of_row.keeper consumer is);
  }

  pub first_stays : (first : Option ℕ) (owner : Option ℕ) → IsFirstOf row first owner s sub → IsFirstOf row first owner t new
  first_stays first owner is = record {
    some = λ n at. let was = is.some n at in (was.0, (was.1.0, was.1.1, still_held_by was.1.0 was.1.2));
    none = λ none free. is.none none (free.0, free.1, held_by_before free.0 free.2);
  }

  pub known_still : (first : Option ℕ) → owner_of new.shares hash ≡ owner_of sub.shares hash → IsFirstOf row first (owner_of sub.shares hash) s sub → Knows row first hash read t new
  known_still first same is = record {
    row = row_stays;
    first = subst (λ (owner : Option ℕ). IsFirstOf row first owner t new) (sym same) (first_stays first (owner_of sub.shares hash) is);
  }

-- ---- the whole

pub hash_of_log : (s t : State) (i : ℕ) → t.log ≡ s.log → hash_at t i ≡ hash_at s i
unfolding key_at
hash_of_log s t i same = ap (λ (log : List Entry). sticky_hash (option_and_then (λ e. e.body.key) (slice_get log i))) same

-- as much may be seen, or more
pub seen_still : (n : ℕ) (s t : State) → n ≤ length (visible s) → s.durable ≤ t.durable → length s.log ≤ length t.log → n ≤ length (visible t)
seen_still n s t seen durable longer = omega (arith, length-take s.durable s.log, length-take t.durable t.log)

-- behind the end nothing is pending
pub unsent_behind : (s : State) (sub : Subscription) (i : ℕ) → length s.log ≤ i → holder_at s sub i ≡ None
unfolding holder_at
unsent_behind s sub i past = elim (slice_get_cases s.log i).1 [
  | inl at ↦ absurd (omega (arith, at.1, past))
  | inr over ↦ ap (λ (o : Option Entry). option_and_then (holder_of sub) o) over.1
]

in_front : (xs : List Entry) (y : Entry) (k : ℕ) → k < length xs → slice_get (xs ++ y ∷ []) k ≡ slice_get xs k
in_front [] y k low = absurd (omega (arith, low))
in_front (x ∷ xs) y zero low = refl
in_front (x ∷ xs) y (suc k) low = in_front xs y k (omega (arith, low))

pub hash_in_front : (s t : State) (e : Entry) (i : ℕ) → t.log ≡ s.log ++ e ∷ [] → i < length s.log → hash_at t i ≡ hash_at s i
unfolding key_at
hash_in_front s t e i longer within =
    ap (λ (o : Option Entry). sticky_hash (option_and_then (λ e. e.body.key) o))
    (ap (λ (log : List Entry). slice_get log i) longer ∙ in_front s.log e i within)

module _ (row : Found) (first : Option ℕ) (hash read : ℕ) (s : State) (sub : Subscription) (t : State) (new : Subscription) (known : Knows row first hash read s sub) where
  pub knows_kept : Kept s sub t new → Knows row first hash read t new
  knows_kept change =
      known_still row hash read s sub t new (λ i _. hash_of_log s t i change.log) (λ i _ _. change.messages i) known.row first (ap (λ bs. owner_of bs hash) change.shares) known.first

  pub knows_appended : Appended s sub t new → read ≤ length s.log → Knows row first hash read t new
  knows_appended change within =
      known_still row hash read s sub t new (λ i below. hash_in_front s t change.message i change.log (omega (arith, below, within))) (λ i below _. change.others i (omega (arith, below, within))) known.row first (ap (λ bs. owner_of bs hash) change.shares) known.first

pub seen_kept : (n : ℕ) (s : State) (sub : Subscription) (t : State) (new : Subscription) → n ≤ length (visible s) → Kept s sub t new → n ≤ length (visible t)
seen_kept n s sub t new seen change = seen_still n s t seen change.durable (omega (arith, ap length change.log))
