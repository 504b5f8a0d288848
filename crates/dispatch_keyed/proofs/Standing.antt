-- The rows after a change of one of them.
use Rattle.std.proofs.Common.{◌≡◌, ℕ, ◌+◌, ◌-◌, inl, inr, arith, Bool, true, false, cond, Option, Some, None, Result, Ok, Err, refl, sym, ap, ◌∙◌, true≢false}
use Rattle.std.specs.Prelude.{◌==◌, ◌&&◌, ◌||◌, is_some, OnOk, OnErr}
use Rattle.std.specs.Option.{option_map_or, option_and_then}
use Rattle.std.proofs.lemmas.Bool.{cases_eq, cases_lt, ne_eqb, eq-eqb, false_from_ne_true}
use Rattle.std.proofs.lemmas.Option.{same_Some, none-some}
use Rattle.hash_rows.specs.declared.row.Row.{Row}
use Rattle.hash_rows.specs.Rows.{is_in, waits_in, holds_in, AllBefore, KnowsAsMuch, KnowsFrom, HasOneMore}
use Rattle.hash_rows.specs.Standing.{Found, is_placed, waits_there, holds_there, keeper_of, AllPlacedBefore, SameKnowledge, Stands, Added}
use Rattle.hash_rows.proofs.Changed.{waits_placed, holds_placed}
use Rattle.dispatch_keyed.specs.Tables.{found_in}

-- two messages are the same where they are so from the base on
same_from : (base i k : ℕ) → (base + i == base + k) ≡ (i == k)
same_from base i k = elim (cases_eq i k) [
  | inl same ↦ eq-eqb (base + i) (base + k) (omega (arith, same)) ∙ sym (eq-eqb i k same)
  | inr other ↦ ne_eqb (base + i) (base + k) (λ is. other (omega (arith, is))) ∙ sym (ne_eqb i k other)
]

module _ (base index place : ℕ) (wait held : Bool) (mid new : Row) (at : place ≡ base + index) (places : (p : ℕ) → is_in new p ≡ is_in mid p) (waits : (p : ℕ) → waits_in new p ≡ cond (p == place) (is_in mid p && wait) (waits_in mid p)) (holds : (p : ℕ) → holds_in new p ≡ cond (p == place) (is_in mid p && held) (holds_in mid p)) (keeper : new.keeper ≡ mid.keeper) where
  here : (i : ℕ) → (base + i == place) ≡ (i == index)
  here i = ap (λ (k : ℕ). base + i == k) at ∙ same_from base i index

  pub stands_with : (consumer : ℕ) (row : Row) → held ≡ true → KnowsAsMuch row (record mid { keeper = row.keeper }) → ((c : ℕ) → mid.keeper ≡ Some c → (c ≡ consumer) × ((i : ℕ) → holds_in row i ≡ true → row.keeper ≡ Some c)) → Stands index wait (Some consumer) (found_in base (Some row)) (found_in base (Some new))
  unfolding is_placed waits_there holds_there keeper_of waits_in holds_in
  stands_with consumer row is same taken = record {
    places = λ i. places (base + i) ∙ same.places (base + i);
    waits = λ i.
        waits (base + i) ∙ ap (λ (t : Bool). cond t (is_in mid (base + i) && wait) (waits_in mid (base + i))) (here i)
        ∙ ap (λ (b : Bool). cond (i == index) (b && wait) (waits_in mid (base + i))) (same.places (base + i))
        ∙ ap (cond (i == index) (is_in row (base + i) && wait)) (same.waits (base + i));
    holds = λ i.
        holds (base + i) ∙ ap (λ (t : Bool). cond t (is_in mid (base + i) && held) (holds_in mid (base + i))) (here i)
        ∙ ap (λ (b : Bool). cond (i == index) (b && held) (holds_in mid (base + i))) (same.places (base + i))
        ∙ ap (cond (i == index) (is_in row (base + i) && held)) (same.holds (base + i))
        ∙ ap (λ (b : Bool). cond (i == index) (is_in row (base + i) && b) (holds_in row (base + i))) is;
    keeper = λ c kept.
        let one = taken c (sym keeper ∙ kept) in
        (λ i. one.1 (base + i), λ h held_by. sym (same_Some consumer h held_by) ∙ sym one.0);
  }

  pub stands_without : held ≡ false → Stands index wait None (found_in base (Some mid)) (found_in base (Some new))
  unfolding is_placed waits_there holds_there keeper_of
  stands_without is = record {
    places = λ i. places (base + i);
    waits = λ i. waits (base + i) ∙ ap (λ (t : Bool). cond t (is_in mid (base + i) && wait) (waits_in mid (base + i))) (here i);
    holds = λ i.
        holds (base + i) ∙ ap (λ (t : Bool). cond t (is_in mid (base + i) && held) (holds_in mid (base + i))) (here i)
        ∙ ap (λ (b : Bool). cond (i == index) (is_in mid (base + i) && b) (holds_in mid (base + i))) is;
    keeper = λ c kept. (λ _ _. sym keeper ∙ kept, λ h held_by. absurd (none-some h held_by));
  }

-- a hash without a row has nothing that changes
nothing_stands : (base index : ℕ) (wait : Bool) (holder : Option ℕ) → Stands index wait holder (found_in base None) (found_in base None)
unfolding is_placed waits_there holds_there keeper_of
nothing_stands base index wait holder = record {
  places = λ _. refl;
  waits = λ i. choice (i == index);
  holds = λ i. choice (i == index);
  keeper = λ c kept. absurd (none-some c kept);
}
  where
    choice : (b : Bool) → false ≡ cond b false false
    choice true = refl
    choice false = refl

pub stands_nowhere : (base index : ℕ) (wait : Bool) (holder : Option ℕ) (o p : Option Row) → o ≡ None → p ≡ None → Stands index wait holder (found_in base o) (found_in base p)
stands_nowhere base index wait holder None None _ _ = nothing_stands base index wait holder
stands_nowhere base index wait holder (Some r) p none _ = absurd (none-some r (sym none))
stands_nowhere base index wait holder None (Some r) _ none = absurd (none-some r (sym none))

-- ---- a message more

module _ (base index : ℕ) (row shed other : Row) (same : KnowsFrom base row shed) where
  pub same_knowledge : KnowsAsMuch shed other → SameKnowledge (found_in base (Some row)) (found_in base (Some other))
  unfolding is_placed waits_there holds_there keeper_of
  same_knowledge more = record {
    places = λ i. more.places (base + i) ∙ same.places i;
    waits = λ i. more.waits (base + i) ∙ same.waits i;
    holds = λ i. more.holds (base + i) ∙ same.holds i;
    keeper = λ c is. sym (more.keeper ∙ same.keeper) ∙ is;
  }

  added_one : HasOneMore (base + index) shed other → Added index (found_in base (Some row)) (found_in base (Some other))
  unfolding is_placed waits_there holds_there keeper_of
  added_one more = record {
    places = λ i.
        more.places (base + i) ∙ ap (λ (t : Bool). t || is_in shed (base + i)) (same_from base i index)
        ∙ ap (λ (b : Bool). i == index || b) (same.places i);
    waits = λ i.
        more.waits (base + i) ∙ ap (λ (t : Bool). t || waits_in shed (base + i)) (same_from base i index)
        ∙ ap (λ (b : Bool). i == index || b) (same.waits i);
    holds = λ i. more.holds (base + i) ∙ same.holds i;
    keeper = more.keeper ∙ same.keeper;
  }

  all_before : AllPlacedBefore (found_in base (Some row)) index → AllBefore shed (base + index)
  unfolding is_placed
  all_before all p is = elim (cases_lt p base) [
    | inl low ↦ omega (arith, low)
    | inr far ↦
        let at : base + (p - base) ≡ p = omega (arith, far) in
        let there : is_in row (base + (p - base)) ≡ true = sym (same.places (p - base)) ∙ ap (is_in shed) at ∙ is in
        omega (arith, all (p - base) there, at)
  ]

  pub one_more : (AllBefore shed (base + index) → HasOneMore (base + index) shed other) → AllPlacedBefore (found_in base (Some row)) index → Added index (found_in base (Some row)) (found_in base (Some other))
  one_more more all = added_one (more (all_before all))

-- a new row is as good as none
pub new_row : (base : ℕ) (row : Row) → ((i : ℕ) → is_in row i ≡ false) → ((i : ℕ) → waits_in row i ≡ false) → ((i : ℕ) → holds_in row i ≡ false) → row.keeper ≡ None → SameKnowledge (found_in base None) (found_in base (Some row))
unfolding is_placed waits_there holds_there keeper_of
new_row base row places waits holds keeper = record { places = λ i. places (base + i); waits = λ i. waits (base + i); holds = λ i. holds (base + i); keeper = λ c is. absurd (none-some c (sym keeper ∙ is)) }

-- the word of a row that is found
pub none_placed : (base : ℕ) (row : Row) → ((i : ℕ) → is_in row (base + i) ≡ false) → (i : ℕ) → is_placed (found_in base (Some row)) i ≡ false
unfolding is_placed
none_placed base row none i = none i

pub shed_alike : (base : ℕ) (row other : Row) → KnowsFrom base row other → SameKnowledge (found_in base (Some row)) (found_in base (Some other))
unfolding is_placed waits_there holds_there keeper_of
shed_alike base row other same = record { places = same.places; waits = same.waits; holds = same.holds; keeper = λ c is. sym same.keeper ∙ is }

-- a row without messages is as good as none
pub row_taken : (o p : Found) → ((i : ℕ) → is_placed o i ≡ false) → p.row ≡ None → SameKnowledge o p
unfolding is_placed waits_there holds_there keeper_of
row_taken o p done none = record {
  places = λ i. ap (λ (row : Option Row). option_map_or (λ r. is_in r (p.base + i)) row false) none ∙ sym (done i);
  waits = λ i.
      ap (λ (row : Option Row). option_map_or (λ r. waits_in r (p.base + i)) row false) none
      ∙ sym (false_from_ne_true _ (λ is. true≢false (sym (waits_placed o i is) ∙ done i)));
  holds = λ i.
      ap (λ (row : Option Row). option_map_or (λ r. holds_in r (p.base + i)) row false) none
      ∙ sym (false_from_ne_true _ (λ is. true≢false (sym (holds_placed o i is) ∙ done i)));
  keeper = λ c is. absurd (none-some c (sym (ap (λ (row : Option Row). option_and_then (λ r. r.keeper) row) none) ∙ is));
}

pub knowledge_itself : (o : Found) → SameKnowledge o o
knowledge_itself o = record { places = λ _. refl; waits = λ _. refl; holds = λ _. refl; keeper = λ _ is. is }

pub knowledge_on : (o p q : Found) → SameKnowledge o p → SameKnowledge p q → SameKnowledge o q
knowledge_on o p q first then = record {
  places = λ i. then.places i ∙ first.places i;
  waits = λ i. then.waits i ∙ first.waits i;
  holds = λ i. then.holds i ∙ first.holds i;
  keeper = λ c is. first.keeper c (then.keeper c is);
}

pub then_ok : {T E P Q : Type 0} (r : Result T E) → (P → Q) → OnOk r P → OnOk r Q
then_ok (Ok x) then held = then held
then_ok (Err e) then held = tt

pub then_err : {T E P Q : Type 0} (r : Result T E) → (P → Q) → OnErr r P → OnErr r Q
then_err (Ok x) then held = tt
then_err (Err e) then held = then held

pub is_none : {A : Type 0} (o : Option A) → is_some o ≡ false → o ≡ None
is_none None _ = refl
is_none (Some x) is = absurd (true≢false is)
