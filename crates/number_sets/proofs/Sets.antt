-- The set of the numbers whose bits are set.
use Rattle.std.proofs.Common.{◌≡◌, ℕ, zero, suc, ◌+◌, ◌*◌, Bool, true, false, not, cond, List, ◌∷◌, length, inl, inr, refl, sym, ap, ◌∙◌, arith, eq-eqb, Option, Some, None, Result, Ok, Err}
use Rattle.std.specs.Prelude.{◌==◌, ◌&&◌, ◌||◌, nat_lt, IfSome, IfNone, OnErr}
use Rattle.std.specs.List.{filter, list_any}
use Rattle.std.specs.Ordering.{nat_cmp}
use Rattle.std.specs.Cmp.{nat_cmp_total, unsigned_tied}
use Rattle.std.specs.FinSet as set
use Rattle.std.proofs.lemmas.Bool.{cases_eq, cases_lt, ne_eqb, lt-ltb, le-ltb}
use Rattle.std.proofs.lemmas.Map.Lookups.{exact_unsigned}
use Rattle.number_sets.specs.Bits.{has, down_from, set_of}
use Rattle.number_sets.specs.Places.{Places, IsNext, NoneFrom}
use Rattle.number_sets.proofs.Bits.{has_past, same_next}

-- which numbers below n pass
among : (p : ℕ → Bool) (n q : ℕ) → list_any (λ y. y == q) (filter p (down_from n)) ≡ (nat_lt q n && p q)
among p zero q = sym (ap (λ (b : Bool). b && p q) (le-ltb q 0 (omega arith)))
among p (suc n) q = by (among p n q) (p n) refl
  where
    later : (n ≡ q → ⊥) → nat_lt q n ≡ nat_lt q (suc n)
    later other = elim (cases_lt q n) [
      | inl below ↦ lt-ltb q n below ∙ sym (lt-ltb q (suc n) (omega arith))
      | inr above ↦ le-ltb q n above ∙ sym (le-ltb q (suc n) (omega (arith, other)))
    ]

    by : list_any (λ y. y == q) (filter p (down_from n)) ≡ (nat_lt q n && p q) → (b : Bool) → p n ≡ b → list_any (λ y. y == q) (cond b (n ∷ filter p (down_from n)) (filter p (down_from n))) ≡ (nat_lt q (suc n) && p q)
    by ih true passes = elim (cases_eq n q) [
      | inl is ↦
          ap (λ (b : Bool). b || list_any (λ y. y == q) (filter p (down_from n))) (eq-eqb n q is)
          ∙ sym (ap (λ (b : Bool). b && p q) (lt-ltb q (suc n) (omega arith)) ∙ ap p (sym is) ∙ passes)
      | inr other ↦
          ap (λ (b : Bool). b || list_any (λ y. y == q) (filter p (down_from n))) (ne_eqb n q other)
          ∙ ih ∙ ap (λ (b : Bool). b && p q) (later other)
    ]
    by ih false fails = elim (cases_eq n q) [
      | inl is ↦
          ih ∙ ap (λ (b : Bool). b && p q) (le-ltb q n (omega arith))
          ∙ sym (ap (λ (b : Bool). b && p q) (lt-ltb q (suc n) (omega arith)) ∙ ap p (sym is) ∙ fails)
      | inr other ↦ ih ∙ ap (λ (b : Bool). b && p q) (later other)
    ]

pub contains_set_of : (ws : List ℕ) (q : ℕ) → set.contains (set_of ws) q ≡ has ws q
unfolding set_of
contains_set_of ws q =
    set.contains-from_list_nat (filter (has ws) (down_from (64 * length ws))) q
    ∙ among (has ws) (64 * length ws) q
    ∙ elim (cases_lt q (64 * length ws)) [
      | inl below ↦ ap (λ (b : Bool). b && has ws q) (lt-ltb q (64 * length ws) below)
      | inr above ↦ ap (λ (b : Bool). b && has ws q) (le-ltb q (64 * length ws) above) ∙ sym (has_past ws q (omega arith))
    ]

pub placed : (a b : set.FinSet nat_cmp) (m n : ℕ) → a ≡ b → m ≡ n → ◌≡◌ {A = Places} (record { places = a; room = m }) (record { places = b; room = n })
placed a b m n same_places same_room =
    ap (λ (s : set.FinSet nat_cmp). let p : Places = record { places = s; room = m } in p) same_places
    ∙ ap (λ (k : ℕ). let p : Places = record { places = b; room = k } in p) same_room

pub set_of_none : (ws : List ℕ) → ((i : ℕ) → has ws i ≡ false) → set_of ws ≡ set.empty
set_of_none ws none = set.same_set nat_cmp_total exact_unsigned _ _ (λ q. contains_set_of ws q ∙ none q ∙ sym (set.contains-empty nat_cmp q))

pub same_bits : (ws fs : List ℕ) → ((i : ℕ) → has fs i ≡ has ws i) → set_of fs ≡ set_of ws
same_bits ws fs same = set.same_set nat_cmp_total exact_unsigned _ _ (λ q. contains_set_of fs q ∙ same q ∙ sym (contains_set_of ws q))

pub inserted : (ws fs : List ℕ) (n : ℕ) → ((i : ℕ) → has fs i ≡ (i == n || has ws i)) → set_of fs ≡ set.insert (set_of ws) n
inserted ws fs n is = set.same_set nat_cmp_total exact_unsigned _ _ (λ q.
    contains_set_of fs q ∙ is q
    ∙ ap (λ (b : Bool). q == n || b) (sym (contains_set_of ws q))
    ∙ ap (λ (b : Bool). b || set.contains (set_of ws) q) (sym (unsigned_tied q n))
    ∙ sym (set.contains-insert nat_cmp_total (set_of ws) n q))

pub removed : (ws fs : List ℕ) (n : ℕ) → ((i : ℕ) → has fs i ≡ (not (i == n) && has ws i)) → set_of fs ≡ set.remove (set_of ws) n
removed ws fs n is = set.same_set nat_cmp_total exact_unsigned _ _ (λ q.
    contains_set_of fs q ∙ is q
    ∙ ap (λ (b : Bool). not (q == n) && b) (sym (contains_set_of ws q))
    ∙ ap (λ (b : Bool). not b && set.contains (set_of ws) q) (sym (unsigned_tied q n))
    ∙ sym (set.contains-remove nat_cmp_total (set_of ws) n q))

pub lowered : (ws fs : List ℕ) (count words : ℕ) → 64 * words ≡ count → ((i : ℕ) → has fs i ≡ has ws (64 * words + i)) → (q : ℕ) → set.contains (set_of fs) q ≡ set.contains (set_of ws) (count + q)
lowered ws fs count words whole is q =
    contains_set_of fs q ∙ is q ∙ ap (λ (k : ℕ). has ws (k + q)) whole ∙ sym (contains_set_of ws (count + q))

-- ---- the least place

pub next_place : (ws : List ℕ) (from : ℕ) (r : Option ℕ) → IfSome r (IsNext (has ws) from) → IfSome r (IsNext (set.contains (set_of ws)) from)
next_place ws from None next = tt
next_place ws from (Some i) next = same_next (has ws) (set.contains (set_of ws)) from (λ k. sym (contains_set_of ws k)) i next

pub no_place : (ws : List ℕ) (from : ℕ) (r : Option ℕ) → IfNone r (NoneFrom (has ws) from) → IfNone r (NoneFrom (set.contains (set_of ws)) from)
no_place ws from None none = λ k past. contains_set_of ws k ∙ none k past
no_place ws from (Some i) none = tt

pub not_grown : {T E P Q : Type 0} (r : Result T E) → (P → Q) → OnErr r P → OnErr r Q
not_grown (Ok x) then held = tt
not_grown (Err e) then held = then held
