-- Places that stand lower, where the first ones are gone.
use Rattle.std.proofs.Common.{◌≡◌, ℕ, ◌+◌, ◌-◌, ◌<◌, ◌≤◌, List, [], ◌∷◌, Bool, true, false, cond, refl, ap, ap₂, ◌∙◌, sym, subst, arith, eq-eqb, inl, inr}
use Rattle.std.specs.Prelude.{◌||◌, ◌&&◌, not, nat_eq}
use Rattle.std.specs.Ordering.{nat_cmp}
use Rattle.std.specs.Cmp.{nat_cmp_total, unsigned_tied}
use Rattle.std.specs.FinSet as set
use Rattle.std.proofs.lemmas.Bool.{cases_lt, true≢false}
use Rattle.std.proofs.lemmas.Bool.Decides.{nat_tests}
use Rattle.ack_ranges.specs.Lowered.{lowered}
use Rattle.ack_ranges.proofs.Covers.{has, or_first, or_second}
use Rattle.ack_ranges.proofs.Lowering.{contains_lowered, lowered_is}
use Rattle.delivery_machine.proofs.Deciding.{and_first}
use Rattle.topic_subscriptions.specs.Closed.{AreOwed, Outcomes, lowered_by}
use Rattle.topic_subscriptions.proofs.Outcomes.{listed_again, seen}

-- ---- how many

lower_tied : (n k q : ℕ) → n ≤ k → nat_eq (n + q) k ≡ nat_eq q (k - n)
lower_tied n k q le = grind (arith, nat_tests)

lowered_insert : (n k : ℕ) (s : set.FinSet nat_cmp) → n ≤ k → lowered n (set.insert s k) ≡ set.insert (lowered n s) (k - n)
lowered_insert n k s le = lowered_is n (set.insert s k) _ (λ q.
    set.contains-insert nat_cmp_total s k (n + q)
    ∙ ap₂ (λ a b. a || b) (unsigned_tied (n + q) k ∙ lower_tied n k q le ∙ sym (unsigned_tied q (k - n))) (sym (contains_lowered n s q))
    ∙ sym (set.contains-insert nat_cmp_total (lowered n s) (k - n) q))

len_listed : (n : ℕ) (ks : List ℕ) → ((k : ℕ) → has k ks ≡ true → n ≤ k) → set.len (lowered n (set.from_list ks)) ≡ set.len (set.from_list {R = nat_cmp} ks)
len_listed n [] high = ap set.len (lowered_is n set.empty set.empty (λ q. set.contains-empty nat_cmp (n + q) ∙ sym (set.contains-empty nat_cmp q)))
len_listed n (k ∷ ks) high =
    let le : n ≤ k = high k (or_first (nat_eq k k) (has k ks) (eq-eqb k k refl)) in
    let at : n + (k - n) ≡ k = omega (arith, le) in
    ap set.len (lowered_insert n k (set.from_list ks) le)
    ∙ set.len-insert nat_cmp_total (lowered n (set.from_list ks)) (k - n)
    ∙ ap₂ (λ b m. cond b m (m + 1)) (contains_lowered n (set.from_list ks) (k - n) ∙ ap (set.contains (set.from_list ks)) at) (len_listed n ks (λ j is_in. high j (or_second (nat_eq k j) (has j ks) is_in)))
    ∙ sym (set.len-insert nat_cmp_total (set.from_list ks) k)

-- where none of the set is gone, as many are left
pub len_high : (n : ℕ) (s : set.FinSet nat_cmp) → ((k : ℕ) → set.contains s k ≡ true → n ≤ k) → set.len (lowered n s) ≡ set.len s
len_high n s high =
    subst (λ (t : set.FinSet nat_cmp). set.len (lowered n t) ≡ set.len t) (listed_again s)
    (len_listed n (set.items s) (λ k is_in. high k (ap (λ (t : set.FinSet nat_cmp). set.contains t k) (sym (listed_again s)) ∙ set.contains-from_list_nat (set.items s) k ∙ is_in)))

-- ---- what is acknowledged and owed

not_second : (a o : Bool) → (a && not o) ≡ true → o ≡ false
not_second true false is = refl
not_second true true is = sym is
not_second false o is = absurd (true≢false (sym is))

-- what is acknowledged is closed
pub closed_there : (all owed : set.FinSet nat_cmp) (k : ℕ) → set.contains (set.difference all owed) k ≡ true → set.contains all k ≡ true
closed_there all owed k is_in = and_first (set.contains all k) (not (set.contains owed k)) (sym (set.contains-difference nat_cmp_total all owed k) ∙ is_in)

module _ (all owed all' owed' : set.FinSet nat_cmp) (n : ℕ) (closed_is : (q : ℕ) → set.contains all' q ≡ set.contains all (n + q)) (owed_is : (q : ℕ) → set.contains owed' q ≡ set.contains owed (n + q)) where
  pub owed_lowered : (count : ℕ) → ((k : ℕ) → k < n → set.contains (set.difference all owed) k ≡ true) → AreOwed all owed count → AreOwed all' owed' count
  owed_lowered count gone owe = record {
    within = λ q is_in. closed_is q ∙ owe.within (n + q) (sym (owed_is q) ∙ is_in);
    counted = owe.counted ∙ sym (len_high n owed high) ∙ ap set.len (lowered_is n owed owed' (λ q. sym (owed_is q)));
  }
    where
      high : (k : ℕ) → set.contains owed k ≡ true → n ≤ k
      high k is_in = elim (cases_lt k n) [
        | inl low ↦ absurd (true≢false (sym is_in ∙ not_second (set.contains all k) (set.contains owed k) (sym (set.contains-difference nat_cmp_total all owed k) ∙ gone k low)))
        | inr past ↦ past
      ]

  pub seen_lowered : seen all' owed' ≡ lowered_by n (seen all owed)
  seen_lowered =
      ap₂ (λ (s t : set.FinSet nat_cmp). let o : Outcomes = record { places = s; buried = t } in o)
      (sym (lowered_is n (set.difference all owed) (set.difference all' owed') (λ q.
      set.contains-difference nat_cmp_total all owed (n + q)
      ∙ ap₂ (λ a o. a && not o) (sym (closed_is q)) (sym (owed_is q))
      ∙ sym (set.contains-difference nat_cmp_total all' owed' q))))
      (sym (lowered_is n owed owed' (λ q. sym (owed_is q))))
