-- The first of all stands at the root of a tree in which each node has the first of those below it.
use Rattle.std.proofs.Common.{◌≡◌, ◌≢◌, ℕ, ◌+◌, ◌-◌, ◌*◌, ◌/◌, ◌<◌, ◌≤◌, zero, suc, Bool, true, false, cond, Option, Some, None, ◌⊎◌, inl, inr, ⊎_elim, refl, sym, ap, subst, ◌∙◌, arith}
use Rattle.std.specs.Bool.{⊤}
use Rattle.std.proofs.lemmas.Bool.{cases_eq}
use Rattle.std.proofs.lemmas.Cmp.{on_total, then_total}
use Rattle.std.specs.Cmp.{IsTotalOrder, nat_cmp_total, upto, tied_itself}
use Rattle.std.specs.Ordering.{is_gt, is_lt, ordering_reverse}
use Rattle.std.specs.BTreeMap.Range.{IsLeBy}
use Rattle.std.specs.declared.cmp.Ordering.{Ordering}
use Rattle.std.specs.declared.cmp.Ordering.TheVariants.{Less, Equal, Greater}
use Rattle.position_core.specs.Position.{positions_total}
use Rattle.pending_core.specs.declared.due.Due.{Due}
use Rattle.pending_core.specs.Due.{due_cmp, earlier, IsFirst}
use Rattle.pending_core.specs.Nodes.{first_from}

dues_total : IsTotalOrder due_cmp
dues_total = then_total (on_total (λ d. d.moment) nat_cmp_total) (on_total (λ d. d.position) positions_total)

-- a is not after b, where nothing is after everything
abbrev IsUpTo : Option Due → Option Due → Type 0
IsUpTo a None = ⊤
IsUpTo None (Some b) = ⊥
IsUpTo (Some a) (Some b) = IsLeBy due_cmp a b

itself : (a : Option Due) → IsUpTo a a
itself None = tt
itself (Some a) = ap is_gt (tied_itself dues_total a)

chained : (a b c : Option Due) → IsUpTo a b → IsUpTo b c → IsUpTo a c
chained a b None h k = tt
chained a None (Some c) h k = absurd k
chained None (Some b) (Some c) h k = absurd h
chained (Some a) (Some b) (Some c) h k = upto dues_total a b c h k

turned_back : (r : Ordering) → is_lt r ≡ false → is_gt (ordering_reverse r) ≡ false
turned_back Less h = cc
turned_back Equal h = refl
turned_back Greater h = refl

not_after : (r : Ordering) → is_lt r ≡ true → is_gt r ≡ false
not_after Less h = refl
not_after Equal h = refl
not_after Greater h = cc

least_left : (a b : Due) (t : Bool) → is_lt (due_cmp b a) ≡ t → IsLeBy due_cmp (cond t b a) a
least_left a b true e = not_after (due_cmp b a) e
least_left a b false e = ap is_gt (tied_itself dues_total a)

least_right : (a b : Due) (t : Bool) → is_lt (due_cmp b a) ≡ t → IsLeBy due_cmp (cond t b a) b
least_right a b true e = ap is_gt (tied_itself dues_total b)
least_right a b false e = ap is_gt (dues_total.antisymm a b) ∙ turned_back (due_cmp b a) e

earlier_left : (a b : Option Due) → IsUpTo (earlier a b) a
earlier_left None b = tt
earlier_left (Some a) None = itself (Some a)
earlier_left (Some a) (Some b) = least_left a b (is_lt (due_cmp b a)) refl

earlier_right : (a b : Option Due) → IsUpTo (earlier a b) b
earlier_right None b = itself b
earlier_right (Some a) None = tt
earlier_right (Some a) (Some b) = least_right a b (is_lt (due_cmp b a)) refl

least_one : (a b : Due) (t : Bool) → (cond t b a ≡ a) ⊎ (cond t b a ≡ b)
least_one a b true = inr refl
least_one a b false = inl refl

-- the earlier of two is one of them
earlier_one : (a b : Option Due) → (earlier a b ≡ a) ⊎ (earlier a b ≡ b)
earlier_one None b = inr refl
earlier_one (Some a) None = inl refl
earlier_one (Some a) (Some b) = ⊎_elim (λ e. inl (ap Some e)) (λ e. inr (ap Some e)) (least_one a b (is_lt (due_cmp b a)))

pub earlier_none : (a : Option Due) → a ≡ earlier a None
earlier_none None = refl
earlier_none (Some a) = refl

module _ (dues firsts : ℕ → Option Due) (right : (k : ℕ) → firsts k ≡ first_from dues firsts k) where
  before_own : (k : ℕ) → IsUpTo (firsts k) (dues k)
  before_own k = subst (λ o. IsUpTo o (dues k)) (sym (right k)) (earlier_left (dues k) (earlier (firsts (2 * k + 1)) (firsts (2 * k + 2))))

  before_lower : (k : ℕ) → IsUpTo (firsts k) (earlier (firsts (2 * k + 1)) (firsts (2 * k + 2)))
  before_lower k = subst (λ o. IsUpTo o (earlier (firsts (2 * k + 1)) (firsts (2 * k + 2)))) (sym (right k)) (earlier_right (dues k) (earlier (firsts (2 * k + 1)) (firsts (2 * k + 2))))

  before_left : (k : ℕ) → IsUpTo (firsts k) (firsts (2 * k + 1))
  before_left k = chained (firsts k) (earlier (firsts (2 * k + 1)) (firsts (2 * k + 2))) (firsts (2 * k + 1)) (before_lower k) (earlier_left (firsts (2 * k + 1)) (firsts (2 * k + 2)))

  before_right : (k : ℕ) → IsUpTo (firsts k) (firsts (2 * k + 2))
  before_right k = chained (firsts k) (earlier (firsts (2 * k + 1)) (firsts (2 * k + 2))) (firsts (2 * k + 2)) (before_lower k) (earlier_right (firsts (2 * k + 1)) (firsts (2 * k + 2)))

  before_child : (j k : ℕ) → (k ≡ 2 * j + 1) ⊎ (k ≡ 2 * j + 2) → IsUpTo (firsts j) (firsts k)
  before_child j k h = ⊎_elim (λ e. subst (λ n. IsUpTo (firsts j) (firsts n)) (sym e) (before_left j)) (λ e. subst (λ n. IsUpTo (firsts j) (firsts n)) (sym e) (before_right j)) h

  below_some : (k : ℕ) → k ≢ 0 → (k ≡ 2 * ((k - 1) / 2) + 1) ⊎ (k ≡ 2 * ((k - 1) / 2) + 2)
  below_some k h = ⊎_elim (λ e. inl e) (λ e. inr (omega arith)) (cases_eq k (2 * ((k - 1) / 2) + 1))

  root_first : (room k : ℕ) → k < room → IsUpTo (firsts 0) (firsts k)
  root_first zero k h = absurd (omega arith)
  root_first (suc room) k h =
      ⊎_elim
      (λ e. subst (λ n. IsUpTo (firsts 0) (firsts n)) (sym e) (itself (firsts 0)))
      (λ ne. chained (firsts 0) (firsts ((k - 1) / 2)) (firsts k) (root_first room ((k - 1) / 2) (omega arith)) (before_child ((k - 1) / 2) k (below_some k ne)))
      (cases_eq k 0)

  found : (n : ℕ) → ((k : ℕ) → n ≤ k → firsts k ≡ None) → (room k : ℕ) → n ≤ k + room → (d : Due) → firsts k ≡ Some d → (i : ℕ) × (dues i ≡ Some d)
  found n past zero k h d e = absurd (not_both (firsts k) d (past k (omega arith)) e)
    where
      not_both : (o : Option Due) (d : Due) → o ≡ None → o ≡ Some d → ⊥
      not_both o d p q = cc
  found n past (suc room) k h d e =
      let is : earlier (dues k) (earlier (firsts (2 * k + 1)) (firsts (2 * k + 2))) ≡ Some d = sym (right k) ∙ e in
      ⊎_elim
      (λ own. (k, sym own ∙ is))
      (λ lower. ⊎_elim
      (λ left. found n past room (2 * k + 1) (omega arith) d (sym left ∙ sym lower ∙ is))
      (λ right'. found n past room (2 * k + 2) (omega arith) d (sym right' ∙ sym lower ∙ is))
      (earlier_one (firsts (2 * k + 1)) (firsts (2 * k + 2))))
      (earlier_one (dues k) (earlier (firsts (2 * k + 1)) (firsts (2 * k + 2))))

  pub root_is_first : (n : ℕ) → ((k : ℕ) → n ≤ k → firsts k ≡ None) → IsFirst dues (firsts 0)
  root_is_first n past = by_cases (firsts 0) refl
    where
      first_all : (i : ℕ) → IsUpTo (firsts 0) (dues i)
      first_all i = chained (firsts 0) (firsts i) (dues i) (root_first (suc i) i (omega arith)) (before_own i)

      nothing : (o : Option Due) → IsUpTo None o → o ≡ None
      nothing None h = refl
      nothing (Some d) h = absurd h

      by_cases : (o : Option Due) → firsts 0 ≡ o → IsFirst dues o
      by_cases None e = λ i. nothing (dues i) (subst (λ o. IsUpTo o (dues i)) e (first_all i))
      by_cases (Some d) e = (found n past n 0 (omega arith) d e, λ i other is. subst (λ o. IsUpTo (Some d) o) is (subst (λ o. IsUpTo o (dues i)) e (first_all i)))

-- a change at one place leaves each other node right, but for the one above it
pub still_right : (dues dues' firsts firsts' : ℕ → Option Due) (at : ℕ) → ((k : ℕ) → k ≢ at → dues' k ≡ dues k) → ((k : ℕ) → k ≢ at → firsts' k ≡ firsts k) → (k : ℕ) → k ≢ at → 2 * k + 1 ≢ at → 2 * k + 2 ≢ at → firsts k ≡ first_from dues firsts k → firsts' k ≡ first_from dues' firsts' k
still_right dues dues' firsts firsts' at d f k here left right is =
    let own = d k here in
    let this = f k here in
    let l = f (2 * k + 1) left in
    let r = f (2 * k + 2) right in
    cc
