-- Acknowledging again, and acknowledging what is acknowledged.
use Rattle.std.proofs.Common.{◌≡◌, ℕ, List, [], ◌∷◌, map, Some, None, Option, Bool, true, false, cond, refl, ap, ap₂, ◌∙◌, sym, subst, true≢false}
use Rattle.std.specs.Prelude.{◌||◌, not}
use Rattle.std.specs.List.{filter, find}
use Rattle.std.specs.FinSet as set_of
use Rattle.std.specs.FinMap as map_of
use Rattle.position_core.specs.declared.position.Position.{Position}
use Rattle.position_core.specs.declared.held.Held.{Held}
use Rattle.position_core.specs.Position.{position_cmp, positions_total, exact_positions}
use Rattle.delivery_machine.specs.State.{State, Member, Subscription}
use Rattle.delivery_machine.specs.Words.{changed, is_at, is_named}
use Rattle.delivery_machine.specs.Acknowledging.{acknowledging, forgetting, is_one_of, with_acknowledged, without}
use Rattle.delivery_machine.specs.declared.delivery.Delivery.{Delivery}

-- ---- lists

changed_twice : {A : Type 0} (p : A → Bool) (f g h : A → A) (xs : List A) → ((x : A) → p (f x) ≡ p x) → ((x : A) → g (f x) ≡ h x) → changed p g (changed p f xs) ≡ changed p h xs
changed_twice p f g h [] keeps is = refl
changed_twice {A} p f g h (x ∷ xs) keeps is = by (p x) refl (changed_twice p f g h xs keeps is)
  where
    by : (b : Bool) → p x ≡ b → changed p g (changed p f xs) ≡ changed p h xs → changed p g (cond b (f x ∷ xs) (x ∷ changed p f xs)) ≡ cond b (h x ∷ xs) (x ∷ changed p h xs)
    by true passes rest = ap (λ b. cond b (g (f x) ∷ xs) (f x ∷ changed p g xs)) (keeps x ∙ passes) ∙ ap (λ y. y ∷ xs) (is x)
    by false fails rest = ap (λ b. cond b (g x ∷ changed p f xs) (x ∷ changed p g (changed p f xs))) fails ∙ ap (λ ys. x ∷ ys) rest

map_twice : {A : Type 0} (f g h : A → A) (xs : List A) → ((x : A) → g (f x) ≡ h x) → map g (map f xs) ≡ map h xs
map_twice f g h [] is = refl
map_twice f g h (x ∷ xs) is = ap₂ (λ y ys. y ∷ ys) (is x) (map_twice f g h xs is)

filter_twice : {A : Type 0} (p q : A → Bool) (xs : List A) → ((x : A) → q x ≡ true → p x ≡ true) → filter q (filter p xs) ≡ filter q xs
filter_twice p q [] weaker = refl
filter_twice p q (x ∷ xs) weaker = by (p x) refl (q x) refl (filter_twice p q xs weaker)
  where
    by : (a : Bool) → p x ≡ a → (b : Bool) → q x ≡ b → filter q (filter p xs) ≡ filter q xs → filter q (cond a (x ∷ filter p xs) (filter p xs)) ≡ cond b (x ∷ filter q xs) (filter q xs)
    by true yes_p b is rest = ap (λ c. cond c (x ∷ filter q (filter p xs)) (filter q (filter p xs))) is ∙ ap (λ ys. cond b (x ∷ ys) ys) rest
    by false no_p true is rest = absurd (true≢false (sym (weaker x is) ∙ no_p))
    by false no_p false is rest = rest

-- what is left of a map without the positions
got_others : {X : Type 0} (m : map_of.FinMap position_cmp X) (ps : List Position) (q : Position) → map_of.get (map_of.retain_keys m (λ p. not (is_one_of ps p))) q ≡ cond (not (is_one_of ps q)) (map_of.get m q) None
got_others m ps q = map_of.get-retain_keys m (λ p. not (is_one_of ps p)) q (λ x same. ap (λ p. not (is_one_of ps p)) (sym (exact_positions q x same)))

-- ---- acknowledging more

module _ (ps qs : List Position) (among : (q : Position) → is_one_of ps q ≡ true → is_one_of qs q ≡ true) where
  or_among : (a : Bool) (q : Position) → ((a || is_one_of ps q) || is_one_of qs q) ≡ (a || is_one_of qs q)
  or_among true q = refl
  or_among false q = by (is_one_of ps q) refl (is_one_of qs q) refl
    where
      by : (b : Bool) → is_one_of ps q ≡ b → (c : Bool) → is_one_of qs q ≡ c → (b || c) ≡ c
      by true in_p true in_q = refl
      by true in_p false out = absurd (true≢false (sym (among q in_p) ∙ out))
      by false out c is = refl

  retained_twice : {X : Type 0} (m : map_of.FinMap position_cmp X) → map_of.retain_keys (map_of.retain_keys m (λ p. not (is_one_of ps p))) (λ p. not (is_one_of qs p)) ≡ map_of.retain_keys m (λ p. not (is_one_of qs p))
  retained_twice {X} m = map_of.same_map positions_total exact_positions _ _ (λ q.
      got_others (map_of.retain_keys m (λ p. not (is_one_of ps p))) qs q
      ∙ ap (λ o. cond (not (is_one_of qs q)) o None) (got_others m ps q)
      ∙ by q (is_one_of ps q) refl (is_one_of qs q) refl (map_of.get m q)
      ∙ sym (got_others m qs q))
    where
      by : (q : Position) (b : Bool) → is_one_of ps q ≡ b → (c : Bool) → is_one_of qs q ≡ c → (o : Option X) → cond (not (is_one_of qs q)) (cond (not (is_one_of ps q)) o None) None ≡ cond (not (is_one_of qs q)) o None
      by q b is true in_q o = ap (λ a. cond (not a) (cond (not (is_one_of ps q)) o None) None) in_q ∙ sym (ap (λ a. cond (not a) o None) in_q)
      by q true in_p false out o = absurd (true≢false (sym (among q in_p) ∙ out))
      by q false out_p false out o = ap (λ a. cond (not (is_one_of qs q)) (cond (not a) o None) None) out_p

  acknowledging_twice : (sub : Subscription) → acknowledging qs (acknowledging ps sub) ≡ acknowledging qs sub
  acknowledging_twice sub =
      ap (λ (a : set_of.FinSet position_cmp). record (acknowledging qs (acknowledging ps sub)) { acknowledged = a })
      (set_of.same_set positions_total exact_positions _ _ (λ q.
      set_of.contains-union positions_total (set_of.union sub.acknowledged (set_of.from_list ps)) (set_of.from_list qs) q
      ∙ ap₂ (λ a b. a || b) (set_of.contains-union positions_total sub.acknowledged (set_of.from_list ps) q ∙ ap (λ b. set_of.contains sub.acknowledged q || b) (set_of.contains-from_list positions_total ps q)) (set_of.contains-from_list positions_total qs q)
      ∙ or_among (set_of.contains sub.acknowledged q) q
      ∙ sym (set_of.contains-union positions_total sub.acknowledged (set_of.from_list qs) q ∙ ap (λ b. set_of.contains sub.acknowledged q || b) (set_of.contains-from_list positions_total qs q))))
      ∙ ap₂ (λ (m : map_of.FinMap position_cmp Held) (n : map_of.FinMap position_cmp ℕ). record (acknowledging qs sub) { pending = m; counts = n }) (retained_twice sub.pending) (retained_twice sub.counts)

  forgetting_twice : (name : List ℕ) (m : Member) → forgetting name qs (forgetting name ps m) ≡ forgetting name qs m
  forgetting_twice name m = by (is_at name m) refl
    where
      weaker : (d : Delivery) → not (is_one_of qs d.message.position) ≡ true → not (is_one_of ps d.message.position) ≡ true
      weaker d out = by_test (is_one_of ps d.message.position) refl
        where
          by_test : (b : Bool) → is_one_of ps d.message.position ≡ b → not (is_one_of ps d.message.position) ≡ true
          by_test true in_p = absurd (true≢false (sym out ∙ ap not (among d.message.position in_p)))
          by_test false out_p = ap not out_p

      by : (b : Bool) → is_at name m ≡ b → forgetting name qs (cond b (record m { out = without ps m.out }) m) ≡ forgetting name qs m
      by true at =
          ap (λ b. cond b (record m { out = without qs (without ps m.out) }) (record m { out = without ps m.out })) at
          ∙ ap (λ (out : List Delivery). record m { out = out }) (filter_twice (λ (d : Delivery). not (is_one_of ps d.message.position)) (λ (d : Delivery). not (is_one_of qs d.message.position)) m.out weaker)
          ∙ sym (ap (λ b. cond b (record m { out = without qs m.out }) m) at)
      by false elsewhere = refl

  -- what is acknowledged with more is acknowledged with these
  pub merging : (s : State) (name : List ℕ) → with_acknowledged (with_acknowledged s name ps) name qs ≡ with_acknowledged s name qs
  merging s name =
      ap₂ (λ (subs : List Subscription) (ms : List Member). record s { subscriptions = subs; members = ms })
      (changed_twice (is_named name) (acknowledging ps) (acknowledging qs) (acknowledging qs) s.subscriptions (λ _. refl) acknowledging_twice)
      (map_twice (forgetting name ps) (forgetting name qs) (forgetting name qs) s.members (forgetting_twice name))

-- ---- what is acknowledged already

same_changed : {A : Type 0} (p : A → Bool) (f : A → A) (xs : List A) (x : A) → find p xs ≡ Some x → f x ≡ x → changed p f xs ≡ xs
same_changed p f [] x is same = refl
same_changed {A} p f (y ∷ ys) x is same = by (p y) is (same_changed p f ys x)
  where
    some_is : (a b : A) → ◌≡◌ {A = Option A} (Some a) (Some b) → a ≡ b
    some_is a b e = cc

    by : (b : Bool) → cond b (Some y) (find p ys) ≡ Some x → (find p ys ≡ Some x → f x ≡ x → changed p f ys ≡ ys) → cond b (f y ∷ ys) (y ∷ changed p f ys) ≡ y ∷ ys
    by true here rest = ap (λ z. z ∷ ys) (subst (λ (z : A). f z ≡ z) (sym (some_is y x here)) same)
    by false later rest = ap (λ zs. y ∷ zs) (rest later same)

retained_all : {X : Type 0} (m : map_of.FinMap position_cmp X) (ps : List Position) → ((q : Position) → is_one_of ps q ≡ true → map_of.get m q ≡ None) → map_of.retain_keys m (λ p. not (is_one_of ps p)) ≡ m
retained_all m ps none = map_of.same_map positions_total exact_positions _ _ (λ q. got_others m ps q ∙ by q (is_one_of ps q) refl)
  where
    by : (q : Position) (b : Bool) → is_one_of ps q ≡ b → cond (not (is_one_of ps q)) (map_of.get m q) None ≡ map_of.get m q
    by q true one = ap (λ b. cond (not b) (map_of.get m q) None) one ∙ sym (none q one)
    by q false other = ap (λ b. cond (not b) (map_of.get m q) None) other

-- all of the positions are acknowledged, and none of them is pending or counted, nor was sent and not collected
pub record AreOver (s : State) (name : List ℕ) (sub : Subscription) (ps : List Position) : Type 0 where
  pub named : find (is_named name) s.subscriptions ≡ Some sub
  pub acknowledged : (q : Position) → is_one_of ps q ≡ true → set_of.contains sub.acknowledged q ≡ true
  pub pending : (q : Position) → is_one_of ps q ≡ true → map_of.get sub.pending q ≡ None
  pub counts : (q : Position) → is_one_of ps q ≡ true → map_of.get sub.counts q ≡ None
  pub out : map (forgetting name ps) s.members ≡ s.members

pub absorbing : (s : State) (name : List ℕ) (sub : Subscription) (ps : List Position) → AreOver s name sub ps → with_acknowledged s name ps ≡ s
absorbing s name sub ps over =
    ap₂ (λ (subs : List Subscription) (ms : List Member). record s { subscriptions = subs; members = ms })
    (same_changed (is_named name) (acknowledging ps) s.subscriptions sub over.named same) over.out
  where
    in_set : set_of.union sub.acknowledged (set_of.from_list ps) ≡ sub.acknowledged
    in_set = set_of.same_set positions_total exact_positions _ _ (λ q.
        set_of.contains-union positions_total sub.acknowledged (set_of.from_list ps) q ∙ ap (λ b. set_of.contains sub.acknowledged q || b) (set_of.contains-from_list positions_total ps q)
        ∙ by q (is_one_of ps q) refl (set_of.contains sub.acknowledged q) refl)
      where
        by : (q : Position) (b : Bool) → is_one_of ps q ≡ b → (c : Bool) → set_of.contains sub.acknowledged q ≡ c → (c || is_one_of ps q) ≡ c
        by q b is true inside = refl
        by q true one false outside = absurd (true≢false (sym (over.acknowledged q one) ∙ outside))
        by q false other false outside = other

    same : acknowledging ps sub ≡ sub
    same =
        ap (λ (a : set_of.FinSet position_cmp). record (acknowledging ps sub) { acknowledged = a }) in_set
        ∙ ap₂ (λ (m : map_of.FinMap position_cmp Held) (n : map_of.FinMap position_cmp ℕ). record sub { pending = m; counts = n }) (retained_all sub.pending ps over.pending) (retained_all sub.counts ps over.counts)
