-- What the machine does at once, as small changes one after another.
use Rattle.std.proofs.Common.{◌≡◌, ℕ, List, [], ◌∷◌, ◌++◌, map, Some, None, Option, Bool, true, false, cond, refl, ap, ap₂, ◌∙◌, sym}
use Rattle.std.specs.Prelude.{not, ◌||◌, slice_get}
use Rattle.std.specs.List.{filter, position}
use Rattle.std.specs.FinSet as set
use Rattle.std.specs.FinMap as map_of
use Rattle.std.proofs.Math.ListN as list
use Rattle.std.proofs.lemmas.List.Folds.{list_any-append}
use Rattle.std.proofs.lemmas.Option.{get_or_from_slice_get}
use Rattle.position_core.specs.declared.position.Position.{Position}
use Rattle.position_core.specs.declared.held.Held.{Held}
use Rattle.position_core.specs.Position.{position_cmp, same_position, positions_total, exact_positions}
use Rattle.delivery_machine.specs.State.{State, Subscription, Member}
use Rattle.delivery_machine.specs.Words.{changed, is_at, is_held_by, is_named}
use Rattle.delivery_machine.specs.Acknowledging.{is_one_of, without, acknowledging, forgetting, with_acknowledged}
use Rattle.delivery_machine.specs.Joining.{leaving, without_member}
use Rattle.delivery_machine.specs.declared.delivery.Delivery.{Delivery}
use Rattle.delivery_machine.proofs.Places.{changed-position}
use Rattle.delivery_machine.proofs.Tended.{position_is}
use Rattle.topic_served.specs.Stepping.{freeing, freed}

-- ---- lists

module _ {A : Type 0} where
  pub changed_twice : (q : A → Bool) (f g : A → A) (xs : List A) → ((x : A) → q (f x) ≡ q x) → changed q g (changed q f xs) ≡ changed q (λ x. g (f x)) xs
  changed_twice q f g [] same = refl
  changed_twice q f g (x ∷ xs) same = by (q x) refl (changed_twice q f g xs same)
    where
      by : (b : Bool) → q x ≡ b → changed q g (changed q f xs) ≡ changed q (λ y. g (f y)) xs → changed q g (cond b (f x ∷ xs) (x ∷ changed q f xs)) ≡ cond b (g (f x) ∷ xs) (x ∷ changed q (λ y. g (f y)) xs)
      by true is rest = ap (λ b. cond b (g (f x) ∷ xs) (f x ∷ changed q g xs)) (same x ∙ is)
      by false is rest = ap (λ b. cond b (g x ∷ changed q f xs) (x ∷ changed q g (changed q f xs))) is ∙ ap (λ (ys : List A). x ∷ ys) rest

  -- two changes of the first that passes, which are one there
  pub changed_alike : (q : A → Bool) (f g : A → A) (xs : List A) (i : ℕ) (x : A) → position q xs ≡ Some i → slice_get xs i ≡ Some x → f x ≡ g x → changed q f xs ≡ changed q g xs
  changed_alike q f g xs i x place was same =
      changed-position q f xs i x place
      ∙ ap (λ (y : A). list.set xs i y) (ap f (get_or_from_slice_get xs i x x was) ∙ same ∙ sym (ap g (get_or_from_slice_get xs i x x was)))
      ∙ sym (changed-position q g xs i x place)

  changed_same : (q : A → Bool) (f g : A → A) (xs : List A) → ((x : A) → f x ≡ g x) → changed q f xs ≡ changed q g xs
  changed_same q f g [] same = refl
  changed_same q f g (x ∷ xs) same = ap₂ (λ (y : A) (ys : List A). cond (q x) (y ∷ xs) (x ∷ ys)) (same x) (changed_same q f g xs same)

  filter_twice : (p q : A → Bool) (xs : List A) → filter q (filter p xs) ≡ filter (λ x. cond (p x) (q x) false) xs
  filter_twice p q [] = refl
  filter_twice p q (x ∷ xs) = by (p x) (filter_twice p q xs)
    where
      by : (b : Bool) → filter q (filter p xs) ≡ filter (λ y. cond (p y) (q y) false) xs → filter q (cond b (x ∷ filter p xs) (filter p xs)) ≡ cond (cond b (q x) false) (x ∷ filter (λ y. cond (p y) (q y) false) xs) (filter (λ y. cond (p y) (q y) false) xs)
      by true rest = ap (λ (ys : List A). cond (q x) (x ∷ ys) ys) rest
      by false rest = rest

  filter_same : (p q : A → Bool) (xs : List A) → ((x : A) → p x ≡ q x) → filter p xs ≡ filter q xs
  filter_same p q [] same = refl
  filter_same p q (x ∷ xs) same = ap₂ (λ b (ys : List A). cond b (x ∷ ys) ys) (same x) (filter_same p q xs same)

  mapped_twice : (f g h : A → A) (xs : List A) → ((x : A) → g (f x) ≡ h x) → map g (map f xs) ≡ map h xs
  mapped_twice f g h [] same = refl
  mapped_twice f g h (x ∷ xs) same = ap₂ (λ (y : A) (ys : List A). y ∷ ys) (same x) (mapped_twice f g h xs same)

-- ---- some are acknowledged, and then others

is_neither : (ps qs : List Position) (q : Position) → is_one_of (ps ++ qs) q ≡ (is_one_of ps q || is_one_of qs q)
is_neither ps qs q = list_any-append (same_position q) ps qs

kept_of_both : {X : Type 0} (m : map_of.FinMap position_cmp X) (ps qs : List Position) → map_of.retain_keys (map_of.retain_keys m (λ p. not (is_one_of ps p))) (λ p. not (is_one_of qs p)) ≡ map_of.retain_keys m (λ p. not (is_one_of (ps ++ qs) p))
kept_of_both {X} m ps qs = map_of.same_map positions_total exact_positions _ _ (λ q.
    got (map_of.retain_keys m (λ p. not (is_one_of ps p))) qs q
    ∙ ap (λ (o : Option X). cond (not (is_one_of qs q)) o None) (got m ps q)
    ∙ both (is_one_of ps q) (is_one_of qs q) (map_of.get m q)
    ∙ ap (λ b. cond (not b) (map_of.get m q) None) (sym (is_neither ps qs q))
    ∙ sym (got m (ps ++ qs) q))
  where
    got : (k : map_of.FinMap position_cmp X) (rs : List Position) (q : Position) → map_of.get (map_of.retain_keys k (λ p. not (is_one_of rs p))) q ≡ cond (not (is_one_of rs q)) (map_of.get k q) None
    got k rs q = map_of.get-retain_keys k (λ p. not (is_one_of rs p)) q (λ x t. ap (λ p. not (is_one_of rs p)) (sym (exact_positions q x t)))

    both : (a b : Bool) (o : Option X) → cond (not b) (cond (not a) o None) None ≡ cond (not (a || b)) o None
    both true true o = refl
    both true false o = refl
    both false true o = refl
    both false false o = refl

contained_of_both : (a : set.FinSet position_cmp) (ps qs : List Position) → set.union (set.union a (set.from_list ps)) (set.from_list qs) ≡ set.union a (set.from_list (ps ++ qs))
contained_of_both a ps qs = set.same_set positions_total exact_positions _ _ (λ q.
    more (set.union a (set.from_list ps)) qs q
    ∙ ap (λ b. b || is_one_of qs q) (more a ps q)
    ∙ either (set.contains a q) (is_one_of ps q) (is_one_of qs q)
    ∙ ap (λ b. set.contains a q || b) (sym (is_neither ps qs q))
    ∙ sym (more a (ps ++ qs) q))
  where
    more : (b : set.FinSet position_cmp) (rs : List Position) (q : Position) → set.contains (set.union b (set.from_list rs)) q ≡ (set.contains b q || is_one_of rs q)
    more b rs q = set.contains-union positions_total b (set.from_list rs) q ∙ ap (λ c. set.contains b q || c) (set.contains-from_list positions_total rs q)

    either : (a b c : Bool) → ((a || b) || c) ≡ (a || (b || c))
    either true b c = refl
    either false b c = refl

pub acknowledging_both : (ps qs : List Position) (sub : Subscription) → acknowledging qs (acknowledging ps sub) ≡ acknowledging (ps ++ qs) sub
acknowledging_both ps qs sub =
    ap (λ (a : set.FinSet position_cmp). record sub {
      acknowledged = a;
      pending = map_of.retain_keys (map_of.retain_keys sub.pending (λ p. not (is_one_of ps p))) (λ p. not (is_one_of qs p));
      counts = map_of.retain_keys (map_of.retain_keys sub.counts (λ p. not (is_one_of ps p))) (λ p. not (is_one_of qs p));
    }) (contained_of_both sub.acknowledged ps qs)
    ∙ ap₂ (λ (m : map_of.FinMap position_cmp Held) (n : map_of.FinMap position_cmp ℕ). record sub { acknowledged = set.union sub.acknowledged (set.from_list (ps ++ qs)); pending = m; counts = n }) (kept_of_both sub.pending ps qs) (kept_of_both sub.counts ps qs)

without_both : (ps qs : List Position) (out : List Delivery) → without qs (without ps out) ≡ without (ps ++ qs) out
without_both ps qs out =
    filter_twice (λ d. not (is_one_of ps d.message.position)) (λ d. not (is_one_of qs d.message.position)) out
    ∙ filter_same _ (λ d. not (is_one_of (ps ++ qs) d.message.position)) out (λ d. neither (is_one_of ps d.message.position) (is_one_of qs d.message.position) ∙ ap not (sym (is_neither ps qs d.message.position)))
  where
    neither : (a b : Bool) → cond (not a) (not b) false ≡ not (a || b)
    neither true b = refl
    neither false b = refl

forgetting_both : (name : List ℕ) (ps qs : List Position) (m : Member) → forgetting name qs (forgetting name ps m) ≡ forgetting name (ps ++ qs) m
forgetting_both name ps qs m = by (is_at name m) refl
  where
    by : (b : Bool) → is_at name m ≡ b → forgetting name qs (cond b (record m { out = without ps m.out }) m) ≡ cond b (record m { out = without (ps ++ qs) m.out }) m
    by true at = ap (λ b. cond b (record m { out = without qs (without ps m.out) }) (record m { out = without ps m.out })) at ∙ ap (λ (out : List Delivery). record m { out = out }) (without_both ps qs m.out)
    by false at = ap (λ b. cond b (record m { out = without qs m.out }) m) at

pub acknowledged_both : (s : State) (name : List ℕ) (ps qs : List Position) → with_acknowledged (with_acknowledged s name ps) name qs ≡ with_acknowledged s name (ps ++ qs)
acknowledged_both s name ps qs =
    ap₂ (λ (subs : List Subscription) (ms : List Member). record s { subscriptions = subs; members = ms })
    (changed_twice (is_named name) (acknowledging ps) (acknowledging qs) s.subscriptions (λ _. refl) ∙ changed_same (is_named name) _ (acknowledging (ps ++ qs)) s.subscriptions (acknowledging_both ps qs))
    (mapped_twice (forgetting name ps) (forgetting name qs) (forgetting name (ps ++ qs)) s.members (forgetting_both name ps qs))

-- ---- what is pending at a member that leaves is released first

abbrev free : ℕ → Option Held → Option Held
free consumer o = cond (not (is_held_by consumer o)) o None

leaving_freed : (consumer : ℕ) (p : Position) (sub : Subscription) → is_held_by consumer (map_of.get sub.pending p) ≡ true → leaving consumer (freeing p sub) ≡ leaving consumer sub
leaving_freed consumer p sub held = ap (λ (m : map_of.FinMap position_cmp Held). record (leaving consumer sub) { pending = m })
    (map_of.same_map positions_total exact_positions _ _ (λ q.
    got (map_of.remove sub.pending p) q
    ∙ ap (free consumer) (map_of.get-remove positions_total sub.pending p q)
    ∙ by q (same_position q p) refl
    ∙ sym (got sub.pending q)))
  where
    got : (m : map_of.FinMap position_cmp Held) (q : Position) → map_of.get (map_of.retain_keys m (λ r. not (is_held_by consumer (map_of.get m r)))) q ≡ free consumer (map_of.get m q)
    got m q = map_of.get-retain_keys m (λ r. not (is_held_by consumer (map_of.get m r))) q (λ x t. ap (λ r. not (is_held_by consumer (map_of.get m r))) (sym (exact_positions q x t)))

    by : (q : Position) (b : Bool) → same_position q p ≡ b → free consumer (cond b None (map_of.get sub.pending q)) ≡ free consumer (map_of.get sub.pending q)
    by q false is = refl
    by q true is = sym (ap (λ b. cond (not b) (map_of.get sub.pending q) None) (ap (λ (r : Position). is_held_by consumer (map_of.get sub.pending r)) (position_is q p is) ∙ held))

pub freed_first : (s : State) (name : List ℕ) (i : ℕ) (sub : Subscription) (consumer : ℕ) (p : Position) → position (is_named name) s.subscriptions ≡ Some i → slice_get s.subscriptions i ≡ Some sub → is_held_by consumer (map_of.get sub.pending p) ≡ true
    → without_member (freed s name p) consumer name ≡ without_member s consumer name
freed_first s name i sub consumer p place was held =
    ap (λ (subs : List Subscription). record (without_member s consumer name) { subscriptions = subs })
    (changed_twice (is_named name) (freeing p) (leaving consumer) s.subscriptions (λ _. refl)
    ∙ changed_alike (is_named name) (λ x. leaving consumer (freeing p x)) (leaving consumer) s.subscriptions i sub place was (leaving_freed consumer p sub held))
