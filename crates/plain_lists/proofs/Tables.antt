-- A set and a map kept as a list of writes.
use Rattle.std.proofs.Common.{arith, ℕ, ◌++◌, Option, ◌≡◌, List, [], ◌∷◌, Some, None, Bool, true, false, cond, refl, ap, ◌∙◌, sym}
use Rattle.std.specs.Prelude.{not, ◌==◌, ◌||◌, ◌&&◌, is_some, if◌then◌else◌}
use Rattle.std.specs.List.{filter, find, list_any}
use Rattle.std.specs.FinSet as set
use Rattle.std.specs.Cmp.{eq_by_cmp_equiv, Equal-is}
use Rattle.std.proofs.lemmas.List.Folds.{list_any-append}
use Rattle.std.proofs.lemmas.Map.Views.{any-filter_same}
use Rattle.delivery_machine.specs.Acknowledging.{is_one_of}
use Rattle.delivery_machine.specs.Words.{is_held_by, changed}
use Rattle.delivery_machine.specs.Ticking.{recounted, counted_again}
use Rattle.std.proofs.lemmas.Bool.Decides.{nat_tests}
use Rattle.std.specs.Option.{option_map, unwrap_or}
use Rattle.std.specs.declared.cmp.Ordering.TheVariants.{Equal}
use Rattle.std.specs.FinMap as map_of
use Rattle.std.specs.FinMap.Entries as entries_of
use Rattle.position_core.specs.declared.position.Position.{Position}
use Rattle.position_core.specs.Position.{position_cmp, same_position, positions_total, exact_positions}
use Rattle.position_core.specs.declared.held.Held.{Held}
use Rattle.plain_lists.specs.Keyed.{is_keyed}
use Rattle.plain_lists.specs.Counted.{count_in, raised_entries}

-- positions that compare alike are one
same : (a b : Position) → same_position a b ≡ true → a ≡ b
same a b e = exact_positions a b ((Equal-is (position_cmp a b)).0 e)

first_entry : {X : Type 0} (es : List (Position × X)) (q : Position) → entries_of.find position_cmp q es ≡ option_map (λ e. e.1) (find (λ e. same_position q e.0) es)
first_entry [] q = refl
first_entry {X} (e ∷ es) q =
    ap (cond (same_position q e.0) (Some e.1)) (first_entry es q) ∙ through (same_position q e.0)
  where
    through : (b : Bool) → cond b (Some e.1) (option_map (λ e. e.1) (find (λ e. same_position q e.0) es)) ≡ option_map (λ (e : Position × X). e.1) (cond b (Some e) (find (λ e. same_position q e.0) es))
    through true = refl
    through false = refl

pub get-entries : {X : Type 0} (es : List (Position × X)) (q : Position) → map_of.get (map_of.from_entries {R = position_cmp} es) q ≡ option_map (λ e. e.1) (find (λ e. same_position q e.0) es)
get-entries es q = map_of.get-from_entries positions_total es q ∙ first_entry es q

-- where entries are kept by their keys
pub entries_where : {X : Type 0} (es : List (Position × X)) (p : Position → Bool) → map_of.from_entries {R = position_cmp} (filter (λ e. p e.0) es) ≡ map_of.retain_keys (map_of.from_entries es) p
entries_where es p = map_of.same_map positions_total exact_positions _ _ (λ q.
    map_of.get-from_entries positions_total _ q
    ∙ entries_of.find-where_key position_cmp p q (alike q) es
    ∙ ap (λ o. cond (p q) o None) (sym (map_of.get-from_entries positions_total es q))
    ∙ sym (map_of.get-retain_keys (map_of.from_entries es) p q (alike q)))
  where
    alike : (q x : Position) → position_cmp q x ≡ Equal → p x ≡ p q
    alike q x t = ap p (sym (exact_positions q x t))

-- ---- no position twice

keyed_where : {X : Type 0} (t : Position × X → Bool) (k : Position) (es : List (Position × X)) → list_any (λ x. same_position k x.0) es ≡ false → list_any (λ x. same_position k x.0) (filter t es) ≡ false
keyed_where t k [] none = refl
keyed_where t k (e ∷ es) none = grind (arith, nat_tests, keyed_where t k es)

pub is_keyed-filter : {X : Type 0} (t : Position × X → Bool) (es : List (Position × X)) → is_keyed es ≡ true → is_keyed (filter t es) ≡ true
is_keyed-filter t [] keyed = refl
is_keyed-filter t (e ∷ es) keyed = grind (arith, nat_tests, is_keyed-filter t es, keyed_where t e.0 es)

pub is_keyed-push : {X : Type 0} (es : List (Position × X)) (k : Position) (v : X) → is_keyed es ≡ true → list_any (λ x. same_position k x.0) es ≡ false → is_keyed (es ++ (k, v) ∷ []) ≡ true
is_keyed-push [] k v keyed none = refl
is_keyed-push {X} (e ∷ es) k v keyed none =
    let back = (eq_by_cmp_equiv positions_total).symm k e.0 in
    let more = list_any-append (λ (x : Position × X). same_position e.0 x.0) es ((k, v) ∷ []) in
    let rest = is_keyed-push es k v in
    grind (arith, nat_tests, back, more, rest)

found_nowhere : {X : Type 0} (q : Position) (es : List (Position × X)) → list_any (λ x. same_position q x.0) es ≡ false → entries_of.find position_cmp q es ≡ None
found_nowhere q [] none = refl
found_nowhere q (e ∷ es) none = grind (arith, nat_tests, found_nowhere q es)

-- nothing is left of a position that is left out
none_left : {X : Type 0} (k : Position) (es : List (Position × X)) → list_any (λ x. same_position k x.0) (filter (λ e. not (is_one_of (k ∷ []) e.0)) es) ≡ false
none_left k [] = refl
none_left k (e ∷ es) =
    let back = (eq_by_cmp_equiv positions_total).symm k e.0 in
    let rest = none_left k es in
    grind (arith, nat_tests, back, rest)

put_back : (m : map_of.FinMap position_cmp Held) (k : Position) (v : Held) → map_of.insert (map_of.retain_keys m (λ p. not (is_one_of (k ∷ []) p))) k v ≡ map_of.insert m k v
put_back m k v = map_of.same_map positions_total exact_positions _ _ (λ q.
    map_of.get-insert positions_total _ k v q
    ∙ ap (cond (same_position q k) (Some v)) (map_of.get-retain_keys m (λ p. not (is_one_of (k ∷ []) p)) q (λ x t. ap (λ p. not (is_one_of (k ∷ []) p)) (sym (exact_positions q x t))))
    ∙ either_way (same_position q k) (map_of.get m q)
    ∙ sym (map_of.get-insert positions_total m k v q))
  where
    either_way : (b : Bool) (o : Option Held) → cond b (Some v) (cond (not (b || false)) o None) ≡ cond b (Some v) o
    either_way true o = refl
    either_way false o = refl

-- an entry instead of an earlier one
pub entries_put : (es : List (Position × Held)) (k : Position) (v : Held) → map_of.from_entries {R = position_cmp} (filter (λ e. not (is_one_of (k ∷ []) e.0)) es ++ (k, v) ∷ []) ≡ map_of.insert (map_of.from_entries es) k v
entries_put es k v =
    map_of.from_entries_push positions_total exact_positions _ k v (found_nowhere k _ (none_left k es))
    ∙ ap (λ (m : map_of.FinMap position_cmp Held). map_of.insert m k v) (entries_where es (λ p. not (is_one_of (k ∷ []) p)))
    ∙ put_back (map_of.from_entries es) k v

-- the entries as they stand, one step of code at a time
pub put_entries : (es room left put : List (Position × Held)) (k : Position) (v : Held) → room ≡ es → left ≡ filter (λ e. not (is_one_of (k ∷ []) e.0)) room → put ≡ left ++ (k, v) ∷ [] → put ≡ filter (λ e. not (is_one_of (k ∷ []) e.0)) es ++ (k, v) ∷ []
put_entries es room left put k v a b c = c ∙ ap (λ xs. xs ++ (k, v) ∷ []) (b ∙ ap (filter (λ e. not (is_one_of (k ∷ []) e.0))) a)

pub keyed_put : (es : List (Position × Held)) (k : Position) (v : Held) → is_keyed es ≡ true → is_keyed (filter (λ e. not (is_one_of (k ∷ []) e.0)) es ++ (k, v) ∷ []) ≡ true
keyed_put es k v keyed = is_keyed-push _ k v (is_keyed-filter (λ e. not (is_one_of (k ∷ []) e.0)) es keyed) (none_left k es)

find_released : (consumer : ℕ) (q : Position) (es : List (Position × Held)) → is_keyed es ≡ true → entries_of.find position_cmp q (filter (λ e. not (e.1.consumer == consumer)) es) ≡ cond (not (is_held_by consumer (entries_of.find position_cmp q es))) (entries_of.find position_cmp q es) None
find_released consumer q [] keyed = refl
find_released consumer q (e ∷ es) keyed =
    let rest = find_released consumer q es in
    let none = keyed_where (λ (x : Position × Held). not (x.1.consumer == consumer)) e.0 es in
    let nowhere = found_nowhere e.0 (filter (λ (x : Position × Held). not (x.1.consumer == consumer)) es) in
    let exact = exact_positions q e.0 in
    grind (arith, nat_tests, rest, none, nowhere, exact)

-- the entries of other holders
pub entries_released : (consumer : ℕ) (es : List (Position × Held)) → is_keyed es ≡ true → map_of.from_entries {R = position_cmp} (filter (λ e. not (e.1.consumer == consumer)) es) ≡ map_of.retain_keys (map_of.from_entries es) (λ p. not (is_held_by consumer (map_of.get (map_of.from_entries {R = position_cmp} es) p)))
entries_released consumer es keyed =
    let whole : map_of.FinMap position_cmp Held = map_of.from_entries es in
    let stays : Position → Bool = λ p. not (is_held_by consumer (map_of.get whole p)) in
    map_of.same_map positions_total exact_positions _ _ (λ q.
    map_of.get-from_entries positions_total _ q
    ∙ find_released consumer q es keyed
    ∙ ap (λ o. cond (not (is_held_by consumer o)) o None) (sym (map_of.get-from_entries positions_total es q))
    ∙ sym (map_of.get-retain_keys whole stays q (λ x t. ap stays (sym (exact_positions q x t)))))

-- ---- sets

pub added : (ps qs : List Position) → set.from_list {R = position_cmp} (ps ++ qs) ≡ set.union (set.from_list ps) (set.from_list qs)
added ps qs = set.same_set positions_total exact_positions _ _ (λ p.
    set.contains-from_list positions_total (ps ++ qs) p
    ∙ list_any-append (same_position p) ps qs
    ∙ sym (set.contains-union positions_total _ _ p
    ∙ ap (λ b. b || set.contains (set.from_list {R = position_cmp} qs) p) (set.contains-from_list positions_total ps p)
    ∙ ap (λ b. list_any (same_position p) ps || b) (set.contains-from_list positions_total qs p)))

kept_apart : (p q : Position) (qs : List Position) → same_position p q ≡ true → is_one_of qs q ≡ is_one_of qs p
kept_apart p q qs t = ap (is_one_of qs) (sym (same p q t))

pub left_out : (ps qs : List Position) → set.from_list {R = position_cmp} (filter (λ p. not (is_one_of qs p)) ps) ≡ set.difference (set.from_list ps) (set.from_list qs)
left_out ps qs = set.same_set positions_total exact_positions _ _ (λ p.
    set.contains-from_list positions_total (filter (λ q. not (is_one_of qs q)) ps) p
    ∙ any-filter_same (same_position p) (λ q. not (is_one_of qs q)) (not (is_one_of qs p)) (λ q t. ap not (kept_apart p q qs t)) ps
    ∙ either_order (not (is_one_of qs p)) (list_any (same_position p) ps)
    ∙ sym (set.contains-difference positions_total _ _ p
    ∙ ap (λ b. b && not (set.contains (set.from_list {R = position_cmp} qs) p)) (set.contains-from_list positions_total ps p)
    ∙ ap (λ b. list_any (same_position p) ps && not b) (set.contains-from_list positions_total qs p)))
  where
    either_order : (a b : Bool) → (a && b) ≡ (b && a)
    either_order true true = refl
    either_order true false = refl
    either_order false true = refl
    either_order false false = refl

-- ---- a value instead of another

abbrev pub reheld : Position → Held → List (Position × Held) → List (Position × Held)
reheld k v es = changed (λ e. same_position k e.0) (λ e. (e.0, v)) es

find_reheld : (k : Position) (v : Held) (q : Position) (es : List (Position × Held)) → entries_of.find position_cmp q (reheld k v es) ≡ cond (is_some (entries_of.find position_cmp k es) && same_position q k) (Some v) (entries_of.find position_cmp q es)
find_reheld k v q [] = refl
find_reheld k v q (e ∷ es) = by_case (find_reheld k v q es) (same_position k e.0) refl
  where
    rest : Option Held
    rest = entries_of.find position_cmp q es

    known : Bool
    known = is_some (entries_of.find position_cmp k es)

    twice : (b : Bool) (x y z : Option Held) → cond b x z ≡ cond b x (cond b y z)
    twice true x y z = refl
    twice false x y z = refl

    never : (a b : Bool) (x y : Option Held) → b ≡ false → x ≡ cond (a && b) y x
    never true b x y is = ap (λ t. cond t y x) (sym is)
    never false b x y is = refl

    apart : (b : Bool) → same_position q e.0 ≡ b → same_position k e.0 ≡ false → cond b (Some e.1) (cond (known && same_position q k) (Some v) rest) ≡ cond (known && same_position q k) (Some v) (cond b (Some e.1) rest)
    apart true is away = never known (same_position q k) (Some e.1) (Some v) (ap (λ p. same_position p k) (same q e.0 is) ∙ (eq_by_cmp_equiv positions_total).symm e.0 k ∙ away)
    apart false is away = refl

    by_case : entries_of.find position_cmp q (reheld k v es) ≡ cond (known && same_position q k) (Some v) rest → (a : Bool) → same_position k e.0 ≡ a → entries_of.find position_cmp q (if a then (e.0, v) ∷ es else e ∷ reheld k v es) ≡ cond (is_some (cond a (Some e.1) (entries_of.find position_cmp k es)) && same_position q k) (Some v) (cond (same_position q e.0) (Some e.1) rest)
    by_case after true is =
        twice (same_position q e.0) (Some v) (Some e.1) rest
        ∙ ap (λ p. cond (same_position q p) (Some v) (cond (same_position q e.0) (Some e.1) rest)) (sym (same k e.0 is))
    by_case after false is = ap (cond (same_position q e.0) (Some e.1)) after ∙ apart (same_position q e.0) refl is

any_reheld : (j k : Position) (v : Held) (es : List (Position × Held)) → list_any (λ x. same_position j x.0) (reheld k v es) ≡ list_any (λ x. same_position j x.0) es
any_reheld j k v [] = refl
any_reheld j k v (e ∷ es) = grind (arith, nat_tests, any_reheld j k v es)

pub keyed_reheld : (k : Position) (v : Held) (es : List (Position × Held)) → is_keyed es ≡ true → is_keyed (reheld k v es) ≡ true
keyed_reheld k v [] keyed = refl
keyed_reheld k v (e ∷ es) keyed = grind (arith, nat_tests, keyed_reheld k v es, any_reheld e.0 k v es)

pub entries_reheld : (es : List (Position × Held)) (k : Position) (v : Held) → map_of.from_entries {R = position_cmp} (reheld k v es) ≡ (if map_of.contains_key (map_of.from_entries {R = position_cmp} es) k then map_of.insert (map_of.from_entries es) k v else map_of.from_entries es)
entries_reheld es k v = map_of.same_map positions_total exact_positions _ _ (λ q.
    map_of.get-from_entries positions_total _ q
    ∙ find_reheld k v q es
    ∙ sym (either_way (is_some (map_of.get whole k)) q
    ∙ ap (λ (o : Option Held). cond (is_some o && same_position q k) (Some v) (map_of.get whole q)) (map_of.get-from_entries positions_total es k)
    ∙ ap (cond (is_some (entries_of.find position_cmp k es) && same_position q k) (Some v)) (map_of.get-from_entries positions_total es q)))
  where
    whole : map_of.FinMap position_cmp Held
    whole = map_of.from_entries es

    either_way : (b : Bool) (q : Position) → map_of.get (if b then map_of.insert whole k v else whole) q ≡ cond (b && same_position q k) (Some v) (map_of.get whole q)
    either_way true q = map_of.get-insert positions_total whole k v q
    either_way false q = refl

-- ---- counts

-- the count of a message, with those of some risen
find_recounted : (m : map_of.FinMap position_cmp ℕ) (ps : List Position) (q : Position) → map_of.get (recounted ps m) q ≡ cond (is_one_of ps q) (Some (counted_again (unwrap_or (map_of.get m q) 0))) (map_of.get m q)
find_recounted m [] q = refl
find_recounted m (p ∷ ps) q =
    map_of.get-insert positions_total (recounted ps m) p (counted_again (unwrap_or (map_of.get m p) 0)) q
    ∙ ap (cond (same_position q p) (Some (counted_again (unwrap_or (map_of.get m p) 0)))) (find_recounted m ps q)
    ∙ step (same_position q p) refl
  where
    step : (b : Bool) → same_position q p ≡ b → cond b (Some (counted_again (unwrap_or (map_of.get m p) 0))) (cond (is_one_of ps q) (Some (counted_again (unwrap_or (map_of.get m q) 0))) (map_of.get m q)) ≡ cond (b || is_one_of ps q) (Some (counted_again (unwrap_or (map_of.get m q) 0))) (map_of.get m q)
    step true e = ap (λ r. Some (counted_again (unwrap_or (map_of.get m r) 0))) (sym (same q p e))
    step false e = refl

find_raised : (es zs : List (Position × ℕ)) (ps : List Position) (q : Position) → entries_of.find position_cmp q (raised_entries es ps ++ zs) ≡ cond (is_one_of ps q) (Some (counted_again (count_in es q))) (entries_of.find position_cmp q zs)
find_raised es zs [] q = refl
find_raised es zs (p ∷ ps) q =
    ap (cond (same_position q p) (Some (counted_again (count_in es p)))) (find_raised es zs ps q) ∙ step (same_position q p) refl
  where
    step : (b : Bool) → same_position q p ≡ b → cond b (Some (counted_again (count_in es p))) (cond (is_one_of ps q) (Some (counted_again (count_in es q))) (entries_of.find position_cmp q zs)) ≡ cond (b || is_one_of ps q) (Some (counted_again (count_in es q))) (entries_of.find position_cmp q zs)
    step true e = ap (λ r. Some (counted_again (count_in es r))) (sym (same q p e))
    step false e = refl

-- the counts that are new, before those of the others
pub entries_counted : (es : List (Position × ℕ)) (ps : List Position) → map_of.from_entries {R = position_cmp} (raised_entries es ps ++ filter (λ e. not (is_one_of ps e.0)) es) ≡ recounted ps (map_of.from_entries es)
entries_counted es ps = map_of.same_map positions_total exact_positions _ _ (λ q.
    map_of.get-from_entries positions_total _ q
    ∙ find_raised es (filter (λ e. not (is_one_of ps e.0)) es) ps q
    ∙ ap (cond (is_one_of ps q) (Some (counted_again (count_in es q)))) (entries_of.find-where_key position_cmp (λ p. not (is_one_of ps p)) q (λ x t. ap (λ p. not (is_one_of ps p)) (sym (exact_positions q x t))) es)
    ∙ others (is_one_of ps q) (Some (counted_again (count_in es q))) (entries_of.find position_cmp q es)
    ∙ ap (λ (o : Option ℕ). cond (is_one_of ps q) (Some (counted_again (unwrap_or o 0))) (entries_of.find position_cmp q es)) (sym (get-entries es q))
    ∙ ap (cond (is_one_of ps q) (Some (counted_again (unwrap_or (map_of.get (map_of.from_entries {R = position_cmp} es) q) 0)))) (sym (map_of.get-from_entries positions_total es q))
    ∙ sym (find_recounted (map_of.from_entries es) ps q))
  where
    others : (b : Bool) (x y : Option ℕ) → cond b x (cond (not b) y None) ≡ cond b x y
    others true x y = refl
    others false x y = refl

-- the entries as they stand, one step of code at a time
pub counted_entries : (es first later raised whole : List (Position × ℕ)) (ps : List Position) → first ≡ es → later ≡ es → raised ≡ raised_entries first ps → whole ≡ raised ++ filter (λ e. not (is_one_of ps e.0)) later → map_of.from_entries {R = position_cmp} whole ≡ recounted ps (map_of.from_entries es)
counted_entries es first later raised whole ps a b c d =
    ap map_of.from_entries (d ∙ ap (λ xs. xs ++ filter (λ e. not (is_one_of ps e.0)) later) (c ∙ ap (λ xs. raised_entries xs ps) a) ∙ ap (λ xs. raised_entries es ps ++ filter (λ e. not (is_one_of ps e.0)) xs) b)
    ∙ entries_counted es ps
