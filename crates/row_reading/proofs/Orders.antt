-- Lists in order, of any things: two of them with the same things are one.
use Rattle.std.proofs.Common.{◌≡◌, ◌⊎◌, inl, inr, List, [], ◌∷◌, ◌++◌, map, refl, ap, sym, ◌∙◌, subst}
use Rattle.std.specs.Prelude.{IsPermutation}
use Rattle.std.specs.List.{AllByRecursion}
use Rattle.std.proofs.lemmas.List.Elements.{All-from_recursion, recursion_from_All}
use Rattle.std.proofs.lemmas.List.Sorted.{All-permutation, IsPermutation-sym}
use Rattle.row_reading.specs.KeyOrder.{InOrder}

pub pair_is : {A B : Type 0} (p q : A × B) → p.0 ≡ q.0 → p.1 ≡ q.1 → p ≡ q
pair_is {A} {B} p q first second = let pair : A → B → A × B = λ a b. (a, b) in ap (λ a. pair a p.1) first ∙ ap (pair q.0) second

module _ {A : Type 0} where
  pub cons_is : (x y : A) (xs ys : List A) → x ≡ y → xs ≡ ys → x ∷ xs ≡ y ∷ ys
  cons_is x y xs ys first rest = rw (first, rest) refl

  pub all_weaker : (P Q : A → Type 0) → ((x : A) → P x → Q x) → (xs : List A) → AllByRecursion P xs → AllByRecursion Q xs
  all_weaker P Q gives [] all = tt
  all_weaker P Q gives (x ∷ xs) all = (gives x all.0, all_weaker P Q gives xs all.1)

  pub all_both : (P Q : A → Type 0) (xs : List A) → AllByRecursion P xs → AllByRecursion Q xs → AllByRecursion (λ x. P x × Q x) xs
  all_both P Q [] ps qs = tt
  all_both P Q (x ∷ xs) ps qs = ((ps.0, qs.0), all_both P Q xs ps.1 qs.1)

  pub all_append : (P : A → Type 0) (xs ys : List A) → AllByRecursion P xs → AllByRecursion P ys → AllByRecursion P (xs ++ ys)
  all_append P [] ys ps qs = qs
  all_append P (x ∷ xs) ys ps qs = (ps.0, all_append P xs ys ps.1 qs)

  pub order_append : (R : A → A → Type 0) (xs ys : List A) → InOrder R xs → InOrder R ys → AllByRecursion (λ x. AllByRecursion (R x) ys) xs → InOrder R (xs ++ ys)
  order_append R [] ys a b below = b
  order_append R (x ∷ xs) ys a b below = (all_append (R x) xs ys a.0 below.0, order_append R xs ys a.1 b below.1)

  -- no two are below one another
  abbrev pub IsOneWay : (A → A → Type 0) → Type 0
  IsOneWay R = (x y : A) → R x y → R y x → ⊥

  -- what holds of each of the first holds of each of the second
  abbrev Within : List A → List A → Type 1
  Within xs ys = (P : A → Type 0) → AllByRecursion P xs → AllByRecursion P ys

  within_rest : (R : A → A → Type 0) → IsOneWay R → (x y : A) (xs ys : List A) → x ≡ y → AllByRecursion (R y) ys → Within (x ∷ xs) (y ∷ ys) → Within xs ys
  within_rest R one_way x y xs ys same above within P all = each ys above (within (λ z. (z ≡ x) ⊎ P z) (inl refl, all_weaker P (λ z. (z ≡ x) ⊎ P z) (λ z p. inr p) xs all)).1
    where
      each : (zs : List A) → AllByRecursion (R y) zs → AllByRecursion (λ z. (z ≡ x) ⊎ P z) zs → AllByRecursion P zs
      each [] _ _ = tt
      each (z ∷ zs) after either = (
        elim either.0 [
          | inl is ↦ let itself : R y y = subst (R y) (is ∙ same) after.0 in absurd (one_way y y itself itself)
          | inr holds ↦ holds
        ],
        each zs after.1 either.1,
      )

  same_within : (R : A → A → Type 0) → IsOneWay R → (xs ys : List A) → InOrder R xs → InOrder R ys → Within xs ys → Within ys xs → xs ≡ ys
  same_within R one_way [] [] a b to back = refl
  same_within R one_way [] (y ∷ ys) a b to back = absurd (to (λ _. ⊥) tt).0
  same_within R one_way (x ∷ xs) [] a b to back = absurd (back (λ _. ⊥) tt).0
  same_within R one_way (x ∷ xs) (y ∷ ys) a b to back =
      let here : (y ≡ x) ⊎ R x y = (to (λ z. (z ≡ x) ⊎ R x z) (inl refl, all_weaker (R x) (λ z. (z ≡ x) ⊎ R x z) (λ z r. inr r) xs a.0)).0 in
      let there : (x ≡ y) ⊎ R y x = (back (λ z. (z ≡ y) ⊎ R y z) (inl refl, all_weaker (R y) (λ z. (z ≡ y) ⊎ R y z) (λ z r. inr r) ys b.0)).0 in
      let same : x ≡ y = elim here [
        | inl is ↦ sym is
        | inr below ↦ elim there [ inl is ↦ is | inr above ↦ absurd (one_way x y below above) ]
      ] in
      let rest : xs ≡ ys = same_within R one_way xs ys a.1 b.1 (within_rest R one_way x y xs ys same b.0 to) (within_rest R one_way y x ys xs (sym same) a.0 back) in
      cons_is x y xs ys same rest

  within_permutation : (xs ys : List A) → IsPermutation xs ys → Within xs ys
  within_permutation xs ys same P all = recursion_from_All P ys (All-permutation P xs ys same (All-from_recursion P xs all))

  pub same_in_order : (R : A → A → Type 0) → IsOneWay R → (xs ys : List A) → InOrder R xs → InOrder R ys → IsPermutation xs ys → xs ≡ ys
  same_in_order R one_way xs ys a b same = same_within R one_way xs ys a b (within_permutation xs ys same) (within_permutation ys xs (IsPermutation-sym xs ys same))

  -- where the first ones are told from the others, they are the same in both, and so are the others
  pub same_parts : (P Q : A → Type 0) → ((x : A) → P x → Q x → ⊥) → (xs us ys vs : List A) → AllByRecursion P xs → AllByRecursion Q us → AllByRecursion P ys → AllByRecursion Q vs → xs ++ us ≡ ys ++ vs → (xs ≡ ys) × (us ≡ vs)
  same_parts P Q apart [] us [] vs px qu py qv e = (refl, e)
  same_parts P Q apart [] [] (y ∷ ys) vs px qu py qv e = absurd (cc)
  same_parts P Q apart [] (u ∷ us) (y ∷ ys) vs px qu py qv e = let is : u ≡ y = cc in absurd (apart y py.0 (subst Q is qu.0))
  same_parts P Q apart (x ∷ xs) us [] [] px qu py qv e = absurd (cc)
  same_parts P Q apart (x ∷ xs) us [] (v ∷ vs) px qu py qv e = let is : v ≡ x = cc in absurd (apart x px.0 (subst Q is qv.0))
  same_parts P Q apart (x ∷ xs) us (y ∷ ys) vs px qu py qv e =
      let is : x ≡ y = cc in
      let others : xs ++ us ≡ ys ++ vs = cc in
      let rest = same_parts P Q apart xs us ys vs px.1 qu py.1 qv others in
      (cons_is x y xs ys is rest.0, rest.1)

-- where each thing has one row, the same rows are those of the same things
pub same_mapped : {A X : Type 0} (cells : A → X) (Fits : A → Type 0) (one : (x y : A) → Fits x → Fits y → cells x ≡ cells y → x ≡ y) (xs ys : List A) → AllByRecursion Fits xs → AllByRecursion Fits ys → map cells xs ≡ map cells ys → xs ≡ ys
same_mapped cells Fits one [] [] a b e = refl
same_mapped cells Fits one [] (y ∷ ys) a b e = absurd (cc)
same_mapped cells Fits one (x ∷ xs) [] a b e = absurd (cc)
same_mapped cells Fits one (x ∷ xs) (y ∷ ys) a b e =
    let first : cells x ≡ cells y = cc in
    let others : map cells xs ≡ map cells ys = cc in
    cons_is x y xs ys (one x y a.0 b.0 first) (same_mapped cells Fits one xs ys a.1 b.1 others)
