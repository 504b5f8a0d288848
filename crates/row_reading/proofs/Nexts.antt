-- Rows of which the first are those of some things: which thing is the next, and where the others begin.
use Rattle.std.proofs.Common.{◌≡◌, ℕ, List, [], ◌∷◌, ◌++◌, map, refl, subst}
use Rattle.std.specs.List.{AllByRecursion}
use Rattle.sqlite.specs.declared.types.Value.TheVariants.{Text as Words}
use Rattle.sqlite.specs.Order.{Row, column}
use Rattle.row_reading.specs.Reading.{ArePast, put}
use Rattle.row_reading.proofs.Orders.{cons_is}

module _ {X : Type 0} where
  -- the first one is not such, if there is one
  abbrev pub FirstIsNot : (X → Type 0) → List X → Type 0
  FirstIsNot P [] = Unit {0}
  FirstIsNot P (x ∷ xs) = P x → ⊥

  pub same_front : (P : X → Type 0) (xs us ys vs : List X) → AllByRecursion P xs → FirstIsNot P us → AllByRecursion P ys → FirstIsNot P vs → xs ++ us ≡ ys ++ vs → (xs ≡ ys) × (us ≡ vs)
  same_front P [] us [] vs px nu py nv e = (refl, e)
  same_front P [] [] (y ∷ ys) vs px nu py nv e = absurd (cc)
  same_front P [] (u ∷ us) (y ∷ ys) vs px nu py nv e = let is : y ≡ u = cc in absurd (nu (subst P is py.0))
  same_front P (x ∷ xs) us [] [] px nu py nv e = absurd (cc)
  same_front P (x ∷ xs) us [] (v ∷ vs) px nu py nv e = let is : x ≡ v = cc in absurd (nv (subst P is px.0))
  same_front P (x ∷ xs) us (y ∷ ys) vs px nu py nv e =
      let is : x ≡ y = cc in
      let others : xs ++ us ≡ ys ++ vs = cc in
      let rest = same_front P xs us ys vs px.1 nu py.1 nv others in
      (cons_is x y xs ys is rest.0, rest.1)

module _ {A X : Type 0} (cells : A → X) (Fits : A → Type 0) (one : (x y : A) → Fits x → Fits y → cells x ≡ cells y → x ≡ y) (P : X → Type 0) (such : (x : A) → P (cells x)) where
  -- after those that came, the next one is the next of all
  pub next_is : (came all : List A) (row : X) (after rest : List X) → AllByRecursion Fits came → AllByRecursion Fits all → map cells came ++ row ∷ after ≡ map cells all ++ rest → P row → FirstIsNot P rest
      → (x : A) × (more : List A) × (all ≡ came ++ x ∷ more) × (row ≡ cells x)
  next_is [] [] row after [] fit fits e is none = absurd (cc)
  next_is [] [] row after (r ∷ rest) fit fits e is none = let same : row ≡ r = cc in absurd (none (subst P same is))
  next_is [] (x ∷ xs) row after rest fit fits e is none = let same : row ≡ cells x = cc in (x, xs, refl, same)
  next_is (y ∷ ys) [] row after [] fit fits e is none = absurd (cc)
  next_is (y ∷ ys) [] row after (r ∷ rest) fit fits e is none = let same : cells y ≡ r = cc in absurd (none (subst P same (such y)))
  next_is (y ∷ ys) (x ∷ xs) row after rest fit fits e is none =
      let same : cells y ≡ cells x = cc in
      let others : map cells ys ++ row ∷ after ≡ map cells xs ++ rest = cc in
      let n = next_is ys xs row after rest fit.1 fits.1 others is none in
      let first : x ≡ y = one x y fits.0 fit.0 (same_back same) in
      (n.0, n.1, cons_is x y xs (ys ++ n.0 ∷ n.1) first n.2, n.3)
    where
      same_back : cells y ≡ cells x → cells x ≡ cells y
      same_back e = cc

-- what holds of all holds of the next one, and of those before it
pub all_at : {A : Type 0} (P : A → Type 0) (xs : List A) (x : A) (more : List A) → AllByRecursion P (xs ++ x ∷ more) → P x
all_at P [] x more all = all.0
all_at P (y ∷ ys) x more all = all_at P ys x more all.1

-- where a subscription's rows are past, the first one has another name
pub past_first : (sub : List ℕ) (rest : List Row) → ArePast sub rest → FirstIsNot (λ (r : Row). column r 1 ≡ Words sub) (put [] rest)
past_first sub [] none = tt
past_first sub (row ∷ rest) none = λ is. none is
