-- What `reduce` makes of a list of items, where the closure picks or merges two.
use Rattle.std.proofs.Common.{◌≡◌, List, [], ◌∷◌, Option, Some, None, ap, subst}
use Rattle.std.specs.Fn.{Called}
use Rattle.std.specs.List.{FoldsTo, reduce}
use Rattle.std.specs.Iterator.{FoldTurn, ReducesItems}
use Rattle.std.proofs.lemmas.Iterator.{YieldsList}
use Rattle.std.proofs.lemmas.Iterator.Consumers.{reduce_from_yields_List}
use denote.Param.Members.{Mut}

-- a closure that is a function takes the turns that the function takes
turns_of : {A F : Type 0} (g : Mut F (A × (A × Unit {0})) A) (pick : A → A → A) (f : F) → ((a x b : A) (q : F) → Called g f (a, (x, tt)) b q → (q ≡ f) × (b ≡ pick a x)) → (xs : List A) (a b : A) (q : F) → FoldsTo {P = F × A} (FoldTurn g) (f, a) xs (q, b) → FoldsTo (λ p z c. c ≡ pick p z) a xs b
turns_of g pick f picks [] a b q turns = ap (λ p. p.1) turns
turns_of {A} {F} g pick f picks (x ∷ xs) a b q turns =
    let one = picks a x turns.0.1 turns.0.0 turns.1 in (
      turns.0.1,
      one.1,
      turns_of g pick f picks xs turns.0.1 b q (subst (λ (h : F). FoldsTo {P = F × A} (FoldTurn g) (h, turns.0.1) xs (q, b)) one.0 turns.2),
    )

pub reduced : {S A F : Type 0} {steps : S → Option A → S → Type 0} {s : S} {all : List A} (g : Mut F (A × (A × Unit {0})) A) (pick : A → A → A) (f : F) (r : Option A) → ReducesItems steps g s f r → YieldsList steps (λ x. x) s all → ((a x b : A) (q : F) → Called g f (a, (x, tt)) b q → (q ≡ f) × (b ≡ pick a x)) → r ≡ reduce pick all
reduced g pick f None ran yields picks = reduce_from_yields_List pick _ None ran yields
reduced g pick f (Some y) ran yields picks =
    reduce_from_yields_List pick _ (Some y) (ran.0, ran.1, ran.3, turns_of g pick f picks ran.1 ran.0 y ran.2 ran.4) yields
