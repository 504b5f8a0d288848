-- The names that a topic knows are those that are used.
use Rattle.std.proofs.Common.{◌≡◌, ℕ, List, [], ◌∷◌, ◌++◌, Bool, map, refl, sym, ap, ap₂, ◌∙◌}
use Rattle.std.specs.Prelude.{◌||◌}
use Rattle.std.specs.List.{list_any}
use Rattle.std.specs.Str.{bytes_eq}
use Rattle.std.proofs.lemmas.List.Folds.{list_any-append}
use Rattle.delivery_machine.specs.State.{State}
use Rattle.delivery_machine.specs.Words.{is_by, signed, signed_by}
use Rattle.delivery_machine.specs.Producing.{IsLeastFree, is_used, auto_name}
use Rattle.plain_lists.specs.Auto.{is_among, IsLeastFreeIn}
use Rattle.plain_topic.specs.Names.{names_used}

pub list_any-map : {A B : Type 0} (p : B → Bool) (f : A → B) (xs : List A) → list_any p (map f xs) ≡ list_any (λ x. p (f x)) xs
list_any-map p f [] = refl
list_any-map p f (x ∷ xs) = ap (λ b. p (f x) || b) (list_any-map p f xs)

among_used : (s : State) (q : List ℕ) → is_among (names_used s) q ≡ is_used s q
among_used s q =
    let by_name = λ (other : List ℕ). bytes_eq other q in
    list_any-append by_name (map (λ p. p.name) s.producers) (map (λ a. a.name) s.authors ++ map (λ e. e.producer) s.log)
    ∙ ap₂ (λ b c. b || c) (list_any-map by_name (λ p. p.name) s.producers)
    (
    list_any-append by_name (map (λ a. a.name) s.authors) (map (λ e. e.producer) s.log)
    ∙ ap₂ (λ b c. b || c)
    (list_any-map by_name (λ a. a.name) s.authors ∙ sym (list_any-map (is_by q) signed_by s.authors))
    (list_any-map by_name (λ e. e.producer) s.log ∙ sym (list_any-map (is_by q) signed s.log))
    ∙ sym (list_any-append (is_by q) (map signed_by s.authors) (map signed s.log))
    )

pub least_of_used : (s : State) (n : ℕ) → IsLeastFreeIn (names_used s) n → IsLeastFree s n
least_of_used s n least =
    (sym (among_used s (auto_name n)) ∙ least.0, λ k below. sym (among_used s (auto_name k)) ∙ least.1 k below)
