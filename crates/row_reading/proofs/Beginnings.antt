-- The first rows are those of some things, and others follow.
use Rattle.std.proofs.Common.{◌≡◌, ℕ, List, [], ◌∷◌, ◌++◌, map, ap, sym, ◌∙◌, append_assoc}
use Rattle.std.proofs.lemmas.List.{map-append}
use Rattle.sqlite.specs.declared.types.Value.TheVariants.{Text as Words}
use Rattle.sqlite.specs.Order.{Row}
use Rattle.row_reading.specs.Reading.{put}

-- the first of those that follow is one more
pub one_more : {A : Type 0} (cells : A → Row) (xs : List A) (x : A) (topic : List ℕ) (rows rest after : List Row) (row : Row) → put topic rows ≡ map cells xs ++ put topic rest → rest ≡ row ∷ after → Words topic ∷ row ≡ cells x
    → put topic rows ≡ map cells (xs ++ x ∷ []) ++ put topic after
one_more cells xs x topic rows rest after row so_far next shown =
    so_far
    ∙ ap (λ l. map cells xs ++ put topic l) next
    ∙ ap (λ (r : Row). map cells xs ++ r ∷ put topic after) shown
    ∙ sym (ap (λ l. l ++ put topic after) (map-append cells xs (x ∷ [])) ∙ append_assoc (map cells xs) (cells x ∷ []) (put topic after))
