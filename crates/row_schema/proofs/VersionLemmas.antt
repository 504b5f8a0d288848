-- What the query of the versions shows.
use Rattle.std.proofs.Common.{◌≡◌, ◌<◌, ◌^◌, lit<, ℕ, codes, List, [], ◌∷◌, length, map, filter, true, false, pos, refl, sym, ap, subst, ◌∙◌, arith}
use Rattle.std.specs.List.Sorted.{IsPermutation}
use Rattle.std.proofs.lemmas.List.Sorted.{IsPermutation-map, IsPermutation-sym}
use Rattle.sqlite.specs.declared.types.Value.TheVariants.{Null, Int}
use Rattle.sqlite.specs.Order.{Row}
use Rattle.sqlite.specs.Schema.{Schema}
use Rattle.sqlite.specs.Effect.{Database}
use Rattle.sqlite.specs.Term.{col}
use Rattle.sqlite.specs.Query.{Query, Output}
use Rattle.sqlite.specs.Program.{overlay}
use Rattle.sqlite.specs.Command.TheVariants.{Select}
use Rattle.sqlite_trees.proofs.ListLemmas.{map-map}
use Rattle.sqlite_tied.specs.Compute.{everything}
use Rattle.sqlite.specs.State.{State, Shown}
use Rattle.sqlite.specs.Listing.{understood, reads_listing}
use Rattle.sqlite.proofs.Callers.{IsPlain, command_of, reads_as, one_permutation}
use Rattle.row_forms.specs.Cells.{META}
use Rattle.row_tables.specs.Ready.{IsMarked, versions}
use Rattle.row_tables.proofs.Texts.{alone, matching}
use Rattle.row_tables.proofs.StatementLemmas.{finds, shows}
use Rattle.row_schema.specs.declared.version.Version.{Version}
use Rattle.row_schema.specs.declared.version.Version.TheVariants.{One, Two, Three}
use Rattle.row_schema.specs.Versions.{schema_of, number_of, HasNoVersion}

abbrev marks : Query
marks = matching META [] (col 1 0 ∷ col 1 2 ∷ []) []

abbrev select_meta : List ℕ
select_meta = codes "SELECT id, version FROM meta"

select_meta_is : (v : Version) → (command_of (understood (schema_of v) select_meta) ≡ Select (alone marks) (codes "id" ∷ codes "version" ∷ [])) × (reads_listing (schema_of v) select_meta ≡ false) × IsPlain (understood (schema_of v) select_meta)
unfolding understood everything
select_meta_is One = (refl, refl, (refl, refl))
select_meta_is Two = (refl, refl, (refl, refl))
select_meta_is Three = (refl, refl, (refl, refl))

pub is_small : (v : Version) → number_of v < 2 ^ 63
is_small One = lit< tt
is_small Two = lit< tt
is_small Three = lit< tt

all_pass : {A : Type 0} (xs : List A) → filter (λ _. true) xs ≡ xs
all_pass [] = refl
all_pass (x ∷ xs) = ap (λ more. x ∷ more) (all_pass xs)

-- the query shows the mark of each row
shown_marks : (v : Version) (old new : State) (rows : List Row) → Shown select_meta [] old new rows → old.now.schema ≡ schema_of v → IsPermutation (versions (old.now.trees META)) rows
shown_marks v old new rows h has =
    let is = select_meta_is v in
    let read = reads_as select_meta [] old new (schema_of v) has (Select (alone marks) (codes "id" ∷ codes "version" ∷ [])) is.0 is.2 is.1 rows h in
    let found = finds META [] (col 1 0 ∷ col 1 2 ∷ []) [] [] (λ _. true) (overlay old.now.trees []) rows (λ _. refl) (read.answer Null) in
    let stored = old.now.trees META in
    let show = shows (col 1 0 ∷ col 1 2 ∷ []) [] [] in
    let second = λ (o : Output). o.1 in
    let here : IsPermutation (map show stored) found.0 = subst (λ xs. IsPermutation (map show xs) found.0) (all_pass stored) found.1 in
    subst (λ l. IsPermutation l rows) (map-map second show stored) (subst (IsPermutation _) (sym found.2) (IsPermutation-map second _ _ here))

-- one row is shown where the mark is the only one
pub marked : (v : Version) (old new : State) (rows : List Row) → Shown select_meta [] old new rows → rows ≡ (Int (pos 1) ∷ Int (pos (number_of v)) ∷ []) ∷ [] → old.now.schema ≡ schema_of v → IsMarked (number_of v) old.now.trees
marked v old new rows h one has =
    one_permutation _ _ (IsPermutation-sym _ _ (subst (IsPermutation _) one (shown_marks v old new rows h has)))

pub all_read : (v : Version) (old new : State) (rows : List Row) → Shown select_meta [] old new rows → old.now.schema ≡ schema_of v → IsMarked (number_of v) old.now.trees → rows ≡ (Int (pos 1) ∷ Int (pos (number_of v)) ∷ []) ∷ []
all_read v old new rows h has mark =
    one_permutation _ _ (subst (λ l. IsPermutation l rows) mark (shown_marks v old new rows h has))

-- no two versions have the same tables
pub one_version : (v w : Version) → schema_of v ≡ schema_of w → v ≡ w
one_version v w same = by_count v w (ap (λ (s : Schema). length s.tables) same)
  where
    by_count : (v w : Version) → length (schema_of v).tables ≡ length (schema_of w).tables → v ≡ w
    by_count One One same = refl
    by_count One Two same = absurd (omega (arith, same))
    by_count One Three same = absurd (omega (arith, same))
    by_count Two One same = absurd (omega (arith, same))
    by_count Two Two same = refl
    by_count Two Three same = absurd (omega (arith, same))
    by_count Three One same = absurd (omega (arith, same))
    by_count Three Two same = absurd (omega (arith, same))
    by_count Three Three same = refl

-- what has the same tables and rows is of no version either
pub foreign_as : (a b : Database) → a.schema ≡ b.schema → a.trees ≡ b.trees → HasNoVersion a → HasNoVersion b
foreign_as a b tables rows none version has = none version (tables ∙ has.0, subst (IsMarked (number_of version)) (sym rows) has.1)
