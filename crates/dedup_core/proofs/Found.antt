-- What is found of a name in what the table keeps.
use Rattle.std.proofs.Common.{◌≡◌, ℕ, List, [], ◌∷◌, cond, Some, None, ap, sym, ◌∙◌}
use Rattle.std.specs.Ordering.{eq_by_cmp}
use Rattle.std.specs.Cmp.{IsTotalOrder, eq_by_cmp_equiv}
use Rattle.std.specs.Cmp.Lexicographic.{nat_list_cmp_total}
use Rattle.std.specs.FinMap as map_of
use Rattle.std.proofs.lemmas.Map.Lookups.{exact_bytes}
use Rattle.position_core.specs.Name.{name_order}
use Rattle.dedup_core.specs.declared.name_key.NameKey.{NameKey}
use Rattle.dedup_core.specs.declared.table.LastNumber.{LastNumber}
use Rattle.dedup_core.specs.Sequences.{Numbers}
use Rattle.dedup_core.specs.Names.{number_at, numbers_in}

pub names_total : IsTotalOrder name_order
names_total = nat_list_cmp_total

pub get-numbers_in : (es : List (NameKey × LastNumber)) (name : List ℕ) → map_of.get (numbers_in es) name ≡ number_at es name
get-numbers_in [] name = map_of.get-empty name_order name
get-numbers_in (e ∷ es) name =
    map_of.get-insert names_total (numbers_in es) e.0.name e.1 name
    ∙ ap (cond (eq_by_cmp name_order name e.0.name) (Some e.1)) (get-numbers_in es name)

-- as the table is seen
pub seen : (es : List (NameKey × LastNumber)) (name : List ℕ) (numbers : Numbers) → numbers_in es ≡ numbers → number_at es name ≡ map_of.get numbers name
seen es name numbers is = sym (get-numbers_in es name) ∙ ap (λ (m : Numbers). map_of.get m name) is

turned : (a b : List ℕ) → eq_by_cmp name_order a b ≡ eq_by_cmp name_order b a
turned a b = (eq_by_cmp_equiv names_total).symm a b

-- after a number is written
pub numbers_in-updated : (es fs : List (NameKey × LastNumber)) (name : List ℕ) (number : LastNumber) → ((other : List ℕ) → number_at fs other ≡ cond (eq_by_cmp name_order name other) (Some number) (number_at es other)) → numbers_in fs ≡ map_of.insert (numbers_in es) name number
numbers_in-updated es fs name number h = map_of.same_map names_total exact_bytes _ _ (λ q.
    get-numbers_in fs q ∙ h q
    ∙ ap (λ b. cond b (Some number) (number_at es q)) (turned name q)
    ∙ ap (cond (eq_by_cmp name_order q name) (Some number)) (sym (get-numbers_in es q))
    ∙ sym (map_of.get-insert names_total (numbers_in es) name number q))

-- after a number is forgotten
pub numbers_in-removed : (es fs : List (NameKey × LastNumber)) (name : List ℕ) → ((other : List ℕ) → number_at fs other ≡ cond (eq_by_cmp name_order name other) None (number_at es other)) → numbers_in fs ≡ map_of.remove (numbers_in es) name
numbers_in-removed es fs name h = map_of.same_map names_total exact_bytes _ _ (λ q.
    get-numbers_in fs q ∙ h q
    ∙ ap (λ b. cond b None (number_at es q)) (turned name q)
    ∙ ap (cond (eq_by_cmp name_order q name) None) (sym (get-numbers_in es q))
    ∙ sym (map_of.get-remove names_total (numbers_in es) name q))
