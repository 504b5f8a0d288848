-- Orders of rows: no two rows are below one another.
use Rattle.std.proofs.Common.{◌≡◌, ℕ, inl, inr, List, [], ◌∷◌, ap, sym, ◌∙◌, arith}
use Rattle.std.specs.List.{AllByRecursion}
use Rattle.std.specs.declared.cmp.Ordering.TheVariants.{Less, Equal}
use Rattle.std.specs.Cmp.{tied_itself}
use Rattle.std.proofs.lemmas.Cmp.{nat_list_cmp_total}
use Rattle.sqlite.specs.Order.{Row}
use Rattle.position_core.specs.Name.{name_order}
use Rattle.row_reading.specs.KeyOrder.{BelowByName, BelowByNumber, BelowByPlace, name_in}
use Rattle.row_reading.proofs.Orders.{IsOneWay, all_weaker}

never_both : (a b : List ℕ) → name_order a b ≡ Less → name_order b a ≡ Less → ⊥
never_both a b below above =
    let less : name_order a a ≡ Less = nat_list_cmp_total.trans a b a below above in
    let tied : name_order a a ≡ Equal = tied_itself nat_list_cmp_total a in
    absurd (cc)

pub never_itself : (a b : List ℕ) → a ≡ b → name_order a b ≡ Less → ⊥
never_itself a b same below =
    let tied : name_order a b ≡ Equal = ap (name_order a) (sym same) ∙ tied_itself nat_list_cmp_total a in
    absurd (cc)

pub by_place_one_way : IsOneWay BelowByPlace
by_place_one_way r s below above = omega arith

pub by_name_one_way : IsOneWay BelowByName
by_name_one_way r s below above = never_both (name_in r) (name_in s) below above

pub by_number_one_way : IsOneWay BelowByNumber
by_number_one_way r s (inl below) (inl above) = never_both (name_in r) (name_in s) below above
by_number_one_way r s (inl below) (inr above) = never_itself (name_in r) (name_in s) (sym above.0) below
by_number_one_way r s (inr below) (inl above) = never_itself (name_in s) (name_in r) (sym below.0) above
by_number_one_way r s (inr below) (inr above) = omega (arith, below.1, above.1)

-- rows of a name stand before rows of names after it
pub apart_by_name : (name : List ℕ) (xs ys : List Row) → AllByRecursion (λ (r : Row). name_in r ≡ name) xs → AllByRecursion (λ (r : Row). name_order name (name_in r) ≡ Less) ys → AllByRecursion (λ (x : Row). AllByRecursion (BelowByNumber x) ys) xs
apart_by_name name [] ys named after = tt
apart_by_name name (x ∷ xs) ys named after = (
  all_weaker (λ (r : Row). name_order name (name_in r) ≡ Less) (BelowByNumber x) (λ r less. inl (ap (λ n. name_order n (name_in r)) named.0 ∙ less)) ys after,
  apart_by_name name xs ys named.1 after,
)
