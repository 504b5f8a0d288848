-- The shares in their row.
use Rattle.std.proofs.Common.{◌≡◌, ℕ, ◌+◌, ◌<◌, ◌≤◌, Bool, true, false, List, [], ◌∷◌, ◌⊎◌, Option, Some, None, inl, inr, refl, sym, subst, arith}
use Rattle.std.specs.Prelude.{◌&&◌, nat_le, nat_lt, IfSome, IfNone}
use Rattle.std.proofs.lemmas.Bool.{lt-ltb, le-leb, and_from}
use Rattle.std.proofs.lemmas.Option.{none-some}
use Rattle.position_core.specs.declared.block.Block.{Block}
use Rattle.delivery_machine.specs.Shares.{has_hash, IsRow}

pub row_end : (start : ℕ) (bs : List Block) → IsRow start bs → start ≤ 65536
row_end start [] row = omega (arith, row)
row_end start (b ∷ bs) row = omega (arith, row_end (start + b.size) bs row.1)

pub has : (h : ℕ) (b : Block) → b.from ≤ h → h < b.from + b.size → has_hash h b ≡ true
has h b from below = and_from (nat_le b.from h) (nat_lt h (b.from + b.size)) (le-leb b.from h from) (lt-ltb h (b.from + b.size) below)

pub and_false : (t : Bool) → (t && false) ≡ false
and_false true = refl
and_false false = refl

-- ---- of two

pub one_of_both : {A : Type 0} (P : A → Type 0) (r a b : Option A) → (r ≡ a) ⊎ (r ≡ b) → IfSome a P → IfSome b P → IfSome r P
one_of_both {A} P r a b (inl is) in_a in_b = subst (λ (o : Option A). IfSome o P) (sym is) in_a
one_of_both {A} P r a b (inr is) in_a in_b = subst (λ (o : Option A). IfSome o P) (sym is) in_b

pub as_none : {A P : Type 0} (o : Option A) → o ≡ None → IfNone o P → P
as_none None _ p = p
as_none (Some x) is p = absurd (none-some x (sym is))

pub where_none : {A P : Type 0} (o : Option A) → (o ≡ None → P) → IfNone o P
where_none None p = p refl
where_none (Some x) p = tt
