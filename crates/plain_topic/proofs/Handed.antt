-- A member is given a message, and then its credit is taken, or the message.
use Rattle.std.proofs.Common.{◌≡◌, ℕ, ◌<◌, List, Bool, Some, length, get_or, set, ap, ◌∙◌, sym}
use Rattle.std.specs.List.{position}
use Rattle.std.proofs.lemmas.List.{set-set, set-get_or}
use Rattle.std.proofs.lemmas.List.Quantifiers.{position-Some}
use Rattle.std.proofs.lemmas.Grind.{common_steps}
use Rattle.std.proofs.Common.{arith}
use Rattle.delivery_machine.specs.declared.delivery.Delivery.{Delivery}
use Rattle.delivery_machine.specs.State.{Member}
use Rattle.delivery_machine.specs.Words.{changed}
use Rattle.delivery_machine.specs.Delivering.{given}
use Rattle.delivery_machine.proofs.Places.{changed_there}
use Rattle.plain_lists.specs.Members.{pushed, shortened, spending}
use Rattle.plain_lists.proofs.Undone.{taken_back}

read_back : {A : Type 0} (xs : List A) (i : ℕ) (x y : A) → i < length xs → y ≡ get_or (set xs i x) i y → y ≡ x
read_back xs i x y below is = grind (arith, common_steps)

-- what was given is taken back
pub taken_back_there : (p : Member → Bool) (ms : List Member) (i : ℕ) (d : Delivery) (m n there back : Member) → Some i ≡ position p ms → m ≡ get_or ms i m → n ≡ pushed d m → there ≡ get_or (set ms i n) i there → back ≡ shortened there → set (set ms i n) i back ≡ ms
taken_back_there p ms i d m n there back at is pushed_is there_is back_is =
    set-set ms i n back
    ∙ ap (set ms i) (back_is ∙ ap shortened (read_back ms i n there (position-Some p ms i m (sym at)).0 there_is ∙ pushed_is) ∙ taken_back d m ∙ is)
    ∙ set-get_or ms i m

-- what was given costs a credit
pub given_there : (p : Member → Bool) (ms : List Member) (i : ℕ) (d : Delivery) (m n there spent : Member) → Some i ≡ position p ms → m ≡ get_or ms i m → n ≡ pushed d m → there ≡ get_or (set ms i n) i there → spent ≡ spending there → set (set ms i n) i spent ≡ changed p (given d) ms
given_there p ms i d m n there spent at is pushed_is there_is spent_is =
    set-set ms i n spent
    ∙ changed_there p (given d) ms i m spent at
    (spent_is ∙ ap spending (read_back ms i n there (position-Some p ms i m (sym at)).0 there_is ∙ pushed_is) ∙ ap (given d) is)
