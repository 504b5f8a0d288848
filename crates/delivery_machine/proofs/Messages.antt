-- Positions that are of messages of the log.
use Rattle.std.proofs.Common.{◌≡◌, ℕ, zero, suc, ◌≤◌, List, [], ◌∷◌, ◌++◌, map, length, take, Bool, true, false, refl, ap, ◌∙◌, sym, arith, Contains}
use Rattle.std.specs.Prelude.{◌||◌}
use Rattle.std.specs.List.{list_any}
use Rattle.std.specs.Cmp.{Equal-is, tied_itself, eq_by_cmp_equiv}
use Rattle.std.proofs.lemmas.List.{take-append-le}
use Rattle.std.proofs.lemmas.List.Folds.{Any-from_list_any}
use Rattle.position_core.specs.declared.position.Position.{Position}
use Rattle.position_core.specs.declared.message.Entry.{Entry}
use Rattle.position_core.specs.Position.{position_cmp, same_position, positions_total}
use Rattle.delivery_machine.specs.Words.{has_position}
use Rattle.delivery_machine.specs.Acknowledging.{is_one_of}
use Rattle.delivery_machine.specs.WellFormed.{has_message}
use Rattle.delivery_machine.proofs.Firsts.{any_contained}
use Rattle.delivery_machine.proofs.Tended.{position_is}
use Rattle.delivery_machine.proofs.Among.{contained_mapped}
use Rattle.delivery_machine.proofs.Sending.{taken_contained}

pub position_itself : (p : Position) → same_position p p ≡ true
position_itself p = (Equal-is (position_cmp p p)).1 (tied_itself positions_total p)

pub either_way : (p q : Position) → same_position p q ≡ same_position q p
either_way p q = (eq_by_cmp_equiv positions_total).symm p q

-- the position's message
abbrev pub Stands : List Entry → Position → Type 0
Stands log p = (e : Entry) × Contains log e × (e.position ≡ p)

pub message_there : (log : List Entry) (p : Position) → has_message log p ≡ true → Stands log p
message_there log p there =
    let at = Any-from_list_any (has_position p) log there in
    (at.1, (at.0, at.2, at.3), position_is at.1.position p at.4)

pub has_there : (log : List Entry) (p : Position) → Stands log p → has_message log p ≡ true
has_there log p there = any_contained (has_position p) log there.0 there.1 (ap (λ (q : Position). same_position q p) there.2 ∙ position_itself p)

-- where each message of the one list is in the other
pub message_among : (xs log : List Entry) (p : Position) → ((e : Entry) → Contains xs e → Contains log e) → has_message xs p ≡ true → has_message log p ≡ true
message_among xs log p among there = let at = message_there xs p there in has_there log p (at.0, among at.0 at.1, at.2)

pub message_taken : (n : ℕ) (log : List Entry) (p : Position) → has_message (take n log) p ≡ true → has_message log p ≡ true
message_taken n log p there = message_among (take n log) log p (λ e at. taken_contained n log e at) there

pub taken_more : {A : Type 0} (p : A → Bool) (m n : ℕ) (xs : List A) → m ≤ n → list_any p (take m xs) ≡ true → list_any p (take n xs) ≡ true
taken_more p zero n xs low any = cc
taken_more p (suc m) zero xs low any = absurd (omega arith)
taken_more p (suc m) (suc n) [] low any = cc
taken_more p (suc m) (suc n) (x ∷ xs) low any = by (p x) any (taken_more p m n xs (omega arith))
  where
    by : (b : Bool) → (b || list_any p (take m xs)) ≡ true → (list_any p (take m xs) ≡ true → list_any p (take n xs) ≡ true) → (b || list_any p (take n xs)) ≡ true
    by true any rest = refl
    by false any rest = rest any

-- where a message more comes, the first ones are the same
pub first_pushed : (n : ℕ) (log : List Entry) (e : Entry) → n ≤ length log → take n (log ++ e ∷ []) ≡ take n log
first_pushed n log e low = rw take-append-le

-- ---- lists of positions

pub one_of_itself : (p q : Position) → is_one_of (p ∷ []) q ≡ true → p ≡ q
one_of_itself p q any = sym (position_is q p (by (same_position q p) any))
  where
    by : (b : Bool) → (b || false) ≡ true → b ≡ true
    by true any = refl
    by false any = any

pub one_listed : (xs log : List Entry) (p : Position) → ((e : Entry) → Contains xs e → Contains log e) → is_one_of (map (λ (e : Entry). e.position) xs) p ≡ true → has_message log p ≡ true
one_listed xs log p among any =
    let at = Any-from_list_any (same_position p) (map (λ (e : Entry). e.position) xs) any in
    let from = contained_mapped (λ (e : Entry). e.position) xs at.1 (at.0, at.2, at.3) in
    has_there log p (from.0, among from.0 from.1, sym (position_is p at.1 at.4 ∙ from.2))

pub one_of_first : (n : ℕ) (ps : List Position) (p : Position) → is_one_of (take n ps) p ≡ true → is_one_of ps p ≡ true
one_of_first n ps p any =
    let at = Any-from_list_any (same_position p) (take n ps) any in
    any_contained (same_position p) ps at.1 (taken_contained n ps at.1 (at.0, at.2, at.3)) at.4
