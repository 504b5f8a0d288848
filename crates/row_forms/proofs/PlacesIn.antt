-- Places of messages in the log.
use Rattle.std.proofs.Common.{◌≡◌, ℕ, ◌+◌, ◌-◌, ◌≤◌, ◌<◌, zero, suc, Bool, true, false, not, cond, List, [], ◌∷◌, ◌++◌, length, drop, map, subst, Some, None, refl, ap, sym, ◌∙◌, append-nil, arith}
use Rattle.std.specs.Prelude.{◌||◌, nat_lt, if◌then◌else◌, IsTrue}
use Rattle.std.specs.List.{AllByRecursion, position_or_len}
use Rattle.std.specs.List.Sorted.{IsStrictlySortedBy}
use Rattle.std.specs.declared.cmp.Ordering.TheVariants.{Less}
use Rattle.std.proofs.lemmas.Bool.Decides.{nat_tests}
use Rattle.position_core.specs.declared.position.Position.{Position}
use Rattle.position_core.specs.declared.message.Entry.{Entry}
use Rattle.position_core.specs.Position.{position_cmp, positions_total, same_position}
use Rattle.log_pieces.specs.Pieces.{index_of, stands_at}
use Rattle.delivery_machine.specs.WellFormed.{has_message}
use Rattle.delivery_machine.proofs.Rising.{not_below_itself}
use Rattle.delivery_machine.proofs.Tended.{position_is}
use Rattle.row_forms.specs.Forms.{Span, index_in, place_in}
use Rattle.row_forms.specs.Parts.{IsLater, IsRising}

place_step : (same : Bool) (n : ℕ) → (if same then 0 else n + 1) ≡ cond (not same) (1 + n) 0
place_step true n = refl
place_step false n = omega arith

index_is : (log : List Entry) (at : Position) → index_in log at ≡ position_or_len (stands_at at) log
index_is [] at = refl
index_is (e ∷ log) at = ap (λ n. if same_position e.position at then 0 else n + 1) (index_is log at) ∙ place_step (same_position e.position at) _

chosen : (b : Bool) (n m : ℕ) → cond b (Some n) None ≡ Some m → m ≡ n
chosen true n m e = cc
chosen false n m e = absurd (cc)

unchosen : (b : Bool) (n : ℕ) → cond b (Some n) None ≡ None → b ≡ false
unchosen true n e = absurd (cc)
unchosen false n e = refl

pub found_place : (log : List Entry) (at : Position) (i : ℕ) → index_of at log ≡ Some i → i ≡ index_in log at
found_place log at i is = chosen _ _ i is ∙ sym (index_is log at)

one_longer : (b : Bool) (n m : ℕ) → n ≤ m → cond b (1 + n) 0 ≤ suc m
one_longer true n m h = omega arith
one_longer false n m h = omega arith

up_to_length : (p : Entry → Bool) (log : List Entry) → position_or_len p log ≤ length log
up_to_length p [] = omega arith
up_to_length p (e ∷ log) = one_longer (not (p e)) _ _ (up_to_length p log)

pub no_place : (log : List Entry) (at : Position) → index_of at log ≡ None → length log ≡ index_in log at
no_place log at is =
    let past : nat_lt (position_or_len (stands_at at) log) (length log) ≡ false = unchosen _ _ is in
    let over : length log ≤ position_or_len (stands_at at) log = grind (arith, nat_tests) in
    let up = up_to_length (stands_at at) log in
    let same : length log ≡ position_or_len (stands_at at) log = omega arith in
    same ∙ sym (index_is log at)

-- where more messages follow, a message of the log stands where it stood
index_stays : (log more : List Entry) (at : Position) → IsTrue (has_message log at) → index_in (log ++ more) at ≡ index_in log at
index_stays [] more at there = absurd (cc)
index_stays (e ∷ log) more at there = by (same_position e.position at) there (index_stays log more at)
  where
    by : (b : Bool) → IsTrue (b || has_message log at) → (IsTrue (has_message log at) → index_in (log ++ more) at ≡ index_in log at) → (if b then 0 else index_in (log ++ more) at + 1) ≡ (if b then 0 else index_in log at + 1)
    by true there later = refl
    by false there later = ap (λ n. n + 1) (later there)

-- each of the positions comes after the one
abbrev AllAfter : Position → List Entry → Type 0
AllAfter p log = AllByRecursion (λ q. position_cmp p q ≡ Less) (map (λ e. e.position) log)

later_too : (p f : Position) (log : List Entry) → position_cmp p f ≡ Less → AllAfter f log → AllAfter p log
later_too p f [] low all = tt
later_too p f (e ∷ log) low all = (positions_total.trans p f e.position low all.0, later_too p f log low all.1)

none_there : (p at : Position) (log : List Entry) → same_position p at ≡ true → AllAfter p log → IsTrue (has_message log at) → ⊥
none_there p at [] same all there = absurd (cc)
none_there p at (e ∷ log) same all there = by (same_position e.position at) refl there (none_there p at log same all.1)
  where
    by : (b : Bool) → same_position e.position at ≡ b → IsTrue (b || has_message log at) → (IsTrue (has_message log at) → ⊥) → ⊥
    by true this there later = not_below_itself p (ap (position_cmp p) (position_is p at same ∙ sym (position_is e.position at this)) ∙ all.0)
    by false other there later = later there

-- where not all of a log go, what comes after it comes after each of its messages
all_after : (p : Position) (n : ℕ) (log more : List Entry) → AllAfter p log → n < length log → IsRising (drop n log ++ more) → AllAfter p (drop n log ++ more)
unfolding IsStrictlySortedBy
all_after p n [] more above low rising = absurd (omega (arith, low))
all_after p zero (f ∷ log) more above low rising = (above.0, later_too p f.position (log ++ more) above.0 rising.0)
all_after p (suc n) (f ∷ log) more above low rising = all_after p n log more above.1 (omega (arith, low)) rising

-- a message of both logs stands so many places before where it stood
went_before : (n : ℕ) (log more : List Entry) (at : Position) → n ≤ length log - 1 → IsRising log → IsRising (drop n log ++ more) → IsTrue (has_message log at) → IsTrue (has_message (drop n log ++ more) at)
    → n + index_in (drop n log ++ more) at ≡ index_in log at
unfolding IsStrictlySortedBy
went_before zero log more at within rising after there here = let is = index_stays log more at there in omega (arith, is)
went_before (suc n) [] more at within rising after there here = absurd (omega (arith, within))
went_before (suc n) (e ∷ log) more at within rising after there here =
    by (same_position e.position at) refl there (λ there_too. went_before n log more at (omega (arith, within)) rising.1 after there_too here)
  where
    by : (b : Bool) → same_position e.position at ≡ b → IsTrue (b || has_message log at) → (IsTrue (has_message log at) → n + index_in (drop n log ++ more) at ≡ index_in log at)
        → suc n + index_in (drop n log ++ more) at ≡ (if b then 0 else index_in log at + 1)
    by true same there_too later = absurd (none_there e.position at (drop n log ++ more) same (all_after e.position n log more rising.0 (omega (arith, within)) after) here)
    by false other there_too later = let is = later there_too in omega (arith, is)

-- a message that was of the log and is, stands at the same place
pub place_stays : (was now : Span) (at : Position) → IsRising was.log → IsRising now.log → IsLater was now → IsTrue (has_message was.log at) → IsTrue (has_message now.log at) → place_in was at ≡ place_in now at
place_stays was now at rising after later there here =
    let is : later.went + index_in now.log at ≡ index_in was.log at =
    ap (λ (log : List Entry). later.went + index_in log at) later.log
    ∙ went_before later.went was.log later.more at later.stays rising (subst IsRising later.log after) there (subst (λ (log : List Entry). IsTrue (has_message log at)) later.log here) in
    let gone = later.gone in
    omega (arith, is, gone)

pub later_itself : (span : Span) → IsLater span span
later_itself span = record {
  went = 0;
  gone = omega arith;
  stays = omega arith;
  more = [];
  log = sym (append-nil span.log);
}
