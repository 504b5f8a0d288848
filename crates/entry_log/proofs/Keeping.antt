-- What a log keeps of its messages stays true as it grows, and as it goes on in the next ledger.
use Rattle.std.proofs.Common.{◌≡◌, ℕ, ◌+◌, ◌-◌, ◌<◌, ◌≤◌, ◌^◌, Bool, true, false, cond, List, [], ◌∷◌, ◌++◌, length, take, drop, refl, ap, sym, ◌∙◌, subst, inl, inr, arith, nat_lt}
use Rattle.std.specs.Prelude.{◌==◌, ◌⊎◌, nat_le}
use Rattle.std.specs.List.{AllByRecursion}
use Rattle.std.specs.List.Sorted.{IsStrictlySortedBy}
use Rattle.std.specs.declared.cmp.Ordering.TheVariants.{Less}
use Rattle.std.proofs.Math.ListN.{length-append}
use Rattle.std.proofs.Math.Seq.{take-append_seam}
use Rattle.std.proofs.lemmas.Bool.{cases_lt}
use Rattle.std.proofs.lemmas.Bool.Decides.{nat_tests}
use Rattle.std.proofs.lemmas.List.Elements.{All-nil, All-weaker, All-push, recursion_from_All}
use Rattle.position_core.specs.declared.position.Position.{Position}
use Rattle.position_core.specs.declared.message.Entry.{Entry}
use Rattle.position_core.specs.Position.{position_cmp}
use Rattle.delivery_machine.specs.Words.{used_after}
use Rattle.entry_log.specs.Log.{position_after}
use Rattle.log_pieces.specs.Pieces.{front}
use Rattle.entry_log.specs.Kept.{IsAt, is_before}
use Rattle.delivery_machine.proofs.Rising.{sorted_push, before_next, used_last, used_dropped, sorted_dropped, all_dropped}
use Rattle.delivery_machine.proofs.Deciding.{within}

-- ---- a log without messages

pub at_none : IsAt [] 0 0
unfolding IsStrictlySortedBy
at_none = record { rising = tt; before = All-nil (λ e. is_before 0 0 e.position ≡ true); counted = refl; bounded = omega arith }

-- ---- the next ledger

not_there : (ledger used : ℕ) (p : Position) → is_before ledger used p ≡ true → cond {A = ℕ} (p.ledger == ledger + 1) (p.entry + 1) 0 ≡ 0
not_there ledger used p low = grind (arith, nat_tests)

-- the next ledger has no messages
none_above : (ledger used : ℕ) (log : List Entry) → AllByRecursion (λ e. is_before ledger used e.position ≡ true) log → used_after (ledger + 1) log ≡ 0
none_above ledger used [] all = refl
none_above ledger used (e ∷ []) all = not_there ledger used e.position all.0
none_above ledger used (e ∷ f ∷ log) all = none_above ledger used (f ∷ log) all.1

raised : (ledger used : ℕ) (p : Position) → is_before ledger used p ≡ true → is_before (ledger + 1) 0 p ≡ true
raised ledger used p low = grind (arith, nat_tests)

after_roll : (log : List Entry) (ledger used : ℕ) → IsAt log ledger used → ledger ≤ 2 ^ 62 → IsAt log (ledger + 1) 0
after_roll log ledger used at low = record {
  rising = at.rising;
  before = All-weaker (λ e. is_before ledger used e.position ≡ true) (λ e. is_before (ledger + 1) 0 e.position ≡ true) (λ e is. raised ledger used e.position is) log at.before;
  counted = sym (none_above ledger used log (recursion_from_All (λ e. is_before ledger used e.position ≡ true) log at.before));
  bounded = omega arith;
}

same_at : (log : List Entry) (ledger used l u : ℕ) → IsAt log ledger used → l ≡ ledger → u ≡ used → IsAt log l u
same_at log ledger used l u at same_ledger same_used =
    subst (λ (n : ℕ). IsAt log n u) (sym same_ledger) (subst (λ (n : ℕ). IsAt log ledger n) (sym same_used) at)

pub rolled_at : (log : List Entry) (ledger used l u : ℕ) → IsAt log ledger used → (ledger ≤ 2 ^ 62 → (l ≡ ledger + 1) × (u ≡ 0)) → (2 ^ 62 < ledger → (l ≡ ledger) × (u ≡ used)) → IsAt log l u
rolled_at log ledger used l u at next last =
    elim (cases_lt (2 ^ 62) ledger) [
      | inl over ↦ let same = last over in same_at log ledger used l u at same.0 same.1
      | inr low ↦ let more = next low in same_at log (ledger + 1) 0 l u (after_roll log ledger used at low) more.0 more.1
    ]

-- ---- a further message

pub front_push : (log : List Entry) (e : Entry) → front (log ++ e ∷ []) ≡ log
front_push log e =
    let whole = length-append log (e ∷ []) in
    let less : length (log ++ e ∷ []) - 1 ≡ length log = omega (arith, whole) in
    ap (λ (n : ℕ). take n (log ++ e ∷ [])) less ∙ take-append_seam log (e ∷ [])

-- a log that is not full has room for one more
pub one_longer : (log longer : List Entry) (e : Entry) → longer ≡ log ++ e ∷ [] → nat_le 1048576 (length log) ≡ false → length longer ≤ 1048576
one_longer log longer e is room =
    let more = length-append log (e ∷ []) in
    let same = ap length is in
    grind (arith, nat_tests)

-- the next position is in the ledger, or the first of the next one
abbrev IsNext : ℕ → ℕ → Position → Type 0
IsNext ledger used q = ((q.ledger ≡ ledger) × (q.entry ≡ used)) ⊎ ((q.ledger ≡ ledger + 1) × (q.entry ≡ 0))

next_is : (ledger used size : ℕ) (q : Position) → q ≡ position_after ledger used size → IsNext ledger used q
next_is ledger used size q is = by (nat_lt used size) is
  where
    by : (b : Bool) → q ≡ cond b (record { ledger = ledger; entry = used }) (record { ledger = ledger + 1; entry = 0 }) → IsNext ledger used q
    by true e = inl (ap (λ (p : Position). p.ledger) e, ap (λ (p : Position). p.entry) e)
    by false e = inr (ap (λ (p : Position). p.ledger) e, ap (λ (p : Position). p.entry) e)

still_before : (ledger used : ℕ) (q p : Position) → IsNext ledger used q → is_before ledger used p ≡ true → is_before q.ledger (q.entry + 1) p ≡ true
still_before ledger used q p (inl same) low = let l = same.0 in grind (arith, nat_tests)
still_before ledger used q p (inr next) low = let l = next.0 in grind (arith, nat_tests)

itself_before : (ledger used : ℕ) (q : Position) → IsNext ledger used q → is_before q.ledger (q.entry + 1) q ≡ true
itself_before ledger used q (inl same) = let l = same.0 in let n = same.1 in grind (arith, nat_tests)
itself_before ledger used q (inr next) = let l = next.0 in let n = next.1 in grind (arith, nat_tests)

with_itself : (q : Position) → q.entry + 1 ≡ cond {A = ℕ} (q.ledger == q.ledger) (q.entry + 1) 0
with_itself q = grind (arith, nat_tests)

appended_here : (log : List Entry) (ledger used size : ℕ) (e : Entry) → IsAt log ledger used → e.position ≡ position_after ledger used size → nat_lt (2 ^ 62) e.position.ledger ≡ false → IsAt (log ++ e ∷ []) e.position.ledger (e.position.entry + 1)
appended_here log ledger used size e at is room =
    let next = next_is ledger used size e.position is in
    let low = within (2 ^ 62) e.position.ledger room in
    let B : Entry → Type 0 = λ x. is_before ledger used x.position ≡ true in
    let P : Entry → Type 0 = λ x. position_cmp x.position e.position ≡ Less in
    let Q : Entry → Type 0 = λ x. is_before e.position.ledger (e.position.entry + 1) x.position ≡ true in
    record {
      rising = sorted_push position_cmp (λ x. x.position) log e at.rising
          (recursion_from_All P log (All-weaker B P (λ x b. subst (λ (p : Position). position_cmp x.position p ≡ Less) (sym is) (before_next ledger used size x.position b)) log at.before));
      before = All-push Q log e (All-weaker B Q (λ x b. still_before ledger used e.position x.position next b) log at.before) (itself_before ledger used e.position next);
      counted = with_itself e.position ∙ sym (used_last e.position.ledger log e);
      bounded = omega (arith, low);
    }

-- after the next message, which may be the first of the next ledger
pub appended_at : (log : List Entry) (ledger used size l u : ℕ) (e : Entry) → IsAt log ledger used → e.position ≡ position_after ledger (used_after ledger log) size → nat_lt (2 ^ 62) e.position.ledger ≡ false → l ≡ e.position.ledger → u ≡ e.position.entry + 1 → IsAt (log ++ e ∷ []) l u
appended_at log ledger used size l u e at is room same_ledger same_used =
    let next : e.position ≡ position_after ledger used size = is ∙ ap (λ (n : ℕ). position_after ledger n size) (sym at.counted) in
    same_at (log ++ e ∷ []) e.position.ledger (e.position.entry + 1) l u (appended_here log ledger used size e at next room) same_ledger same_used

-- ---- the front leaves
pub at_dropped : (n : ℕ) (log : List Entry) (ledger used : ℕ) → n < length log → IsAt log ledger used → IsAt (drop n log) ledger used
at_dropped n log ledger used low at = record {
  rising = sorted_dropped n log at.rising;
  before = all_dropped (λ e. is_before ledger used e.position ≡ true) n log at.before;
  counted = at.counted ∙ sym (used_dropped ledger n log low);
  bounded = at.bounded;
}
