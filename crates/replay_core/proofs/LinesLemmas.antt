-- How the lines of an input begin, and how one ends.
use Rattle.std.proofs.Common.{◌≡◌, ℕ, ◌+◌, ◌≤◌, ◌==◌, List, [], ◌∷◌, ◌++◌, Bool, true, false, cond, length, drop, refl, sym, ap, ◌∙◌, subst, append_assoc, length-append, arith}
use Rattle.std.specs.Prelude.{◌&&◌, not}
use Rattle.std.specs.List.{list_all}
use Rattle.std.proofs.Math.Seq.{drop-append_seam}
use Rattle.std.proofs.lemmas.List.Sums.{sum_by-cons}
use Rattle.position_core.specs.declared.topic_name.TopicName.{TopicName}
use Rattle.delivery_machine.proofs.Deciding.{or_false}
use Rattle.replay_core.specs.Lines.{lines_of, onto_line, ends_in}
use Rattle.replay_core.specs.Replay.{Answer, AreAnswered, IsAnswered, BeginsWith, IsTooLong}
use Rattle.replay_core.specs.Progress.{has_end, joined, BeginsWithLine, BeginsTooLong}

-- a line ends at its end
pub lines_of-line : (line rest : List ℕ) → has_end line ≡ false → lines_of (line ++ 10 ∷ rest) ≡ line ∷ lines_of rest
lines_of-line [] rest e = refl
lines_of-line (b ∷ line) rest e =
    ap (λ t. cond t ([] ∷ lines_of (line ++ 10 ∷ rest)) (onto_line b (lines_of (line ++ 10 ∷ rest)))) (or_false (b == 10) (has_end line) e).0
    ∙ ap (onto_line b) (lines_of-line line rest (or_false (b == 10) (has_end line) e).1)

-- the last line may lack its end
pub lines_of-last : (b : ℕ) (line : List ℕ) → has_end (b ∷ line) ≡ false → lines_of (b ∷ line) ≡ (b ∷ line) ∷ []
lines_of-last b [] e = ap (λ t. cond t ([] ∷ []) (onto_line b [])) (or_false (b == 10) false e).0
lines_of-last b (x ∷ line) e =
    ap (λ t. cond t ([] ∷ lines_of (x ∷ line)) (onto_line b (lines_of (x ∷ line)))) (or_false (b == 10) (has_end (x ∷ line)) e).0
    ∙ ap (onto_line b) (lines_of-last x line (or_false (b == 10) (has_end (x ∷ line)) e).1)

onto_begins : (b : ℕ) (lines : List (List ℕ)) → (front : List ℕ) × (rest : List (List ℕ)) × (onto_line b lines ≡ (b ∷ front) ∷ rest)
onto_begins b [] = ([], [], refl)
onto_begins b (line ∷ lines) = (line, lines, refl)

-- a text with no end begins the first line
pub lines_begin : (b : ℕ) (line more : List ℕ) → has_end (b ∷ line) ≡ false → (front : List ℕ) × (rest : List (List ℕ)) × (lines_of (b ∷ line ++ more) ≡ (b ∷ line ++ front) ∷ rest)
lines_begin b [] more e =
    let on = onto_begins b (lines_of more) in
    (on.0, on.1, ap (λ t. cond t ([] ∷ lines_of more) (onto_line b (lines_of more))) (or_false (b == 10) false e).0 ∙ on.2)
lines_begin b (x ∷ line) more e =
    let on = lines_begin x line more (or_false (b == 10) (has_end (x ∷ line)) e).1 in (
      on.0,
      on.1,
      ap (λ t. cond t ([] ∷ lines_of (x ∷ line ++ more)) (onto_line b (lines_of (x ∷ line ++ more)))) (or_false (b == 10) (has_end (x ∷ line)) e).0
          ∙ ap (onto_line b) on.2,
    )

first_all : (a b : Bool) → (not a && b) ≡ true → a ≡ false
first_all false b e = refl
first_all true b e = absurd (cc)

second_all : (a b : Bool) → (not a && b) ≡ true → b ≡ true
second_all false b e = e
second_all true b e = absurd (cc)

-- whole lines are the first lines of the input
pub lines_of-joined : (whole : List (List ℕ)) (tail : List ℕ) → list_all (λ line. not (has_end line)) whole ≡ true → lines_of (joined whole ++ tail) ≡ whole ++ lines_of tail
lines_of-joined [] tail e = refl
lines_of-joined (line ∷ whole) tail e =
    ap lines_of (append_assoc line (10 ∷ joined whole) tail)
    ∙ lines_of-line line (joined whole ++ tail) (first_all (has_end line) _ e)
    ∙ ap (λ (ls : List (List ℕ)). line ∷ ls) (lines_of-joined whole tail (second_all (has_end line) _ e))

-- ---- how many lines have their end

ends_in-cons : (b : ℕ) (text : List ℕ) → ends_in (b ∷ text) ≡ cond (b == 10) 1 0 + ends_in text
ends_in-cons b text = sum_by-cons (λ (x : ℕ). cond (x == 10) 1 0) b text

-- a byte that is no end
ends_in-other : (b : ℕ) (text : List ℕ) → (b == 10) ≡ false → ends_in (b ∷ text) ≡ ends_in text
ends_in-other b text e =
    let count : Bool → ℕ = λ (t : Bool). cond t 1 0 in
    let none : count (b == 10) ≡ 0 = ap count e in
    omega (arith, ends_in-cons b text, none)

pub ends_in-none : (text : List ℕ) → has_end text ≡ false → ends_in text ≡ 0
ends_in-none [] e = refl
ends_in-none (b ∷ text) e = ends_in-other b text (or_false (b == 10) (has_end text) e).0 ∙ ends_in-none text (or_false (b == 10) (has_end text) e).1

ends_in-line : (line rest : List ℕ) → has_end line ≡ false → ends_in (line ++ 10 ∷ rest) ≡ 1 + ends_in rest
ends_in-line [] rest e = ends_in-cons 10 rest
ends_in-line (b ∷ line) rest e = ends_in-other b (line ++ 10 ∷ rest) (or_false (b == 10) (has_end line) e).0 ∙ ends_in-line line rest (or_false (b == 10) (has_end line) e).1

-- whole lines, and what is after
pub ends_in-joined : (whole : List (List ℕ)) (tail : List ℕ) → list_all (λ line. not (has_end line)) whole ≡ true → ends_in (joined whole ++ tail) ≡ length whole + ends_in tail
ends_in-joined [] tail apart = omega arith
ends_in-joined (line ∷ whole) tail apart =
    let first : ends_in ((line ++ 10 ∷ joined whole) ++ tail) ≡ 1 + ends_in (joined whole ++ tail) = ap ends_in (append_assoc line (10 ∷ joined whole) tail) ∙ ends_in-line line (joined whole ++ tail) (first_all (has_end line) _ apart) in
    omega (arith, first, ends_in-joined whole tail (second_all (has_end line) _ apart))

pub joined-push : (whole : List (List ℕ)) (line : List ℕ) → joined (whole ++ line ∷ []) ≡ joined whole ++ (line ++ 10 ∷ [])
joined-push [] line = refl
joined-push (first ∷ whole) line =
    ap (λ (x : List ℕ). first ++ 10 ∷ x) (joined-push whole line) ∙ sym (append_assoc first (10 ∷ joined whole) (line ++ 10 ∷ []))

-- what was answered stays answered, whatever lines follow
pub AreAnswered-append : (this : TopicName) (lines more : List (List ℕ)) (answers : List Answer) → AreAnswered this lines answers → AreAnswered this (lines ++ more) answers
AreAnswered-append this lines more [] h = tt
AreAnswered-append this [] more (a ∷ answers) h = absurd h
AreAnswered-append this (line ∷ lines) more (a ∷ answers) h = (h.0, AreAnswered-append this lines more answers h.1)

pub AreAnswered-push : (this : TopicName) (lines : List (List ℕ)) (line : List ℕ) (answers : List Answer) (answer : Answer) → length lines ≡ length answers → AreAnswered this lines answers → IsAnswered this line answer → AreAnswered this (lines ++ line ∷ []) (answers ++ answer ∷ [])
AreAnswered-push this [] line [] answer same h is = (is, tt)
AreAnswered-push this (l ∷ lines) line (a ∷ answers) answer same h is = (h.0, AreAnswered-push this lines line answers answer (omega (arith, same)) h.1 is)
AreAnswered-push this [] line (a ∷ answers) answer same h is = absurd h
AreAnswered-push this (l ∷ lines) line [] answer same h is = absurd (omega (arith, same))

-- the lines after those that were answered
pub lines_left : (whole more : List (List ℕ)) (n : ℕ) → length whole ≡ n → drop n (whole ++ more) ≡ more
lines_left whole more n same = ap (λ (k : ℕ). drop k (whole ++ more)) (sym same) ∙ drop-append_seam whole more

-- ---- a text that begins with a line

pub begins_line : (P : List ℕ → Type 0) (text : List ℕ) → BeginsWithLine P text → BeginsWith P (lines_of text)
begins_line P text h = subst (BeginsWith P) (sym (ap lines_of h.2 ∙ lines_of-line h.0 h.1 h.3)) h.4

pub ends_in-begins : (P : List ℕ → Type 0) (text : List ℕ) → BeginsWithLine P text → 1 ≤ ends_in text
ends_in-begins P text h = omega (arith, ap ends_in h.2, ends_in-line h.0 h.1 h.3)

pub begins_line-more : (P : List ℕ → Type 0) (text more : List ℕ) → BeginsWithLine P text → BeginsWithLine P (text ++ more)
begins_line-more P text more h = (h.0, h.1 ++ more, ap (λ (x : List ℕ). x ++ more) h.2 ∙ append_assoc h.0 (10 ∷ h.1) more, h.3, h.4)

long_first : (line rest : List ℕ) → has_end line ≡ false → IsTooLong line → BeginsWith IsTooLong (lines_of (line ++ rest))
long_first [] rest none long = absurd (omega (arith, long))
long_first (b ∷ line) rest none long =
    let begins = lines_begin b line rest none in
    subst (BeginsWith IsTooLong) (sym begins.2) (omega (arith, long, length-append line begins.0))

pub begins_long : (text : List ℕ) → BeginsTooLong text → BeginsWith IsTooLong (lines_of text)
begins_long text h = subst (λ (x : List ℕ). BeginsWith IsTooLong (lines_of x)) (sym h.2) (long_first h.0 h.1 h.3 h.4)

pub begins_long-more : (text more : List ℕ) → BeginsTooLong text → BeginsTooLong (text ++ more)
begins_long-more text more h = (h.0, h.1 ++ more, ap (λ (x : List ℕ). x ++ more) h.2 ∙ append_assoc h.0 h.1 more, h.3, h.4)
