-- Runs of bytes that need no escape.
use Rattle.std.proofs.Common.{◌≡◌, ℕ, suc, ◌+◌, ◌<◌, ◌≤◌, List, [], ◌∷◌, ◌++◌, length, take, drop, get_or, Bool, true, false, cond, not, IsTrue, Some, None, IfSome, IfNone, refl, sym, ap, ◌∙◌, arith, position, ltb}
use Rattle.std.specs.List.{position_or_len}
use Rattle.std.proofs.lemmas.Grind.{common_steps, flat_map-append}
use Rattle.std.proofs.lemmas.List.{take-append-drop}
use Rattle.std.proofs.lemmas.List.Sums.{passes_at_first}
use Rattle.std.proofs.Math.Seq.{drop-cons}
use Rattle.std.specs.Str.{IsUtf8, IsCharBoundary}
use Rattle.std.proofs.lemmas.Str.{IsCharBoundary-after_ascii}
use Rattle.json.specs.Print.{escape, escape_byte}
use Rattle.json_values.specs.Escapes.{needs_escape}

pub special_ascii : (byte : ℕ) → IsTrue (needs_escape byte) → byte < 128
special_ascii byte special = grind (arith, common_steps)

pub plain_byte : (byte : ℕ) → needs_escape byte ≡ false → escape_byte byte ≡ byte ∷ []
unfolding escape_byte
plain_byte byte plain = grind (arith, common_steps)

pub cons_plain : (byte : ℕ) (s t : List ℕ) → needs_escape byte ≡ false → escape s ≡ t → escape (byte ∷ s) ≡ byte ∷ t
cons_plain byte s t plain e = rw (plain_byte byte plain, e) refl

plain_step : (special : Bool) (byte n : ℕ) (s : List ℕ) → needs_escape byte ≡ special → escape (take n s) ≡ take n s
    → escape (take (cond (not special) (1 + n) 0) (byte ∷ s)) ≡ take (cond (not special) (1 + n) 0) (byte ∷ s)
plain_step true byte n s is more = refl
plain_step false byte n s is more =
    let up : 1 + n ≡ suc n = omega arith in
    rw (up, plain_byte byte is, more) refl

-- what stands before the first byte that needs an escape stands for itself
plain_before : (s : List ℕ) → escape (take (position_or_len needs_escape s) s) ≡ take (position_or_len needs_escape s) s
plain_before [] = refl
plain_before (x ∷ xs) = plain_step (needs_escape x) x (position_or_len needs_escape xs) xs refl (plain_before xs)

-- a text whose first n bytes stand for themselves, up to its next byte
split_at_byte : (s : List ℕ) (n : ℕ) → n < length s → escape (take n s) ≡ take n s
    → escape s ≡ take n s ++ (escape_byte (get_or s n 0) ++ escape (drop (n + 1) s))
split_at_byte s n within plain =
    let up : n + 1 ≡ suc n = omega arith in
    let whole : escape s ≡ escape (take n s) ++ escape (drop n s) = ap escape (sym (take-append-drop n s)) ∙ flat_map-append escape_byte (take n s) (drop n s) in
    rw (whole, plain, drop-cons s n 0 within, up) refl

all_plain : (s : List ℕ) (n : ℕ) → length s ≤ n → escape (take n s) ≡ take n s → escape s ≡ s
all_plain s n long plain =
    let all : take n s ≡ s = grind (arith, common_steps) in
    ap escape (sym all) ∙ plain ∙ all

abbrev pub SplitsAt : List ℕ → ℕ → Type 0
SplitsAt s n = (n < length s) × IsTrue (needs_escape (get_or s n 0)) × (escape s ≡ take n s ++ (escape_byte (get_or s n 0) ++ escape (drop (n + 1) s)))

first_is : (s : List ℕ) (n : ℕ) (within : Bool) → ltb n (length s) ≡ within → (n < length s → needs_escape (get_or s n 0) ≡ true) → escape (take n s) ≡ take n s
    → (IfSome (cond within (Some n) None) (SplitsAt s)) × (IfNone (cond within (Some n) None) (escape s ≡ s))
first_is s n true is special plain =
    let inside : n < length s = grind (arith, common_steps) in
    let marked = special inside in
    ((inside, grind (arith, common_steps), split_at_byte s n inside plain), tt)
first_is s n false is special plain = (tt, all_plain s n (grind (arith, common_steps)) plain)

pub position_splits : (s : List ℕ) → (IfSome (position needs_escape s) (SplitsAt s)) × (IfNone (position needs_escape s) (escape s ≡ s))
position_splits s = first_is s (position_or_len needs_escape s) (ltb (position_or_len needs_escape s) (length s)) refl (passes_at_first needs_escape s 0) (plain_before s)

pub after_special : (text : List ℕ) (at : ℕ) → IsUtf8 text → at < length text → IsTrue (needs_escape (get_or text at 0)) → IsCharBoundary text (at + 1)
after_special text at is_text within special = IsCharBoundary-after_ascii text at is_text within (special_ascii (get_or text at 0) special)
