-- What a block and the tail do to the hash, as the loop reads them.
use Rattle.std.proofs.Common.{◌≡◌, ◌<◌, ◌≤◌, ◌-◌, ℕ, List, [], ◌∷◌, length, get_or, take, drop, refl, ap, arith, sym, ◌∙◌, length-drop}
use Rattle.std.proofs.lemmas.List.{take_all}
use Rattle.std.specs.Int.{w32, from_le_bytes}
use Rattle.murmur_core.specs.Murmur.{little_endian, with_block, with_bytes, with_tail}

number-four : (a b c d : ℕ) → little_endian (a ∷ b ∷ c ∷ d ∷ []) ≡ from_le_bytes w32 (a ∷ b ∷ c ∷ d ∷ [])
number-four a b c d = omega arith

-- a whole block is taken off the head
with_bytes-block : (hash : ℕ) (bs : List ℕ) → 4 ≤ length bs → with_bytes hash bs ≡ with_bytes (with_block hash (from_le_bytes w32 (get_or bs 0 0 ∷ get_or bs 1 0 ∷ get_or bs 2 0 ∷ get_or bs 3 0 ∷ []))) (drop 4 bs)
unfolding with_bytes
with_bytes-block hash (a ∷ b ∷ c ∷ d ∷ bs) h = ap (λ k. with_bytes (with_block hash k) bs) (number-four a b c d)
with_bytes-block hash [] h = absurd (omega arith)
with_bytes-block hash (a ∷ []) h = absurd (omega arith)
with_bytes-block hash (a ∷ b ∷ []) h = absurd (omega arith)
with_bytes-block hash (a ∷ b ∷ c ∷ []) h = absurd (omega arith)

-- less than a block is the tail
pub with_bytes-tail : (hash : ℕ) (bs : List ℕ) → length bs < 4 → with_bytes hash bs ≡ with_tail hash bs
unfolding with_bytes
with_bytes-tail hash [] h = refl
with_bytes-tail hash (a ∷ []) h = refl
with_bytes-tail hash (a ∷ b ∷ []) h = refl
with_bytes-tail hash (a ∷ b ∷ c ∷ []) h = refl
with_bytes-tail hash (a ∷ b ∷ c ∷ d ∷ bs) h = absurd (omega arith)

-- the loop's step: what is left goes into the hash as before
pub after_block : (hash : ℕ) (bs : List ℕ) (k next total : ℕ) → 4 ≤ length bs → k ≡ from_le_bytes w32 (get_or bs 0 0 ∷ get_or bs 1 0 ∷ get_or bs 2 0 ∷ get_or bs 3 0 ∷ []) → next ≡ with_block hash k → with_bytes hash bs ≡ total → with_bytes next (take (length bs - 4) (drop 4 bs)) ≡ total
after_block hash bs k next total h read mixed before =
    let rest = take_all (length bs - 4) (drop 4 bs) (omega (arith, length-drop {A = ℕ})) in
    ap (with_bytes next) rest ∙ ap (λ n. with_bytes n (drop 4 bs)) (mixed ∙ ap (with_block hash) read)
    ∙ sym (with_bytes-block hash bs h) ∙ before
