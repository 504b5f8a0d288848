-- Bytes of a payload, and bytes one part after another.
use Rattle.std.proofs.Common.{◌≡◌, ◌≤◌, ◌-◌, ◌∙◌, [], ◌∷◌, ℕ, zero, suc, Bool, List, length, take, drop, sym, ap, subst, arith}
use Rattle.std.proofs.lemmas.List.{length-take-le, take-append-drop}
use Rattle.std.proofs.lemmas.List.Sums.{fold-append}
use Rattle.socket_conn.specs.Frames.{step, walked}
use Rattle.socket_conn.specs.declared.frames.FrameCount.{FrameCount}
use Rattle.socket_conn.specs.declared.frames.Place.TheVariants.{Payload}

-- so many bytes of the payload are to come
inside : (frames : ℕ) (is_over : Bool) → ℕ → FrameCount
inside frames is_over left = record { place = Payload left; frames = frames; is_over = is_over }

skips : (frames : ℕ) (is_over : Bool) (bytes : List ℕ) (left : ℕ) → length bytes ≤ left
    → walked (inside frames is_over left) bytes ≡ inside frames is_over (left - length bytes)
unfolding inside
skips frames is_over [] left h = ap (inside frames is_over) (omega arith)
skips frames is_over (b ∷ bytes) zero h = absurd (omega arith)
skips frames is_over (b ∷ bytes) (suc left) h =
    skips frames is_over bytes left (omega arith) ∙ ap (inside frames is_over) (omega arith)

-- the first bytes of a payload leave fewer of it
pub passes : (c : FrameCount) (left n : ℕ) (bytes : List ℕ) → c.place ≡ Payload left → n ≤ left → n ≤ length bytes
    → record { place = Payload (left - n); frames = c.frames; is_over = c.is_over } ≡ walked c (take n bytes)
unfolding inside
passes c left n bytes is some within =
    let long : length (take n bytes) ≡ n = length-take-le n bytes within in
    subst (λ p. record { place = Payload (left - n); frames = c.frames; is_over = c.is_over } ≡ walked (record { place = p; frames = c.frames; is_over = c.is_over }) (take n bytes)) (sym is)
    (ap (inside c.frames c.is_over) (omega (arith, long)) ∙ sym (skips c.frames c.is_over (take n bytes) left (omega (arith, long))))

-- the bytes are their first ones and the others
pub goes_on : (c : FrameCount) (n : ℕ) (bytes : List ℕ) → walked (walked c (take n bytes)) (drop n bytes) ≡ walked c bytes
goes_on c n bytes = sym (fold-append step c (take n bytes) (drop n bytes)) ∙ ap (walked c) (take-append-drop n bytes)
