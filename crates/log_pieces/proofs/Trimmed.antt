-- What a log in pieces has once its first messages went.
use Rattle.std.proofs.Common.{drop, ◌≡◌, ℕ, zero, suc, ◌+◌, ◌-◌, ◌*◌, ◌/◌, ◌<◌, ◌≤◌, List, [], ◌∷◌, ◌++◌, length, map, refl, ap, ap₂, sym, ◌∙◌, subst, append_assoc, arith}
use Rattle.std.specs.Prelude.{min}
use Rattle.std.specs.List.{flat_map}
use Rattle.std.proofs.Math.ListN.{length-append}
use Rattle.std.proofs.lemmas.List.{length-drop, drop-append-le}
use Rattle.position_core.specs.declared.message.Entry.{Entry}
use Rattle.log_pieces.specs.Pieces.{Parts, AreEach, ArePieces, all_of, joined, loosely}
use Rattle.log_pieces.specs.Times.{moment_after}
use Rattle.log_pieces.proofs.Joined.{length_each, each_push, joined_push, drop_seam, each_dropped}

pub length_all : (p : Parts) → AreEach 1024 p.sealed → length (all_of p) ≡ 1024 * length p.sealed + length (loosely p.loose)
length_all p are = omega (arith, length-append (flat_map (λ s. s) p.sealed) (loosely p.loose), length_each 1024 p.sealed are)

-- one message more
pub pushed : (p q : Parts) (e : Entry) → p.skipped ≤ length (all_of p) → q.skipped ≡ p.skipped → q.sealed ≡ p.sealed → loosely q.loose ≡ loosely p.loose ++ e ∷ [] → joined q ≡ joined p ++ e ∷ []
pushed p q e within skipped sealed loose =
    ap₂ (λ n xs. drop n xs) skipped
    (ap₂ (λ (ss : List (List Entry)) (xs : List Entry). flat_map (λ s. s) ss ++ xs) sealed loose ∙ sym (append_assoc (flat_map (λ s. s) p.sealed) (loosely p.loose) (e ∷ [])))
    ∙ drop-append-le p.skipped (all_of p) (e ∷ []) within

-- ---- a segment more, and those that went less

moments_left : (n : ℕ) (ss : List (List Entry)) (s : List Entry) → n ≤ length ss → drop n (map (moment_after 0) ss ++ moment_after 0 s ∷ []) ≡ map (moment_after 0) (drop n ss ++ s ∷ [])
moments_left zero [] s few = refl
moments_left zero (t ∷ ss) s few = ap (λ ms. moment_after 0 t ∷ ms) (moments_left zero ss s (omega arith))
moments_left (suc n) [] s few = absurd (omega (arith, few))
moments_left (suc n) (t ∷ ss) s few = moments_left n ss s (omega (arith, few))

module _ (p : Parts) (moments : List ℕ) (gone : ℕ) (are : ArePieces p moments) (full : length (loosely p.loose) ≡ 1024) (is : gone ≡ min (length p.sealed) (p.skipped / 1024)) where
  seal_skipped : p.skipped ≡ 1024 * gone + (p.skipped - gone * 1024)
  seal_skipped = omega (arith, is)

  pub sealed_joined : (q : Parts) (e : Entry) → q.sealed ≡ drop gone p.sealed ++ loosely p.loose ∷ [] → loosely q.loose ≡ e ∷ [] → q.skipped ≡ p.skipped - gone * 1024 → joined q ≡ joined p ++ e ∷ []
  sealed_joined q e sealed loose skipped =
      let left = p.skipped - gone * 1024 in
      let later : List Entry = flat_map (λ s. s) (drop gone p.sealed) in
      ap₂ (λ n xs. drop n xs) skipped
      (ap₂ (λ (ss : List (List Entry)) (xs : List Entry). flat_map (λ s. s) ss ++ xs) sealed loose
      ∙ joined_push (drop gone p.sealed) (loosely p.loose) e
      ∙ append_assoc later (loosely p.loose) (e ∷ []))
      ∙ sym (drop_seam 1024 p.sealed (loosely p.loose ++ e ∷ []) gone left p.skipped are.segments (omega (arith, is)) seal_skipped)
      ∙ ap (drop p.skipped) (sym (append_assoc (flat_map (λ s. s) p.sealed) (loosely p.loose) (e ∷ [])))
      ∙ drop-append-le p.skipped (all_of p) (e ∷ []) are.within

  pub sealed_pieces : (q : Parts) (e : Entry) (after : List ℕ) → length (joined p) < 1048576 → q.sealed ≡ drop gone p.sealed ++ loosely p.loose ∷ [] → loosely q.loose ≡ e ∷ [] → q.skipped ≡ p.skipped - gone * 1024 → after ≡ drop gone (moments ++ moment_after 0 (loosely p.loose) ∷ []) → ArePieces q after
  sealed_pieces q e after room sealed loose skipped after_is =
      let each = each_push 1024 (drop gone p.sealed) (loosely p.loose) (each_dropped 1024 gone p.sealed are.segments) full in
      let segments : AreEach 1024 q.sealed = subst (λ (ss : List (List Entry)). AreEach 1024 ss) (sym sealed) each in
      let count = ap (λ (ss : List (List Entry)). length ss) sealed in
      let one = length-append (drop gone p.sealed) (loosely p.loose ∷ []) in
      let left = length-drop gone p.sealed in
      let all = length_all p are.segments in
      let whole = length-drop p.skipped (all_of p) in
      record {
        segments = segments;
        few = omega (arith, count, one, left, all, whole, room, full, is);
        moments =
            after_is ∙ ap (λ (ms : List ℕ). drop gone (ms ++ moment_after 0 (loosely p.loose) ∷ [])) are.moments
            ∙ moments_left gone p.sealed (loosely p.loose) (omega (arith, is))
            ∙ ap (λ (ss : List (List Entry)). map (moment_after 0) ss) (sym sealed);
        within = omega (arith, length_all q segments, count, one, left, skipped, all, are.within, is, full, ap (λ (xs : List Entry). length xs) loose);
      }
