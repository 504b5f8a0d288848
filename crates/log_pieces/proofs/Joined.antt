-- Lists in pieces: how long they are, and what stands at an index.
use Rattle.std.proofs.Common.{◌≡◌, ℕ, ◌+◌, ◌-◌, ◌*◌, ◌<◌, ◌≤◌, suc, zero, List, [], ◌∷◌, ◌++◌, length, take, drop, Some, None, refl, ap, ap₂, sym, ◌∙◌, append_assoc, arith, slice_set}
use Rattle.std.specs.Prelude.{min}
use Rattle.std.specs.List.{flat_map, slice_get}
use Rattle.std.proofs.Math.Seq.{drop-nil, drop-append-add}
use Rattle.std.proofs.Math.ListN.{length-append}
use Rattle.std.proofs.lemmas.Grind.{flat_map-append}
use Rattle.position_core.specs.declared.message.Entry.{Entry}
use Rattle.log_pieces.specs.Pieces.{front, AreEach}
use Rattle.std.proofs.lemmas.List.{append-nil}

get_left : (xs ys : List Entry) (i : ℕ) → i < length xs → slice_get (xs ++ ys) i ≡ slice_get xs i
get_left [] ys i low = absurd (omega arith)
get_left (x ∷ xs) ys zero low = refl
get_left (x ∷ xs) ys (suc i) low = get_left xs ys i (omega arith)

get_right : (xs ys : List Entry) (i : ℕ) → length xs ≤ i → slice_get (xs ++ ys) i ≡ slice_get ys (i - length xs)
get_right [] ys i high = let e : i ≡ i - 0 = omega arith in ap (λ (n : ℕ). slice_get ys n) e
get_right (x ∷ xs) ys zero high = absurd (omega arith)
get_right (x ∷ xs) ys (suc i) high =
    let e : i - length xs ≡ suc i - length (x ∷ xs) = omega arith in
    get_right xs ys i (omega arith) ∙ ap (λ (n : ℕ). slice_get ys n) e

pub slice_get_none : {A : Type 0} (xs : List A) (i : ℕ) → slice_get xs i ≡ None → length xs ≤ i
slice_get_none [] i at = omega arith
slice_get_none (x ∷ xs) zero at = absurd (cc)
slice_get_none (x ∷ xs) (suc i) at = let rest = slice_get_none xs i at in omega (arith, rest)

module _ (size : ℕ) where
  pub length_each : (segments : List (List Entry)) → AreEach size segments → length (flat_map (λ s. s) segments) ≡ size * length segments
  length_each [] are = omega arith
  length_each (s ∷ segments) are =
      let front = length_each segments are.1 in
      let whole = length-append s (flat_map (λ s. s) segments) in
      omega (arith, are.0, front, whole)

  -- what stands in a segment
  pub get_within : (segments : List (List Entry)) (ys s : List Entry) (i j : ℕ) → AreEach size segments → slice_get segments i ≡ Some s → j < size → slice_get (flat_map (λ s. s) segments ++ ys) (size * i + j) ≡ slice_get s j
  get_within [] ys s i j are at low = absurd (cc)
  get_within (t ∷ segments) ys s zero j are at low =
      let rest : List Entry = flat_map (λ s. s) segments in
      let e : size * 0 + j ≡ j = omega arith in
      let same : t ≡ s = cc in
      ap (λ (n : ℕ). slice_get ((t ++ rest) ++ ys) n) e
      ∙ get_left (t ++ rest) ys j (omega (arith, are.0, length-append t rest, low))
      ∙ get_left t rest j (omega (arith, are.0, low))
      ∙ ap (λ (u : List Entry). slice_get u j) same
  get_within (t ∷ segments) ys s (suc i) j are at low =
      let rest : List Entry = flat_map (λ s. s) segments in
      let e : (size * suc i + j) - length t ≡ size * i + j = omega (arith, are.0) in
      ap (λ (u : List Entry). slice_get u (size * suc i + j)) (append_assoc t rest ys)
      ∙ get_right t (rest ++ ys) (size * suc i + j) (omega (arith, are.0))
      ∙ ap (λ (n : ℕ). slice_get (rest ++ ys) n) e
      ∙ get_within segments ys s i j are.1 at low

  -- what stands after the segments
  pub get_after : (segments : List (List Entry)) (ys : List Entry) (i n : ℕ) → AreEach size segments → n ≡ size * length segments → n ≤ i → slice_get (flat_map (λ s. s) segments ++ ys) i ≡ slice_get ys (i - n)
  get_after segments ys i n are is high =
      let front = length_each segments are in
      let e : i - length (flat_map (λ s. s) segments) ≡ i - n = omega (arith, front, is) in
      get_right (flat_map (λ s. s) segments) ys i (omega (arith, front, is)) ∙ ap (λ (n : ℕ). slice_get ys n) e

  pub each_push : (segments : List (List Entry)) (s : List Entry) → AreEach size segments → length s ≡ size → AreEach size (segments ++ s ∷ [])
  each_push [] s are is = (is, tt)
  each_push (t ∷ segments) s are is = (are.0, each_push segments s are.1 is)

  pub each_long : (segments : List (List Entry)) (s : List Entry) (i : ℕ) → AreEach size segments → slice_get segments i ≡ Some s → length s ≡ size
  each_long [] s i are at = absurd (cc)
  each_long (t ∷ segments) s zero are at =
      let same : t ≡ s = cc in
      ap length (sym same) ∙ are.0
  each_long (t ∷ segments) s (suc i) are at = each_long segments s i are.1 at

-- messages after the segments may stand in a segment as well
pub joined_push : (segments : List (List Entry)) (s : List Entry) (e : Entry) → flat_map (λ s. s) (segments ++ s ∷ []) ++ e ∷ [] ≡ (flat_map (λ s. s) segments ++ s) ++ e ∷ []
joined_push segments s e =
    ap (λ (xs : List Entry). xs ++ e ∷ []) (flat_map-append (λ s. s) segments (s ∷ []) ∙ ap (λ (xs : List Entry). flat_map (λ s. s) segments ++ xs) (append-nil s))

pub first_set : (xs : List Entry) (e : Entry) → 0 < length xs → slice_set (take 1 xs) 0 e ≡ e ∷ []
first_set [] e is = absurd (omega arith)
first_set (x ∷ xs) e is = refl

-- the last message of all is the last of the last ones
pub front_after : (xs ys : List Entry) → 0 < length ys → xs ++ front ys ≡ front (xs ++ ys)
front_after [] ys some = refl
front_after (x ∷ xs) ys some =
    let rest = front_after xs ys some in
    let more : length (x ∷ (xs ++ ys)) - 1 ≡ suc (length (xs ++ ys) - 1) = omega (arith, length-append xs ys) in
    ap (λ (zs : List Entry). x ∷ zs) rest ∙ sym (ap (λ (n : ℕ). take n (x ∷ (xs ++ ys))) more)

-- one segment more of the first ones
pub further : (segments : List (List Entry)) (s : List Entry) (i : ℕ) → slice_get segments i ≡ Some s → flat_map (λ s. s) (take (suc i) segments) ≡ flat_map (λ s. s) (take i segments) ++ s
further [] s i at = absurd (cc)
further (t ∷ segments) s zero at =
    let same : t ≡ s = cc in
    append-nil t ∙ same
further (t ∷ segments) s (suc i) at =
    ap (λ (xs : List Entry). t ++ xs) (further segments s i at) ∙ sym (append_assoc t (flat_map (λ s. s) (take i segments)) s)

-- ---- the front leaves

pub drop-append : (k : ℕ) (xs ys : List Entry) → drop k (xs ++ ys) ≡ drop k xs ++ drop (k - length xs) ys
drop-append k [] ys = let same : k ≡ k - 0 = omega arith in ap (λ n. drop n ys) same ∙ ap (λ zs. zs ++ drop (k - 0) ys) (sym (drop-nil k))
drop-append zero (x ∷ xs) ys = let none : 0 ≡ 0 - length (x ∷ xs) = omega arith in ap (λ n. (x ∷ xs) ++ drop n ys) none
drop-append (suc k) (x ∷ xs) ys =
    let same : k - length xs ≡ suc k - length (x ∷ xs) = omega arith in
    drop-append k xs ys ∙ ap (λ n. drop k xs ++ drop n ys) same

-- whole segments are passed over
pub drop_seam : (size : ℕ) (segments : List (List Entry)) (ys : List Entry) (k j n : ℕ) → AreEach size segments → k ≤ length segments → n ≡ size * k + j → drop n (flat_map (λ s. s) segments ++ ys) ≡ drop j (flat_map (λ s. s) (drop k segments) ++ ys)
drop_seam size segments ys zero j n are few is =
    let same : n ≡ j = omega (arith, is) in ap (λ m. drop m (flat_map (λ s. s) segments ++ ys)) same
drop_seam size [] ys (suc k) j n are few is = absurd (omega (arith, few))
drop_seam size (s ∷ segments) ys (suc k) j n are few is =
    let rest : List Entry = flat_map (λ s. s) segments in
    let at : n ≡ length s + (size * k + j) = omega (arith, is, are.0) in
    ap (drop n) (append_assoc s rest ys)
    ∙ ap (λ m. drop m (s ++ (rest ++ ys))) at
    ∙ drop-append-add s (rest ++ ys) (size * k + j)
    ∙ drop_seam size segments ys k j (size * k + j) are.1 (omega (arith, few)) refl

pub each_dropped : (size k : ℕ) (segments : List (List Entry)) → AreEach size segments → AreEach size (drop k segments)
each_dropped size zero segments are = are
each_dropped size (suc k) [] are = tt
each_dropped size (suc k) (s ∷ segments) are = each_dropped size k segments are.1

pub get_dropped : (n i : ℕ) (xs : List Entry) → slice_get (drop n xs) i ≡ slice_get xs (n + i)
get_dropped zero i xs = let same : i ≡ 0 + i = omega arith in ap (slice_get xs) same
get_dropped (suc n) i [] = refl
get_dropped (suc n) i (x ∷ xs) =
    let same : suc n + i ≡ suc (n + i) = omega arith in get_dropped n i xs ∙ ap (slice_get (x ∷ xs)) (sym same)

-- the last one leaves from what stays, if any stays
pub front_dropped : (n : ℕ) (xs : List Entry) → n ≤ length xs → drop (min n (length xs - 1)) (front xs) ≡ front (drop n xs)
front_dropped zero xs within =
    let none : min 0 (length xs - 1) ≡ 0 = omega arith in ap (λ n. drop n (front xs)) none
front_dropped (suc n) [] within = absurd (omega (arith, within))
front_dropped (suc n) (x ∷ []) within =
    let one : n ≡ 0 = omega (arith, within) in ap (λ k. drop (min (suc k) (length (x ∷ []) - 1)) (front (x ∷ []))) one ∙ ap (λ k. front (drop k [])) (sym one)
front_dropped (suc n) (x ∷ y ∷ xs) within =
    let first : min (suc n) (length (x ∷ y ∷ xs) - 1) ≡ suc (min n (length (y ∷ xs) - 1)) = omega arith in
    let some : length (x ∷ y ∷ xs) - 1 ≡ suc (length (y ∷ xs) - 1) = omega arith in
    ap₂ (λ m k. drop m (take k (x ∷ y ∷ xs))) first some ∙ front_dropped n (y ∷ xs) (omega (arith, within))
