-- How many messages are earlier than a time, by segments, of which the first messages may have gone.
use Rattle.std.proofs.Common.{drop, ◌≡◌, ℕ, zero, suc, ◌+◌, ◌-◌, ◌*◌, ◌<◌, ◌≤◌, Bool, true, false, cond, List, [], ◌∷◌, ◌++◌, length, map, Some, refl, ap, sym, ◌∙◌, append_assoc, get_or, arith}
use Rattle.std.specs.Prelude.{nat_le, max, min, not}
use Rattle.std.specs.Option.{option_map}
use Rattle.std.specs.List.{flat_map, position_or_len, slice_get}
use Rattle.std.proofs.Math.Seq.{drop-nil}
use Rattle.std.proofs.lemmas.Bool.Decides.{nat_tests}
use Rattle.std.proofs.lemmas.List.{length-drop}
use Rattle.std.proofs.lemmas.Option.{slice_get-map, get_or_from_slice_get}
use Rattle.position_core.specs.declared.message.Entry.{Entry}
use Rattle.log_pieces.specs.Pieces.{AreEach}
use Rattle.log_pieces.specs.Times.{is_from, moment_after}
use Rattle.log_pieces.proofs.Joined.{each_long, drop-append}

-- ---- moments

not_before : (from : ℕ) (log : List Entry) → from ≤ moment_after from log
not_before from [] = omega arith
not_before from (e ∷ log) =
    let rest = not_before (max from (e.time + 1)) log in
    omega (arith, rest)

-- the moment that stands beside a segment
pub moment_at : (segments : List (List Entry)) (moments : List ℕ) (i m d : ℕ) (s : List Entry) → moments ≡ map (moment_after 0) segments → m ≡ get_or moments i d → slice_get segments i ≡ Some s → m ≡ moment_after 0 s
moment_at segments moments i m d s are is at =
    is ∙ ap (λ (ms : List ℕ). get_or ms i d) are
    ∙ get_or_from_slice_get (map (moment_after 0) segments) i (moment_after 0 s) d (slice_get-map (moment_after 0) segments i ∙ ap (option_map (moment_after 0)) at)

pub is_low : (m time : ℕ) → nat_le m time ≡ true → m ≤ time
is_low m time test = grind (arith, nat_tests)

module _ (time : ℕ) where
  not_from : (e : Entry) (rest : List Entry) → e.time < time → position_or_len (is_from time) (e ∷ rest) ≡ 1 + position_or_len (is_from time) rest
  not_from e rest low =
      let test : is_from time e ≡ false = grind (arith, nat_tests) in
      ap (λ b. cond (not b) (1 + position_or_len (is_from time) rest) 0) test

  from_it : (e : Entry) (rest : List Entry) → time ≤ e.time → position_or_len (is_from time) (e ∷ rest) ≡ 0
  from_it e rest high =
      let test : is_from time e ≡ true = grind (arith, nat_tests) in
      ap (λ b. cond (not b) (1 + position_or_len (is_from time) rest) 0) test

  -- what the moment says of the messages that stay
  pub all_earlier : (from k : ℕ) (s : List Entry) → moment_after from s ≤ time → position_or_len (is_from time) (drop k s) ≡ length (drop k s)
  all_earlier from zero [] after = refl
  all_earlier from (suc k) [] after = refl
  all_earlier from zero (e ∷ s) after =
      let rest = all_earlier (max from (e.time + 1)) 0 s after in
      let over = not_before (max from (e.time + 1)) s in
      let low : e.time < time = omega (arith, over, after) in
      let here = not_from e s low in
      omega (arith, here, rest)
  all_earlier from (suc k) (e ∷ s) after = all_earlier (max from (e.time + 1)) k s after

  pub within_first : (xs ys : List Entry) → position_or_len (is_from time) xs < length xs → position_or_len (is_from time) (xs ++ ys) ≡ position_or_len (is_from time) xs
  within_first [] ys low = absurd (omega arith)
  within_first (e ∷ xs) ys low = by (within_first xs ys) (is_from time e) refl
    where
      by : (position_or_len (is_from time) xs < length xs → position_or_len (is_from time) (xs ++ ys) ≡ position_or_len (is_from time) xs) → (b : Bool) → is_from time e ≡ b → position_or_len (is_from time) ((e ∷ xs) ++ ys) ≡ position_or_len (is_from time) (e ∷ xs)
      by further true test =
          ap (λ b. cond (not b) (1 + position_or_len (is_from time) (xs ++ ys)) 0) test
          ∙ sym (ap (λ b. cond (not b) (1 + position_or_len (is_from time) xs) 0) test)
      by further false test =
          let earlier : e.time < time = grind (arith, nat_tests) in
          let here = not_from e xs earlier in
          ap (λ n. cond (not (is_from time e)) (1 + n) 0) (further (omega (arith, low, here)))

  pub past_first : (xs ys : List Entry) → position_or_len (is_from time) xs ≡ length xs → position_or_len (is_from time) (xs ++ ys) ≡ length xs + position_or_len (is_from time) ys
  past_first [] ys all = omega arith
  past_first (e ∷ xs) ys all = by (past_first xs ys) (is_from time e) refl
    where
      by : (position_or_len (is_from time) xs ≡ length xs → position_or_len (is_from time) (xs ++ ys) ≡ length xs + position_or_len (is_from time) ys) → (b : Bool) → is_from time e ≡ b → position_or_len (is_from time) ((e ∷ xs) ++ ys) ≡ length (e ∷ xs) + position_or_len (is_from time) ys
      by further true test =
          let none : position_or_len (is_from time) (e ∷ xs) ≡ 0 = ap (λ b. cond (not b) (1 + position_or_len (is_from time) xs) 0) test in
          absurd (omega (arith, none, all))
      by further false test =
          let earlier : e.time < time = grind (arith, nat_tests) in
          let one = not_from e xs earlier in
          let more = not_from e (xs ++ ys) earlier in
          let rest = further (omega (arith, one, all)) in
          omega (arith, more, rest)

  -- ---- all segments

  -- what stays from the segment on
  abbrev pub rest_at : ℕ → List (List Entry) → List Entry → ℕ → List Entry
  rest_at skipped segments ys place = drop (skipped - 1024 * place) (flat_map (λ s. s) (drop place segments) ++ ys)

  -- so many messages stay in front of the segment, and all are earlier
  pub record EarlierUpTo (skipped : ℕ) (segments : List (List Entry)) (ys : List Entry) (place count : ℕ) : Type 0 where
    pub earlier : position_or_len (is_from time) (drop skipped (flat_map (λ s. s) segments ++ ys)) ≡ count + position_or_len (is_from time) (rest_at skipped segments ys place)
    pub few : count ≤ 1024 * place

  pub none_passed : (skipped : ℕ) (segments : List (List Entry)) (ys : List Entry) → EarlierUpTo skipped segments ys 0 0
  none_passed skipped segments ys =
      let same : skipped - 1024 * 0 ≡ skipped = omega arith in
      let whole = ap (λ n. position_or_len (is_from time) (drop n (flat_map (λ s. s) segments ++ ys))) same in
      record { earlier = omega (arith, whole); few = omega arith }

  at_place : (segments : List (List Entry)) (s : List Entry) (i : ℕ) → slice_get segments i ≡ Some s → drop i segments ≡ s ∷ drop (suc i) segments
  at_place [] s i at = absurd (cc)
  at_place (t ∷ segments) s zero at = let same : t ≡ s = cc in ap (λ u. u ∷ segments) same
  at_place (t ∷ segments) s (suc i) at = at_place segments s i at

  drop_most : (k from : ℕ) (s : List Entry) → from ≡ min k (length s) → drop k s ≡ drop from s
  drop_most zero from s is = let none : from ≡ 0 = omega (arith, is) in ap (λ n. drop n s) (sym none)
  drop_most (suc k) from [] is = sym (drop-nil from)
  drop_most (suc k) zero (e ∷ s) is = absurd (omega (arith, is))
  drop_most (suc k) (suc from) (e ∷ s) is = drop_most k from s (omega (arith, is))

  module _ (skipped : ℕ) (segments : List (List Entry)) (ys s : List Entry) (place count from here : ℕ) (are : AreEach 1024 segments) (at : slice_get segments place ≡ Some s) (from_is : from ≡ min (skipped - 1024 * place) 1024) (here_is : here ≡ position_or_len (is_from time) (drop from s)) (so_far : EarlierUpTo skipped segments ys place count) where
    long : length s ≡ 1024
    long = each_long 1024 segments s place are at

    parts : rest_at skipped segments ys place ≡ drop from s ++ rest_at skipped segments ys (place + 1)
    parts =
        let k = skipped - 1024 * place in
        let later : List Entry = flat_map (λ s. s) (drop (suc place) segments) in
        let less : k - length s ≡ skipped - 1024 * (place + 1) = omega (arith, long) in
        let next : suc place ≡ place + 1 = omega arith in
        ap (λ ss. drop k (flat_map (λ s. s) ss ++ ys)) (at_place segments s place at)
        ∙ ap (drop k) (append_assoc s later ys)
        ∙ drop-append k s (later ++ ys)
        ∙ ap (λ xs. xs ++ drop (k - length s) (later ++ ys)) (drop_most k from s (from_is ∙ ap (min k) (sym long)))
        ∙ ap (λ n. drop from s ++ drop n (later ++ ys)) less
        ∙ ap (λ n. drop from s ++ drop (skipped - 1024 * (place + 1)) (flat_map (λ s. s) (drop n segments) ++ ys)) next

    pub found_in : from + here < 1024 → count + here ≡ position_or_len (is_from time) (drop skipped (flat_map (λ s. s) segments ++ ys))
    found_in low =
        let inside = within_first (drop from s) (rest_at skipped segments ys (place + 1)) (omega (arith, low, here_is, length-drop from s, long)) in
        let whole = ap (position_or_len (is_from time)) parts in
        omega (arith, so_far.earlier, whole, inside, here_is)

    pub passed : 1024 ≤ from + here → from + here ≤ 1024 → EarlierUpTo skipped segments ys (place + 1) (count + here)
    passed high most =
        let all : position_or_len (is_from time) (drop from s) ≡ length (drop from s) = omega (arith, high, most, here_is, length-drop from s, long) in
        let past = past_first (drop from s) (rest_at skipped segments ys (place + 1)) all in
        let whole = ap (position_or_len (is_from time)) parts in
        record {
          earlier = omega (arith, so_far.earlier, whole, past, all, here_is);
          few = omega (arith, so_far.few, most);
        }

  none_left : (segments : List (List Entry)) (place : ℕ) → place ≡ length segments → drop place segments ≡ []
  none_left [] zero all = refl
  none_left [] (suc place) all = refl
  none_left (s ∷ segments) zero all = absurd (omega (arith, all))
  none_left (s ∷ segments) (suc place) all = none_left segments place (omega (arith, all))

  pub after_all : (skipped : ℕ) (segments : List (List Entry)) (ys : List Entry) (place count from here : ℕ) → EarlierUpTo skipped segments ys place count → place ≡ length segments → from ≡ skipped - 1024 * place → here ≡ position_or_len (is_from time) (drop from ys) → count + here ≡ position_or_len (is_from time) (drop skipped (flat_map (λ s. s) segments ++ ys))
  after_all skipped segments ys place count from here so_far all from_is here_is =
      let rest = ap (λ ss. position_or_len (is_from time) (drop (skipped - 1024 * place) (flat_map (λ s. s) ss ++ ys))) (none_left segments place all) in
      let same = ap (λ n. position_or_len (is_from time) (drop n ys)) from_is in
      omega (arith, so_far.earlier, rest, same, here_is)

-- ---- one message after the other

dropped : (log : List Entry) (e : Entry) (i : ℕ) → slice_get log i ≡ Some e → drop i log ≡ e ∷ drop (suc i) log
dropped [] e i at = absurd (cc)
dropped (x ∷ log) e zero at = let same : x ≡ e = cc in ap (λ (y : Entry). y ∷ log) same
dropped (x ∷ log) e (suc i) at = dropped log e i at

module _ (time : ℕ) where
  -- those from the first index on and before the second are earlier
  abbrev pub AreEarlier : List Entry → ℕ → ℕ → Type 0
  AreEarlier log from i =
      (from ≤ i) × (position_or_len (is_from time) (drop from log) ≡ (i - from) + position_or_len (is_from time) (drop i log))

  pub one_earlier : (log : List Entry) (e : Entry) (from i : ℕ) → slice_get log i ≡ Some e → AreEarlier log from i → e.time < time → AreEarlier log from (i + 1)
  one_earlier log e from i at are low =
      let further = not_from time e (drop (suc i) log) low in
      let same = ap (λ (u : List Entry). position_or_len (is_from time) u) (dropped log e i at) in
      let next : i + 1 ≡ suc i = omega arith in
      let on = ap (λ (n : ℕ). position_or_len (is_from time) (drop n log)) next in
      (omega (arith, are.0), omega (arith, are.0, are.1, further, same, on))

  pub one_later : (log : List Entry) (e : Entry) (from i : ℕ) → slice_get log i ≡ Some e → AreEarlier log from i → time ≤ e.time → i - from ≡ position_or_len (is_from time) (drop from log)
  one_later log e from i at are high =
      let none = from_it time e (drop (suc i) log) high in
      let same = ap (λ (u : List Entry). position_or_len (is_from time) u) (dropped log e i at) in
      omega (arith, are.1, none, same)

  nothing_after : (log : List Entry) (i : ℕ) → length log ≤ i → position_or_len (is_from time) (drop i log) ≡ 0
  nothing_after [] zero low = refl
  nothing_after [] (suc i) low = refl
  nothing_after (x ∷ log) zero low = absurd (omega arith)
  nothing_after (x ∷ log) (suc i) low = nothing_after log i (omega arith)

  pub all_are_earlier : (log : List Entry) (from i : ℕ) → length log ≡ i → AreEarlier log from i → i - from ≡ position_or_len (is_from time) (drop from log)
  all_are_earlier log from i all are = omega (arith, are.1, nothing_after log i (omega arith))
