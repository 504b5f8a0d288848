-- The log's positions rise, and the next one is above them all.
use Rattle.std.proofs.Common.{◌≡◌, ℕ, ◌+◌, ◌<◌, ◌≤◌, ◌^◌, min, List, [], ◌∷◌, ◌++◌, map, length, suc, zero, Bool, true, false, cond, get_or, refl, ap, ◌∙◌, sym, subst, arith, All, Contains, nat_lt}
use Rattle.std.specs.Prelude.{◌&&◌, ◌||◌, ◌==◌, if◌then◌else◌, drop}
use Rattle.std.specs.List.{AllByRecursion}
use Rattle.std.specs.List.Sorted.{IsStrictlySortedBy}
use Rattle.std.specs.Cmp.{IsTotalOrder, tied_itself}
use Rattle.std.specs.declared.cmp.Ordering.{Ordering}
use Rattle.std.specs.declared.cmp.Ordering.TheVariants.{Less}
use Rattle.std.proofs.lemmas.Bool.Decides.{nat_tests}
use Rattle.std.proofs.lemmas.List.Elements.{All-nil, All-weaker, All-push, recursion_from_All, All-from_recursion, All-contains}
use Rattle.position_core.specs.declared.position.Position.{Position}
use Rattle.position_core.specs.declared.message.Entry.{Entry}
use Rattle.position_core.specs.Position.{position_cmp, positions_total}
use Rattle.delivery_machine.specs.State.{State}
use Rattle.delivery_machine.specs.Words.{next_position, used_after}
use Rattle.delivery_machine.specs.Snapshot.{Snapshot}
use Rattle.delivery_machine.specs.WellFormed.{IsSound}
use Rattle.delivery_machine.proofs.Deciding.{within}

-- ---- keys that rise

pub sorted_push : {A K : Type 0} (c : K → K → Ordering) (f : A → K) (xs : List A) (y : A) → IsStrictlySortedBy c (map f xs) → AllByRecursion (λ x. c (f x) (f y) ≡ Less) xs → IsStrictlySortedBy c (map f (xs ++ y ∷ []))
unfolding IsStrictlySortedBy
sorted_push c f [] y rising below = (tt, tt)
sorted_push {A} c f (x ∷ xs) y rising below = (above xs rising.0, sorted_push c f xs y rising.1 below.1)
  where
    above : (zs : List A) → AllByRecursion (λ k. c (f x) k ≡ Less) (map f zs) → AllByRecursion (λ k. c (f x) k ≡ Less) (map f (zs ++ y ∷ []))
    above [] h = (below.0, tt)
    above (z ∷ zs) h = (h.0, above zs h.1)

pub keys_above : {A K : Type 0} (c : K → K → Ordering) (f : A → K) (k : K) (xs : List A) (x : A) → AllByRecursion (λ q. c k q ≡ Less) (map f xs) → Contains xs x → c k (f x) ≡ Less
keys_above {A} c f k xs x above at = All-contains (λ y. c k (f y) ≡ Less) xs x (All-from_recursion (λ y. c k (f y) ≡ Less) xs (of_keys xs above)) at
  where
    of_keys : (ys : List A) → AllByRecursion (λ q. c k q ≡ Less) (map f ys) → AllByRecursion (λ y. c k (f y) ≡ Less) ys
    of_keys [] h = tt
    of_keys (y ∷ ys) h = (h.0, of_keys ys h.1)

pub below_itself : {K : Type 0} {c : K → K → Ordering} → IsTotalOrder c → (k : K) → c k k ≡ Less → ⊥
below_itself total k e = let same = tied_itself total k in cc

-- two elements of one key are one
one_of_each : {A K : Type 0} (c : K → K → Ordering) → ((k : K) → c k k ≡ Less → ⊥) → (f : A → K) (xs : List A) → IsStrictlySortedBy c (map f xs) → (x y : A) → Contains xs x → Contains xs y → f x ≡ f y → x ≡ y
unfolding IsStrictlySortedBy
one_of_each c never f [] rising x y at bt same = let below = at.1 in absurd (omega arith)
one_of_each {A} c never f (z ∷ zs) rising x y at bt same =
    by at.0 at.1 at.2 bt.0 bt.1 bt.2 (λ a b. one_of_each c never f zs rising.1 x y a b same)
  where
    apart : (u v : A) → z ≡ u → Contains zs v → f u ≡ f v → ⊥
    apart u v is there e = never (f z) (ap (c (f z)) (ap f is ∙ e) ∙ keys_above c f (f z) zs v rising.0 there)

    by : (i : ℕ) → i < length (z ∷ zs) → get_or (z ∷ zs) i x ≡ x → (j : ℕ) → j < length (z ∷ zs) → get_or (z ∷ zs) j y ≡ y → (Contains zs x → Contains zs y → x ≡ y) → x ≡ y
    by zero low is zero low' is' rest = sym is ∙ is'
    by zero low is (suc j) low' is' rest = absurd (apart x y is (j, omega arith, is') same)
    by (suc i) low is zero low' is' rest = absurd (apart y x is' (i, omega arith, is) (sym same))
    by (suc i) low is (suc j) low' is' rest = rest (i, omega arith, is) (j, omega arith, is')

-- ---- the log

-- the position is in an earlier ledger, or among the first entries of this one
abbrev pub is_below : ℕ → ℕ → Position → Bool
is_below ledger used p = nat_lt p.ledger ledger || (p.ledger == ledger && nat_lt p.entry used)

-- positions rise, none stands above the ledger or the messages in it, and no ledger is above 2^62
pub record IsRising (log : List Entry) (ledger : ℕ) : Type 0 where
  pub sorted : IsStrictlySortedBy position_cmp (map (λ e. e.position) log)
  pub below : All (λ e. is_below ledger (used_after ledger log) e.position ≡ true) log
  pub bounded : All (λ e. e.position.ledger ≤ 2 ^ 62) log

abbrev pub next_of : ℕ → ℕ → ℕ → Position
next_of ledger used size = cond (nat_lt used size) (record { ledger = ledger; entry = used }) (record { ledger = ledger + 1; entry = 0 })

pub before_next : (ledger used size : ℕ) (p : Position) → is_below ledger used p ≡ true → position_cmp p (next_of ledger used size) ≡ Less
before_next ledger used size p low = by (nat_lt used size)
  where
    by : (b : Bool) → position_cmp p (cond b (record { ledger = ledger; entry = used }) (record { ledger = ledger + 1; entry = 0 })) ≡ Less
    by true = grind (arith, nat_tests)
    by false = grind (arith, nat_tests)

pub not_below_itself : (p : Position) → position_cmp p p ≡ Less → ⊥
not_below_itself = below_itself positions_total

pub one_of_position : (log : List Entry) (ledger : ℕ) → IsRising log ledger → (x y : Entry) → Contains log x → Contains log y → x.position ≡ y.position → x ≡ y
one_of_position log ledger rising = one_of_each position_cmp not_below_itself (λ e. e.position) log rising.sorted

-- every position of the log is below the next
pub all_before_next : (s : State) → IsRising s.log s.ledger → All (λ e. position_cmp e.position (next_position s) ≡ Less) s.log
all_before_next s rising =
    All-weaker (λ e. is_below s.ledger (used_after s.ledger s.log) e.position ≡ true) (λ e. position_cmp e.position (next_position s) ≡ Less)
    (λ e low. before_next s.ledger (used_after s.ledger s.log) s.ledger_size e.position low) s.log rising.below

pub next_is_new : (s : State) → IsRising s.log s.ledger → (x : Entry) → Contains s.log x → x.position ≡ next_position s → ⊥
next_is_new s rising x at is =
    let lower : position_cmp x.position (next_position s) ≡ Less = All-contains (λ e. position_cmp e.position (next_position s) ≡ Less) s.log x (all_before_next s rising) at in
    not_below_itself (next_position s) (ap (λ (p : Position). position_cmp p (next_position s)) (sym is) ∙ lower)

-- so many are in the ledger of the next message, with that message
abbrev pub IsMore : ℕ → ℕ → ℕ → ℕ → Type 0
IsMore ledger used next more = (1 ≤ more) × (next ≡ ledger → more ≡ used + 1)

next_itself_below : (ledger used size more : ℕ) (q : Position) → q ≡ next_of ledger used size → IsMore ledger used q.ledger more → is_below q.ledger more q ≡ true
next_itself_below ledger used size more q is longer = by (nat_lt used size) is
  where
    by : (b : Bool) → q ≡ cond b (record { ledger = ledger; entry = used }) (record { ledger = ledger + 1; entry = 0 }) → is_below q.ledger more q ≡ true
    by true e =
        let l : q.ledger ≡ ledger = ap (λ p. p.ledger) e in
        let n : q.entry ≡ used = ap (λ p. p.entry) e in
        let m = longer.1 l in
        grind (arith, nat_tests)
    by false e =
        let n : q.entry ≡ 0 = ap (λ p. p.entry) e in
        let m = longer.0 in
        grind (arith, nat_tests)

pub still_below : (ledger used size more : ℕ) (q p : Position) → q ≡ next_of ledger used size → IsMore ledger used q.ledger more → is_below ledger used p ≡ true → is_below q.ledger more p ≡ true
still_below ledger used size more q p is longer low = by (nat_lt used size) is
  where
    by : (b : Bool) → q ≡ cond b (record { ledger = ledger; entry = used }) (record { ledger = ledger + 1; entry = 0 }) → is_below q.ledger more p ≡ true
    by true e =
        let l : q.ledger ≡ ledger = ap (λ p. p.ledger) e in
        let m = longer.1 l in
        grind (arith, nat_tests)
    by false e =
        let l : q.ledger ≡ ledger + 1 = ap (λ p. p.ledger) e in
        grind (arith, nat_tests)

pub used_last : (ledger : ℕ) (log : List Entry) (e : Entry) → used_after ledger (log ++ e ∷ []) ≡ (if e.position.ledger == ledger then e.position.entry + 1 else 0)
used_last ledger [] e = refl
used_last ledger (x ∷ []) e = refl
used_last ledger (x ∷ y ∷ log) e = used_last ledger (y ∷ log) e

pub used_push : (ledger size : ℕ) (log : List Entry) (e : Entry) → e.position ≡ next_of ledger (used_after ledger log) size → IsMore ledger (used_after ledger log) e.position.ledger (used_after e.position.ledger (log ++ e ∷ []))
used_push ledger size log e is = by (nat_lt (used_after ledger log) size) is
  where
    counted : used_after e.position.ledger (log ++ e ∷ []) ≡ e.position.entry + 1
    counted =
        let one : (if e.position.ledger == e.position.ledger then e.position.entry + 1 else 0) ≡ e.position.entry + 1 = grind (arith, nat_tests) in
        used_last e.position.ledger log e ∙ one

    by : (b : Bool) → e.position ≡ cond b (record { ledger = ledger; entry = used_after ledger log }) (record { ledger = ledger + 1; entry = 0 }) → IsMore ledger (used_after ledger log) e.position.ledger (used_after e.position.ledger (log ++ e ∷ []))
    by true at =
        let n : e.position.entry ≡ used_after ledger log = ap (λ p. p.entry) at in
        (omega (arith, counted), λ same. counted ∙ ap (λ n. n + 1) n)
    by false at =
        let l : e.position.ledger ≡ ledger + 1 = ap (λ p. p.ledger) at in
        (omega (arith, counted), λ same. absurd (omega (arith, l, same)))

-- the next message of the log keeps it so
pub rising_push : (s : State) (e : Entry) → e.position ≡ next_position s → nat_lt (2 ^ 62) (next_position s).ledger ≡ false → IsRising s.log s.ledger → IsRising (s.log ++ e ∷ []) e.position.ledger
rising_push s e is room rising =
    let more : ℕ = used_after e.position.ledger (s.log ++ e ∷ []) in
    let longer = used_push s.ledger s.ledger_size s.log e is in
    let Q : Entry → Type 0 = λ x. is_below e.position.ledger more x.position ≡ true in
    record {
      sorted = sorted_push position_cmp (λ x. x.position) s.log e rising.sorted
          (recursion_from_All (λ x. position_cmp x.position e.position ≡ Less) s.log
          (subst (λ (p : Position). All (λ x. position_cmp x.position p ≡ Less) s.log) (sym is) (all_before_next s rising)));
      below = All-push Q s.log e
          (All-weaker (λ x. is_below s.ledger (used_after s.ledger s.log) x.position ≡ true) Q
          (λ x low. still_below s.ledger (used_after s.ledger s.log) s.ledger_size more e.position x.position is longer low) s.log rising.below)
          (next_itself_below s.ledger (used_after s.ledger s.log) s.ledger_size more e.position is longer);
      bounded = All-push (λ x. x.position.ledger ≤ 2 ^ 62) s.log e rising.bounded (within (2 ^ 62) e.position.ledger (ap (λ (p : Position). nat_lt (2 ^ 62) p.ledger) is ∙ room));
    }

-- ---- where a run begins

pub rising_fresh : IsRising [] 0
unfolding IsStrictlySortedBy
rising_fresh = record { sorted = tt; below = All-nil (λ e. is_below 0 (used_after 0 []) e.position ≡ true); bounded = All-nil (λ e. e.position.ledger ≤ 2 ^ 62) }

below_restarted : (ledger kept used : ℕ) (p : Position) → (p.ledger ≤ kept) × (p.ledger ≤ 2 ^ 62) → ledger ≡ min (kept + 1) (2 ^ 62 + 1) → is_below ledger used p ≡ true
below_restarted ledger kept used p low is =
    let a = low.0 in
    let b = low.1 in
    let c : p.ledger < ledger = omega arith in
    grind (arith, nat_tests)

pub rising_restarted : (kept : Snapshot) → IsSound kept → IsRising kept.log (min (kept.ledger + 1) (2 ^ 62 + 1))
rising_restarted kept sound = record {
  sorted = sound.log.positions;
  below = All-weaker (λ e. (e.position.ledger ≤ kept.ledger) × (e.position.ledger ≤ 2 ^ 62)) (λ e. is_below (min (kept.ledger + 1) (2 ^ 62 + 1)) (used_after (min (kept.ledger + 1) (2 ^ 62 + 1)) kept.log) e.position ≡ true)
      (λ e low. below_restarted _ kept.ledger _ e.position low refl) kept.log sound.log.ledgers;
  bounded = All-weaker (λ e. (e.position.ledger ≤ kept.ledger) × (e.position.ledger ≤ 2 ^ 62)) (λ e. e.position.ledger ≤ 2 ^ 62) (λ e low. low.1) kept.log sound.log.ledgers;
}

pub ledgers_below : (ledger used : ℕ) (p : Position) → is_below ledger used p ≡ true → p.ledger ≤ ledger
ledgers_below ledger used p low = grind (arith, nat_tests)

-- ---- where the first messages go

pub used_dropped : (ledger n : ℕ) (log : List Entry) → n < length log → used_after ledger (drop n log) ≡ used_after ledger log
used_dropped ledger zero log low = refl
used_dropped ledger (suc n) [] low = absurd (omega (arith, low))
used_dropped ledger (suc n) (x ∷ []) low = absurd (omega (arith, low))
used_dropped ledger (suc n) (x ∷ y ∷ log) low = used_dropped ledger n (y ∷ log) (omega (arith, low))

pub sorted_dropped : (n : ℕ) (log : List Entry) → IsStrictlySortedBy position_cmp (map (λ e. e.position) log) → IsStrictlySortedBy position_cmp (map (λ e. e.position) (drop n log))
unfolding IsStrictlySortedBy
sorted_dropped zero log h = h
sorted_dropped (suc n) [] h = h
sorted_dropped (suc n) (x ∷ log) h = sorted_dropped n log h.1

pub all_dropped : (P : Entry → Type 0) (n : ℕ) (log : List Entry) → All P log → All P (drop n log)
all_dropped P n log h = All-from_recursion P (drop n log) (by n log (recursion_from_All P log h))
  where
    by : (n : ℕ) (log : List Entry) → AllByRecursion P log → AllByRecursion P (drop n log)
    by zero log h = h
    by (suc n) [] h = h
    by (suc n) (x ∷ log) h = by n log h.1

-- the positions rise still, and the next one is the same
pub rising_dropped : (n : ℕ) (log : List Entry) (ledger : ℕ) → n < length log → IsRising log ledger → IsRising (drop n log) ledger
rising_dropped n log ledger low rising = record {
  sorted = sorted_dropped n log rising.sorted;
  below = subst (λ (used : ℕ). All (λ e. is_below ledger used e.position ≡ true) (drop n log)) (sym (used_dropped ledger n log low))
      (all_dropped (λ e. is_below ledger (used_after ledger log) e.position ≡ true) n log rising.below);
  bounded = all_dropped (λ e. e.position.ledger ≤ 2 ^ 62) n log rising.bounded;
}
