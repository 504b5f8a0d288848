-- The positions of what is pending, as a list in the order of the log.
use Rattle.std.proofs.Common.{◌≡◌, ℕ, ◌-◌, ◌<◌, suc, zero, List, [], ◌∷◌, map, length, Some, None, Option, Bool, true, false, cond, refl, ap, ◌∙◌, sym, arith, true≢false}
use Rattle.std.specs.Prelude.{◌||◌, ◌&&◌, is_some}
use Rattle.std.specs.List.{AllByRecursion, filter}
use Rattle.std.specs.List.Sorted.{IsStrictlySortedBy}
use Rattle.std.specs.FinMap as map_of
use Rattle.std.specs.declared.cmp.Ordering.TheVariants.{Less}
use Rattle.std.proofs.lemmas.List.Kept.{IsStrictlySortedBy-filter}
use Rattle.position_core.specs.declared.position.Position.{Position}
use Rattle.position_core.specs.declared.message.Entry.{Entry}
use Rattle.position_core.specs.declared.held.Held.{Held}
use Rattle.position_core.specs.Position.{position_cmp, same_position, positions_total, exact_positions}
use Rattle.delivery_machine.specs.Acknowledging.{is_one_of}
use Rattle.delivery_machine.specs.WellFormed.{has_message}
use Rattle.delivery_machine.proofs.Messages.{either_way, position_itself}
use Rattle.delivery_machine.proofs.Rising.{not_below_itself}
use Rattle.delivery_machine.proofs.Tended.{position_is}
use Rattle.topic_subscriptions.specs.Placed.{IsRising}

abbrev pub Holding : Type 0
Holding = map_of.FinMap position_cmp Held

-- the positions of a log that are pending
abbrev pub listed : List Entry → Holding → List Position
listed log m = map (λ e. e.position) (filter (λ e. map_of.contains_key m e.position) log)

-- what is pending is of the log
abbrev pub AreOfLog : List Entry → Holding → Type 0
AreOfLog log m = (q : Position) → map_of.contains_key m q ≡ true → has_message log q ≡ true

-- ---- which they are

pub one_listed : (log : List Entry) (m : Holding) (q : Position) → is_one_of (listed log m) q ≡ (map_of.contains_key m q && has_message log q)
one_listed [] m q = never (map_of.contains_key m q)
  where
    never : (b : Bool) → false ≡ (b && false)
    never true = refl
    never false = refl
one_listed (e ∷ log) m q = by (map_of.contains_key m e.position) refl (same_position q e.position) refl (one_listed log m q)
  where
    either : (b : Bool) → (b && true) ≡ b
    either true = refl
    either false = refl

    by : (k : Bool) → map_of.contains_key m e.position ≡ k → (b : Bool) → same_position q e.position ≡ b → is_one_of (listed log m) q ≡ (map_of.contains_key m q && has_message log q)
        → is_one_of (map (λ (x : Entry). x.position) (cond k (e ∷ filter (λ (x : Entry). map_of.contains_key m x.position) log) (filter (λ (x : Entry). map_of.contains_key m x.position) log))) q ≡ (map_of.contains_key m q && (same_position e.position q || has_message log q))
    by true key true same rest =
        ap (λ b. b || is_one_of (listed log m) q) same
        ∙ sym (ap (λ b. map_of.contains_key m q && (b || has_message log q)) (either_way e.position q ∙ same) ∙ either (map_of.contains_key m q)
        ∙ ap (map_of.contains_key m) (position_is q e.position same) ∙ key)
    by true key false differ rest =
        ap (λ b. b || is_one_of (listed log m) q) differ ∙ rest ∙ sym (ap (λ b. map_of.contains_key m q && (b || has_message log q)) (either_way e.position q ∙ differ))
    by false free true same rest =
        rest ∙ (let none : map_of.contains_key m q ≡ false = ap (map_of.contains_key m) (position_is q e.position same) ∙ free in
        ap (λ b. b && has_message log q) none ∙ sym (ap (λ b. b && (same_position e.position q || has_message log q)) none))
    by false free false differ rest =
        rest ∙ sym (ap (λ b. map_of.contains_key m q && (b || has_message log q)) (either_way e.position q ∙ differ))

pub all_listed : (log : List Entry) (m : Holding) (q : Position) → AreOfLog log m → is_one_of (listed log m) q ≡ map_of.contains_key m q
all_listed log m q are = one_listed log m q ∙ by (map_of.contains_key m q) refl
  where
    by : (b : Bool) → map_of.contains_key m q ≡ b → (b && has_message log q) ≡ b
    by true key = are q key
    by false free = refl

-- ---- how many they are

filtered : (p : Position → Bool) (log : List Entry) → map (λ (e : Entry). e.position) (filter (λ (e : Entry). p e.position) log) ≡ filter p (map (λ (e : Entry). e.position) log)
filtered p [] = refl
filtered p (e ∷ log) = by (p e.position) (filtered p log)
  where
    by : (b : Bool) → map (λ (x : Entry). x.position) (filter (λ (x : Entry). p x.position) log) ≡ filter p (map (λ (x : Entry). x.position) log)
        → map (λ (x : Entry). x.position) (cond b (e ∷ filter (λ (x : Entry). p x.position) log) (filter (λ (x : Entry). p x.position) log)) ≡ cond b (e.position ∷ filter p (map (λ (x : Entry). x.position) log)) (filter p (map (λ (x : Entry). x.position) log))
    by true rest = ap (λ (ps : List Position). e.position ∷ ps) rest
    by false rest = rest

-- the first of positions that rise stands nowhere behind
not_behind : (p : Position) (ps : List Position) → AllByRecursion (λ (q : Position). position_cmp p q ≡ Less) ps → is_one_of ps p ≡ false
not_behind p [] above = refl
not_behind p (q ∷ ps) above = by (same_position p q) refl (not_behind p ps above.1)
  where
    by : (b : Bool) → same_position p q ≡ b → is_one_of ps p ≡ false → (b || is_one_of ps p) ≡ false
    by true same behind = absurd (not_below_itself p (ap (position_cmp p) (position_is p q same) ∙ above.0))
    by false differ behind = behind

empty_has : (m : Holding) (p : Position) → map_of.contains_key m p ≡ true → map_of.len m ≡ 0 → ⊥
empty_has m p key none = true≢false (sym key ∙ ap (λ (k : Holding). map_of.contains_key k p) (map_of.empty_of_len m none) ∙ ap is_some (map_of.get-empty position_cmp p))

one_fewer : (m : Holding) (p : Position) → map_of.contains_key m p ≡ true → suc (map_of.len (map_of.remove m p)) ≡ map_of.len m
one_fewer m p key = by (map_of.len m) refl (map_of.len-remove positions_total m p ∙ ap (λ b. cond b (map_of.len m - 1) (map_of.len m)) key)
  where
    by : (n : ℕ) → map_of.len m ≡ n → map_of.len (map_of.remove m p) ≡ map_of.len m - 1 → suc (map_of.len (map_of.remove m p)) ≡ map_of.len m
    by zero is less = absurd (empty_has m p key is)
    by (suc n) is less = omega (arith, is, less)

pub fewer : (m : Holding) (p : Position) → map_of.contains_key m p ≡ true → map_of.len (map_of.remove m p) < map_of.len m
fewer m p key = (let one = one_fewer m p key in omega (arith, one))

-- a list that rises, of the keys of a map
as_many : (ps : List Position) (m : Holding) → IsStrictlySortedBy position_cmp ps → ((q : Position) → is_one_of ps q ≡ map_of.contains_key m q) → length ps ≡ map_of.len m
unfolding IsStrictlySortedBy
as_many [] m rising keys = sym (ap map_of.len (map_of.same_map positions_total exact_positions m map_of.empty (λ q. none q (map_of.get m q) refl ∙ sym (map_of.get-empty position_cmp q))) ∙ map_of.len-empty position_cmp Held)
  where
    none : (q : Position) (o : Option Held) → map_of.get m q ≡ o → map_of.get m q ≡ None
    none q None is = is
    none q (Some h) is = absurd (true≢false (sym (keys q ∙ ap is_some is)))
as_many (p ∷ ps) m rising keys = ap suc (as_many ps (map_of.remove m p) rising.1 behind) ∙ one_fewer m p here
  where
    here : map_of.contains_key m p ≡ true
    here = sym (keys p) ∙ ap (λ b. b || is_one_of ps p) (position_itself p)

    behind : (q : Position) → is_one_of ps q ≡ map_of.contains_key (map_of.remove m p) q
    behind q = by (same_position q p) refl ∙ sym (ap is_some (map_of.get-remove positions_total m p q))
      where
        by : (b : Bool) → same_position q p ≡ b → is_one_of ps q ≡ is_some (cond (same_position q p) None (map_of.get m q))
        by true same = ap (is_one_of ps) (position_is q p same) ∙ not_behind p ps rising.0 ∙ sym (ap (λ b. is_some (cond b None (map_of.get m q))) same)
        by false differ = sym (ap (λ b. b || is_one_of ps q) differ) ∙ keys q ∙ sym (ap (λ b. is_some (cond b None (map_of.get m q))) differ)

pub number_listed : (log : List Entry) (m : Holding) → IsRising log → AreOfLog log m → length (listed log m) ≡ map_of.len m
number_listed log m rising are =
    ap length (filtered (map_of.contains_key m) log)
    ∙ as_many (filter (map_of.contains_key m) (map (λ (e : Entry). e.position) log)) m (IsStrictlySortedBy-filter position_cmp (map_of.contains_key m) (map (λ (e : Entry). e.position) log) rising)
    (λ q. ap (λ (ps : List Position). is_one_of ps q) (sym (filtered (map_of.contains_key m) log)) ∙ all_listed log m q are)
