-- Members by number, subscription and flow: numbers rise, and stay below the next one.
use Rattle.std.proofs.Common.{◌≡◌, ℕ, ◌+◌, ◌<◌, ◌≤◌, List, [], ◌∷◌, ◌++◌, map, Some, None, Bool, true, false, cond, zero, suc, get_or, length, refl, ap, ◌∙◌, sym, arith, Contains}
use Rattle.std.specs.Prelude.{◌==◌}
use Rattle.std.specs.List.{find}
use Rattle.std.proofs.lemmas.Bool.Decides.{nat_tests}
use Rattle.std.proofs.lemmas.List.{map-append}
use Rattle.position_core.specs.declared.flow.Flow.{Flow}
use Rattle.delivery_machine.specs.State.{Member}
use Rattle.position_core.specs.declared.position.Position.{Position}
use Rattle.delivery_machine.specs.Words.{changed, removed, is_member, is_at, emptied, emptied_at}
use Rattle.delivery_machine.specs.Acknowledging.{forgetting, without}
use Rattle.delivery_machine.proofs.Deciding.{itself, number_is, apart_below, apart_above}
use Rattle.delivery_machine.proofs.Keyed.{keys_changed, keys_mapped}
use Rattle.delivery_machine.proofs.Finding.{find_removed}

pub record Seat : Type 0 where
  pub number : ℕ
  pub name : List ℕ
  pub flow : Flow

abbrev pub seat_of : Member → Seat
seat_of m = record { number = m.number; name = m.subscription; flow = m.flow }

abbrev pub seats : List Member → List Seat
seats members = map seat_of members

abbrev pub has_number : ℕ → Seat → Bool
has_number number x = x.number == number

-- ---- numbers that differ

-- two tests of numbers, of which one passes
tests_apart : (a b m n : ℕ) → (a == m) ≡ true → (a == n) ≡ false → (b == n) ≡ true → (b == m) ≡ false
tests_apart a b m n e f g = grind (arith, nat_tests)

pub numbers_apart : (c n : ℕ) (x y : Seat) → has_number n x ≡ true → has_number c x ≡ false → has_number c y ≡ true → has_number n y ≡ false
numbers_apart c n x y e f g = tests_apart x.number y.number n c e f g

-- ---- seats of members after a change

pub seats_of_changed : (q : Member → Bool) (r : Seat → Bool) (f : Member → Member) (g : Seat → Seat) → ((m : Member) → r (seat_of m) ≡ q m) → ((m : Member) → seat_of (f m) ≡ g (seat_of m))
    → (members : List Member) → seats (changed q f members) ≡ changed r g (seats members)
seats_of_changed q r f g tests same [] = refl
seats_of_changed q r f g tests same (m ∷ members) = by (q m) refl (seats_of_changed q r f g tests same members)
  where
    by : (b : Bool) → q m ≡ b → seats (changed q f members) ≡ changed r g (seats members) → seats (cond b (f m ∷ members) (m ∷ changed q f members)) ≡ changed r g (seat_of m ∷ seats members)
    by true t rest = ap (λ x. x ∷ seats members) (same m) ∙ sym (ap (λ b. cond b (g (seat_of m) ∷ seats members) (seat_of m ∷ changed r g (seats members))) (tests m ∙ t))
    by false f rest = ap (λ xs. seat_of m ∷ xs) rest ∙ sym (ap (λ b. cond b (g (seat_of m) ∷ seats members) (seat_of m ∷ changed r g (seats members))) (tests m ∙ f))

-- where the seat stays
pub seats_stay : (q : Member → Bool) (f : Member → Member) → ((m : Member) → seat_of (f m) ≡ seat_of m) → (members : List Member) → seats (changed q f members) ≡ seats members
seats_stay q f same members = keys_changed seat_of q f same members

pub seats_of_mapped : (f : Member → Member) → ((m : Member) → seat_of (f m) ≡ seat_of m) → (members : List Member) → seats (map f members) ≡ seats members
seats_of_mapped f same members = keys_mapped seat_of f same members

pub seats_of_removed : (number : ℕ) (members : List Member) → seats (removed (is_member number) members) ≡ removed (has_number number) (seats members)
seats_of_removed number [] = refl
seats_of_removed number (m ∷ members) = by (is_member number m) (seats_of_removed number members)
  where
    by : (b : Bool) → seats (removed (is_member number) members) ≡ removed (has_number number) (seats members) → seats (cond b members (m ∷ removed (is_member number) members)) ≡ cond b (seats members) (seat_of m ∷ removed (has_number number) (seats members))
    by true rest = refl
    by false rest = ap (λ xs. seat_of m ∷ xs) rest

pub seats_of_pushed : (members : List Member) (m : Member) → seats (members ++ m ∷ []) ≡ seats members ++ seat_of m ∷ []
seats_of_pushed members m = map-append seat_of members (m ∷ [])

pub found_seat : (number : ℕ) (members : List Member) (m : Member) → find (is_member number) members ≡ Some m → find (has_number number) (seats members) ≡ Some (seat_of m)
found_seat number [] m h = cc
found_seat number (x ∷ members) m h = by (is_member number x) h (found_seat number members m)
  where
    by : (b : Bool) → cond b (Some x) (find (is_member number) members) ≡ Some m → (find (is_member number) members ≡ Some m → find (has_number number) (seats members) ≡ Some (seat_of m)) → cond b (Some (seat_of x)) (find (has_number number) (seats members)) ≡ Some (seat_of m)
    by true h rest = let is : x ≡ m = cc in ap (λ y. Some (seat_of y)) is
    by false h rest = rest h

pub seat_contained : (members : List Member) (m : Member) → Contains members m → Contains (seats members) (seat_of m)
seat_contained [] m at = let low = at.1 in absurd (omega arith)
seat_contained (x ∷ members) m at = by at.0 at.1 at.2 (seat_contained members m)
  where
    by : (k : ℕ) → k < length (x ∷ members) → get_or (x ∷ members) k m ≡ m → (Contains members m → Contains (seats members) (seat_of m)) → Contains (seat_of x ∷ seats members) (seat_of m)
    by zero low is rest = (0, omega arith, ap seat_of is)
    by (suc k) low is rest =
        let later = rest (k, omega arith, is) in
        let below = later.1 in
        (suc later.0, omega arith, later.2)

-- ---- numbers rise

-- numbers rise, from the low one to below the next
abbrev pub Rises : ℕ → List Seat → ℕ → Type 0
Rises low [] next = low ≤ next
Rises low (x ∷ xs) next = (low ≤ x.number) × Rises (x.number + 1) xs next

pub rises_from_lower : (low lower : ℕ) (xs : List Seat) (next : ℕ) → lower ≤ low → Rises low xs next → Rises lower xs next
rises_from_lower low lower [] next below rises = omega arith
rises_from_lower low lower (x ∷ xs) next below rises = let first = rises.0 in (omega arith, rises.1)

pub rises_pushed : (low : ℕ) (xs : List Seat) (next : ℕ) (x : Seat) → x.number ≡ next → Rises low xs next → Rises low (xs ++ x ∷ []) (next + 1)
rises_pushed low [] next x is rises = (omega arith, omega arith)
rises_pushed low (y ∷ ys) next x is rises = (rises.0, rises_pushed (y.number + 1) ys next x is rises.1)

pub rises_removed : (q : Seat → Bool) (low : ℕ) (xs : List Seat) (next : ℕ) → Rises low xs next → Rises low (removed q xs) next
rises_removed q low [] next rises = rises
rises_removed q low (x ∷ xs) next rises = by (q x) (rises_removed q (x.number + 1) xs next rises.1)
  where
    by : (b : Bool) → Rises (x.number + 1) (removed q xs) next → Rises low (cond b xs (x ∷ removed q xs)) next
    by true rest = let first = rises.0 in rises_from_lower (x.number + 1) low xs next (omega arith) rises.1
    by false rest = (rises.0, rest)

pub rises_changed : (q : Seat → Bool) (g : Seat → Seat) → ((x : Seat) → (g x).number ≡ x.number) → (low : ℕ) (xs : List Seat) (next : ℕ) → Rises low xs next → Rises low (changed q g xs) next
rises_changed q g same low [] next rises = rises
rises_changed q g same low (x ∷ xs) next rises = by (q x) (rises_changed q g same (x.number + 1) xs next rises.1)
  where
    by : (b : Bool) → Rises (x.number + 1) (changed q g xs) next → Rises low (cond b (g x ∷ xs) (x ∷ changed q g xs)) next
    by true rest =
        let first = rises.0 in
        let is = same x in
        (omega arith, rises_from_lower (x.number + 1) ((g x).number + 1) xs next (omega arith) rises.1)
    by false rest = (rises.0, rest)

-- none is found below the lowest
pub none_below : (low : ℕ) (xs : List Seat) (next number : ℕ) → Rises low xs next → number < low → find (has_number number) xs ≡ None
none_below low [] next number rises below = refl
none_below low (x ∷ xs) next number rises below =
    let first = rises.0 in
    ap (λ b. cond b (Some x) (find (has_number number) xs)) (apart_above x.number number (omega arith))
    ∙ none_below (x.number + 1) xs next number rises.1 (omega arith)

pub number_within : (low : ℕ) (xs : List Seat) (next : ℕ) (x : Seat) → Rises low xs next → Contains xs x → (low ≤ x.number) × (x.number < next)
number_within low [] next x rises at = let below = at.1 in absurd (omega arith)
number_within low (y ∷ ys) next x rises at = by at.0 at.1 at.2 (number_within (y.number + 1) ys next x rises.1)
  where
    last : (low : ℕ) (xs : List Seat) → Rises low xs next → low ≤ next
    last low [] rises = rises
    last low (z ∷ zs) rises = let first = rises.0 in let rest = last (z.number + 1) zs rises.1 in omega arith

    by : (k : ℕ) → k < length (y ∷ ys) → get_or (y ∷ ys) k x ≡ x → (Contains ys x → (y.number + 1 ≤ x.number) × (x.number < next)) → (low ≤ x.number) × (x.number < next)
    by zero below is rest =
        let same : y.number ≡ x.number = ap (λ (z : Seat). z.number) is in
        let first = rises.0 in
        let later = last (y.number + 1) ys rises.1 in
        (omega arith, omega arith)
    by (suc k) below is rest =
        let later = rest (k, omega arith, is) in
        let first = rises.0 in
        let a = later.0 in
        (omega arith, later.1)

-- each is the one that is found by its number
pub found_itself : (low : ℕ) (xs : List Seat) (next : ℕ) (x : Seat) → Rises low xs next → Contains xs x → find (has_number x.number) xs ≡ Some x
found_itself low [] next x rises at = let below = at.1 in absurd (omega arith)
found_itself low (y ∷ ys) next x rises at = by at.0 at.1 at.2 (found_itself (y.number + 1) ys next x rises.1)
  where
    by : (k : ℕ) → k < length (y ∷ ys) → get_or (y ∷ ys) k x ≡ x → (Contains ys x → find (has_number x.number) ys ≡ Some x) → find (has_number x.number) (y ∷ ys) ≡ Some x
    by zero below is rest =
        let same : y.number ≡ x.number = ap (λ (z : Seat). z.number) is in
        ap (λ b. cond b (Some y) (find (has_number x.number) ys)) (ap (λ n. n == x.number) same ∙ itself x.number) ∙ ap Some is
    by (suc k) below is rest =
        let there : Contains ys x = (k, omega arith, is) in
        let above = (number_within (y.number + 1) ys next x rises.1 there).0 in
        ap (λ b. cond b (Some y) (find (has_number x.number) ys)) (apart_below y.number x.number (omega arith)) ∙ rest there

-- nobody of the number is left once it is taken out
pub none_left : (number low : ℕ) (xs : List Seat) (next : ℕ) → Rises low xs next → find (has_number number) (removed (has_number number) xs) ≡ None
none_left number low [] next rises = refl
none_left number low (x ∷ xs) next rises = by (has_number number x) refl (none_left number (x.number + 1) xs next rises.1)
  where
    by : (b : Bool) → has_number number x ≡ b → find (has_number number) (removed (has_number number) xs) ≡ None → find (has_number number) (cond b xs (x ∷ removed (has_number number) xs)) ≡ None
    by true t rest = let is = number_is x.number number t in none_below (x.number + 1) xs next number rises.1 (omega arith)
    by false f rest = ap (λ b. cond b (Some x) (find (has_number number) (removed (has_number number) xs))) f ∙ rest

-- what is found once one is taken out was found before
pub found_before : (c number low : ℕ) (xs : List Seat) (next : ℕ) (y : Seat) → Rises low xs next → find (has_number c) (removed (has_number number) xs) ≡ Some y → find (has_number c) xs ≡ Some y
found_before c number low xs next y rises found = by (number == c) refl
  where
    by : (b : Bool) → (number == c) ≡ b → find (has_number c) xs ≡ Some y
    by true t =
        let is = number_is number c t in
        let none : find (has_number c) (removed (has_number number) xs) ≡ None = ap (λ n. find (has_number c) (removed (has_number n) xs)) is ∙ none_left c low xs next rises in
        cc
    by false f =
        sym (find_removed (has_number c) (has_number number) (λ x t. ap (λ n. n == c) (number_is x.number number t) ∙ f) xs) ∙ found

-- ---- members that keep their seats

seat_if : (b : Bool) (m n : Member) → seat_of n ≡ seat_of m → seat_of (cond b n m) ≡ seat_of m
seat_if true m n same = same
seat_if false m n same = refl

pub forgotten_stay : (n : List ℕ) (positions : List Position) (members : List Member) → seats (map (forgetting n positions) members) ≡ seats members
forgotten_stay n positions = seats_of_mapped (forgetting n positions) (λ m. seat_if (is_at n m) m (record m { out = without positions m.out }) refl)

pub emptied_stay : (n : List ℕ) (members : List Member) → seats (map (emptied_at n) members) ≡ seats members
emptied_stay n = seats_of_mapped (emptied_at n) (λ m. seat_if (is_at n m) m (emptied m) refl)
