-- The active member hangs on the members' numbers, levels and subscriptions alone.
use Rattle.std.proofs.Common.{◌≡◌, ℕ, List, [], ◌∷◌, ◌++◌, map, length, suc, ◌+◌, Some, None, Option, Bool, true, false, cond, refl, ap, ◌∙◌, sym, arith}
use Rattle.std.specs.Prelude.{◌==◌, ◌&&◌, ◌||◌, nat_lt, if◌then◌else◌}
use Rattle.std.specs.List.{find, filter}
use Rattle.std.specs.Option.{option_map, option_map_or}
use Rattle.std.specs.Str.{bytes_eq}
use Rattle.delivery_machine.specs.State.{Member}
use Rattle.delivery_machine.specs.Words.{changed, removed, best_by, is_at, comes_before, earlier, active_of}
use Rattle.delivery_machine.proofs.Keyed.{keys_changed, keys_mapped, kept_if}

pub record Rank : Type 0 where
  pub number : ℕ
  pub name : List ℕ
  pub level : ℕ

abbrev pub rank_of : Member → Rank
rank_of m = record { number = m.number; name = m.subscription; level = m.level }

abbrev pub KeepsRanks : List Member → List Member → Type 0
KeepsRanks before after = map rank_of after ≡ map rank_of before

-- ---- what changes no rank

pub ranks_changed : (q : Member → Bool) (f : Member → Member) → ((m : Member) → rank_of (f m) ≡ rank_of m) → (members : List Member) → KeepsRanks members (changed q f members)
ranks_changed q f same members = keys_changed rank_of q f same members

pub ranks_mapped : (f : Member → Member) → ((m : Member) → rank_of (f m) ≡ rank_of m) → (members : List Member) → KeepsRanks members (map f members)
ranks_mapped f same members = keys_mapped rank_of f same members

-- where a member changes at the subscription of a name alone, and only in what is no rank
pub same_rank_if : (b : Bool) (m n : Member) → rank_of n ≡ rank_of m → rank_of (cond b n m) ≡ rank_of m
same_rank_if b m n same = kept_if rank_of b m n same

-- ---- the active member by ranks

abbrev ranks_at : List ℕ → List Rank → List Rank
ranks_at name ranks = filter (λ r. bytes_eq r.name name) ranks

abbrev earlier_rank : Rank → Rank → Rank
earlier_rank a b = if nat_lt b.level a.level || (b.level == a.level && nat_lt b.number a.number) then b else a

ranks_of_those : (name : List ℕ) (members : List Member) → map rank_of (filter (is_at name) members) ≡ ranks_at name (map rank_of members)
ranks_of_those name [] = refl
ranks_of_those name (m ∷ members) = by (is_at name m) (ranks_of_those name members)
  where
    by : (b : Bool) → map rank_of (filter (is_at name) members) ≡ ranks_at name (map rank_of members) → map rank_of (cond b (m ∷ filter (is_at name) members) (filter (is_at name) members)) ≡ cond b (rank_of m ∷ ranks_at name (map rank_of members)) (ranks_at name (map rank_of members))
    by true rest = ap (λ xs. rank_of m ∷ xs) rest
    by false rest = rest

rank_of_best : (members : List Member) → option_map rank_of (active_of members) ≡ best_by earlier_rank (map rank_of members)
rank_of_best [] = refl
rank_of_best (m ∷ members) = by (active_of members) (rank_of_best members)
  where
    either : (b : Bool) (n : Member) → rank_of (if b then n else m) ≡ (if b then rank_of n else rank_of m)
    either true n = refl
    either false n = refl

    by : (o : Option Member) → option_map rank_of o ≡ best_by earlier_rank (map rank_of members) → option_map rank_of (Some (option_map_or (earlier m) o m)) ≡ Some (option_map_or (earlier_rank (rank_of m)) (best_by earlier_rank (map rank_of members)) (rank_of m))
    by None rest = ap (λ o. Some (option_map_or (earlier_rank (rank_of m)) o (rank_of m))) rest
    by (Some n) rest = ap Some (either (comes_before n m) n) ∙ ap (λ o. Some (option_map_or (earlier_rank (rank_of m)) o (rank_of m))) rest

-- the number of the active member at the subscription of the name
abbrev pub active_number : List Member → List ℕ → Option ℕ
active_number members name = option_map (λ m. m.number) (active_of (filter (is_at name) members))

number_by_ranks : (members : List Member) (name : List ℕ) → active_number members name ≡ option_map (λ r. r.number) (best_by earlier_rank (ranks_at name (map rank_of members)))
number_by_ranks members name =
    through (active_of (filter (is_at name) members))
    ∙ ap (λ o. option_map (λ (r : Rank). r.number) o) (rank_of_best (filter (is_at name) members) ∙ ap (best_by earlier_rank) (ranks_of_those name members))
  where
    through : (o : Option Member) → option_map (λ m. m.number) o ≡ option_map (λ (r : Rank). r.number) (option_map rank_of o)
    through None = refl
    through (Some m) = refl

pub same_active : (before after : List Member) (name : List ℕ) → KeepsRanks before after → active_number after name ≡ active_number before name
same_active before after name same =
    number_by_ranks after name ∙ ap (λ ranks. option_map (λ (r : Rank). r.number) (best_by earlier_rank (ranks_at name ranks))) same ∙ sym (number_by_ranks before name)

-- how many members are at the subscription of the name
abbrev pub seats_at : List Member → List ℕ → ℕ
seats_at members name = length (filter (is_at name) members)

pub same_seats : (before after : List Member) (name : List ℕ) → KeepsRanks before after → seats_at after name ≡ seats_at before name
same_seats before after name same =
    by_ranks after ∙ ap (λ ranks. length (ranks_at name ranks)) same ∙ sym (by_ranks before)
  where
    length_mapped : (xs : List Member) → length (map rank_of xs) ≡ length xs
    length_mapped [] = refl
    length_mapped (x ∷ xs) = ap (λ n. suc n) (length_mapped xs)

    by_ranks : (members : List Member) → seats_at members name ≡ length (ranks_at name (map rank_of members))
    by_ranks members = sym (length_mapped (filter (is_at name) members)) ∙ ap (λ (xs : List Rank). length xs) (ranks_of_those name members)

-- ---- where a member comes or goes

-- at another subscription
pub those_pushed : (members : List Member) (m : Member) (name : List ℕ) → is_at name m ≡ false → filter (is_at name) (members ++ m ∷ []) ≡ filter (is_at name) members
those_pushed [] m name e = ap (λ b. cond b (m ∷ []) []) e
those_pushed (x ∷ members) m name e = ap (λ (xs : List Member). cond (is_at name x) (x ∷ xs) xs) (those_pushed members m name e)

pub those_removed : (q : Member → Bool) (members : List Member) (m : Member) (name : List ℕ) → find q members ≡ Some m → is_at name m ≡ false → filter (is_at name) (removed q members) ≡ filter (is_at name) members
those_removed q [] m name found e = cc
those_removed q (x ∷ members) m name found e = by (q x) found (those_removed q members m name)
  where
    by : (b : Bool) → cond b (Some x) (find q members) ≡ Some m → (find q members ≡ Some m → is_at name m ≡ false → filter (is_at name) (removed q members) ≡ filter (is_at name) members)
        → filter (is_at name) (cond b members (x ∷ removed q members)) ≡ filter (is_at name) (x ∷ members)
    by true found rest = let same : x ≡ m = cc in sym (ap (λ b. cond b (x ∷ filter (is_at name) members) (filter (is_at name) members)) (ap (is_at name) same ∙ e))
    by false found rest = ap (λ (xs : List Member). cond (is_at name x) (x ∷ xs) xs) (rest found e)

-- one at the subscription goes: so many are left, and one
pub one_less : (q : Member → Bool) (members : List Member) (m : Member) (name : List ℕ) → find q members ≡ Some m → is_at name m ≡ true → seats_at members name ≡ seats_at (removed q members) name + 1
one_less q [] m name found e = cc
one_less q (x ∷ members) m name found e = by (q x) found (one_less q members m name)
  where
    longer : (b : Bool) (n : ℕ) → length (filter (is_at name) members) ≡ n + 1 → (k : ℕ) → k ≡ n → length (cond b (x ∷ filter (is_at name) members) (filter (is_at name) members)) ≡ cond b (k + 1) k + 1
    longer true n e k f = omega (arith, e, f)
    longer false n e k f = omega (arith, e, f)

    counted : (b : Bool) (xs : List Member) → length (cond b (x ∷ xs) xs) ≡ cond b (length xs + 1) (length xs)
    counted true xs = omega arith
    counted false xs = refl

    by : (b : Bool) → cond b (Some x) (find q members) ≡ Some m → (find q members ≡ Some m → is_at name m ≡ true → seats_at members name ≡ seats_at (removed q members) name + 1)
        → seats_at (x ∷ members) name ≡ seats_at (cond b members (x ∷ removed q members)) name + 1
    by true found rest =
        let same : x ≡ m = cc in
        let here : is_at name x ≡ true = ap (is_at name) same ∙ e in
        counted (is_at name x) (filter (is_at name) members) ∙ ap (λ b. cond b (seats_at members name + 1) (seats_at members name)) here
    by false found rest =
        longer (is_at name x) (seats_at (removed q members) name) (rest found e) (seats_at (removed q members) name) refl
        ∙ ap (λ n. n + 1) (sym (counted (is_at name x) (filter (is_at name) (removed q members))))

pub those_with : (members : List Member) (m : Member) (name : List ℕ) → is_at name m ≡ true → seats_at (members ++ m ∷ []) name ≡ seats_at members name + 1
those_with [] m name e = ap (λ b. length (cond b (m ∷ []) [])) e
those_with (x ∷ members) m name e = by (is_at name x) (those_with members m name e)
  where
    by : (b : Bool) → seats_at (members ++ m ∷ []) name ≡ seats_at members name + 1 → length (cond b (x ∷ filter (is_at name) (members ++ m ∷ [])) (filter (is_at name) (members ++ m ∷ []))) ≡ length (cond b (x ∷ filter (is_at name) members) (filter (is_at name) members)) + 1
    by true rest = omega (arith, rest)
    by false rest = rest
