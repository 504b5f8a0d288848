-- How many of the first messages may go, by how many each subscription has done with.
use Rattle.std.proofs.Common.{◌≡◌, ℕ, zero, suc, ◌+◌, ◌<◌, ◌≤◌, min, List, [], ◌∷◌, ◌++◌, map, length, take, Some, Bool, true, false, cond, All, get_or, slice_get, refl, ap, sym, ◌∙◌, arith}
use Rattle.std.specs.Prelude.{◌&&◌, nat_le, nat_lt, not}
use Rattle.std.specs.FinSet as set
use Rattle.std.specs.List.{list_all, prefix_len}
use Rattle.std.proofs.lemmas.Bool.{lt-ltb}
use Rattle.std.proofs.lemmas.List.Folds.{list_all-append}
use Rattle.std.proofs.lemmas.List.Elements.{All-cons, All-head, All-nil, All-tail}
use Rattle.std.proofs.lemmas.List.Sums.{prefix_len-le-length, prefix_len_passes}
use Rattle.std.proofs.lemmas.Option.{slice_get-get_or}
use Rattle.position_core.specs.declared.message.Entry.{Entry}
use Rattle.delivery_machine.specs.State.{State, Member, Subscription}
use Rattle.delivery_machine.specs.Words.{is_dead}
use Rattle.delivery_machine.proofs.Deciding.{and_first}
use Rattle.topic_subscriptions.specs.Done.{done_by, done_by_all}
use Rattle.topic_subscriptions.specs.Placed.{AreAcknowledged, IsPlacedIn, IsRising, Placed, sub_in}
use Rattle.topic_subscriptions.proofs.Done.{done_with}
use Rattle.delivery_machine.specs.Trimming.{free_at_front, is_done_with}

-- ---- lists

pub prefix_both : {X : Type 0} (p q : X → Bool) (xs : List X) → prefix_len (λ x. p x && q x) xs ≡ min (prefix_len p xs) (prefix_len q xs)
prefix_both p q [] = refl
prefix_both p q (x ∷ xs) = by (p x) (q x) (prefix_both p q xs)
  where
    by : (a b : Bool) → prefix_len (λ x. p x && q x) xs ≡ min (prefix_len p xs) (prefix_len q xs) → cond (a && b) (1 + prefix_len (λ x. p x && q x) xs) 0 ≡ min (cond a (1 + prefix_len p xs) 0) (cond b (1 + prefix_len q xs) 0)
    by true true rest = omega (arith, rest)
    by true false rest = omega arith
    by false true rest = omega arith
    by false false rest = refl

pub prefix_taken : {X : Type 0} (p : X → Bool) (n : ℕ) (xs : List X) → prefix_len p (take n xs) ≡ min n (prefix_len p xs)
prefix_taken p zero xs = omega arith
prefix_taken p (suc n) [] = omega arith
prefix_taken p (suc n) (x ∷ xs) = by (p x) (prefix_taken p n xs)
  where
    by : (b : Bool) → prefix_len p (take n xs) ≡ min n (prefix_len p xs) → cond b (1 + prefix_len p (take n xs)) 0 ≡ min (suc n) (cond b (1 + prefix_len p xs) 0)
    by true rest = omega (arith, rest)
    by false rest = omega arith

pub prefix_alike : {X : Type 0} (p q : X → Bool) → ((x : X) → p x ≡ q x) → (xs : List X) → prefix_len p xs ≡ prefix_len q xs
prefix_alike {X} p q alike xs = ap (λ (f : X → Bool). prefix_len f xs) (λ i x. alike x i)

pub prefix_whole : {X : Type 0} (xs : List X) → prefix_len (λ x. true) xs ≡ length xs
prefix_whole [] = refl
prefix_whole (x ∷ xs) = let rest = prefix_whole xs in omega (arith, rest)

-- ---- what all subscriptions have done with

pub none_asked : (log : List Entry) → done_by_all [] log ≡ length log
none_asked log = prefix_whole log

pub one_more_asked : (subs : List Subscription) (sub : Subscription) (log : List Entry) → done_by_all (subs ++ sub ∷ []) log ≡ min (done_by_all subs log) (done_by sub log)
one_more_asked subs sub log =
    prefix_alike (λ e. list_all (is_done_with e) (subs ++ sub ∷ [])) (λ e. list_all (is_done_with e) subs && is_done_with e sub) (λ e. list_all-append (is_done_with e) subs (sub ∷ []) ∙ ap (λ b. list_all (is_done_with e) subs && b) (and_true (is_done_with e sub))) log
    ∙ prefix_both (λ e. list_all (is_done_with e) subs) (λ e. is_done_with e sub) log
  where
    and_true : (a : Bool) → (a && true) ≡ a
    and_true true = refl
    and_true false = refl

-- ---- what may go

module _ (s : State) (before : ℕ) where
  pub none_free : length s.subscriptions ≡ 0 → free_at_front s before ≡ 0
  none_free none =
      ap (λ n. prefix_len (λ (e : Entry). (nat_lt 0 n && list_all (is_done_with e) s.subscriptions) && nat_le e.time before) (take s.durable s.log)) none
      ∙ nothing (take s.durable s.log)
    where
      nothing : (log : List Entry) → prefix_len (λ (e : Entry). false) log ≡ 0
      nothing [] = refl
      nothing (e ∷ log) = refl

  pub free_is : 0 < length s.subscriptions → free_at_front s before ≡ min s.durable (min (done_by_all s.subscriptions s.log) (prefix_len (λ (e : Entry). nat_le e.time before) s.log))
  free_is some =
      ap (λ b. prefix_len (λ (e : Entry). (b && list_all (is_done_with e) s.subscriptions) && nat_le e.time before) (take s.durable s.log)) (lt-ltb 0 (length s.subscriptions) some)
      ∙ prefix_taken (λ (e : Entry). list_all (is_done_with e) s.subscriptions && nat_le e.time before) s.durable s.log
      ∙ ap (λ n. min s.durable n) (prefix_both (λ (e : Entry). list_all (is_done_with e) s.subscriptions) (λ (e : Entry). nat_le e.time before) s.log)

-- ---- what is acknowledged then

passes_at : {X : Type 0} (p : X → Bool) (xs : List X) (k : ℕ) → k < prefix_len p xs → (x : X) × (slice_get xs k ≡ Some x) × (p x ≡ true)
passes_at p [] k low = absurd (omega (arith, low))
passes_at p (x ∷ xs) k low =
    (get_or (x ∷ xs) k x, slice_get-get_or (x ∷ xs) k x (omega (arith, low, prefix_len-le-length p (x ∷ xs))), prefix_len_passes p (x ∷ xs) k x low)

module _ (log : List Entry) (ms : List Member) (n : ℕ) (rising : IsRising log) where
  acknowledged_below : (p : Placed) → IsPlacedIn log ms p → n ≤ done_by (sub_in log p) log → AreAcknowledged n p
  acknowledged_below p placed low k below =
      let e = passes_at (λ (e : Entry). is_done_with e (sub_in log p)) log k (omega (arith, below, low)) in
      and_first (set.contains p.places k) (not (is_dead (sub_in log p) e.0.position)) (sym (done_with log ms p k e.0 rising e.1 placed) ∙ e.2)

  -- what all have done with is acknowledged in each
  pub each_acknowledged : (ps : List Placed) → All (IsPlacedIn log ms) ps → n ≤ done_by_all (map (sub_in log) ps) log → All (AreAcknowledged n) ps
  each_acknowledged [] placed low = All-nil (AreAcknowledged n)
  each_acknowledged (p ∷ ps) placed low =
      let both = prefix_both (λ (e : Entry). is_done_with e (sub_in log p)) (λ (e : Entry). list_all (is_done_with e) (map (sub_in log) ps)) log in
      All-cons (AreAcknowledged n) p ps
      (acknowledged_below p (All-head (IsPlacedIn log ms) p ps placed) (omega (arith, low, both)))
      (each_acknowledged ps (All-tail (IsPlacedIn log ms) p ps placed) (omega (arith, low, both)))
