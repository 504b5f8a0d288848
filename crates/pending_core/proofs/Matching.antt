-- The seats that are taken are as many as the messages that are pending, in all and at each consumer.
use Rattle.std.proofs.Common.{◌≡◌, ◌==◌, ℕ, ◌+◌, List, [], ◌∷◌, length, map, Bool, true, false, cond, ◌||◌, ◌&&◌, Option, Some, None, refl, sym, ap, ◌∙◌, arith}
use Rattle.std.specs.List.{count_by, list_any, All}
use Rattle.std.specs.List.Sorted.{IsStrictlySortedBy}
use Rattle.std.specs.Option.{is_some}
use Rattle.std.specs.Ordering.{nat_cmp, is_eq}
use Rattle.std.specs.declared.cmp.Ordering.TheVariants.{Less, Equal, Greater}
use Rattle.std.specs.Cmp.{Equal-is, tied_itself, eq_by_cmp_equiv, nat_eq_equiv}
use Rattle.std.specs.BTreeMap.{is_at}
use Rattle.std.specs.BTreeSet.{BTreeSet}
use Rattle.std.specs.FinMap as map_of
use Rattle.std.specs.FinMap.Entries.{by_order}
use Rattle.std.proofs.lemmas.Bool.{false≢true}
use Rattle.std.proofs.lemmas.List.{length-map}
use Rattle.std.proofs.lemmas.List.Sums.{sum_by-cons, count_by-le-length}
use Rattle.std.proofs.lemmas.List.Folds.{list_any_none}
use Rattle.std.proofs.lemmas.Map.Lookups.{exact_unsigned}
use Rattle.std.proofs.lemmas.Map.Keys.{sorted_tail}
use Rattle.std.proofs.lemmas.Map.Views.{All-after_first}
use Rattle.position_core.specs.Position.{position_cmp, positions_total, exact_positions}
use Rattle.position_core.specs.declared.position.Position.{Position}
use Rattle.position_core.specs.declared.held.Held.{Held}
use Rattle.delivery_machine.specs.Words.{is_held_by}
use Rattle.pending_core.specs.declared.seats.Seat.{Seat}
use Rattle.pending_core.specs.Pending.{Pending, pending_count_at}
use Rattle.pending_core.specs.Seats.{seat_cmp, seat_of, seats_at, AreSeatsOf}
use Rattle.pending_core.proofs.Counting.{exact_seats, seats_total, same_consumer}
use Rattle.pending_core.proofs.Seating.{Holding, and_true, and_false, seat_test, at_itself, same_position_at, got-insert, got-remove}
use Rattle.pending_core.proofs.Tied.{nothing_is_some}

-- one more message counts once more
put_count : (f : Held → Bool) (p : Position) (h : Held) (es : List (Position × Held)) → map_of.find position_cmp p es ≡ None
    → count_by f (map (λ e. e.1) (map_of.put position_cmp p h es)) ≡ count_by f (map (λ e. e.1) es) + cond (f h) 1 0
put_count f p h [] none = refl
put_count f p h (e ∷ es) none =
    elim (position_cmp p e.0) as (λ o. cond (is_eq o) (Some e.1) (map_of.find position_cmp p es) ≡ None → count_by f (map (λ x. x.1) (by_order o ((p, h) ∷ e ∷ es) ((e.0, h) ∷ es) (e ∷ map_of.put position_cmp p h es))) ≡ count_by f (map (λ x. x.1) (e ∷ es)) + cond (f h) 1 0) [
      | Less ↦ λ _. sum_by-cons (λ x. cond (f x) 1 0) h (map (λ x. x.1) (e ∷ es)) ∙ omega arith
      | Equal ↦ λ some. absurd (nothing_is_some (Some e.1) e.1 some refl)
      | Greater ↦ λ rest.
          sum_by-cons (λ x. cond (f x) 1 0) e.1 (map (λ x. x.1) (map_of.put position_cmp p h es))
          ∙ ap (λ n. cond (f e.1) 1 0 + n) (put_count f p h es rest)
          ∙ (let at = sum_by-cons (λ x. cond (f x) 1 0) e.1 (map (λ x. x.1) es) in omega arith)
    ] none

pub count-insert : (f : Held → Bool) (m : Holding) (p : Position) (h : Held) → map_of.get m p ≡ None → count_by f (map_of.values (map_of.insert m p h)) ≡ count_by f (map_of.values m) + cond (f h) 1 0
count-insert f m p h none = ap (λ es. count_by f (map (λ e. e.1) es)) (map_of.entries-insert positions_total m p h) ∙ put_count f p h (map_of.entries m) (sym (map_of.get-entries m p) ∙ none)

pub no_more : (f : Held → Bool) → count_by f (map_of.values (map_of.empty {X = Held} {R = position_cmp})) ≡ 0
no_more f =
    let most = count_by-le-length f (map_of.values (map_of.empty {X = Held} {R = position_cmp})) in
    let same = length-map (map_of.entries (map_of.empty {X = Held} {R = position_cmp})) (λ e. e.1) in
    let as_entries = map_of.len-entries (map_of.empty {X = Held} {R = position_cmp}) in
    let empty = map_of.len-empty position_cmp Held in
    omega arith

-- the first of the seats does not come again
once : (s : Seat) (ks : List Seat) → All (λ t. seat_cmp s t ≡ Less) ks → list_any (is_at (seat_cmp s)) ks ≡ false
once s ks less = list_any_none (is_at (seat_cmp s)) ks (λ k d lower. ap is_eq (less k d lower))

count_all : (ks : List Seat) → count_by (λ _. true) ks ≡ length ks
count_all [] = refl
count_all (s ∷ ks) = let rest = count_all ks in let at = sum_by-cons (λ (_ : Seat). 1) s ks in omega arith

-- a number of what is pending that each message adds to, by its consumer
module _ (number : Holding → ℕ) (counts : ℕ → Bool) (none : number map_of.empty ≡ 0)
    (more : (m : Holding) (p : Position) (h : Held) → map_of.get m p ≡ None → number (map_of.insert m p h) ≡ number m + cond (counts h.consumer) 1 0) where
  abbrev one : Seat → ℕ
  one s = cond (counts s.consumer) 1 0

  matched : (ks : List Seat) (m : Holding) → IsStrictlySortedBy seat_cmp ks → ((s : Seat) → list_any (is_at (seat_cmp s)) ks ≡ is_held_by s.consumer (map_of.get m s.position)) → count_by (λ s. counts s.consumer) ks ≡ number m
  matched [] m sorted tied = sym none ∙ ap number (map_of.same_map positions_total exact_positions map_of.empty m (λ p. map_of.get-empty position_cmp p ∙ nothing p (map_of.get m p) refl))
    where
      nothing : (p : Position) (o : Option Held) → map_of.get m p ≡ o → None ≡ map_of.get m p
      nothing p None e = sym e
      nothing p (Some h) e = absurd (false≢true (tied (seat_of h.consumer p) ∙ ap (is_held_by h.consumer) e ∙ nat_eq_equiv.refl h.consumer))
  matched (s ∷ ks) m sorted tied = by_cases (matched ks (map_of.remove m s.position) (sorted_tail seat_cmp s ks sorted)) (map_of.get m s.position) refl
    where
      rest : Holding
      rest = map_of.remove m s.position

      gone : map_of.get rest s.position ≡ None
      gone = got-remove m s.position s.position ∙ ap (λ b. cond b None (map_of.get m s.position)) (ap is_eq (tied_itself positions_total s.position))

      here : is_held_by s.consumer (map_of.get m s.position) ≡ true
      here = sym (tied s) ∙ ap (λ b. b || list_any (is_at (seat_cmp s)) ks) (at_itself s)

      holder : (h : Held) → map_of.get m s.position ≡ Some h → h.consumer ≡ s.consumer
      holder h e = exact_unsigned h.consumer s.consumer ((Equal-is (nat_cmp h.consumer s.consumer)).0 (same_consumer h.consumer s.consumer ∙ sym (ap (is_held_by s.consumer) e) ∙ here))

      -- the message put back
      put_back : (h : Held) → map_of.get m s.position ≡ Some h → (q : Position) (b : Bool) → is_at (position_cmp s.position) q ≡ b → map_of.get m q ≡ cond b (Some h) (cond b None (map_of.get m q))
      put_back h e q true at = ap (map_of.get m) (sym (same_position_at s.position q at)) ∙ e
      put_back h e q false at = refl

      whole : (h : Held) → map_of.get m s.position ≡ Some h → m ≡ map_of.insert rest s.position h
      whole h e = map_of.same_map positions_total exact_positions m (map_of.insert rest s.position h) (λ q.
          put_back h e q (is_at (position_cmp s.position) q) refl
          ∙ ap (cond (is_at (position_cmp s.position) q) (Some h)) (sym (got-remove m s.position q))
          ∙ sym (got-insert rest s.position h q))

      -- a seat that is not the first is one of the others
      behind : (t : Seat) → is_at (seat_cmp s) t ≡ false → list_any (is_at (seat_cmp t)) ks ≡ is_held_by t.consumer (map_of.get m t.position)
      behind t other = sym (ap (λ b. b || list_any (is_at (seat_cmp t)) ks) ((eq_by_cmp_equiv seats_total).symm t s ∙ other)) ∙ tied t

      -- no other seat is of the position
      alone : (h : Held) → map_of.get m s.position ≡ Some h → (t : Seat) → is_at (position_cmp s.position) t.position ≡ true → (b : Bool) → is_at (seat_cmp s) t ≡ b → list_any (is_at (seat_cmp t)) ks ≡ false
      alone h e t at true is = ap (λ x. list_any (is_at (seat_cmp x)) ks) (sym (exact_seats s t ((Equal-is (seat_cmp s t)).0 is))) ∙ once s ks (All-after_first seat_cmp s ks sorted)
      alone h e t at false is =
          behind t is ∙ ap (λ q. is_held_by t.consumer (map_of.get m q)) (sym (same_position_at s.position t.position at)) ∙ ap (is_held_by t.consumer) e
          ∙ ap (λ n. n == t.consumer) (holder h e)
          ∙ sym (seat_test s t ∙ ap (λ b. (s.consumer == t.consumer) && b) at ∙ and_true (s.consumer == t.consumer)) ∙ is

      left : (h : Held) → map_of.get m s.position ≡ Some h → (t : Seat) (b : Bool) → is_at (position_cmp s.position) t.position ≡ b → list_any (is_at (seat_cmp t)) ks ≡ is_held_by t.consumer (map_of.get rest t.position)
      left h e t true at = alone h e t at (is_at (seat_cmp s) t) refl ∙ sym (ap (is_held_by t.consumer) (got-remove m s.position t.position ∙ ap (λ b. cond b None (map_of.get m t.position)) at))
      left h e t false at =
          behind t (seat_test s t ∙ ap (λ b. (s.consumer == t.consumer) && b) at ∙ and_false (s.consumer == t.consumer))
          ∙ sym (ap (is_held_by t.consumer) (got-remove m s.position t.position ∙ ap (λ b. cond b None (map_of.get m t.position)) at))

      by_cases : (((t : Seat) → list_any (is_at (seat_cmp t)) ks ≡ is_held_by t.consumer (map_of.get rest t.position)) → count_by (λ s. counts s.consumer) ks ≡ number rest)
          → (o : Option Held) → map_of.get m s.position ≡ o → count_by (λ s. counts s.consumer) (s ∷ ks) ≡ number m
      by_cases others None e = absurd (false≢true (sym (ap (is_held_by s.consumer) e) ∙ here))
      by_cases others (Some h) e =
          let same = holder h e in
          sum_by-cons one s ks
          ∙ ap (λ n. one s + n) (others (λ t. left h e t (is_at (position_cmp s.position) t.position) refl))
          ∙ (let adds = ap number (whole h e) ∙ more rest s.position h gone ∙ ap (λ n. number rest + cond (counts n) 1 0) same in omega arith)

module _ (seats : BTreeSet Seat) (s : Pending) (are : AreSeatsOf seats s.pending) (sorted : IsStrictlySortedBy seat_cmp seats.keys) where
  pub as_many : length seats.keys ≡ map_of.len s.pending
  as_many = sym (count_all seats.keys) ∙ matched map_of.len (λ _. true) (map_of.len-empty position_cmp Held) (λ m p h none. map_of.len-insert positions_total m p h ∙ ap (λ o. cond (is_some o) (map_of.len m) (map_of.len m + 1)) none) seats.keys s.pending sorted are

  pub as_many_at : (consumer : ℕ) → seats_at seats consumer ≡ pending_count_at s consumer
  as_many_at consumer = matched (λ m. count_by (λ h. h.consumer == consumer) (map_of.values m)) (λ n. n == consumer) (no_more (λ h. h.consumer == consumer)) (λ m p h. count-insert (λ h. h.consumer == consumer) m p h) seats.keys s.pending sorted are
