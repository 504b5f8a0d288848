-- Where the first messages go: what is kept of the others.
use Rattle.std.proofs.Common.{◌≡◌, ℕ, ◌+◌, ◌-◌, ◌<◌, List, [], ◌∷◌, map, length, suc, zero, Some, Bool, true, false, cond, refl, ap, ◌∙◌, sym, subst, arith, Contains, get_or, true≢false, ap₂, ◌/◌, ◌*◌, ◌^◌, ◌≤◌, length-take}
use Rattle.std.specs.Prelude.{◌&&◌, ◌||◌, not, drop, take, if◌then◌else◌, min, nat_le, nat_lt}
use Rattle.std.specs.List.{find, list_any, list_all, prefix_len, AllByRecursion}
use Rattle.std.specs.List.Sorted.{IsStrictlySortedBy}
use Rattle.std.specs.declared.cmp.Ordering.TheVariants.{Less}
use Rattle.std.specs.FinSet as set
use Rattle.std.proofs.lemmas.List.Sums.{prefix_len-le-length}
use Rattle.std.specs.FinMap as map_of
use Rattle.position_core.specs.declared.position.Position.{Position}
use Rattle.position_core.specs.declared.message.Entry.{Entry}
use Rattle.position_core.specs.declared.held.Held.{Held}
use Rattle.position_core.specs.Position.{position_cmp, same_position, positions_total}
use Rattle.delivery_machine.specs.State.{State, Subscription, Member}
use Rattle.delivery_machine.specs.Words.{is_named, is_dead, is_live, has_position, visible}
use Rattle.delivery_machine.specs.Acknowledging.{is_one_of}
use Rattle.delivery_machine.specs.Trimming.{is_done, is_done_with, may_go, free_at_front, going, without_messages, trimmed}
use Rattle.delivery_machine.proofs.Firsts.{found_mapped}
use Rattle.delivery_machine.proofs.Rising.{rising_dropped, not_below_itself}
use Rattle.delivery_machine.proofs.Deciding.{and_first, and_second, or_false, both_false}
use Rattle.delivery_machine.proofs.EachFirst.{EachFirst}
use Rattle.delivery_machine.proofs.Messages.{either_way, position_itself}
use Rattle.delivery_machine.proofs.Tended.{position_is}
use Rattle.delivery_machine.proofs.Behind.{behind_mapped}
use Rattle.delivery_machine.proofs.Tending.{IsTendedIn}
use Rattle.delivery_machine.proofs.Kept.{IsKept}
use Rattle.delivery_machine.proofs.HeldFirst.{is_ordered, ordered_none}

-- a message that stays was there
pub contains_dropped : (n : ℕ) (log : List Entry) (x : Entry) → Contains (drop n log) x → Contains log x
contains_dropped zero log x at = at
contains_dropped (suc n) [] x at = at
contains_dropped (suc n) (e ∷ log) x at = let was = contains_dropped n log x at in (suc was.0, omega (arith, was.1), was.2)

-- what is at none of the messages that go is at one that stays
pub stays : (n : ℕ) (log : List Entry) (p : Position) → AllByRecursion (λ e. has_position p e ≡ false) (take n log) → list_any (has_position p) log ≡ true → list_any (has_position p) (drop n log) ≡ true
stays zero log p none there = there
stays (suc n) [] p none there = there
stays (suc n) (e ∷ log) p none there = stays n log p none.1 (sym (ap (λ b. b || list_any (has_position p) log) none.0) ∙ there)

-- none of the messages that go is pending
abbrev pub NonePending : List Entry → Subscription → Type 0
NonePending gone sub = AllByRecursion (λ e. map_of.contains_key sub.pending e.position ≡ false) gone

pub elsewhere : (gone : List Entry) (sub : Subscription) (p : Position) (h : Held) → map_of.get sub.pending p ≡ Some h → NonePending gone sub → AllByRecursion (λ e. has_position p e ≡ false) gone
elsewhere [] sub p h at none = tt
elsewhere (e ∷ gone) sub p h at none = (by (has_position p e) refl, elsewhere gone sub p h at none.1)
  where
    by : (b : Bool) → has_position p e ≡ b → has_position p e ≡ false
    by false f = f
    by true t =
        let is : e.position ≡ p = position_is e.position p t in
        let free : map_of.contains_key sub.pending p ≡ false = sym (ap (map_of.contains_key sub.pending) is) ∙ none.0 in
        absurd (pending_there sub.pending p h at free)
      where
        pending_there : (m : map_of.FinMap position_cmp Held) (p : Position) (h : Held) → map_of.get m p ≡ Some h → map_of.contains_key m p ≡ false → ⊥
        pending_there m p h at free = cc

tended_dropped : (n : ℕ) (log : List Entry) (members : List Member) (sub : Subscription) → NonePending (take n log) sub → IsTendedIn log members sub → IsTendedIn (drop n log) members sub
tended_dropped n log members sub none tended = record {
  at_members = tended.at_members;
  in_log = λ p h at. stays n log p (elsewhere (take n log) sub p h at none) (tended.in_log p h at);
  one_hash = λ is x y at bt. tended.one_hash is x y (contains_dropped n log x at) (contains_dropped n log y bt);
}

pub kept_trimmed : (s : State) (n : ℕ) → n < length s.log → ((name : List ℕ) (sub : Subscription) → find (is_named name) s.subscriptions ≡ Some sub → NonePending (take n s.log) sub) → IsKept s → IsKept (trimmed n s)
kept_trimmed s n low none kept = record {
  rising = rising_dropped n s.log s.ledger low kept.rising;
  tended = record {
    first = λ name sub found.
        let was = found_mapped (is_named name) (without_messages (map (λ e. e.position) (take n s.log))) (λ x. refl) s.subscriptions sub found in
        subst (IsTendedIn (drop n s.log) s.members) (sym was.2) (tended_dropped n s.log s.members was.0 (none name was.0 was.1) (kept.tended.first name was.0 was.1));
    behind = behind_mapped (without_messages (map (λ e. e.position) (take n s.log))) s.subscriptions (λ _. refl) (λ _. refl) kept.tended.behind;
  };
}

-- ---- the order at the active member

not_any : (b : Bool) → not b ≡ true → b ≡ false
not_any false e = refl
not_any true e = cc

module _ {A : Type 0} where
  -- where what goes is neither live nor held, the rest is ordered as it was
  pub ordered_dropped : (live held : A → Bool) (k n m : ℕ) (xs : List A) → m ≡ n - k → AllByRecursion (λ x. (live x ≡ false) × (held x ≡ false)) (take k xs)
      → is_ordered live held n xs ≡ true → is_ordered live held m (drop k xs) ≡ true
  ordered_dropped live held zero n m xs is none ordered =
      let same : n ≡ m = omega (arith, is) in
      subst (λ (q : ℕ). is_ordered live held q xs ≡ true) same ordered
  ordered_dropped live held (suc k) n m [] is none ordered = ordered_none live held m [] refl
  ordered_dropped live held (suc k) zero m (x ∷ xs) is none ordered =
      ordered_dropped live held k zero m xs (omega (arith, is)) none.1 (ap not (rest (held x) (list_any held xs) (not_any (held x || list_any held xs) ordered)))
    where
      rest : (a b : Bool) → (a || b) ≡ false → b ≡ false
      rest false b e = e
      rest true b e = cc
  ordered_dropped live held (suc k) (suc n) m (x ∷ xs) is none ordered =
      ordered_dropped live held k n m xs (omega (arith, is)) none.1 (by (live x) (held x) none.0.0 none.0.1 ordered)
    where
      by : (l h : Bool) → l ≡ false → h ≡ false → (if l then (if h then is_ordered live held n xs else not (list_any held xs)) else not h && is_ordered live held n xs) ≡ true → is_ordered live held n xs ≡ true
      by false false e f g = g
      by true h e f g = cc
      by false true e f g = cc

  -- the same messages are live and held
  pub ordered_same : (live held live' held' : A → Bool) (n : ℕ) (xs : List A) → AllByRecursion (λ x. (live' x ≡ live x) × (held' x ≡ held x)) xs
      → is_ordered live' held' n xs ≡ is_ordered live held n xs
  ordered_same live held live' held' zero xs same = ap not (any_same xs same)
    where
      any_same : (ys : List A) → AllByRecursion (λ x. (live' x ≡ live x) × (held' x ≡ held x)) ys → list_any held' ys ≡ list_any held ys
      any_same [] h = refl
      any_same (y ∷ ys) h = ap₂ (λ a b. a || b) h.0.1 (any_same ys h.1)
  ordered_same live held live' held' (suc n) [] same = refl
  ordered_same live held live' held' (suc n) (x ∷ xs) same =
      let rest = ordered_same live held live' held' n xs same.1 in
      let none = ordered_same live held live' held' zero xs same.1 in
      let l = same.0.0 in
      let h = same.0.1 in
      ap₂ (λ (a b : Bool). if a then (if b then is_ordered live' held' n xs else not (list_any held' xs)) else not b && is_ordered live' held' n xs) l h
      ∙ ap₂ (λ (r m : Bool). if live x then (if held x then r else m) else not (held x) && r) rest none

-- ---- the messages that go

pub all_weaker : (P Q : Entry → Type 0) → ((e : Entry) → P e → Q e) → (log : List Entry) → AllByRecursion P log → AllByRecursion Q log
all_weaker P Q step [] all = tt
all_weaker P Q step (e ∷ log) all = (step e all.0, all_weaker P Q step log all.1)

pub all_later : (P : Entry → Type 0) (n : ℕ) (log : List Entry) → AllByRecursion P log → AllByRecursion P (drop n log)
all_later P zero log all = all
all_later P (suc n) [] all = tt
all_later P (suc n) (e ∷ log) all = all_later P n log all.1

-- the first messages pass, up to the first that does not
first_pass : (p : Entry → Bool) (n d : ℕ) (log : List Entry) → n ≤ prefix_len p (take d log) → AllByRecursion (λ e. p e ≡ true) (take n log)
first_pass p zero d log low = tt
first_pass p (suc n) zero log low = absurd (omega (arith, low))
first_pass p (suc n) (suc d) [] low = tt
first_pass p (suc n) (suc d) (e ∷ log) low = by (p e) refl low (first_pass p n d log)
  where
    by : (b : Bool) → p e ≡ b → suc n ≤ cond b (1 + prefix_len p (take d log)) 0 → (n ≤ prefix_len p (take d log) → AllByRecursion (λ e. p e ≡ true) (take n log)) → (p e ≡ true) × AllByRecursion (λ e. p e ≡ true) (take n log)
    by true t low rest = (t, rest (omega (arith, low)))
    by false f low rest = absurd (omega (arith, low))

of_each : (q p : Subscription → Bool) (subs : List Subscription) (sub : Subscription) → list_all q subs ≡ true → find p subs ≡ Some sub → q sub ≡ true
of_each q p [] sub all found = cc
of_each q p (x ∷ subs) sub all found = by (p x) found (of_each q p subs sub (and_second (q x) (list_all q subs) all))
  where
    by : (b : Bool) → cond b (Some x) (find p subs) ≡ Some sub → (find p subs ≡ Some sub → q sub ≡ true) → q sub ≡ true
    by true is rest =
        let same : x ≡ sub = cc in
        subst (λ (z : Subscription). q z ≡ true) same (and_first (q x) (list_all q subs) all)
    by false is rest = rest is

-- the first messages may go, so many: each subscription has done with them, and with the next one, which is visible
pub record IsGoing (s : State) (n : ℕ) : Type 0 where
  pub visible : n < s.durable
  pub within : n < length s.log
  pub room : s.gone + n ≤ 2 ^ 62
  pub done : EachFirst (λ sub. AllByRecursion (λ e. is_done_with e sub ≡ true) (take n s.log)) s.subscriptions
  pub next_done : EachFirst (λ sub. AllByRecursion (λ e. is_done_with e sub ≡ true) (take (suc n) s.log)) s.subscriptions

fewer : (most room free others : ℕ) → min (min most room) (min free others) / 64 * 64 ≤ min (min most room) (min free others)
fewer most room free others = omega arith

pub are_going : (s : State) (keep before most : ℕ) → 0 < going s keep before most → IsGoing s (going s keep before most)
are_going s keep before most some =
    let few = fewer most (2 ^ 62 - s.gone) (free_at_front s before - 1) (length s.log - keep) in
    let front = prefix_len-le-length (may_go s before) (visible s) in
    let seen = length-take s.durable s.log in
    let low : going s keep before most < free_at_front s before = omega (arith, few, some) in
    record {
      visible = omega (arith, low, front, seen);
      within = omega (arith, low, front, seen);
      room = omega (arith, few, some);
      done = λ name sub found. each_done name sub found (going s keep before most) (omega (arith, low));
      next_done = λ name sub found. each_done name sub found (suc (going s keep before most)) (omega (arith, low));
    }
  where
    each_done : (name : List ℕ) (sub : Subscription) → find (is_named name) s.subscriptions ≡ Some sub → (n : ℕ) → n ≤ free_at_front s before → AllByRecursion (λ e. is_done_with e sub ≡ true) (take n s.log)
    each_done name sub found n low =
        all_weaker (λ e. may_go s before e ≡ true) (λ e. is_done_with e sub ≡ true)
        (λ e free. of_each (is_done_with e) (is_named name) s.subscriptions sub (and_second (nat_lt 0 (length s.subscriptions)) (list_all (is_done_with e) s.subscriptions) (and_first (is_done s e) (nat_le e.time before) free)) found)
        (take n s.log) (first_pass (may_go s before) n s.durable s.log low)

done_parts : (a b c : Bool) → (a && not b && not c) ≡ true → (a ≡ true) × (b ≡ false) × (c ≡ false)
done_parts true false false e = (refl, refl, refl)
done_parts true false true e = cc
done_parts true true c e = cc
done_parts false b c e = cc

pub done_acknowledged : (log : List Entry) (sub : Subscription) → AllByRecursion (λ e. is_done_with e sub ≡ true) log → AllByRecursion (λ e. set.contains sub.acknowledged e.position ≡ true) log
done_acknowledged log sub = all_weaker (λ e. is_done_with e sub ≡ true) (λ e. set.contains sub.acknowledged e.position ≡ true) (λ e h. (done_parts _ _ _ h).0) log

pub done_pending : (log : List Entry) (sub : Subscription) → AllByRecursion (λ e. is_done_with e sub ≡ true) log → NonePending log sub
done_pending log sub = all_weaker (λ e. is_done_with e sub ≡ true) (λ e. map_of.contains_key sub.pending e.position ≡ false) (λ e h. (done_parts _ _ _ h).1) log

-- what a subscription has done with is neither live nor pending
pub done_over : (sub : Subscription) (e : Entry) → is_done_with e sub ≡ true → (is_live sub e ≡ false) × (map_of.contains_key sub.pending e.position ≡ false)
done_over sub e done =
    let parts = done_parts _ _ _ done in
    (ap (λ b. not b && not (is_dead sub e.position)) parts.0, parts.1)

pub done_dead : (log : List Entry) (sub : Subscription) → AllByRecursion (λ e. is_done_with e sub ≡ true) log → AllByRecursion (λ e. is_dead sub e.position ≡ false) log
done_dead log sub = all_weaker (λ e. is_done_with e sub ≡ true) (λ e. is_dead sub e.position ≡ false) (λ e h. (done_parts _ _ _ h).2) log

pub kept_going : (s : State) (n : ℕ) → IsGoing s n → IsKept s → IsKept (trimmed n s)
kept_going s n are kept = kept_trimmed s n are.within (λ name sub found. done_pending (take n s.log) sub (are.done name sub found)) kept

-- ---- the messages that stay

abbrev pub positions_gone : ℕ → List Entry → List Position
positions_gone n log = map (λ e. e.position) (take n log)

-- none of them is one that goes
pub others_stay : (n : ℕ) (log : List Entry) → IsStrictlySortedBy position_cmp (map (λ e. e.position) log) → AllByRecursion (λ e. is_one_of (positions_gone n log) e.position ≡ false) (drop n log)
unfolding IsStrictlySortedBy
others_stay zero log rising = none log
  where
    none : (log : List Entry) → AllByRecursion (λ e. is_one_of [] e.position ≡ false) log
    none [] = tt
    none (e ∷ log) = (refl, none log)
others_stay (suc n) [] rising = tt
others_stay (suc n) (x ∷ log) rising = both (drop n log) (all_later (λ e. same_position e.position x.position ≡ false) n log (above log rising.0)) (others_stay n log rising.1)
  where
    apart : (e : Entry) → position_cmp x.position e.position ≡ Less → (b : Bool) → same_position e.position x.position ≡ b → b ≡ false
    apart e low false f = refl
    apart e low true t = absurd (not_below_itself x.position (ap (position_cmp x.position) (sym (position_is e.position x.position t)) ∙ low))

    above : (log : List Entry) → AllByRecursion (λ k. position_cmp x.position k ≡ Less) (map (λ e. e.position) log) → AllByRecursion (λ e. same_position e.position x.position ≡ false) log
    above [] h = tt
    above (e ∷ log) h = (apart e h.0 _ refl, above log h.1)

    both : (rest : List Entry) → AllByRecursion (λ e. same_position e.position x.position ≡ false) rest → AllByRecursion (λ e. is_one_of (positions_gone n log) e.position ≡ false) rest
        → AllByRecursion (λ e. (same_position e.position x.position || is_one_of (positions_gone n log) e.position) ≡ false) rest
    both [] a b = tt
    both (e ∷ rest) a b = (both_false _ _ a.0 b.0, both rest a.1 b.1)

-- what is acknowledged after: what was, but for the messages that go
pub acknowledged_without : (positions : List Position) (sub : Subscription) (p : Position) → set.contains (without_messages positions sub).acknowledged p ≡ (set.contains sub.acknowledged p && not (is_one_of positions p))
acknowledged_without positions sub p =
    set.contains-difference positions_total sub.acknowledged (set.from_list positions) p
    ∙ ap (λ b. set.contains sub.acknowledged p && not b) (set.contains-from_list positions_total positions p)

and_true : (b : Bool) → (b && true) ≡ b
and_true true = refl
and_true false = refl

pub acknowledged_stays : (positions : List Position) (sub : Subscription) (p : Position) → is_one_of positions p ≡ false → set.contains (without_messages positions sub).acknowledged p ≡ set.contains sub.acknowledged p
acknowledged_stays positions sub p none =
    acknowledged_without positions sub p ∙ ap (λ b. set.contains sub.acknowledged p && not b) none ∙ and_true (set.contains sub.acknowledged p)

pub live_stays : (positions : List Position) (sub : Subscription) (e : Entry) → is_one_of positions e.position ≡ false → is_live (without_messages positions sub) e ≡ is_live sub e
live_stays positions sub e none = ap (λ b. not b && not (is_dead sub e.position)) (acknowledged_stays positions sub e.position none)

-- what is none of the messages that go is at none of them
pub none_among : (log : List Entry) (p : Position) → is_one_of (map (λ e. e.position) log) p ≡ false → AllByRecursion (λ e. has_position p e ≡ false) log
none_among [] p none = tt
none_among (e ∷ log) p none =
    let both = or_false (same_position p e.position) (is_one_of (map (λ e. e.position) log) p) none in
    (either_way e.position p ∙ both.0, none_among log p both.1)

pub stays_visible : (n d m : ℕ) (log : List Entry) (p : Position) → m ≡ d - n → AllByRecursion (λ e. has_position p e ≡ false) (take n log) → list_any (has_position p) (take d log) ≡ true → list_any (has_position p) (take m (drop n log)) ≡ true
stays_visible zero d m log p is none there =
    let same : d ≡ m = omega (arith, is) in
    subst (λ (q : ℕ). list_any (has_position p) (take q log) ≡ true) same there
stays_visible (suc n) zero m log p is none there = cc
stays_visible (suc n) (suc d) m [] p is none there = cc
stays_visible (suc n) (suc d) m (e ∷ log) p is none there =
    stays_visible n d m log p (omega (arith, is)) none.1 (sym (ap (λ b. b || list_any (has_position p) (take d log)) none.0) ∙ there)

pub contains_stays : (n : ℕ) (log : List Entry) (x : Entry) → AllByRecursion (λ e. has_position x.position e ≡ false) (take n log) → Contains log x → Contains (drop n log) x
contains_stays zero log x none at = at
contains_stays (suc n) [] x none at = at
contains_stays (suc n) (e ∷ log) x none at = by at.0 at.1 at.2 (contains_stays n log x none.1)
  where
    by : (k : ℕ) → k < length (e ∷ log) → get_or (e ∷ log) k x ≡ x → (Contains log x → Contains (drop n log) x) → Contains (drop n log) x
    by zero low is rest = absurd (true≢false (sym (ap (λ (z : Entry). same_position z.position x.position) is ∙ position_itself x.position) ∙ none.0))
    by (suc k) low is rest = rest (k, omega (arith, low), is)
