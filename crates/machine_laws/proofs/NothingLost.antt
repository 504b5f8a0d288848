-- A trim loses nothing that anybody needs.
use Rattle.std.proofs.Common.{◌≡◌, ℕ, ◌-◌, ◌<◌, List, [], ◌∷◌, map, length, length-drop, suc, zero, Some, None, Option, Bool, true, false, cond, refl, ap, ap₂, ◌∙◌, sym, subst, arith, inl, inr, true≢false}
use Rattle.std.specs.Prelude.{codes, nat_eq, ◌||◌, not, drop, take, if◌then◌else◌}
use Rattle.std.specs.List.{AllByRecursion, filter, find, list_any, starts_with}
use Rattle.std.specs.Option.{unwrap_or}
use Rattle.std.specs.Str.{bytes_eq}
use Rattle.std.specs.FinSet as set
use Rattle.std.specs.FinMap as map_of
use Rattle.std.proofs.lemmas.List.Elements.{All-from_recursion}
use Rattle.position_core.specs.declared.position.Position.{Position}
use Rattle.position_core.specs.declared.message.Entry.{Entry}
use Rattle.position_core.specs.Position.{same_position, exact_positions}
use Rattle.delivery_machine.specs.State.{State, Subscription, DeadLetter}
use Rattle.delivery_machine.specs.Words.{is_by, is_connected, known, signed, greatest_under, is_named, is_live, has_position, count_of}
use Rattle.delivery_machine.specs.Statistics.{mark_delete}
use Rattle.delivery_machine.specs.Acknowledging.{is_one_of}
use Rattle.delivery_machine.specs.Trimming.{is_lasting, is_done_with, without_messages, trimmed, Trims}
use Rattle.delivery_machine.specs.WellFormed.{AreAuthors}
use Rattle.delivery_machine.specs.Laws.{HasAll, LosesNothing, TrimsLoseNothing}
use Rattle.delivery_machine.specs.declared.event.Event.TheVariants.{Trim}
use Rattle.delivery_machine.specs.declared.reply.Reply.{Reply}
use Rattle.delivery_machine.specs.declared.reply.Reply.TheVariants.{Trimmed, Untrimmed}
use Rattle.delivery_machine.proofs.RunSteps.{split}
use Rattle.delivery_machine.proofs.Deciding.{or_false, or_second}
use Rattle.delivery_machine.proofs.Keyed.{keys_mapped}
use Rattle.delivery_machine.proofs.Messages.{either_way}
use Rattle.delivery_machine.proofs.Rising.{used_dropped, next_of}
use Rattle.delivery_machine.proofs.Kept.{IsKept}
use Rattle.delivery_machine.proofs.LastNumbers.{last_numbers}
use Rattle.machine_laws.proofs.WellReached.{reached_all}
use Rattle.delivery_machine.proofs.Trimmed.{IsGoing, are_going, all_weaker, done_acknowledged, done_over, done_dead, positions_gone, others_stay, acknowledged_stays, live_stays}

-- ---- lists of which the first go

filter_same : (p q : Entry → Bool) (log : List Entry) → AllByRecursion (λ e. q e ≡ p e) log → filter q log ≡ filter p log
filter_same p q [] same = refl
filter_same p q (e ∷ log) same = ap₂ (λ (b : Bool) (xs : List Entry). if b then e ∷ xs else xs) same.0 (filter_same p q log same.1)

-- where those that go do not pass
filter_dropped : (p q : Entry → Bool) (n : ℕ) (log : List Entry) → AllByRecursion (λ e. p e ≡ false) (take n log) → AllByRecursion (λ e. q e ≡ p e) (drop n log) → filter q (drop n log) ≡ filter p log
filter_dropped p q zero log none same = filter_same p q log same
filter_dropped p q (suc n) [] none same = refl
filter_dropped p q (suc n) (e ∷ log) none same = filter_dropped p q n log none.1 same ∙ sym (ap (λ b. if b then e ∷ filter p log else filter p log) none.0)

all_first : (P : Entry → Type 0) (n : ℕ) (log : List Entry) → AllByRecursion P log → AllByRecursion P (take n log)
all_first P zero log all = tt
all_first P (suc n) [] all = tt
all_first P (suc n) (e ∷ log) all = (all.0, all_first P n log all.1)

filter_shown : (p q : Entry → Bool) (n d m : ℕ) (log : List Entry) → m ≡ d - n → AllByRecursion (λ e. p e ≡ false) (take n log) → AllByRecursion (λ e. q e ≡ p e) (drop n log) → filter q (take m (drop n log)) ≡ filter p (take d log)
filter_shown p q zero d m log is none same =
    let equal : m ≡ d = omega (arith, is) in
    filter_same p q (take m log) (all_first (λ e. q e ≡ p e) m log same) ∙ ap (λ k. filter p (take k log)) equal
filter_shown p q (suc n) zero m log is none same =
    let nought : m ≡ 0 = omega (arith, is) in
    ap (λ k. filter q (take k (drop (suc n) log))) nought
filter_shown p q (suc n) (suc d) zero [] is none same = refl
filter_shown p q (suc n) (suc d) (suc m) [] is none same = refl
filter_shown p q (suc n) (suc d) m (e ∷ log) is none same =
    filter_shown p q n d m log (omega (arith, is)) none.1 same ∙ sym (ap (λ b. if b then e ∷ filter p (take d log) else filter p (take d log)) none.0)

find_dropped : (p : Entry → Bool) (n : ℕ) (log : List Entry) → AllByRecursion (λ e. p e ≡ false) (take n log) → find p (drop n log) ≡ find p log
find_dropped p zero log none = refl
find_dropped p (suc n) [] none = refl
find_dropped p (suc n) (e ∷ log) none = find_dropped p n log none.1 ∙ sym (ap (λ b. cond b (Some e) (find p log)) none.0)

-- ---- the position up to which all is acknowledged

mark_same : (old new : Subscription) (log : List Entry) → AllByRecursion (λ e. set.contains new.acknowledged e.position ≡ set.contains old.acknowledged e.position) log → mark_delete new log ≡ mark_delete old log
mark_same old new [] same = refl
mark_same old new (e ∷ log) same = ap₂ (λ (b : Bool) (o : Option Position). if b then Some (unwrap_or o e.position) else None) same.0 (mark_same old new log same.1)

-- where those that go are acknowledged, and the next one too
mark_dropped : (old new : Subscription) (n : ℕ) (log : List Entry) → n < length log → AllByRecursion (λ e. set.contains old.acknowledged e.position ≡ true) (take (suc n) log)
    → AllByRecursion (λ e. set.contains new.acknowledged e.position ≡ set.contains old.acknowledged e.position) (drop n log) → mark_delete new (drop n log) ≡ mark_delete old log
mark_dropped old new zero log low all same = mark_same old new log same
mark_dropped old new (suc n) [] low all same = absurd (omega (arith, low))
mark_dropped old new (suc n) (e ∷ []) low all same = absurd (omega (arith, low))
mark_dropped old new (suc n) (e ∷ f ∷ log) low all same =
    mark_dropped old new n (f ∷ log) (omega (arith, low)) all.1 same
    ∙ some_mark (mark_delete old log) (set.contains old.acknowledged f.position) all.1.0
    ∙ sym (ap (λ b. if b then Some (unwrap_or (mark_delete old (f ∷ log)) e.position) else None) all.0)
  where
    some_mark : (o : Option Position) (b : Bool) → b ≡ true → (if b then Some (unwrap_or o f.position) else None) ≡ Some (unwrap_or (if b then Some (unwrap_or o f.position) else None) e.position)
    some_mark o true t = refl
    some_mark o false t = cc

-- ---- a subscription

count_stays : (positions : List Position) (sub : Subscription) (p : Position) → is_one_of positions p ≡ false → count_of (without_messages positions sub) p ≡ count_of sub p
count_stays positions sub p none =
    ap (λ (o : Option ℕ). unwrap_or o 0)
    (map_of.get-retain_keys sub.counts (λ q. not (is_one_of positions q)) p (λ x t. ap (λ q. not (is_one_of positions q)) (sym (exact_positions p x t)))
    ∙ ap (λ b. cond (not b) (map_of.get sub.counts p) None) none)

letters_stay : (n : ℕ) (log : List Entry) (dead : List DeadLetter) → AllByRecursion (λ e. list_any (λ d. same_position d.position e.position) dead ≡ false) (take n log)
    → AllByRecursion (λ d. find (has_position d.position) (drop n log) ≡ find (has_position d.position) log) dead
letters_stay n log [] none = tt
letters_stay n log (d ∷ dead) none = (
  find_dropped (has_position d.position) n log (all_weaker (λ e. list_any (λ d. same_position d.position e.position) (d ∷ dead) ≡ false) (λ e. has_position d.position e ≡ false)
      (λ e h. either_way e.position d.position ∙ (or_false (same_position d.position e.position) (list_any (λ d. same_position d.position e.position) dead) h).0) (take n log) none),
  letters_stay n log dead (all_weaker (λ e. list_any (λ d. same_position d.position e.position) (d ∷ dead) ≡ false) (λ e. list_any (λ d. same_position d.position e.position) dead ≡ false)
      (λ e h. (or_false (same_position d.position e.position) (list_any (λ d. same_position d.position e.position) dead) h).1) (take n log) none),
)

has_all : (s : State) (n : ℕ) → IsGoing s n → IsKept s → (name : List ℕ) (sub : Subscription) → find (is_named name) s.subscriptions ≡ Some sub → HasAll s (trimmed n s) sub (without_messages (positions_gone n s.log) sub)
has_all s n are kept name sub found =
    let new : Subscription = without_messages (positions_gone n s.log) sub in
    let others = others_stay n s.log kept.rising.sorted in
    let dead = all_weaker (λ e. is_done_with e sub ≡ true) (λ e. is_live sub e ≡ false) (λ e done. (done_over sub e done).0) (take n s.log) (are.done name sub found) in
    let same = all_weaker (λ e. is_one_of (positions_gone n s.log) e.position ≡ false) (λ e. is_live new e ≡ is_live sub e) (live_stays (positions_gone n s.log) sub) (drop n s.log) others in
    record {
      live = filter_dropped (is_live sub) (is_live new) n s.log dead same;
      shown = filter_shown (is_live sub) (is_live new) n s.durable (s.durable - n) s.log refl dead same;
      pending = refl;
      counts = All-from_recursion (λ e. count_of new e.position ≡ count_of sub e.position) (drop n s.log)
          (all_weaker (λ e. is_one_of (positions_gone n s.log) e.position ≡ false) (λ e. count_of new e.position ≡ count_of sub e.position) (λ e. count_stays (positions_gone n s.log) sub e.position) (drop n s.log) others);
      dead = refl;
      safe = refl;
      letters = All-from_recursion (λ d. find (has_position d.position) (drop n s.log) ≡ find (has_position d.position) s.log) sub.dead
          (letters_stay n s.log sub.dead (done_dead (take n s.log) sub (are.done name sub found)));
      mark = mark_dropped sub new n s.log are.within (done_acknowledged (take (suc n) s.log) sub (are.next_done name sub found))
          (all_weaker (λ e. is_one_of (positions_gone n s.log) e.position ≡ false) (λ e. set.contains new.acknowledged e.position ≡ set.contains sub.acknowledged e.position)
          (λ e. acknowledged_stays (positions_gone n s.log) sub e.position) (drop n s.log) others);
    }

-- ---- the topic

found_anew : (f : Subscription → Subscription) → ((sub : Subscription) → (f sub).name ≡ sub.name) → (name : List ℕ) (subs : List Subscription) (sub : Subscription) → find (is_named name) subs ≡ Some sub → find (is_named name) (map f subs) ≡ Some (f sub)
found_anew f same name [] sub found = cc
found_anew f same name (x ∷ subs) sub found = by (is_named name x) refl found (found_anew f same name subs sub)
  where
    by : (b : Bool) → is_named name x ≡ b → cond b (Some x) (find (is_named name) subs) ≡ Some sub → (find (is_named name) subs ≡ Some sub → find (is_named name) (map f subs) ≡ Some (f sub)) → find (is_named name) (f x ∷ map f subs) ≡ Some (f sub)
    by true t is rest =
        let one : x ≡ sub = cc in
        ap (λ (m : List ℕ). cond (bytes_eq m name) (Some (f x)) (find (is_named name) (map f subs))) (same x) ∙ ap (λ b. cond b (Some (f x)) (find (is_named name) (map f subs))) t ∙ ap (λ (z : Subscription). Some (f z)) one
    by false e is rest =
        ap (λ (m : List ℕ). cond (bytes_eq m name) (Some (f x)) (find (is_named name) (map f subs))) (same x) ∙ ap (λ b. cond b (Some (f x)) (find (is_named name) (map f subs))) e ∙ rest is

trimmed_loses : (s : State) (n : ℕ) → IsGoing s n → IsKept s → AreAuthors s.gone s.authors → LosesNothing s (trimmed n s)
trimmed_loses s n are kept authors =
    let f : Subscription → Subscription = without_messages (positions_gone n s.log) in
    let low = are.visible in
    let within = are.within in
    let shorter = length-drop n s.log in
    record {
      subscriptions = λ name sub found. (f sub, found_anew f (λ _. refl) name s.subscriptions sub found, has_all s n are kept name sub found);
      names = keys_mapped (λ (sub : Subscription). sub.name) f (λ _. refl) s.subscriptions;
      members = refl;
      producers = refl;
      retention = refl;
      connected = λ name is. stays name (ap (λ b. b || starts_with nat_eq name (codes "dlq/") || list_any (is_by name) (map signed (drop n s.log))) is);
      couriers = λ name is. stays name (ap (λ b. b || list_any (is_by name) (map signed (drop n s.log))) (or_second (is_connected s name) _ is));
      standing = λ name is. stays name (or_second (is_connected s name || starts_with nat_eq name (codes "dlq/")) _ is);
      numbers = λ name. elim (last_numbers name s n authors) [
        | inl is ↦ inl is
        | inr other ↦ inr other.0
      ];
      next = ap (λ used. next_of s.ledger used s.ledger_size) (used_dropped s.ledger n s.log are.within);
      had_so_many = omega (arith, low, within, shorter);
      durable = omega (arith, low);
    }
  where
    stays : (name : List ℕ) → is_lasting s (drop n s.log) name ≡ true → greatest_under name (known (trimmed n s)) ≡ greatest_under name (known s)
    stays name lasts = elim (last_numbers name s n authors) [
      | inl is ↦ is
      | inr other ↦ absurd (true≢false (sym lasts ∙ other.1))
    ]

nothing : (s : State) → LosesNothing s s
nothing s = record {
  subscriptions = λ name sub found. (sub, found, record { live = refl; shown = refl; pending = refl; counts = λ k d low. refl; dead = refl; safe = refl; letters = λ k d low. refl; mark = refl });
  names = refl;
  members = refl;
  producers = refl;
  retention = refl;
  connected = λ name is. refl;
  couriers = λ name is. refl;
  standing = λ name is. refl;
  numbers = λ name. inl refl;
  next = refl;
  had_so_many = refl;
  durable = refl;
}

trims_lose : (s : State) (keep before most : ℕ) (reply : Reply) (t : State) → IsKept s → AreAuthors s.gone s.authors → Trims s keep before most reply t → LosesNothing s t
trims_lose s keep before most (Trimmed all) t kept authors h = subst (LosesNothing s) (sym h.2) (trimmed_loses s _ (are_going s keep before most h.0) kept authors)
trims_lose s keep before most Untrimmed t kept authors h = subst (LosesNothing s) (sym h.1) (nothing s)
trims_lose s keep before most reply t kept authors h = absurd h

pub trims_lose_nothing : TrimsLoseNothing
trims_lose_nothing s keep before most reply t at answer =
    let all = reached_all at.0 at.1 at.2 s at.3 at.4 in
    elim (split s (Trim keep before most) reply t answer) [
      | inl same ↦ subst (LosesNothing s) (sym same) (nothing s)
      | inr taken ↦ trims_lose s keep before most reply t all.order.kept all.well.authors taken.1
    ]
