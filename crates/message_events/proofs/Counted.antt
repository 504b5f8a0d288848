-- What the statistics of a subscription count, by places in the log.
use Rattle.std.proofs.Common.{◌≡◌, ℕ, zero, suc, ◌+◌, ◌<◌, ◌≤◌, List, [], ◌∷◌, take, length, Some, None, Option, Bool, true, false, cond, slice_get, get_or, refl, ap, ◌∙◌, sym, subst, arith, inl, inr}
use Rattle.std.specs.Prelude.{if◌then◌else◌, is_some, IsSomeAnd}
use Rattle.std.specs.Option.{option_map_or, unwrap_or}
use Rattle.std.specs.List.{count_by, filter, find, position}
use Rattle.std.specs.FinSet as set
use Rattle.std.specs.FinMap as map_of
use Rattle.std.proofs.lemmas.Bool.{cases_lt}
use Rattle.std.proofs.lemmas.List.{length-map}
use Rattle.std.proofs.lemmas.List.Quantifiers.{position-Some}
use Rattle.std.proofs.lemmas.List.Sums.{sum_by-cons}
use Rattle.position_core.specs.declared.position.Position.{Position}
use Rattle.position_core.specs.declared.message.Entry.{Entry}
use Rattle.position_core.specs.declared.held.Held.{Held}
use Rattle.position_core.specs.declared.kind.Kind.{Kind}
use Rattle.delivery_machine.specs.State.{Member, State, Subscription}
use Rattle.delivery_machine.specs.Words.{is_at, is_live, is_named, members_of, visible}
use Rattle.delivery_machine.specs.Places.{positions_at}
use Rattle.position_core.specs.declared.fault.Fault.TheVariants.{NoSuchSubscription}
use Rattle.delivery_machine.specs.Refusals.{absence_refused}
use Rattle.delivery_machine.specs.Run.{Answers}
use Rattle.delivery_machine.specs.declared.event.Event.TheVariants.{Stats as StatsEvent}
use Rattle.delivery_machine.specs.Statistics.{ShowsStatistics, mark_delete, oldest}
use Rattle.delivery_machine.specs.declared.reply.Reply.{Reply}
use Rattle.delivery_machine.specs.declared.reply.Reply.TheVariants.{Stats}
use Rattle.delivery_machine.proofs.Behind.{same_name}
use Rattle.ack_ranges.specs.Ranges.{IsNextMissing, numbers}
use Rattle.ack_ranges.proofs.Counts.{len_counted}
use Rattle.topic_subscriptions.specs.Placed.{IsPlacedIn, IsRising, Placed, is_placed, is_live_at, sub_in}
use Rattle.topic_subscriptions.proofs.Links.{contains_at}
use Rattle.topic_parts.proofs.Pending.{AreOfLog, Holding, counted_where}

abbrev one : Bool → ℕ
one b = cond b 1 0

-- ---- counts by places

-- a test of messages that is one of their places
abbrev IsByPlace : (Entry → Bool) → (ℕ → Bool) → ℕ → List Entry → Type 0
IsByPlace p q k log = (i : ℕ) (e : Entry) → slice_get log i ≡ Some e → p e ≡ q (k + i)

by_place_in : (p : Entry → Bool) (q : ℕ → Bool) (k n : ℕ) (log : List Entry) → n ≤ length log → IsByPlace p q k log → count_by p (take n log) ≡ count_by q (numbers k n)
by_place_in p q k zero log within is = refl
by_place_in p q k (suc n) [] within is = absurd (omega arith)
by_place_in p q k (suc n) (e ∷ log) within is =
    let rest = by_place_in p q (suc k) n log (omega arith) (λ i d at. is (suc i) d at ∙ ap q (omega arith)) in
    let here : one (p e) ≡ one (q k) = ap one (is 0 e refl ∙ ap q (omega arith)) in
    omega (arith, sum_by-cons (λ x. one (p x)) e (take n log), sum_by-cons (λ j. one (q j)) k (numbers (suc k) n), rest, here)

take_whole : (log : List Entry) → take (length log) log ≡ log
take_whole [] = refl
take_whole (e ∷ log) = ap (λ es. e ∷ es) (take_whole log)

pub acknowledged_counted : (log : List Entry) (members : List Member) (p : Placed) → IsRising log → IsPlacedIn log members p → set.len p.places ≡ count_by (λ e. set.contains (positions_at log p.places) e.position) log
acknowledged_counted log members p rising placed =
    len_counted p.places (length log) placed.within
    ∙ sym (by_place_in acknowledged (set.contains p.places) 0 (length log) log (omega arith) (λ i e at. contains_at log p.places i e rising at ∙ ap (set.contains p.places) (omega arith)))
    ∙ ap (count_by acknowledged) (take_whole log)
  where
    acknowledged : Entry → Bool
    acknowledged e = set.contains (positions_at log p.places) e.position

pub live_counted : (log : List Entry) (members : List Member) (p : Placed) (durable : ℕ) → IsPlacedIn log members p → durable ≤ length log → count_by (is_live_at p) (numbers 0 durable) ≡ count_by (is_live (sub_in log p)) (take durable log)
live_counted log members p durable placed within =
    sym (by_place_in (is_live (sub_in log p)) (is_live_at p) 0 durable log within (λ i e at. placed.live i e at ∙ ap (is_live_at p) (omega arith)))

-- ---- what is pending

count_all : (hs : List Held) → count_by (λ _. true) hs ≡ length hs
count_all [] = refl
count_all (h ∷ hs) = let rest = count_all hs in let at = sum_by-cons (λ (_ : Held). 1) h hs in omega arith

has_one : (o : Option Held) → option_map_or (λ _. true) o false ≡ is_some o
has_one None = refl
has_one (Some h) = refl

count_alike : (p q : Entry → Bool) (log : List Entry) → ((e : Entry) → p e ≡ q e) → count_by p log ≡ count_by q log
count_alike p q [] same = refl
count_alike p q (e ∷ log) same =
    let rest = count_alike p q log same in
    let here : one (p e) ≡ one (q e) = ap one (same e) in
    omega (arith, sum_by-cons (λ x. one (p x)) e log, sum_by-cons (λ x. one (q x)) e log, rest, here)

len_values : (m : Holding) → map_of.len m ≡ count_by (λ _. true) (map_of.values m)
len_values m = map_of.len-entries m ∙ sym (length-map (map_of.entries m) (λ e. e.1)) ∙ sym (count_all (map_of.values m))

pub all_pending_counted : (log : List Entry) (m : Holding) → IsRising log → AreOfLog log m → map_of.len m ≡ count_by (λ e. map_of.contains_key m e.position) log
all_pending_counted log m rising are =
    len_values m ∙ sym (counted_where (λ _. true) log m rising are)
    ∙ count_alike (λ e. option_map_or (λ _. true) (map_of.get m e.position) false) (λ e. map_of.contains_key m e.position) log (λ e. has_one (map_of.get m e.position))

-- ---- how far all is acknowledged

module _ (sub : Subscription) (q : ℕ → Bool) where
  abbrev AreByPlace : ℕ → List Entry → Type 0
  AreByPlace k log = IsByPlace (λ e. set.contains sub.acknowledged e.position) q k log

  marks_none : (k : ℕ) (log : List Entry) → AreByPlace k log → q k ≡ false → mark_delete sub log ≡ None
  marks_none k [] by out = refl
  marks_none k (e ∷ log) by out =
      ap (λ (b : Bool). if b then Some (unwrap_or (mark_delete sub log) e.position) else None) (by 0 e refl ∙ ap q (omega arith) ∙ out)

  marks_last : (k m : ℕ) (log : List Entry) (e : Entry) → AreByPlace k log → slice_get log m ≡ Some e → ((j : ℕ) → k ≤ j → j < k + suc m → q j ≡ true) → q (k + suc m) ≡ false → mark_delete sub log ≡ Some e.position
  marks_last k m [] e by at inside out = absurd (cc)
  marks_last k zero (x ∷ log) e by at inside out =
      let same : x ≡ e = cc in
      let rest = marks_none (suc k) log (λ i d there. by (suc i) d there ∙ ap q (omega arith)) (ap q (omega arith) ∙ out) in
      ap (λ (b : Bool). if b then Some (unwrap_or (mark_delete sub log) x.position) else None) (by 0 x refl ∙ ap q (omega arith) ∙ inside k (omega arith) (omega arith))
      ∙ ap (λ (o : Option Position). Some (unwrap_or o x.position)) rest
      ∙ ap (λ (d : Entry). Some d.position) same
  marks_last k (suc m) (x ∷ log) e by at inside out =
      let rest = marks_last (suc k) m log e (λ i d there. by (suc i) d there ∙ ap q (omega arith)) at (λ j from below. inside j (omega arith) (omega arith)) (ap q (omega arith) ∙ out) in
      ap (λ (b : Bool). if b then Some (unwrap_or (mark_delete sub log) x.position) else None) (by 0 x refl ∙ ap q (omega arith) ∙ inside k (omega arith) (omega arith))
      ∙ ap (λ (o : Option Position). Some (unwrap_or o x.position)) rest

module _ (log : List Entry) (members : List Member) (p : Placed) (rising : IsRising log) (placed : IsPlacedIn log members p) (end : ℕ) (first : IsNextMissing p.places 0 end) where
  by_places : AreByPlace (sub_in log p) (set.contains p.places) 0 log
  by_places i e at = contains_at log p.places i e rising at ∙ ap (set.contains p.places) (omega arith)

  pub nothing_marked : end ≡ 0 → None ≡ mark_delete (sub_in log p) log
  nothing_marked none = sym (marks_none (sub_in log p) (set.contains p.places) 0 log by_places (ap (set.contains p.places) (sym none) ∙ first.missing))

  pub last_marked : (m : ℕ) (e : Entry) → m + 1 ≡ end → slice_get log m ≡ Some e → Some e.position ≡ mark_delete (sub_in log p) log
  last_marked m e is at = sym (marks_last (sub_in log p) (set.contains p.places) 0 m log e by_places at (λ j from below. first.before j from (omega (arith, below, is))) (ap (set.contains p.places) (omega (arith, is)) ∙ first.missing))

  pub end_within : end ≤ length log
  end_within = elim (cases_lt (length log) end) [
    | inl past ↦ absurd (let low = placed.within (length log) (first.before (length log) (omega arith) past) in omega (arith, low))
    | inr within ↦ within
  ]

-- ---- all of them

pub as_many_members : (log : List Entry) (members : List Member) (p : Placed) → IsPlacedIn log members p → length p.line ≡ length (filter (is_at p.name) members)
as_many_members log members p placed = ap length placed.line ∙ length-map (filter (is_at p.name) members) (λ (m : Member). m.number)

pub stats_are : {k l : Kind} {m n a b c d e f g h i j : ℕ} {p q : Option Position} {s t : Option ℕ} → k ≡ l → m ≡ n → p ≡ q → a ≡ b → c ≡ d → e ≡ f → g ≡ h → i ≡ j → s ≡ t → ◌≡◌ {A = Reply} (Stats k m p a c e g i s) (Stats l n q b d f h j t)
stats_are kind members mark acknowledged live pending dead gone oldest = cc

pub name_there : (subs : List Placed) (name : List ℕ) (place : ℕ) (x : Placed) → Some place ≡ position (is_placed name) subs → x ≡ get_or subs place x → x.name ≡ name
name_there subs name place x there at = same_name x.name name (ap (is_placed name) at ∙ (position-Some (is_placed name) subs place x (sym there)).1)

abbrev shown : State → List ℕ → Subscription → Reply
shown s name sub =
    Stats sub.kind
    (length (members_of s name))
    (mark_delete sub s.log)
    (count_by (λ e. set.contains sub.acknowledged e.position) s.log)
    (count_by (is_live sub) (visible s))
    (count_by (λ e. map_of.contains_key sub.pending e.position) s.log)
    (length sub.dead)
    s.gone
    (oldest s.log)

pub shown_answers : (s : State) (name : List ℕ) (sub : Subscription) (r : Reply) → find (is_named name) s.subscriptions ≡ Some sub → ShowsStatistics s name sub r s → Answers s (StatsEvent name) r s
shown_answers s name sub r found shows = subst (λ (q : Reply). Answers s (StatsEvent name) q s) (sym shows.0) (allowed, holds)
  where
    allowed : absence_refused s name ≡ None
    allowed = ap (λ (o : Option Subscription). if is_some o then None else Some NoSuchSubscription) found

    holds : IsSomeAnd (find (is_named name) s.subscriptions) (λ x. ShowsStatistics s name x (shown s name sub) s)
    holds = subst (λ (o : Option Subscription). IsSomeAnd o (λ x. ShowsStatistics s name x (shown s name sub) s)) (sym found) (refl, refl)

pub none_there : (log : List Entry) (i : ℕ) → i < length log → slice_get log i ≡ None → ⊥
none_there [] i within none = absurd (omega arith)
none_there (e ∷ log) zero within none = absurd (cc)
none_there (e ∷ log) (suc i) within none = none_there log i (omega arith) none
