-- All messages that a topic has had: an answer adds to them, a snapshot keeps them, and none that went comes back.
use Rattle.std.proofs.Common.{◌≡◌, ℕ, ◌+◌, ◌-◌, ◌≤◌, zero, suc, List, [], ◌∷◌, ◌++◌, map, length, take, drop, Some, Option, Bool, true, false, cond, refl, ap, ap₂, ◌∙◌, sym, subst, arith, append_assoc, length-append, true≢false, ◌⊎◌, inl, inr}
use Rattle.std.specs.Prelude.{◌^◌, ◌||◌, ℤ, nat_eq, codes}
use Rattle.std.specs.List.{AllByRecursion, find, filter, list_any, starts_with}
use Rattle.std.proofs.lemmas.List.{append-nil, map-append, take-append-drop, length-take}
use Rattle.std.proofs.lemmas.List.Elements.{recursion_from_All}
use mathlib.Core.List.{IsPrefix}
use Rattle.position_core.specs.declared.position.Position.{Position}
use Rattle.position_core.specs.declared.topic_name.TopicName.{TopicName}
use Rattle.position_core.specs.Position.{same_position}
use Rattle.position_core.specs.declared.message.Entry.{Entry}
use Rattle.delivery_machine.specs.State.{State}
use Rattle.delivery_machine.specs.Words.{Signed, signed, signed_by, known, is_by, is_connected, greatest_under, has_position, used_after}
use Rattle.delivery_machine.specs.Acknowledging.{is_one_of}
use Rattle.delivery_machine.specs.Producing.{had}
use Rattle.delivery_machine.specs.Trimming.{trimmed}
use Rattle.delivery_machine.specs.WellFormed.{has_message}
use Rattle.delivery_machine.specs.Laws.{IsReached}
use Rattle.delivery_machine.specs.Run.{Answers}
use Rattle.delivery_machine.specs.declared.event.Event.{Event}
use Rattle.delivery_machine.specs.declared.reply.Reply.{Reply}
use Rattle.delivery_machine.proofs.RunSteps.{split}
use Rattle.delivery_machine.proofs.Rising.{IsRising, is_below, used_dropped}
use Rattle.machine_laws.proofs.Past.{IsPast, went, step_past}
use Rattle.delivery_machine.proofs.Trimmed.{IsGoing, others_stay, positions_gone}
use Rattle.delivery_machine.proofs.Deciding.{or_false, or_second}
use Rattle.delivery_machine.proofs.Tended.{position_is}
use Rattle.delivery_machine.proofs.Messages.{position_itself}
use Rattle.machine_laws.proofs.ReachedOn.{reached_fresh, reached_step, reached_restarted, reached_sound}
use Rattle.machine_laws.proofs.WellReached.{IsAllKept, reached_all}
use Rattle.delivery_machine.proofs.LastNumbers.{merge, top_append, last_numbers}
use Rattle.topic_lives.specs.Deleting.{IsDeletable}
use Rattle.topic_lives.proofs.Past.{past_made_again}
use Rattle.topic_lives.proofs.MadeAgain.{made_again_reached, made_again_couriers, later_ledger}
use Rattle.dead_letters.specs.Worlds.{Topic, everything, in_state, MessagesGoOn, new_topic, gone_on, begun_again}
use Rattle.dead_letters.specs.Laws.{is_from}
use Rattle.dead_letters.proofs.Fronts.{front_same, all_append, filtered_append}
use Rattle.dead_letters.proofs.TargetSteps.{copies, IsAdded, IsTrimmed, Goes, taken_goes}

pub all_kept : (s : State) → IsReached s → IsAllKept s
all_kept s at = reached_all at.0 at.1 at.2 s at.3 at.4

-- ---- what becomes of all messages

pub answer_goes : (s : State) (e : Event) (r : Reply) (t : State) → Answers s e r t → Goes s t
answer_goes s e r t h = elim (split s e r t h) [
  | inl same ↦ inl (subst (IsAdded s) (sym same) (record { gone = refl; authors = refl; log = front_same s.log }))
  | inr taken ↦ taken_goes s e r t taken.1
]

pub none_went : (a : Topic) (t : State) → t.gone ≡ a.state.gone → (in_state a t).past ≡ a.past
none_went a t same =
    let none : t.gone - a.state.gone ≡ 0 = omega (arith, same) in
    ap (λ (k : ℕ). a.past ++ take k a.state.log) none ∙ append-nil a.past

-- the topic in its own state
pub itself_in : (a : Topic) (u : State) → u ≡ a.state → in_state a u ≡ a
itself_in a u is = subst (λ (s : State). in_state a s ≡ a) (sym is) (ap (λ (past : List Entry). record { state = a.state; past = past }) (none_went a a.state refl))

-- where no message came, and none went
pub all_same : (a : Topic) (t : State) → t.gone ≡ a.state.gone → t.log ≡ a.state.log → everything (in_state a t) ≡ everything a
all_same a t gone log = ap₂ (λ (past : List Entry) (log : List Entry). past ++ log) (none_went a t gone) log

-- where some came
pub all_more : (a : Topic) (t : State) (more : List Entry) → t.gone ≡ a.state.gone → t.log ≡ a.state.log ++ more → everything (in_state a t) ≡ everything a ++ more
all_more a t more gone log =
    ap₂ (λ (past : List Entry) (log : List Entry). past ++ log) (none_went a t gone) log ∙ sym (append_assoc a.past a.state.log more)

all_added : (a : Topic) (t : State) (added : IsAdded a.state t) → everything (in_state a t) ≡ everything a ++ added.log.0
all_added a t added = all_more a t added.log.0 added.gone (sym added.log.1)

so_many : (s t : State) (n : ℕ) → t ≡ trimmed n s → t.gone - s.gone ≡ n
so_many s t n is = let more = ap (λ (u : State). u.gone) is in omega (arith, more)

pub all_trimmed : (a : Topic) (t : State) (n : ℕ) → t ≡ trimmed n a.state → everything (in_state a t) ≡ everything a
all_trimmed a t n is =
    ap₂ (λ (k : ℕ) (log : List Entry). (a.past ++ take k a.state.log) ++ log) (so_many a.state t n is) (ap (λ (u : State). u.log) is)
    ∙ append_assoc a.past (take n a.state.log) (drop n a.state.log) ∙ ap (λ (log : List Entry). a.past ++ log) (take-append-drop n a.state.log)

pub all_go_on : (a : Topic) (t : State) → Goes a.state t → IsPrefix (everything a) (everything (in_state a t))
all_go_on a t (inl added) = (added.log.0, sym (all_added a t added))
all_go_on a t (inr out) = subst (IsPrefix (everything a)) (sym (all_trimmed a t out.0 out.2)) (front_same (everything a))

pub messages_go_on : MessagesGoOn
messages_go_on a event reply s h = all_go_on a s (answer_goes a.state event reply s h)

-- the messages of a name stay, where they stay in the log or the first go
pub same_copies : (name : List ℕ) (a : Topic) (t : State) → Goes a.state t → (copies name t.log ≡ copies name a.state.log) ⊎ IsTrimmed a.state t → copies name (everything (in_state a t)) ≡ copies name (everything a)
same_copies name a t goes (inr out) = ap (copies name) (all_trimmed a t out.0 out.2)
same_copies name a t (inr out) (inl same) = ap (copies name) (all_trimmed a t out.0 out.2)
same_copies name a t (inl added) (inl same) =
    filtered_append (is_from name) (in_state a t).past t.log ∙ ap₂ (λ (xs ys : List Entry). copies name xs ++ ys) (none_went a t added.gone) same
    ∙ sym (filtered_append (is_from name) a.past a.state.log)

-- their numbers are those under the name
pub signed_copies : (name : List ℕ) (log : List Entry) → map (λ (n : Signed). n.sequence) (filter (is_by name) (map signed log)) ≡ map (λ (e : Entry). e.sequence) (copies name log)
signed_copies name [] = refl
signed_copies name (e ∷ log) = by (is_from name e) (signed_copies name log)
  where
    by : (b : Bool) → map (λ (n : Signed). n.sequence) (filter (is_by name) (map signed log)) ≡ map (λ (x : Entry). x.sequence) (copies name log)
        → map (λ (n : Signed). n.sequence) (cond b (signed e ∷ filter (is_by name) (map signed log)) (filter (is_by name) (map signed log))) ≡ map (λ (x : Entry). x.sequence) (cond b (e ∷ copies name log) (copies name log))
    by true rest = ap (λ (zs : List ℤ). e.sequence ∷ zs) rest
    by false rest = rest

-- the message went, in a ledger that a topic may have
abbrev pub Went : State → Entry → Type 0
Went s e = IsPast e.position s × (e.position.ledger ≤ 2 ^ 62)

-- where one is past, its position is none of the log
other_position : (p : Position) (e : Entry) (log : List Entry) (x : Entry) → list_any (has_position e.position) log ≡ false → find (has_position p) log ≡ Some x → has_position p e ≡ false
other_position p e log x none found = by (has_position p e) refl
  where
    any : (xs : List Entry) → find (has_position p) xs ≡ Some x → list_any (has_position p) xs ≡ true
    any [] found = absurd (let i = found in cc)
    any (y ∷ xs) found = at (has_position p y) found (any xs)
      where
        at : (b : Bool) → cond b (Some y) (find (has_position p) xs) ≡ Some x → (find (has_position p) xs ≡ Some x → list_any (has_position p) xs ≡ true) → (b || list_any (has_position p) xs) ≡ true
        at true found rest = refl
        at false found rest = rest found

    by : (b : Bool) → has_position p e ≡ b → b ≡ false
    by false f = refl
    by true t = absurd (true≢false (sym (any log found) ∙ sym (ap (λ (q : Position). list_any (has_position q) log) (position_is e.position p t)) ∙ none))

-- a message of the log is found among all
pub found_in_all : (a : Topic) (p : Position) (x : Entry) → AllByRecursion (Went a.state) a.past → find (has_position p) a.state.log ≡ Some x → find (has_position p) (everything a) ≡ Some x
found_in_all a p x past found = by a.past past
  where
    by : (es : List Entry) → AllByRecursion (Went a.state) es → find (has_position p) (es ++ a.state.log) ≡ Some x
    by [] all = found
    by (e ∷ es) all = ap (λ (b : Bool). cond b (Some e) (find (has_position p) (es ++ a.state.log))) (other_position p e a.state.log x all.0.0.0 found) ∙ by es all.1

pub there_in_all : (a : Topic) (p : Position) → has_message a.state.log p ≡ true → has_message (everything a) p ≡ true
there_in_all a p there = by a.past
  where
    any : (b c : Bool) → c ≡ true → (b || c) ≡ true
    any true c e = refl
    any false c e = e

    by : (es : List Entry) → list_any (has_position p) (es ++ a.state.log) ≡ true
    by [] = there
    by (e ∷ es) = any (has_position p e) _ (by es)

-- ---- what holds of a topic

-- the messages that went are as many as the topic says, and none of them comes back
pub record IsTopic (name : List ℕ) (a : Topic) : Type 0 where
  pub reached : IsReached a.state
  pub many : length a.past ≡ a.state.gone
  pub past : AllByRecursion (Went a.state) a.past
  pub numbers : greatest_under name (known a.state) ≡ greatest_under name (map signed (everything a))

each_goes : (s t : State) (es : List Entry) → ((e : Entry) → IsPast e.position s → IsPast e.position t) → AllByRecursion (Went s) es → AllByRecursion (Went t) es
each_goes s t [] f all = tt
each_goes s t (e ∷ es) f all = ((f e all.0.0, all.0.1), each_goes s t es f all.1)

-- the messages that go are past
now_past : (s : State) (n : ℕ) → IsGoing s n → IsRising s.log s.ledger → AllByRecursion (Went (trimmed n s)) (take n s.log)
now_past s n are rising = each n s.log (recursion_from_All _ s.log rising.below) (recursion_from_All _ s.log rising.bounded) (λ e one. one)
  where
    is_one_itself : (p : Position) (ps : List Position) → is_one_of (p ∷ ps) p ≡ true
    is_one_itself p ps = ap (λ (b : Bool). b || is_one_of ps p) (position_itself p)

    is_one_later : (q : Position) (ps : List Position) (p : Position) → is_one_of ps p ≡ true → is_one_of (q ∷ ps) p ≡ true
    is_one_later q ps p one = or_second (same_position p q) (is_one_of ps p) one

    each : (k : ℕ) (log : List Entry) → AllByRecursion (λ e. is_below s.ledger (used_after s.ledger s.log) e.position ≡ true) log → AllByRecursion (λ e. e.position.ledger ≤ 2 ^ 62) log
        → ((e : Entry) → is_one_of (positions_gone k log) e.position ≡ true → is_one_of (positions_gone n s.log) e.position ≡ true) → AllByRecursion (Went (trimmed n s)) (take k log)
    each zero log below bounded among = tt
    each (suc k) [] below bounded among = tt
    each (suc k) (e ∷ log) below bounded among = (
      (
        (
          went e.position n s.log (others_stay n s.log rising.sorted) (among e (is_one_itself e.position (positions_gone k log))),
          subst (λ (used : ℕ). is_below s.ledger used e.position ≡ true) (sym (used_dropped s.ledger n s.log are.within)) below.0,
        ),
        bounded.0,
      ),
      each k log below.1 bounded.1 (λ x one. among x (is_one_later e.position (positions_gone k log) x.position one)),
    )

-- so all that it has had are so many
pub all_had : (name : List ℕ) (a : Topic) → IsTopic name a → length (everything a) ≡ had a.state
all_had name a at = length-append a.past a.state.log ∙ ap (λ (k : ℕ). k + length a.state.log) at.many

module _ (name : List ℕ) where
  abbrev top : List Signed → Option ℤ
  top numbers = greatest_under name numbers

  -- ---- an answer

  numbers_added : (a : Topic) (t : State) → IsAdded a.state t → IsTopic name a → top (known t) ≡ top (map signed (everything (in_state a t)))
  numbers_added a t added at =
      let s = a.state in
      let more = added.log.0 in
      let is : known t ≡ known s ++ map signed more =
      ap₂ (λ (xs : List _) (log : List Entry). map signed_by xs ++ map signed log) added.authors (sym added.log.1)
      ∙ ap (λ (xs : List Signed). map signed_by s.authors ++ xs) (map-append signed s.log more)
      ∙ sym (append_assoc (map signed_by s.authors) (map signed s.log) (map signed more)) in
      ap top is ∙ top_append name (known s) (map signed more) ∙ ap (λ (o : Option ℤ). merge o (top (map signed more))) at.numbers
      ∙ sym (top_append name (map signed (everything a)) (map signed more)) ∙ ap top (sym (map-append signed (everything a) more) ∙ ap (map signed) (sym (all_added a t added)))

  -- a courier's name is not forgotten
  numbers_stay : starts_with nat_eq name (codes "dlq/") ≡ true → (s : State) (n : ℕ) → IsAllKept s → top (known (trimmed n s)) ≡ top (known s)
  numbers_stay lasts s n all = elim (last_numbers name s n all.well.authors) [
    | inl is ↦ is
    | inr other ↦
        let apart = or_false (is_connected s name || starts_with nat_eq name (codes "dlq/")) (list_any (is_by name) (map signed (drop n s.log))) other.1 in
        absurd (true≢false (sym lasts ∙ (or_false (is_connected s name) (starts_with nat_eq name (codes "dlq/")) apart.0).1))
  ]

  pub topic_after : starts_with nat_eq name (codes "dlq/") ≡ true → (a : Topic) (e : Event) (r : Reply) (t : State) → Answers a.state e r t → IsTopic name a → IsTopic name (in_state a t)
  topic_after lasts a e r t h at = by (answer_goes a.state e r t h)
    where
      rising : IsRising a.state.log a.state.ledger
      rising = (all_kept a.state at.reached).order.kept.rising

      stay : AllByRecursion (Went t) a.past
      stay = each_goes a.state t a.past (λ x past. step_past x.position a.state e r t h rising past) at.past

      by : Goes a.state t → IsTopic name (in_state a t)
      by (inl added) =
          let same = none_went a t added.gone in
          record {
            reached = reached_step a.state e r t h at.reached;
            many = ap length same ∙ at.many ∙ sym added.gone;
            past = subst (AllByRecursion (Went t)) (sym same) stay;
            numbers = numbers_added a t added at;
          }
      by (inr out) =
          let n = out.0 in
          let are = out.1 in
          let so = so_many a.state t n out.2 in
          let within = are.within in
          let many = at.many in
          let gone = ap (λ (u : State). u.gone) out.2 in
          let first = length-take n a.state.log in
          let sum = length-append a.past (take n a.state.log) in
          let all = all_kept a.state at.reached in
          record {
            reached = reached_step a.state e r t h at.reached;
            many = ap (λ (k : ℕ). length (a.past ++ take k a.state.log)) so ∙ omega (arith, within, many, gone, first, sum);
            past = subst (λ (k : ℕ). AllByRecursion (Went t) (a.past ++ take k a.state.log)) (sym so)
                (all_append (Went t) a.past (take n a.state.log) stay (subst (λ (u : State). AllByRecursion (Went u) (take n a.state.log)) (sym out.2) (now_past a.state n are rising)));
            numbers = ap (λ (u : State). top (known u)) out.2 ∙ numbers_stay lasts a.state n all ∙ at.numbers ∙ ap (λ (log : List Entry). top (map signed log)) (sym (all_trimmed a t n out.2));
          }

  -- ---- a snapshot

  pub topic_gone : (a : Topic) → IsTopic name a → IsTopic name (gone_on a)
  topic_gone a at = record {
    reached = reached_restarted _ (reached_sound a.state at.reached);
    many = at.many;
    past = by a.past at.past;
    numbers = at.numbers;
  }
    where
      by : (es : List Entry) → AllByRecursion (Went a.state) es → AllByRecursion (Went (gone_on a).state) es
      by [] all = tt
      by (e ∷ es) all = (((all.0.0.0, later_ledger a.state.ledger _ _ e.position all.0.0.1 all.0.1), all.0.1), by es all.1)

  -- ---- a deletion

  pub topic_again : starts_with nat_eq name (codes "dlq/") ≡ true → (a : Topic) → IsDeletable a.state → IsTopic name a → IsTopic name (begun_again a)
  topic_again lasts a may at = record {
    reached = made_again_reached a.state at.reached may;
    many = all_had name a at;
    past = all_append (Went (begun_again a).state) a.past a.state.log (gone_before a.past at.past) (gone_now a.state.log (recursion_from_All _ a.state.log rising.below) (recursion_from_All _ a.state.log rising.bounded));
    numbers = made_again_couriers a.state at.reached name lasts ∙ at.numbers ∙ ap (λ (log : List Entry). top (map signed log)) (sym (append-nil (everything a)));
  }
    where
      rising : IsRising a.state.log a.state.ledger
      rising = (all_kept a.state at.reached).order.kept.rising

      gone_before : (es : List Entry) → AllByRecursion (Went a.state) es → AllByRecursion (Went (begun_again a).state) es
      gone_before [] all = tt
      gone_before (e ∷ es) all = ((past_made_again e.position all.0.1 a.state all.0.0.1, all.0.1), gone_before es all.1)

      gone_now : (es : List Entry) → AllByRecursion (λ (e : Entry). is_below a.state.ledger (used_after a.state.ledger a.state.log) e.position ≡ true) es → AllByRecursion (λ (e : Entry). e.position.ledger ≤ 2 ^ 62) es
          → AllByRecursion (Went (begun_again a).state) es
      gone_now [] below bounded = tt
      gone_now (e ∷ es) below bounded = ((past_made_again e.position bounded.0 a.state below.0, bounded.0), gone_now es below.1 bounded.1)

  pub topic_new : (topic : TopicName) (ledger_size : ℕ) → IsTopic name (new_topic topic ledger_size)
  topic_new topic ledger_size = record { reached = reached_fresh topic ledger_size; many = refl; past = tt; numbers = refl }
