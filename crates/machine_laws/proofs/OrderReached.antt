-- Every reached state keeps the order, and whatever is sent is the next in it.
use Rattle.std.proofs.Common.{◌≡◌, ℕ, ◌+◌, ◌-◌, ◌≤◌, drop, length-drop, List, [], ◌∷◌, ◌++◌, map, length, suc, take, Some, None, Option, Bool, true, false, cond, refl, ap, ◌∙◌, sym, subst, ap₂, arith, inl, inr, true≢false}
use Rattle.std.specs.Prelude.{not, ◌||◌, is_some, nat_lt, IsSomeAnd, if◌then◌else◌}
use Rattle.std.specs.List.{AllByRecursion, list_any, filter, find}
use Rattle.std.specs.List.Sorted.{IsStrictlySortedBy}
use Rattle.std.specs.Cmp.{Equal-is, tied_itself}
use Rattle.std.specs.declared.cmp.Ordering.TheVariants.{Less}
use Rattle.std.specs.FinMap as map_of
use Rattle.std.proofs.lemmas.List.{map-append, take-map}
use Rattle.std.proofs.lemmas.List.Folds.{Any-from_list_any}
use Rattle.std.specs.Option.{option_map, option_map_or}
use Rattle.position_core.specs.declared.position.Position.{Position}
use Rattle.position_core.specs.declared.message.Entry.{Entry}
use Rattle.position_core.specs.declared.held.Held.{Held}
use Rattle.position_core.specs.declared.kind.Kind.{Kind}
use Rattle.position_core.specs.declared.kind.Kind.TheVariants.{Exclusive, Failover, Shared, KeyShared}
use Rattle.position_core.specs.declared.fault.Fault.TheVariants.{SubscriptionBusy}
use Rattle.position_core.specs.Kind.{is_in_order}
use Rattle.position_core.specs.Position.{position_cmp, same_position, positions_total}
use Rattle.delivery_machine.specs.State.{State, Subscription, Member, fresh}
use Rattle.delivery_machine.specs.State as state
use Rattle.delivery_machine.specs.Words.{changed, removed, is_named, is_at, is_member, is_producer, is_held_by, is_held_at, is_live, has_position, active_at, emptied, emptied_at, next_position, visible, first_waiting, count_of, ChoosesBy, IsEligible, IsNextInOrder}
use Rattle.delivery_machine.specs.Refusals.{refusal_of, nacking_refused, dropping_refused, is_duplicate}
use Rattle.delivery_machine.specs.Producing.{durable_to, with_message, message_of, storing, storing_below}
use Rattle.delivery_machine.specs.Joining.{permitted, without_member, taken_over, all_released, is_taken_over}
use Rattle.delivery_machine.specs.Acknowledging.{Acks, acknowledging, is_one_of, with_acknowledged, forgetting, without, positions_up_to}
use Rattle.delivery_machine.specs.Delivering.{Dispatches, holding, given, sent, due_after}
use Rattle.delivery_machine.specs.Ticking.{Ticks, redelivering, redelivered, pending_positions}
use Rattle.delivery_machine.specs.Seeking.{seeking, sought, length_before, length_before_time, first_live}
use Rattle.delivery_machine.specs.Dying.{burying, letter_of, died, dying_at, first_safe, moving, moved}
use Rattle.delivery_machine.specs.Trimming.{is_done_with, without_messages, trimmed, Trims}
use Rattle.delivery_machine.specs.Run.{Run, Answers, Takes}
use Rattle.delivery_machine.specs.Snapshot.{Snapshot, restarted}
use Rattle.delivery_machine.specs.Laws.{IsBeginning, IsInOrderAtActive, SendsNextLive}
use Rattle.delivery_machine.specs.declared.event.Event.{Event}
use Rattle.delivery_machine.specs.declared.event.Event.TheVariants.{AddProducer, DropProducer, Publish, Stored, StoredTo, Progress, Subscribe, Leave, Permit, Ack, AckUpTo, Nack, Tick, Seek, SeekTime, Skip, DropSubscription, Stats, Trim, SetRetention, Dispatch, Collect, DeadNext, DeadDone}
use Rattle.delivery_machine.specs.declared.reply.Reply.{Reply}
use Rattle.delivery_machine.specs.declared.reply.Reply.TheVariants.{Sent, Idle, Quiet, Rewound, Released, Died, Trimmed, Untrimmed}
use Rattle.delivery_machine.proofs.RunSteps.{split, Run-keeps}
use Rattle.delivery_machine.proofs.Firsts.{some_elim, found_passes, found_mapped}
use Rattle.delivery_machine.proofs.Rising.{next_is_new}
use Rattle.delivery_machine.proofs.Behind.{IsIdle, same_name}
use Rattle.delivery_machine.proofs.Tended.{IsTended, position_is, some_is, got_inserted}
use Rattle.delivery_machine.proofs.Tending.{none_pending}
use Rattle.delivery_machine.proofs.Kept.{IsKept}
use Rattle.machine_laws.proofs.ReachedKept.{step_keeps, beginning_kept}
use Rattle.delivery_machine.proofs.EachFirst.{EachFirst, each_kept, each_changed, each_mapped, each_removed}
use Rattle.delivery_machine.proofs.HeldFirst.{ordered_push, ordered_longer, held_are_first, PassOnce, ordered_next, IsOrderedWith}
use Rattle.machine_laws.proofs.Ranks.{rank_of, KeepsRanks, ranks_changed, ranks_mapped, same_rank_if, same_active, same_seats, seats_at, active_number}
use Rattle.machine_laws.proofs.InOrder.{is_pending_in, IsOrderly, IsOrderlyIn, IsTakenFrom, taken_nothing, orderly_idle, orderly_taken}
use Rattle.machine_laws.proofs.Taking.{taken_acknowledged, taken_moved, taken_stored, taken_stored_to, taken_held_again, pending_listed, idle_redelivered}
use Rattle.machine_laws.proofs.OrderOverMembers.{IsOrderlyBut, each_taken_over, each_joined, each_left, emptied_ranks}
use Rattle.delivery_machine.proofs.Deciding.{holds_unless_refused, none_below}
use Rattle.delivery_machine.proofs.Trimmed.{IsGoing, are_going, all_weaker, positions_gone, others_stay, live_stays, done_over, ordered_dropped, ordered_same}

pub record AllOrderly (s : State) : Type 0 where
  pub durable : s.durable ≤ length s.log
  pub each : EachFirst (IsOrderlyIn s.log s.durable s.members) s.subscriptions

-- ---- changes of one subscription, or of members

same_taken : (sub : Subscription) → IsTakenFrom sub sub
same_taken sub = taken_nothing sub sub refl refl (λ e. refl) (λ e. refl) (λ p h is. (h, is, refl))

-- where messages are taken from the subscription of a name
each_taken : (s : State) (n : List ℕ) (f : Subscription → Subscription) (after : List Member) → ((sub : Subscription) → (f sub).name ≡ sub.name) → ((sub : Subscription) → find (is_named n) s.subscriptions ≡ Some sub → IsTakenFrom sub (f sub))
    → KeepsRanks s.members after → AllOrderly s → EachFirst (IsOrderlyIn s.log s.durable after) (changed (is_named n) f s.subscriptions)
each_taken s n f after names taken same all =
    each_changed (IsOrderlyIn s.log s.durable s.members) (IsOrderlyIn s.log s.durable after) n f s.subscriptions names
    (λ sub _ was. orderly_taken s.log s.durable s.members after sub sub (same_taken sub) same was)
    (λ sub found was. orderly_taken s.log s.durable s.members after sub (f sub) (taken sub found) same was)
    all.each

-- where everything is taken from it
each_emptied : (s : State) (n : List ℕ) (f : Subscription → Subscription) (after : List Member) → ((sub : Subscription) → (f sub).name ≡ sub.name) → ((sub : Subscription) → (f sub).kind ≡ sub.kind)
    → ((sub : Subscription) → find (is_named n) s.subscriptions ≡ Some sub → is_in_order sub.kind ≡ true → IsIdle (f sub))
    → KeepsRanks s.members after → AllOrderly s → EachFirst (IsOrderlyIn s.log s.durable after) (changed (is_named n) f s.subscriptions)
each_emptied s n f after names kinds idle same all =
    each_changed (IsOrderlyIn s.log s.durable s.members) (IsOrderlyIn s.log s.durable after) n f s.subscriptions names
    (λ sub _ was. orderly_taken s.log s.durable s.members after sub sub (same_taken sub) same was)
    (λ sub found was order.
    let before = sym (ap is_in_order (kinds sub)) ∙ order in
    orderly_idle s.log s.durable after (f sub) (idle sub found before)
    (λ exclusive. subst (λ (k : ℕ). k ≤ 1) (sym (same_seats s.members after (f sub).name same ∙ ap (seats_at s.members) (names sub))) ((was before).alone (sym (kinds sub) ∙ exclusive))))
    all.each

-- where only members change, and keep their ranks
each_same : (s : State) (after : List Member) → KeepsRanks s.members after → AllOrderly s → EachFirst (IsOrderlyIn s.log s.durable after) s.subscriptions
each_same s after same all =
    each_kept (IsOrderlyIn s.log s.durable s.members) (IsOrderlyIn s.log s.durable after) s.subscriptions (λ sub was. orderly_taken s.log s.durable s.members after sub sub (same_taken sub) same was) all.each

forgetting_ranks : (n : List ℕ) (positions : List Position) (members : List Member) → KeepsRanks members (map (forgetting n positions) members)
forgetting_ranks n positions members = ranks_mapped (forgetting n positions) (λ m. same_rank_if (is_at n m) m (record m { out = without positions m.out }) refl) members

-- ---- the events

order_acknowledged : (s : State) (n : List ℕ) (positions : List Position) → AllOrderly s → AllOrderly (with_acknowledged s n positions)
order_acknowledged s n positions all = record {
  durable = all.durable;
  each = each_taken s n (acknowledging positions) (map (forgetting n positions) s.members) (λ _. refl) (λ sub _. taken_acknowledged sub positions) (forgetting_ranks n positions s.members) all;
}

order_sought : (s : State) (n : List ℕ) (count : ℕ) → AllOrderly s → AllOrderly (sought s n count)
order_sought s n count all = record {
  durable = all.durable;
  each = each_emptied s n (seeking (take count s.log)) (map (emptied_at n) s.members) (λ _. refl) (λ _. refl) (λ sub _ _. none_pending) (emptied_ranks n s.members) all;
}

order_moved : (s : State) (n : List ℕ) (sub : Subscription) (letter : state.DeadLetter) → find (is_named n) s.subscriptions ≡ Some sub → first_safe sub ≡ Some letter → AllOrderly s → AllOrderly (moved s n letter)
order_moved s n sub letter found first all = record {
  durable = all.durable;
  each = each_taken s n (moving letter) (map (forgetting n (letter.position ∷ [])) s.members) (λ _. refl)
      (λ other there. taken_moved other letter (ap first_safe (some_is _ other sub there found) ∙ first)) (forgetting_ranks n (letter.position ∷ []) s.members) all;
}

not_in_order : (kind : Kind) → not (is_in_order kind) ≡ true → is_in_order kind ≡ true → ⊥
not_in_order kind other order = true≢false (sym other ∙ ap not order)

order_rewound : (s : State) (n : List ℕ) (sub : Subscription) → find (is_named n) s.subscriptions ≡ Some sub → IsKept s → AllOrderly s → AllOrderly (redelivered s n (pending_positions s sub))
order_rewound s n sub found kept all = record {
  durable = all.durable;
  each = each_emptied s n (redelivering (pending_positions s sub)) (map (forgetting n (pending_positions s sub)) s.members) (λ _. refl) (λ _. refl)
      (λ other there _. subst (λ (z : Subscription). IsIdle (redelivering (pending_positions s sub) z)) (some_is _ sub other found there) (idle_redelivered s sub (kept.tended.first n sub found).in_log))
      (forgetting_ranks n (pending_positions s sub) s.members) all;
}

-- in a subscription in which the order is not kept
order_released : (s : State) (n : List ℕ) (sub : Subscription) (positions : List Position) → find (is_named n) s.subscriptions ≡ Some sub → not (is_in_order sub.kind) ≡ true → AllOrderly s → AllOrderly (redelivered s n positions)
order_released s n sub positions found other all = record {
  durable = all.durable;
  each = each_emptied s n (redelivering positions) (map (forgetting n positions) s.members) (λ _. refl) (λ _. refl)
      (λ x there order. absurd (not_in_order sub.kind other (ap (λ (z : Subscription). is_in_order z.kind) (some_is _ sub x found there) ∙ order)))
      (forgetting_ranks n positions s.members) all;
}

order_died : (s : State) (n : List ℕ) (sub : Subscription) (position : Position) (m : Member) → find (is_named n) s.subscriptions ≡ Some sub → not (is_in_order sub.kind) ≡ true → AllOrderly s → AllOrderly (died s n position m)
order_died s n sub position m found other all = record {
  durable = all.durable;
  each = each_emptied s n (burying (letter_of s position m)) (map (forgetting n (position ∷ [])) s.members) (λ _. refl) (λ _. refl)
      (λ x there order. absurd (not_in_order sub.kind other (ap (λ (z : Subscription). is_in_order z.kind) (some_is _ sub x found there) ∙ order)))
      (forgetting_ranks n (position ∷ []) s.members) all;
}

-- more is stored
order_stored : (s : State) (storing : Subscription → Subscription) (durable : ℕ) → ((sub : Subscription) → IsTakenFrom sub (storing sub)) → ((sub : Subscription) → (storing sub).name ≡ sub.name)
    → s.durable ≤ durable → durable ≤ length s.log → AllOrderly s → AllOrderly (record s { durable = durable; subscriptions = map storing s.subscriptions })
order_stored s storing durable takes same more within all = record {
  durable = within;
  each = each_mapped (IsOrderlyIn s.log s.durable s.members) (IsOrderlyIn s.log durable s.members) storing s.subscriptions same
      (λ sub was. orderly_taken s.log durable s.members s.members sub (storing sub) (takes sub) refl (longer sub was))
      all.each;
}
  where
    longer : (sub : Subscription) → IsOrderlyIn s.log s.durable s.members sub → IsOrderlyIn s.log durable s.members sub
    longer sub was order =
        let one = was order in
        record { leads = ordered_longer (is_live sub) (is_pending_in sub) s.durable durable s.log more one.leads; at_active = one.at_active; alone = one.alone }

order_published : (s : State) (e : Entry) → e.position ≡ next_position s → IsKept s → AllOrderly s → AllOrderly (with_message s e)
order_published s e is kept all = record {
  durable = let below = all.durable in let longer = length_push s.log in omega (arith, below, longer);
  each = λ name sub found order.
      let one = all.each name sub found order in
      record {
        leads = ordered_push (is_live sub) (is_pending_in sub) s.durable s.log e all.durable (new sub (kept.tended.first name sub found)) one.leads;
        at_active = one.at_active;
        alone = one.alone;
      };
}
  where
    length_push : (xs : List Entry) → length (xs ++ e ∷ []) ≡ length xs + 1
    length_push [] = refl
    length_push (x ∷ xs) = let rest = length_push xs in omega (arith, rest)

    nowhere : list_any (has_position e.position) s.log ≡ true → ⊥
    nowhere any =
        let there = Any-from_list_any (has_position e.position) s.log any in
        next_is_new s kept.rising there.1 (there.0, there.2, there.3) (position_is there.1.position e.position there.4 ∙ is)

    new : (sub : Subscription) → IsTended s.log s.members sub.name sub.kind sub.pending → is_pending_in sub e ≡ false
    new sub tended = by (map_of.get sub.pending e.position) refl
      where
        by : (o : Option Held) → map_of.get sub.pending e.position ≡ o → is_some o ≡ false
        by None got = refl
        by (Some h) got = absurd (nowhere (tended.in_log e.position h got))

-- the first messages go, which are neither live nor pending
order_trimmed : (s : State) (n : ℕ) → IsGoing s n → IsKept s → AllOrderly s → AllOrderly (trimmed n s)
order_trimmed s n are kept all = record {
  durable = let below = all.durable in let shorter = length-drop n s.log in omega (arith, below, shorter);
  each = λ name sub found.
      let was = found_mapped (is_named name) (without_messages (positions_gone n s.log)) (λ x. refl) s.subscriptions sub found in
      subst (IsOrderlyIn (drop n s.log) (s.durable - n) s.members) (sym was.2) (orderly name was.0 was.1);
}
  where
    stay : (sub : Subscription) → (log : List Entry) → AllByRecursion (λ e. is_one_of (positions_gone n s.log) e.position ≡ false) log
        → AllByRecursion (λ e. (is_live (without_messages (positions_gone n s.log) sub) e ≡ is_live sub e) × (is_pending_in (without_messages (positions_gone n s.log) sub) e ≡ is_pending_in sub e)) log
    stay sub = all_weaker (λ e. is_one_of (positions_gone n s.log) e.position ≡ false)
        (λ e. (is_live (without_messages (positions_gone n s.log) sub) e ≡ is_live sub e) × (is_pending_in (without_messages (positions_gone n s.log) sub) e ≡ is_pending_in sub e))
        (λ e none. (live_stays (positions_gone n s.log) sub e none, refl))

    orderly : (name : List ℕ) (sub : Subscription) → find (is_named name) s.subscriptions ≡ Some sub → IsOrderlyIn (drop n s.log) (s.durable - n) s.members (without_messages (positions_gone n s.log) sub)
    orderly name sub found order =
        let one = all.each name sub found order in
        record {
          leads =
              ordered_same (is_live sub) (is_pending_in sub) (is_live (without_messages (positions_gone n s.log) sub)) (is_pending_in (without_messages (positions_gone n s.log) sub)) (s.durable - n) (drop n s.log)
              (stay sub (drop n s.log) (others_stay n s.log kept.rising.sorted))
              ∙ ordered_dropped (is_live sub) (is_pending_in sub) n s.durable (s.durable - n) s.log refl
              (all_weaker (λ e. is_done_with e sub ≡ true) (λ e. (is_live sub e ≡ false) × (is_pending_in sub e ≡ false)) (done_over sub) (take n s.log) (are.done name sub found)) one.leads;
          at_active = one.at_active;
          alone = one.alone;
        }

order_dropped : (s : State) (n : List ℕ) → seats_at s.members n ≡ 0 → IsKept s → AllOrderly s → AllOrderly (record s { subscriptions = removed (is_named n) s.subscriptions })
order_dropped s n nobody kept all = record {
  durable = all.durable;
  each = each_removed (IsOrderlyIn s.log s.durable s.members) (IsOrderlyIn s.log s.durable s.members) n s.subscriptions kept.tended.behind (λ sub was. was)
      (λ sub named idle order. orderly_idle s.log s.durable s.members sub idle (λ _. let none = ap (seats_at s.members) named ∙ nobody in omega (arith, none)))
      all.each;
}

-- ---- sending

-- no two messages of the log have one position
once : (p : Position) (log : List Entry) → IsStrictlySortedBy position_cmp (map (λ e. e.position) log) → PassOnce (has_position p) log
unfolding IsStrictlySortedBy
once p [] rising = tt
once p (e ∷ log) rising = (λ here. none log (subst (λ (q : Position). AllByRecursion (λ k. position_cmp q k ≡ Less) (map (λ e. e.position) log)) (position_is e.position p here) rising.0), once p log rising.1)
  where
    never : position_cmp p p ≡ Less → ⊥
    never less = let tied = tied_itself positions_total p in cc

    apart : (x : Entry) → position_cmp p x.position ≡ Less → has_position p x ≡ false
    apart x above = by (has_position p x) refl
      where
        by : (b : Bool) → has_position p x ≡ b → b ≡ false
        by false f = refl
        by true t = absurd (never (ap (position_cmp p) (sym (position_is x.position p t)) ∙ above))

    none : (xs : List Entry) → AllByRecursion (λ k. position_cmp p k ≡ Less) (map (λ e. e.position) xs) → list_any (has_position p) xs ≡ false
    none [] above = refl
    none (x ∷ xs) above = ap₂ (λ a b. a || b) (apart x above.0) (none xs above.1)

-- with one message more that is pending
with_next : (s : State) (sub : Subscription) (e : Entry) (held : Entry → Bool) → ((x : Entry) → held x ≡ (is_pending_in sub x || has_position e.position x)) → IsKept s → IsOrderly s.log s.durable s.members sub → first_waiting s sub ≡ Some e
    → IsOrderedWith (is_live sub) held (is_pending_in sub) s.durable s.log e
with_next s sub e held too kept one first =
    ordered_next (is_live sub) (is_pending_in sub) (has_position e.position) held too s.durable s.log e
    ((Equal-is (position_cmp e.position e.position)).1 (tied_itself positions_total e.position)) (once e.position s.log kept.rising.sorted) one.leads first

in_order_choice : (kind : Kind) (s : State) (sub : Subscription) (e : Entry) (m : Member) → is_in_order kind ≡ true → ChoosesBy kind s sub e m → IsNextInOrder s sub e m
in_order_choice Exclusive s sub e m order choice = choice
in_order_choice Failover s sub e m order choice = choice
in_order_choice Shared s sub e m order choice = cc
in_order_choice KeyShared s sub e m order choice = cc

order_sent : (s : State) (n : List ℕ) (sub : Subscription) (e : Entry) (m : Member) (now : ℕ) → find (is_named n) s.subscriptions ≡ Some sub → IsEligible s sub e m → IsKept s → AllOrderly s → AllOrderly (sent s n sub e m now)
order_sent s n sub e m now found eligible kept all = record {
  durable = all.durable;
  each = each_changed (IsOrderlyIn s.log s.durable s.members) (IsOrderlyIn s.log s.durable (sent s n sub e m now).members) n (holding e.position (record { consumer = m.number; due = due_after now m.ack_timeout })) s.subscriptions (λ _. refl)
      (λ other _ was. orderly_taken s.log s.durable s.members (sent s n sub e m now).members other other (same_taken other) same was)
      (λ other there was. subst (λ (z : Subscription). IsOrderlyIn s.log s.durable (sent s n sub e m now).members (holding e.position (record { consumer = m.number; due = due_after now m.ack_timeout }) z)) (some_is _ sub other found there) here)
      all.each;
}
  where
    same : KeepsRanks s.members (sent s n sub e m now).members
    same = ranks_changed (is_member m.number) (given (record { message = e; count = count_of sub e.position })) (λ _. refl) s.members

    held_too : (x : Entry) → is_pending_in (holding e.position (record { consumer = m.number; due = due_after now m.ack_timeout }) sub) x ≡ (is_pending_in sub x || has_position e.position x)
    held_too x =
        ap is_some (map_of.get-insert positions_total sub.pending e.position (record { consumer = m.number; due = due_after now m.ack_timeout }) x.position)
        ∙ by (same_position x.position e.position) (map_of.get sub.pending x.position)
      where
        by : (b : Bool) (o : Option Held) → is_some (cond b (Some (record { consumer = m.number; due = due_after now m.ack_timeout })) o) ≡ (is_some o || b)
        by true None = refl
        by true (Some h) = refl
        by false None = refl
        by false (Some h) = refl

    here : IsOrderlyIn s.log s.durable (sent s n sub e m now).members (holding e.position (record { consumer = m.number; due = due_after now m.ack_timeout }) sub)
    here order =
        let one = all.each n sub found order in
        let choice = in_order_choice sub.kind s sub e m order eligible.1 in
        record {
          leads = (with_next s sub e (is_pending_in (holding e.position (record { consumer = m.number; due = due_after now m.ack_timeout }) sub)) held_too kept one choice.0).ordered;
          at_active = λ p h is. same_active s.members (sent s n sub e m now).members sub.name same ∙ elim (got_inserted sub.pending e.position (record { consumer = m.number; due = due_after now m.ack_timeout }) p h is) [
            | inl new ↦ ap (option_map (λ m. m.number)) choice.1 ∙ sym (ap (λ (z : Held). Some z.consumer) new.1)
            | inr old ↦ one.at_active p h old
          ];
          alone = λ exclusive. subst (λ (k : ℕ). k ≤ 1) (sym (same_seats s.members (sent s n sub e m now).members sub.name same)) (one.alone exclusive);
        }

-- ---- each step

settled : (t u : State) → t ≡ u → AllOrderly u → AllOrderly t
settled t u is all = subst AllOrderly (sym is) all

publish_orders : (s : State) (e : Entry) (t : State) (duplicate : Bool) → e.position ≡ next_position s → t ≡ (if duplicate then s else with_message s e) → IsKept s → AllOrderly s → AllOrderly t
publish_orders s e t true at is kept all = settled t s is all
publish_orders s e t false at is kept all = settled t (with_message s e) is (order_published s e at kept all)

acks_order : (s : State) (consumer : ℕ) (positions : List Position) (reply : Reply) (t : State) → Acks s consumer positions reply t → AllOrderly s → AllOrderly t
acks_order s consumer positions reply t h all =
    some_elim (find (is_member consumer) s.members) _ (AllOrderly t) h.1 (λ m found is. settled t _ is (order_acknowledged s m.subscription positions all))

tick_orders : (s : State) (name : List ℕ) (now : ℕ) (sub : Subscription) (reply : Reply) (t : State) → find (is_named name) s.subscriptions ≡ Some sub → Ticks s name now sub reply t → IsKept s → AllOrderly s → AllOrderly t
tick_orders s name now sub Quiet t found h kept all = settled t s h.1 all
tick_orders s name now sub (Rewound count) t found h kept all = settled t _ h.3 (order_rewound s name sub found kept all)
tick_orders s name now sub (Released position) t found h kept all = settled t _ h.3 (order_released s name sub (position ∷ []) found h.0 all)
tick_orders s name now sub (Died position ordinal) t found h kept all =
    some_elim (dying_at s sub position) _ (AllOrderly t) h.3 (λ m at is. settled t _ is (order_died s name sub position m found h.0 all))
tick_orders s name now sub reply t found h kept all = absurd h

dispatch_orders : (s : State) (name : List ℕ) (now : ℕ) (sub : Subscription) (reply : Reply) (t : State) → find (is_named name) s.subscriptions ≡ Some sub → Dispatches s name now sub reply t → IsKept s → AllOrderly s → AllOrderly t
dispatch_orders s name now sub (Sent consumer position count) t found h kept all = settled t _ h.6 (order_sent s name sub h.0 h.1 now found h.2 kept all)
dispatch_orders s name now sub Idle t found h kept all = settled t s h.1 all
dispatch_orders s name now sub reply t found h kept all = absurd h

-- a subscription that may be dropped has no members
pub nobody_there : (s : State) (name : List ℕ) (o : Option Subscription) → dropping_refused s name o ≡ None → seats_at s.members name ≡ 0
nobody_there s name None allowed = cc
nobody_there s name (Some sub) allowed = none_below (seats_at s.members name) (first (nat_lt 0 (seats_at s.members name)) (nat_lt 0 (length sub.dead)) allowed)
  where
    first : (a b : Bool) → (if a || b then Some SubscriptionBusy else None) ≡ None → a ≡ false
    first false b e = refl
    first true b e = cc

order_members : (s : State) (q : Member → Bool) (f : Member → Member) → ((m : Member) → rank_of (f m) ≡ rank_of m) → AllOrderly s → AllOrderly (record s { members = changed q f s.members })
order_members s q f same all = record { durable = all.durable; each = each_same s (changed q f s.members) (ranks_changed q f same s.members) all }

order_nacked : (s : State) (m : Member) (consumer : ℕ) (position : Position) (due : Option ℕ) → nacking_refused s consumer position (Some m) ≡ None → AllOrderly s
    → AllOrderly (record s { subscriptions = changed (is_named m.subscription) (holding position (record { consumer = consumer; due = due })) s.subscriptions })
order_nacked s m consumer position due allowed all = record {
  durable = all.durable;
  each = each_taken s m.subscription (holding position (record { consumer = consumer; due = due })) s.members (λ _. refl)
      (λ sub found. taken_held_again sub position (record { consumer = consumer; due = due })
      (sym (ap (λ o. option_map_or (λ (sub : Subscription). is_held_by consumer (map_of.get sub.pending position)) o false) found) ∙ held))
      refl all;
}
  where
    held : is_held_at s m.subscription consumer position ≡ true
    held = holds_unless_refused _ _ allowed

order_over : (s : State) (n : List ℕ) (before : Option ℕ) → s.durable ≤ length s.log → EachFirst (IsOrderlyBut s.log s.durable s.members n before) s.subscriptions → AllOrderly (taken_over n before s)
order_over s n before low all = record { durable = by (is_taken_over n before s); each = each_taken_over s n before all }
  where
    by : (b : Bool) → (if b then all_released n s else s).durable ≤ length (if b then all_released n s else s).log
    by true = low
    by false = low

trims_order : (s : State) (keep before most : ℕ) (reply : Reply) (t : State) → Trims s keep before most reply t → IsKept s → AllOrderly s → AllOrderly t
trims_order s keep before most (Trimmed gone) t h kept all = settled t _ h.2 (order_trimmed s _ (are_going s keep before most h.0) kept all)
trims_order s keep before most Untrimmed t h kept all = settled t s h.1 all
trims_order s keep before most reply t h kept all = absurd h

takes_order : (s : State) (event : Event) (reply : Reply) (t : State) → refusal_of s event ≡ None → Takes s event reply t → IsKept s → AllOrderly s → AllOrderly t
takes_order s (AddProducer name base) reply t allowed h kept all = settled t _ h.3.1 (record { durable = all.durable; each = all.each })
takes_order s (DropProducer producer) reply t allowed h kept all = settled t _ h.1 (record { durable = all.durable; each = all.each })
takes_order s (Publish producer sequence body now) reply t allowed h kept all =
    some_elim (find (is_producer producer) s.producers) _ (AllOrderly t) h (λ p found h.
    publish_orders s (message_of s p sequence body now) t (is_duplicate s p sequence) refl h.1 kept all)
takes_order s Stored reply t allowed h kept all =
    settled t _ h.1 (order_stored s storing (length s.log) taken_stored (λ _. refl) all.durable (omega arith) all)
takes_order s (StoredTo count ordinal) reply t allowed h kept all =
    let below = all.durable in
    settled t _ h.1 (order_stored s (storing_below ordinal) (durable_to s count) (taken_stored_to ordinal) (λ _. refl) (omega arith) (omega arith) all)
takes_order s Progress reply t allowed h kept all = settled t s h.1 all
takes_order s (Subscribe name kind level flow ack_timeout nack_delay max_redeliver dead_topic initial ranges) reply t allowed h kept all =
    settled t _ h.1 (order_over _ name (active_at s name) all.durable (each_joined s kind ranges initial _ allowed kept all.each))
takes_order s (Leave consumer) reply t allowed h kept all =
    some_elim (find (is_member consumer) s.members) _ (AllOrderly t) h.1 (λ m found is.
    settled t _ is (order_over (without_member s consumer m.subscription) m.subscription (active_at s m.subscription) all.durable (each_left s consumer m found kept all.each)))
takes_order s (Permit consumer permits) reply t allowed h kept all = settled t _ h.1 (order_members s (is_member consumer) (permitted permits) (λ _. refl) all)
takes_order s (Ack consumer position) reply t allowed h kept all = acks_order s consumer (position ∷ []) reply t h all
takes_order s (AckUpTo consumer position) reply t allowed h kept all = acks_order s consumer (positions_up_to position s.log) reply t h all
takes_order s (Nack consumer position now) reply t allowed h kept all =
    some_elim (find (is_member consumer) s.members) _ (AllOrderly t) h.1 (λ m found is.
    settled t _ is (order_nacked s m consumer position (Some (now + m.nack_delay)) (sym (ap (nacking_refused s consumer position) found) ∙ allowed) all))
takes_order s (Tick name now) reply t allowed h kept all =
    some_elim (find (is_named name) s.subscriptions) _ (AllOrderly t) h (λ sub found h. tick_orders s name now sub reply t found h kept all)
takes_order s (Seek name target) reply t allowed h kept all = settled t _ h.1 (order_sought s name (length_before s target) all)
takes_order s (SeekTime name time) reply t allowed h kept all = settled t _ h.1 (order_sought s name (length_before_time s time) all)
takes_order s (Skip name count) reply t allowed h kept all =
    some_elim (find (is_named name) s.subscriptions) _ (AllOrderly t) h (λ sub found h. settled t _ h.1 (order_acknowledged s name (first_live s sub count) all))
takes_order s (DropSubscription name) reply t allowed h kept all = settled t _ h.1 (order_dropped s name (nobody_there s name (find (is_named name) s.subscriptions) allowed) kept all)
takes_order s (Stats name) reply t allowed h kept all = some_elim (find (is_named name) s.subscriptions) _ (AllOrderly t) h (λ sub found h. settled t s h.1 all)
takes_order s (Trim keep before most) reply t allowed h kept all = trims_order s keep before most reply t h kept all
takes_order s (SetRetention retention) reply t allowed h kept all = settled t _ h.1 (record { durable = all.durable; each = all.each })
takes_order s (Dispatch name now) reply t allowed h kept all =
    some_elim (find (is_named name) s.subscriptions) _ (AllOrderly t) h (λ sub found h. dispatch_orders s name now sub reply t found h kept all)
takes_order s (Collect consumer) reply t allowed h kept all = settled t _ h.1 (order_members s (is_member consumer) emptied (λ _. refl) all)
takes_order s (DeadNext name) reply t allowed h kept all = some_elim (find (is_named name) s.subscriptions) _ (AllOrderly t) h (λ sub found h. settled t s h.1 all)
takes_order s (DeadDone name ordinal) reply t allowed h kept all =
    some_elim (find (is_named name) s.subscriptions) _ (AllOrderly t) h (λ sub found h.
    some_elim (first_safe sub) _ (AllOrderly t) h.1 (λ d first is. settled t _ is (order_moved s name sub d found first all)))

step_orders : (s : State) (event : Event) (reply : Reply) (t : State) → Answers s event reply t → IsKept s → AllOrderly s → AllOrderly t
step_orders s event reply t h kept all =
    elim (split s event reply t h) [
      | inl same ↦ settled t s same all
      | inr taken ↦ takes_order s event reply t taken.0 taken.1 kept all
    ]

-- ---- where a run begins

from_snapshot : (kept : Snapshot) → IsKept (restarted kept) → (name : List ℕ) (sub : Subscription) → find (is_named name) (restarted kept).subscriptions ≡ Some sub → IsOrderlyIn kept.log (length kept.log) [] sub
from_snapshot kept is name sub found order =
    orderly_idle kept.log (length kept.log) [] sub (λ p h got. true≢false (sym ((is.tended.first name sub found).at_members p h got))) (λ _. omega arith)

beginning_ordered : (s : State) → IsBeginning s → IsKept s → AllOrderly s
beginning_ordered s begins kept = elim begins [
  | inl new ↦ settled s _ new.2 (record { durable = omega arith; each = λ name sub found. cc })
  | inr old ↦ settled s _ old.2 (record { durable = omega arith; each = from_snapshot old.0 (subst IsKept old.2 kept) })
]

-- what every reached state keeps, with the order
pub record IsKeptInOrder (s : State) : Type 0 where
  pub kept : IsKept s
  pub all : AllOrderly s

pub step_in_order : (s : State) (event : Event) (reply : Reply) (t : State) → Answers s event reply t → IsKeptInOrder s → IsKeptInOrder t
step_in_order s event reply t step both = record { kept = step_keeps s event reply t step both.kept; all = step_orders s event reply t step both.kept both.all }

pub beginning_in_order : (s : State) → IsBeginning s → IsKeptInOrder s
beginning_in_order s begins = record { kept = beginning_kept s begins; all = beginning_ordered s begins (beginning_kept s begins) }

pub reached_ordered : (s : State) (events : List Event) (replies : List Reply) (t : State) → IsBeginning s → Run s events replies t → IsKeptInOrder t
reached_ordered s events replies t begins run = Run-keeps IsKeptInOrder step_in_order s events replies t run (beginning_in_order s begins)

-- ---- what a reader sees

length_mapped : (xs : List Entry) → length (map (λ (e : Entry). e.position) xs) ≡ length xs
length_mapped [] = refl
length_mapped (x ∷ xs) = ap (λ n. suc n) (length_mapped xs)

-- positions of messages that are the first of others
positions_first : (xs ys : List Entry) → xs ≡ take (length xs) ys → map (λ (e : Entry). e.position) xs ≡ take (length (map (λ (e : Entry). e.position) xs)) (map (λ (e : Entry). e.position) ys)
positions_first xs ys is =
    ap (map (λ (e : Entry). e.position)) is ∙ sym (take-map (λ (e : Entry). e.position) (length xs) ys)
    ∙ ap (λ n. take n (map (λ (e : Entry). e.position) ys)) (sym (length_mapped xs))

pub in_order_at_active : (t : State) (sub : Subscription) → ((p : Position) (h : Held) → map_of.get sub.pending p ≡ Some h → list_any (has_position p) t.log ≡ true) → IsOrderly t.log t.durable t.members sub → IsInOrderAtActive t sub
in_order_at_active t sub in_log one = (
  positions_first (filter (is_pending_in sub) t.log) (filter (is_live sub) (visible t)) (held_are_first (is_live sub) (is_pending_in sub) t.durable t.log one.leads),
  λ p h is. (pending_listed t sub in_log p h is, one.at_active p h is),
)

pub sends_next_live : (t : State) (name : List ℕ) (sub : Subscription) → find (is_named name) t.subscriptions ≡ Some sub → is_in_order sub.kind ≡ true → IsKept t → IsOrderly t.log t.durable t.members sub → SendsNextLive t name sub
sends_next_live t name sub found order kept one now consumer count position u answer =
    let sent : Dispatches t name now sub (Sent consumer position count) u = subst (λ (o : Option Subscription). IsSomeAnd o (λ z. Dispatches t name now z (Sent consumer position count) u)) found answer.1 in
    let e : Entry = sent.0 in
    let choice = in_order_choice sub.kind t sub sent.0 sent.1 order sent.2.1 in
    let held : Entry → Bool = λ x. is_pending_in sub x || has_position e.position x in
    let next = with_next t sub e held (λ x. refl) kept one choice.0 in
    let pushed : map (λ (x : Entry). x.position) (filter held t.log) ≡ pending_positions t sub ++ position ∷ [] =
    ap (map (λ (x : Entry). x.position)) next.last ∙ map-append (λ (x : Entry). x.position) (filter (is_pending_in sub) t.log) (e ∷ []) ∙ ap (λ p. pending_positions t sub ++ p ∷ []) (sym sent.4) in
    let firsts = positions_first (filter held t.log) (filter (is_live sub) (visible t)) (held_are_first (is_live sub) held t.durable t.log next.ordered) in
    let longer : length (map (λ (x : Entry). x.position) (filter held t.log)) ≡ length (pending_positions t sub) + 1 = ap (λ (ps : List Position). length ps) pushed ∙ one_more (pending_positions t sub) position in
    let named : sub.name ≡ name = same_name sub.name name (found_passes (is_named name) t.subscriptions sub found) in (
      ap (λ n. take n (map (λ (x : Entry). x.position) (filter (is_live sub) (visible t)))) (sym longer) ∙ sym firsts ∙ pushed,
      sym (ap (active_number t.members) named) ∙ ap (option_map (λ (m : Member). m.number)) choice.1 ∙ ap Some (sym sent.3),
    )
  where
    one_more : (ps : List Position) (p : Position) → length (ps ++ p ∷ []) ≡ length ps + 1
    one_more [] p = refl
    one_more (q ∷ ps) p = let rest = one_more ps p in omega (arith, rest)
