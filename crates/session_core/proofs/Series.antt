-- What each step adds to what a session asks of its own accord.
use Rattle.std.proofs.lemmas.Bool.{eqb-true, leb-true}
use Rattle.std.proofs.lemmas.List.{drop_all, nil_from_length}
use Rattle.session_texts.specs.Unsent.{collected, answering}
use Rattle.std.proofs.Common.{ℤ, Result, ◌&&◌, ◌==◌, nat_le, map, drop, append-nil, ◌≡◌, ℕ, ◌+◌, ◌≤◌, ◌<◌, List, [], ◌∷◌, ◌++◌, length, Bool, true, false, Option, Some, None, Ok, Err, inl, inr, refl, sym, ap, ◌∙◌, subst, arith, option_map}
use Rattle.std.specs.Option.{option_or}
use Rattle.std.specs.Prelude.{IfErr, IfOk}
use Rattle.delivery_machine.specs.declared.event.Event.{Event}
use Rattle.delivery_machine.specs.declared.event.Event.TheVariants.{Collect, Dispatch, Progress, Tick}
use Rattle.delivery_machine.specs.declared.reply.Reply.{Reply}
use Rattle.delivery_machine.specs.declared.reply.Reply.TheVariants.{Refused}
use Rattle.session_links.specs.Links.{Call, Tells, event_call, with_call}
use Rattle.session_texts.specs.declared.close.Close.{Close}
use Rattle.session_texts.specs.declared.party.Party.TheVariants.{Producer, Consumer, Admin}
use Rattle.session_core.specs.declared.dues.Dues.{Dues}
use Rattle.session_core.specs.declared.session.Session.{Session}
use Rattle.session_core.specs.Held.{holds_nothing, unsent_of}
use Rattle.session_texts.specs.Outcomes.{own_close}
use Rattle.session_core.specs.declared.stop.Stop.{Stop}
use Rattle.session_core.specs.declared.stop.Stop.TheVariants.{Closed}
use Rattle.session_core.specs.Turns.{and_then}
use Rattle.session_core.specs.Asking.{AllLeftMore, Asked, AsksAll, AsksAs, IsSeries, IsWhole, asked_nothing, close_after, close_of_asked, copies_in, copies_of, durable_after, leaves_more}
use Rattle.session_core.specs.Steps.{AsksBoth, AsksCollect, AsksOne, AsksOwn, AsksProgress, AsksSeries, AsksSome, EndsAsking, EndsSeries, Rests, StopsSo, may_send}
use Rattle.session_core.proofs.Telling.{tells_nothing, tells_then}

-- one was asked, and what follows is by its reply
pub asked_so : (event : Event) (c d : Option (List Call)) (reply : Reply) (result : Result Bool Stop) → Tells (with_call (event_call event reply)) c d
    → IfOk result (λ more. (own_close reply ≡ None) × (leaves_more reply ≡ more)) → IfErr result (λ stop. option_map Closed (own_close reply) ≡ Some stop) → AsksOne event c result d
asked_so event c d reply (Ok more) tells ok err = (reply, tells, ok.0, ok.1)
asked_so event c d reply (Err stop) tells ok err = inl (reply, tells, err)

-- none was asked yet
pub asked_none : (event : Event) (c : Option (List Call)) → AsksSome event 0 c c
asked_none event c = record { calls = []; left = tt; as_many = refl; tells = tells_nothing _ c (λ x. refl) }

-- one more was asked, and left more
pub asked_one : (event : Event) (n : ℕ) (c d e : Option (List Call)) → AsksSome event n c d → AsksOne event d (Ok true) e → AsksSome event (n + 1) c e
asked_one event n c d e k (reply, tells, closes, more) = record {
  calls = event_call event reply ∷ k.calls;
  left = (refl, more, k.left);
  as_many = let m = k.as_many in omega (arith, m);
  tells = tells_then _ _ _ c d e k.tells tells (λ x. refl);
}

-- the last one was asked
pub asked_last : (event : Event) (n : ℕ) (c d e : Option (List Call)) → AsksSome event n c d → n < 64 → AsksOne event d (Ok false) e → AsksSeries event c None e
asked_last event n c d e k less (reply, tells, closes, more) = record {
  calls = event_call event reply ∷ k.calls;
  series = (refl, k.left, let m = k.as_many in omega (arith, m, less));
  tells = tells_then _ _ _ c d e k.tells tells (λ x. refl);
  ends = subst (λ x. EndsSeries x (event_call event reply ∷ k.calls) None) (sym closes) (inl (refl, inl more));
}

-- a reply that leaves more closes nothing
pub more_is_open : (reply : Reply) → leaves_more reply ≡ true → own_close reply ≡ None
more_is_open (Refused fault) more = absurd (cc)
more_is_open reply more = refl

-- calls that left more close nothing
pub all_more_open : (event : Event) (calls : List Call) → AllLeftMore event calls → close_after calls ≡ None
all_more_open event [] k = refl
all_more_open event (call ∷ before) (is, more, k) = more_is_open call.reply more

-- calls that left more are a series
pub all_more_series : (event : Event) (calls : List Call) → AllLeftMore event calls → length calls ≤ 64 → IsSeries event calls
all_more_series event [] k few = tt
all_more_series event (call ∷ before) (is, more, k) few = (is, k, few)

-- 64 were asked
pub asked_all : (event : Event) (n : ℕ) (c d : Option (List Call)) → AsksSome event n c d → n ≡ 64 → AsksSeries event c None d
asked_all event n c d k all = record {
  calls = k.calls;
  series = all_more_series event k.calls k.left (let m = k.as_many in omega (arith, m, all));
  tells = k.tells;
  ends = subst (λ x. EndsSeries x k.calls None) (sym (all_more_open event k.calls k.left)) (inl (refl, is_whole k.calls (k.as_many ∙ all)));
}
  where
    is_whole : (calls : List Call) → length calls ≡ 64 → IsWhole calls
    is_whole [] e = absurd (omega (arith, e))
    is_whole (call ∷ before) e = inr e

-- the session ends
pub asked_end : (event : Event) (n : ℕ) (c d e : Option (List Call)) (stop : Stop) → AsksSome event n c d → n < 64 → AsksOne event d (Err stop) e → AsksSeries event c (Some stop) e
asked_end event n c d e stop k less (inl (reply, tells, closes)) = record {
  calls = event_call event reply ∷ k.calls;
  series = (refl, k.left, let m = k.as_many in omega (arith, m, less));
  tells = tells_then _ _ _ c d e k.tells tells (λ x. refl);
  ends = closes_so (own_close reply) closes;
}
  where
    closes_so : (close : Option Close) → option_map Closed close ≡ Some stop → EndsSeries close (event_call event reply ∷ k.calls) (Some stop)
    closes_so None x = absurd (cc)
    closes_so (Some y) x = sym x
asked_end event n c d e stop k less (inr (wants, same)) = record {
  calls = k.calls;
  series = all_more_series event k.calls k.left (let m = k.as_many in omega (arith, m, less));
  tells = subst (λ x. Tells (λ all. and_then all k.calls) c x) (sym same) k.tells;
  ends = subst (λ x. EndsSeries x k.calls (Some stop)) (sym (all_more_open event k.calls k.left)) (inr (ap Some wants));
}

-- no close is of no stop, and a close of its stop
pub closes_none : (close : Option Close) → None ≡ option_map Closed close → close ≡ None
closes_none None x = refl
closes_none (Some y) x = absurd (cc)

pub closes_some : (close : Option Close) (stop : Stop) → Some stop ≡ option_map Closed close → StopsSo close stop
closes_some None stop x = absurd (cc)
closes_some (Some y) stop x = cc

-- a series that did not end the session is whole and closes nothing
pub series_whole : (close : Option Close) (calls : List Call) → EndsSeries close calls None → (close ≡ None) × IsWhole calls
series_whole None calls (inl (e, whole)) = (refl, whole)
series_whole None calls (inr e) = absurd (cc)
series_whole (Some close) calls e = absurd (cc)

-- the same, of a series that ended it: it is closed by the last call, or memory is wanted
pub series_stops : (close : Option Close) (calls : List Call) (stop : Stop) → EndsSeries close calls (Some stop) → StopsSo close stop
series_stops None calls stop (inl (e, whole)) = absurd (cc)
series_stops None calls stop (inr e) = cc
series_stops (Some close) calls stop e = cc

-- an alternative that is none
pub or_none : {A : Type 0} (o : Option A) → option_or o None ≡ o
or_none None = refl
or_none (Some x) = refl

-- the first series ended the session
pub both_end_first : (subscription : List ℕ) (now : ℕ) (is_free : Bool) (c d : Option (List Call)) (stop : Stop)
    → AsksSeries (Tick subscription now) c (Some stop) d → AsksBoth subscription now is_free c (Err stop) d
both_end_first subscription now is_free c d stop k = record {
  ticks = k.calls;
  dispatches = [];
  ticks_are = k.series;
  dispatches_are = tt;
  tells = k.tells;
  ticks_first = inl refl;
  held = λ e. refl;
  ends = subst (λ x. StopsSo x stop) (sym (or_none (close_after k.calls))) (series_stops (close_after k.calls) k.calls stop k.ends);
}

-- the session is not free to send more
pub both_held : (subscription : List ℕ) (now : ℕ) (is_free : Bool) (c d : Option (List Call)) → is_free ≡ false
    → AsksSeries (Tick subscription now) c None d → AsksBoth subscription now is_free c (Ok false) d
both_held subscription now is_free c d held k = let w = series_whole (close_after k.calls) k.calls k.ends in record {
  ticks = k.calls;
  dispatches = [];
  ticks_are = k.series;
  dispatches_are = tt;
  tells = k.tells;
  ticks_first = inl refl;
  held = λ e. refl;
  ends = (held, refl, w.1, w.0);
}

pub is_not_free : (is_free : Bool) → is_free ≡ true → is_free ≡ false → ⊥
is_not_free is_free e f = cc

-- the second series ended the session
pub both_end_second : (subscription : List ℕ) (now : ℕ) (is_free : Bool) (c d e : Option (List Call)) (stop : Stop) → is_free ≡ true
    → AsksSeries (Tick subscription now) c None d → AsksSeries (Dispatch subscription now) d (Some stop) e → AsksBoth subscription now is_free c (Err stop) e
both_end_second subscription now is_free c d e stop free k l = let w = series_whole (close_after k.calls) k.calls k.ends in record {
  ticks = k.calls;
  dispatches = l.calls;
  ticks_are = k.series;
  dispatches_are = l.series;
  tells = tells_then _ _ _ c d e k.tells l.tells (λ x. refl);
  ticks_first = inr (w.1, w.0);
  held = λ not_free. absurd (is_not_free is_free free not_free);
  ends = subst (λ x. StopsSo (option_or x (close_after l.calls)) stop) (sym w.0) (series_stops (close_after l.calls) l.calls stop l.ends);
}

-- both series came to their end
pub both_whole : (subscription : List ℕ) (now : ℕ) (is_free : Bool) (c d e : Option (List Call)) → is_free ≡ true
    → AsksSeries (Tick subscription now) c None d → AsksSeries (Dispatch subscription now) d None e → AsksBoth subscription now is_free c (Ok true) e
both_whole subscription now is_free c d e free k l =
    let w = series_whole (close_after k.calls) k.calls k.ends in let v = series_whole (close_after l.calls) l.calls l.ends in record {
      ticks = k.calls;
      dispatches = l.calls;
      ticks_are = k.series;
      dispatches_are = l.series;
      tells = tells_then _ _ _ c d e k.tells l.tells (λ x. refl);
      ticks_first = inr (w.1, w.0);
      held = λ not_free. absurd (is_not_free is_free free not_free);
      ends = (free, w.1, w.0, v.1, v.0);
    }

-- both hold
pub both_true : (a b : Bool) → (a && b) ≡ true → (a ≡ true) × (b ≡ true)
both_true true b e = (refl, e)
both_true false b e = absurd (cc)

-- what a session that holds nothing has not sent
pub nothing_unsent : (s : Session) → holds_nothing s ≡ true → unsent_of s ≡ []
nothing_unsent s e =
    let k = both_true (length s.waiting.items == 0) (nat_le (length s.copies) s.copies_sent) e in
    let no_answers : s.waiting.items ≡ [] = nil_from_length s.waiting.items (eqb-true (length s.waiting.items) 0 k.0) in
    let all_sent : drop s.copies_sent s.copies ≡ [] = drop_all s.copies_sent s.copies (leb-true (length s.copies) s.copies_sent k.1) in
    ap (λ l. map collected l ++ map answering s.waiting.items) all_sent ∙ ap (map answering) no_answers

-- how much is stored was asked for a producer
pub own_progress : (s t : Session) (now producer : ℕ) (first : Option ℤ) (has_room : Bool) (c d : Option (List Call)) → s.party ≡ Producer producer first
    → AsksProgress s c None t d → AsksOwn s now has_room c (Ok true) t d
own_progress s t now producer first has_room c d is k =
    let call : Call = event_call Progress k.reply in
    record {
      asked = record { ticks = []; dispatches = []; last = Some call };
      asks = subst (λ p. AsksAs p now (holds_nothing s && has_room) (record { ticks = []; dispatches = []; last = Some call })) (sym is) (refl, refl, refl);
      calls = k.calls;
      party = k.party;
      next = k.next;
      durable = subst (λ p. t.durable ≡ durable_after p s.durable (Some call)) (sym is) k.durable;
      unsent = subst (λ p. unsent_of t ≡ unsent_of s ++ copies_of p (Some call)) (sym is) (k.unsent ∙ sym (append-nil (unsent_of s)));
      ends = (closes_none (own_close k.reply) k.stops, subst (λ p. true ≡ may_send p s has_room) (sym is) refl, subst (λ p. AsksAll p true (record { ticks = []; dispatches = []; last = Some call })) (sym is) refl, inl refl);
    }

-- the same, where that ended the session
pub own_progress_ends : (s t : Session) (now producer : ℕ) (first : Option ℤ) (has_room : Bool) (c d : Option (List Call)) (stop : Stop) → s.party ≡ Producer producer first
    → AsksProgress s c (Some stop) t d → AsksOwn s now has_room c (Err stop) t d
own_progress_ends s t now producer first has_room c d stop is k =
    let call : Call = event_call Progress k.reply in
    record {
      asked = record { ticks = []; dispatches = []; last = Some call };
      asks = subst (λ p. AsksAs p now (holds_nothing s && has_room) (record { ticks = []; dispatches = []; last = Some call })) (sym is) (refl, refl, refl);
      calls = k.calls;
      party = k.party;
      next = k.next;
      durable = subst (λ p. t.durable ≡ durable_after p s.durable (Some call)) (sym is) k.durable;
      unsent = subst (λ p. unsent_of t ≡ unsent_of s ++ copies_of p (Some call)) (sym is) (k.unsent ∙ sym (append-nil (unsent_of s)));
      ends = closes_some (own_close k.reply) stop k.stops;
    }

-- an administrator's session asks nothing
pub own_nothing : (s : Session) (now : ℕ) (has_room : Bool) (c : Option (List Call)) → s.party ≡ Admin → AsksOwn s now has_room c (Ok false) s c
own_nothing s now has_room c is = record {
  asked = asked_nothing;
  asks = subst (λ p. AsksAs p now (holds_nothing s && has_room) asked_nothing) (sym is) refl;
  calls = tells_nothing _ c (λ x. refl);
  party = refl;
  next = refl;
  durable = subst (λ p. s.durable ≡ durable_after p s.durable None) (sym is) refl;
  unsent = subst (λ p. unsent_of s ≡ unsent_of s ++ copies_of p None) (sym is) (sym (append-nil (unsent_of s)));
  ends = (refl, subst (λ p. false ≡ may_send p s has_room) (sym is) refl, subst (λ p. AsksAll p false asked_nothing) (sym is) tt, inr refl);
}

-- a session is at rest but for what may be due
pub other_dues : (s : Session) (dues : Dues) → Rests s (record s { dues = dues })
other_dues s dues = record { keeps = record { party = refl; next = refl; durable = refl }; unsent = refl }

-- ticks and dispatches alone were asked
pub own_both : (s t : Session) (now consumer : ℕ) (subscription : List ℕ) (has_room is_free : Bool) (c d : Option (List Call)) (result : Result Bool Stop) → s.party ≡ Consumer consumer subscription → is_free ≡ (holds_nothing s && has_room) → Rests s t
    → (k : AsksBoth subscription now is_free c result d)
    → EndsAsking s.party s has_room (record { ticks = k.ticks; dispatches = k.dispatches; last = None }) (close_of_asked (record { ticks = k.ticks; dispatches = k.dispatches; last = None })) result
    → AsksOwn s now has_room c result t d
own_both s t now consumer subscription has_room is_free c d result is free rests k ends =
    let asked : Asked = record { ticks = k.ticks; dispatches = k.dispatches; last = None } in
    record {
      asked = asked;
      asks = subst (λ p. AsksAs p now (holds_nothing s && has_room) asked) (sym is) (record { ticks = k.ticks_are; dispatches = k.dispatches_are; last = tt; ticks_first = k.ticks_first; dispatches_first = inl refl; held = λ e. (k.held (free ∙ e), refl) });
      calls = k.tells;
      party = rests.keeps.party;
      next = rests.keeps.next;
      durable = subst (λ p. t.durable ≡ durable_after p s.durable None) (sym is) rests.keeps.durable;
      unsent = subst (λ p. unsent_of t ≡ unsent_of s ++ copies_of p None) (sym is) (rests.unsent ∙ sym (append-nil (unsent_of s)));
      ends = ends;
    }

-- a consumer's session that is not free to send more asked for ticks alone
pub own_held : (s t : Session) (now consumer : ℕ) (subscription : List ℕ) (has_room is_free : Bool) (c d : Option (List Call)) → s.party ≡ Consumer consumer subscription → is_free ≡ (holds_nothing s && has_room) → Rests s t
    → AsksBoth subscription now is_free c (Ok false) d → AsksOwn s now has_room c (Ok false) t d
own_held s t now consumer subscription has_room is_free c d is free rests k =
    own_both s t now consumer subscription has_room is_free c d (Ok false) is free rests k ends
  where
    ends : EndsAsking s.party s has_room (record { ticks = k.ticks; dispatches = k.dispatches; last = None }) (close_of_asked (record { ticks = k.ticks; dispatches = k.dispatches; last = None })) (Ok false)
    ends = (
      ap (λ x. option_or x (option_or (close_after k.dispatches) None)) k.ends.3 ∙ ap (λ l. option_or (close_after l) None) k.ends.1,
      subst (λ p. false ≡ may_send p s has_room) (sym is) (sym k.ends.0 ∙ free),
      subst (λ p. AsksAll p false (record { ticks = k.ticks; dispatches = k.dispatches; last = None })) (sym is) k.ends.2,
      inr refl,
    )

-- a series ended a consumer's session
pub own_both_ends : (s t : Session) (now consumer : ℕ) (subscription : List ℕ) (has_room is_free : Bool) (c d : Option (List Call)) (stop : Stop) → s.party ≡ Consumer consumer subscription → is_free ≡ (holds_nothing s && has_room) → Rests s t
    → AsksBoth subscription now is_free c (Err stop) d → AsksOwn s now has_room c (Err stop) t d
own_both_ends s t now consumer subscription has_room is_free c d stop is free rests k =
    own_both s t now consumer subscription has_room is_free c d (Err stop) is free rests k
    (subst (λ x. StopsSo (option_or (close_after k.ticks) x) stop) (sym (or_none (close_after k.dispatches))) k.ends)

-- a consumer's session asked all
pub own_collected : (s u t : Session) (now consumer : ℕ) (subscription : List ℕ) (has_room is_free : Bool) (c d e : Option (List Call)) (stop : Option Stop) (result : Result Bool Stop)
    → s.party ≡ Consumer consumer subscription → is_free ≡ (holds_nothing s && has_room) → Rests s u
    → (k : AsksBoth subscription now is_free c (Ok true) d) → (l : AsksCollect consumer u d stop t e)
    → EndsAsking s.party s has_room (record { ticks = k.ticks; dispatches = k.dispatches; last = Some (event_call (Collect consumer) l.reply) }) (own_close l.reply) result
    → AsksOwn s now has_room c result t e
own_collected s u t now consumer subscription has_room is_free c d e stop result is free rests k l ends =
    let call : Call = event_call (Collect consumer) l.reply in
    let asked : Asked = record { ticks = k.ticks; dispatches = k.dispatches; last = Some call } in
    let nothing : unsent_of s ≡ [] = nothing_unsent s (both_true (holds_nothing s) has_room (sym free ∙ k.ends.0)).0 in
    record {
      asked = asked;
      asks = subst (λ p. AsksAs p now (holds_nothing s && has_room) asked) (sym is) (record { ticks = k.ticks_are; dispatches = k.dispatches_are; last = refl; ticks_first = k.ticks_first; dispatches_first = inr (k.ends.3, k.ends.4); held = λ e. absurd (is_not_free is_free k.ends.0 (free ∙ e)) });
      calls = tells_then _ _ _ c d e k.tells l.calls (λ x. refl);
      party = l.keeps.party ∙ rests.keeps.party;
      next = l.keeps.next ∙ rests.keeps.next;
      durable = subst (λ p. t.durable ≡ durable_after p s.durable (Some call)) (sym is) (l.keeps.durable ∙ rests.keeps.durable);
      unsent = subst (λ p. unsent_of t ≡ unsent_of s ++ copies_of p (Some call)) (sym is) (l.unsent ∙ ap (λ x. x ++ copies_in l.reply) (sym nothing));
      ends = subst (λ x. EndsAsking s.party s has_room asked (option_or x (option_or (close_after k.dispatches) (own_close l.reply))) result) (sym k.ends.2)
          (subst (λ x. EndsAsking s.party s has_room asked (option_or x (own_close l.reply)) result) (sym k.ends.4) ends);
    }

pub own_collected_all : (s u t : Session) (now consumer : ℕ) (subscription : List ℕ) (has_room is_free : Bool) (c d e : Option (List Call)) → s.party ≡ Consumer consumer subscription → is_free ≡ (holds_nothing s && has_room) → Rests s u
    → AsksBoth subscription now is_free c (Ok true) d → AsksCollect consumer u d None t e → AsksOwn s now has_room c (Ok true) t e
own_collected_all s u t now consumer subscription has_room is_free c d e is free rests k l =
    own_collected s u t now consumer subscription has_room is_free c d e None (Ok true) is free rests k l (
      closes_none (own_close l.reply) l.stops,
      subst (λ p. true ≡ may_send p s has_room) (sym is) (sym k.ends.0 ∙ free),
      subst (λ p. AsksAll p true (record { ticks = k.ticks; dispatches = k.dispatches; last = Some (event_call (Collect consumer) l.reply) })) (sym is) (k.ends.1, k.ends.3, refl),
      inl refl,
    )

pub own_collected_ends : (s u t : Session) (now consumer : ℕ) (subscription : List ℕ) (has_room is_free : Bool) (c d e : Option (List Call)) (stop : Stop) → s.party ≡ Consumer consumer subscription → is_free ≡ (holds_nothing s && has_room) → Rests s u
    → AsksBoth subscription now is_free c (Ok true) d → AsksCollect consumer u d (Some stop) t e → AsksOwn s now has_room c (Err stop) t e
own_collected_ends s u t now consumer subscription has_room is_free c d e stop is free rests k l =
    own_collected s u t now consumer subscription has_room is_free c d e (Some stop) (Err stop) is free rests k l (closes_some (own_close l.reply) stop l.stops)
