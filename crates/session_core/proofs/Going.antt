-- A turn goes on with the session's run.
use Rattle.std.proofs.Common.{◌≡◌, ℕ, ◌≤◌, ℤ, List, [], ◌∷◌, ◌++◌, length, map, All, Bool, false, Option, Some, None, IsSome, is_some, option_map, refl, sym, ap, ◌∙◌, subst, append-nil, append_assoc, ◌⊎◌}
use Rattle.std.proofs.lemmas.List.{map-append}
use Rattle.std.proofs.lemmas.List.Elements.{All-append}
use Rattle.session_links.specs.declared.request.Request.TheVariants.{Event as OfEvent}
use Rattle.session_links.specs.Links.{Call, Exchange, Tells, with_close}
use Rattle.session_texts.specs.declared.party.Party.{Party}
use Rattle.session_texts.specs.declared.close.Close.{Close}
use Rattle.session_texts.specs.Numbers.{reason_of}
use Rattle.session_texts.specs.Outcomes.{farewell_of}
use Rattle.session_texts.specs.Unsent.{Unsent}
use Rattle.session_core.specs.declared.session.Session.{Session}
use Rattle.session_core.specs.declared.stop.Stop.{Stop}
use Rattle.session_core.specs.declared.stop.Stop.TheVariants.{Gone as Left, Closed}
use Rattle.session_core.specs.Held.{unsent_of}
use Rattle.session_core.specs.Turns.{Taken, Turn, receipt_of_silence, and_one, calls_of_asked, calls_of_texts, closed, exchanged, texts_received, without_stop}
use Rattle.session_core.specs.Texts.{AreFew, AreTaken, IsRoomy, answered, answer_to, next_after}
use Rattle.session_core.specs.Asking.{AsksAs, asked_nothing, copies_of, durable_after}
use Rattle.session_core.specs.Sending.{Gone, IsSent, Sends}
use Rattle.session_core.specs.Runs.{FailsAt, Finds, GoesOn, HasReceived, IsRun, IsServed, IsSession, IsTurn, Leaves, ReceivesNoMore, SaysFarewell, SendsBeforeClose, StopsBy, all_of, close_of, durable_of, next_of, sent_of}
use Rattle.session_core.specs.Steps.{ClosesBy, Rests, SaysLast}
use Rattle.session_core.specs.Closing.{ServesLast, ServesOpen}
use Rattle.session_core.proofs.Closing.{stops_still}
use Rattle.session_core.proofs.Telling.{tells_then}
use Rattle.session_core.proofs.Turning.{durable_grows, ready_later}

-- what there was to be sent before stays before the answers
pub answered-append : (party : Party) (now : ℕ) (next : Option ℤ) (xs ys : List Unsent) (taken : List Taken) → answered party now next (xs ++ ys) taken ≡ xs ++ answered party now next ys taken
answered-append party now next xs ys [] = refl
answered-append party now next xs ys (k ∷ before) =
    ap (λ l. l ++ answer_to party now (next_after next before) k) (answered-append party now next xs ys before) ∙ append_assoc xs (answered party now next ys before) (answer_to party now (next_after next before) k)

-- with its last event
abbrev pub with_farewell : Turn → Option Call → Turn
with_farewell t farewell = record t { farewell = farewell }

-- a turn stops for the same reason, whatever its last event is
pub stops_same : (close : Option Close) (t : Turn) (farewell : Option Call) (durable : ℕ) (left : List Unsent) → StopsBy close t durable left → StopsBy close (with_farewell t farewell) durable left
stops_same None t farewell durable left k = k
stops_same (Some close) t farewell durable left k = k

-- a turn of a session is the next turn of its run
pub is_turn : (s t : Session) (before : List Turn) (now most : ℕ) (e f : Option Exchange) (c d : Option (List Call)) (stop : Option Stop) (is_open has_room : Bool) (told : Option Exchange) (had_room : Bool) (farewell : Option Call)
    → (run : IsSession s before) → (all : ServesLast s now most e c stop t f d is_open has_room told had_room) → SaysFarewell s.party stop farewell → IsTurn s.party before (with_farewell all.serves.turn farewell)
is_turn s t before now most e f c d stop is_open has_room told had_room farewell run all last = let k = all.serves in record {
  texts = subst (λ (x : ℕ × Option ℤ). AreTaken s.party x.0 x.1 k.turn.taken) (λ i. (sym k.is_now i, run.next i)) k.texts;
  most = subst (λ n. length k.turn.taken ≤ n) (sym k.is_most) k.at_most;
  held = unsent_of s;
  holds = run.sends;
  few = subst (λ (x : ℕ × Option ℤ). AreFew s.party x.0 x.1 (unsent_of s) k.turn.taken) (λ i. (sym k.is_now i, run.next i)) k.few;
  silent = subst (λ (x : ℕ × Option ℤ). IsSome k.turn.silence → IsRoomy (answered s.party x.0 x.1 (unsent_of s) k.turn.taken)) (λ i. (sym k.is_now i, run.next i)) k.silent;
  receives = subst (λ (x : ℕ × Option ℤ). ReceivesNoMore (with_farewell k.turn farewell) (answered s.party x.0 x.1 (unsent_of s) k.turn.taken)) (λ i. (sym k.is_now i, run.next i)) k.receives;
  asks = subst (λ n. AsksAs s.party n k.turn.was_free k.turn.asked) (sym k.is_now) k.asks;
  is_over = k.is_over;
  heard = subst (λ (x : ℕ × Option ℤ). (k.turn.asked ≡ asked_nothing) ⊎ HasReceived (with_farewell k.turn farewell) (answered s.party x.0 x.1 (unsent_of s) k.turn.taken)) (λ i. (sym k.is_now i, run.next i)) k.heard;
  free = λ free. record {
    gone = run.sends.gone ++ k.first.gone;
    parts = append-nil (map (λ (g : Gone). g.item) (run.sends.gone ++ k.first.gone))
        ∙ map-append (λ (g : Gone). g.item) run.sends.gone k.first.gone
        ∙ ap (λ l. map (λ (g : Gone). g.item) run.sends.gone ++ l) (k.first.all free)
        ∙ answers_after;
    texts = map-append (λ (g : Gone). g.text) run.sends.gone k.first.gone ∙ ap (λ l. l ++ map (λ (g : Gone). g.text) k.first.gone) run.sends.texts ∙ ap (λ l. sent_of before ++ l) k.first.texts;
    ready = All-append (IsSent (durable_of s.party before)) run.sends.gone k.first.gone run.sends.ready (subst (λ n. All (IsSent n) k.first.gone) run.durable k.first.ready);
  };
  sent_then = k.first.later;
  sent_parts = k.first.parts;
  left = unsent_of t;
  sends = record {
    gone = run.sends.gone ++ k.gone;
    parts = ap (λ l. l ++ unsent_of t) (map-append (λ (g : Gone). g.item) run.sends.gone k.gone)
        ∙ append_assoc (map (λ (g : Gone). g.item) run.sends.gone) (map (λ (g : Gone). g.item) k.gone) (unsent_of t)
        ∙ ap (λ l. map (λ (g : Gone). g.item) run.sends.gone ++ l) k.parts
        ∙ sym (append_assoc (map (λ (g : Gone). g.item) run.sends.gone) (answered s.party now s.next (unsent_of s) k.turn.taken) (copies_of s.party k.turn.asked.last))
        ∙ ap (λ l. l ++ copies_of s.party k.turn.asked.last)
        answers_after;
    texts = map-append (λ (g : Gone). g.text) run.sends.gone k.gone ∙ ap (λ l. l ++ map (λ (g : Gone). g.text) k.gone) run.sends.texts ∙ ap (λ l. sent_of before ++ l) k.sent;
    ready = All-append (IsSent (durable_of s.party (k.turn ∷ before))) run.sends.gone k.gone
        (ready_later (durable_of s.party before) (durable_of s.party (k.turn ∷ before)) run.sends.gone (durable_grows s.party (durable_of s.party before) k.turn.asked.last) run.sends.ready)
        (subst (λ n. All (IsSent n) k.gone) durable k.ready);
  };
  stops = stops_same (close_of k.turn) k.turn farewell (durable_of s.party (k.turn ∷ before)) (unsent_of t) (subst (λ n. StopsBy (close_of k.turn) k.turn n (unsent_of t)) durable all.stops);
  farewell = subst (λ x. SaysFarewell s.party x farewell) (sym k.is_stop) last;
  goes_on = λ none. subst (λ n. GoesOn s.party (with_farewell k.turn farewell) n (unsent_of t)) durable (k.goes_on (sym k.is_stop ∙ none));
  closes = subst (λ n. SendsBeforeClose (with_farewell k.turn farewell) n (unsent_of t)) durable all.closes;
  gone = k.lost;
  fails = subst (λ n. FailsAt (with_farewell k.turn farewell) n (unsent_of t)) durable k.fails;
}
  where
    durable : t.durable ≡ durable_of s.party (all.serves.turn ∷ before)
    durable = all.serves.durable ∙ ap (λ n. durable_after s.party n all.serves.turn.asked.last) run.durable

    answers_after : map (λ (g : Gone). g.item) run.sends.gone ++ answered s.party now s.next (unsent_of s) all.serves.turn.taken
        ≡ answered s.party all.serves.turn.now (next_of s.party before) (all_of s.party before) all.serves.turn.taken
    answers_after =
        sym (answered-append s.party now s.next (map (λ (g : Gone). g.item) run.sends.gone) (unsent_of s) all.serves.turn.taken)
        ∙ ap (λ l. answered s.party now s.next l all.serves.turn.taken) run.sends.parts
        ∙ ap (λ n. answered s.party n s.next (all_of s.party before) all.serves.turn.taken) (sym all.serves.is_now)
        ∙ ap (λ n. answered s.party all.serves.turn.now n (all_of s.party before) all.serves.turn.taken) run.next

-- a session at rest was served as well
pub rested : (s t u : Session) (now most : ℕ) (e f : Option Exchange) (c d : Option (List Call)) (is_open has_room : Bool) (told : Option Exchange) (had_room : Bool)
    → ServesOpen s now most e c None t f d is_open has_room told had_room → Rests t u → ServesLast s now most e c None u f d is_open has_room told had_room
rested s t u now most e f c d is_open has_room told had_room first r = let k = first.serves in record {
  serves = record {
    turn = k.turn;
    is_now = k.is_now;
    is_most = k.is_most;
    is_stop = k.is_stop;
    no_farewell = k.no_farewell;
    opens = k.opens;
    roomy = k.roomy;
    texts = k.texts;
    at_most = k.at_most;
    few = k.few;
    silent = k.silent;
    receives = k.receives;
    asks = k.asks;
    is_over = k.is_over;
    heard = k.heard;
    first = k.first;
    finds = k.finds;
    party = r.keeps.party ∙ k.party;
    next = r.keeps.next ∙ k.next;
    durable = r.keeps.durable ∙ k.durable;
    gone = k.gone;
    parts = ap (λ l. map (λ (g : Gone). g.item) k.gone ++ l) r.unsent ∙ k.parts;
    sent = k.sent;
    ready = subst (λ n. All (IsSent n) k.gone) (sym r.keeps.durable) k.ready;
    exchange = k.exchange;
    calls = k.calls;
    goes_on = λ none. subst (λ (x : ℕ × List Unsent). GoesOn s.party k.turn x.0 x.1) (λ i. (sym r.keeps.durable i, sym r.unsent i)) (k.goes_on none);
    stays_open = k.stays_open;
    lost = k.lost;
    fails = subst (λ (x : ℕ × List Unsent). FailsAt k.turn x.0 x.1) (λ i. (sym r.keeps.durable i, sym r.unsent i)) k.fails;
    can_close = k.can_close;
  };
  stops = stops_still (close_of k.turn) k.turn u.durable (unsent_of u) first.stops;
  closes = λ close is. absurd (other close (sym k.is_stop ∙ is));
}
  where
    other : (close : Close) → None ≡ Some (Closed close) → ⊥
    other close e = cc

-- A session that goes on.
pub goes_on : (s t : Session) (before : List Turn) (now most : ℕ) (e f : Option Exchange) (c d : Option (List Call)) (is_open has_room : Bool) (told : Option Exchange) (had_room : Bool)
    → IsSession s before → ServesLast s now most e c None t f d is_open has_room told had_room → t.had_room ≡ has_room → (given : ℕ) → most ≡ given
    → (served : IsServed s now given before e c (Some t) f d is_open has_room) × Finds served.turn e told had_room × Leaves served.turn e f is_open has_room
unfolding is_turn
goes_on s t before now most e f c d is_open has_room told had_room run all had given same =
    let k = all.serves in
    let turn : Turn = with_farewell k.turn None in
    let is : IsTurn s.party before turn = is_turn s t before now most e f c d None is_open has_room told had_room None run all refl in
    let none : turn.stop ≡ None = k.is_stop in (
      record {
        turn = turn;
        is_now = k.is_now;
        is_most = k.is_most ∙ same;
        is_turn = is;
        exchange = subst (λ x. Tells (λ (y : Exchange). record { received = and_one (texts_received y.received k.turn.taken) (option_map receipt_of_silence k.turn.silence); sent = y.sent ++ k.turn.sent; closes = closed x y.closes }) e f) (sym k.is_stop) k.exchange;
        calls = subst (λ x. Tells (λ calls. and_one (calls_of_asked (calls_of_texts calls k.turn.taken) k.turn.asked) x) c d) k.no_farewell k.calls;
        fails = λ fails. sym k.opens ∙ fails;
        session = (
          none,
          k.party,
          record {
            run = subst (λ p. IsRun p (turn ∷ before)) (sym k.party) (run.run, run.goes_on, is);
            goes_on = none;
            next = k.next ∙ ap (λ n. next_after n k.turn.taken) run.next ∙ ap (λ p. next_of p (turn ∷ before)) (sym k.party);
            durable = k.durable ∙ ap (λ n. durable_after s.party n k.turn.asked.last) run.durable ∙ ap (λ p. durable_of p (turn ∷ before)) (sym k.party);
            sends = subst (λ p. Sends (durable_of p (turn ∷ before)) (all_of p (turn ∷ before)) (sent_of (turn ∷ before)) (unsent_of t)) (sym k.party) is.sends;
          },
          k.stays_open refl,
          k.roomy,
          had,
        );
      },
      record { exchange = k.finds.exchange; roomy = k.finds.roomy },
      record { exchange = k.exchange; opens = k.opens; roomy = k.roomy },
    )

-- A session that has ended.
pub ends : (s t : Session) (before : List Turn) (now most : ℕ) (e f h : Option Exchange) (c d i : Option (List Call)) (stop : Stop) (was room is_open has_room : Bool) (told : Option Exchange) (had_room : Bool)
    → IsSession s before → ServesLast s now most e c (Some stop) t f d was room told had_room → ClosesBy stop f h → (was ≡ false → is_open ≡ false) → SaysLast t.party d i
    → (given : ℕ) → most ≡ given → (served : IsServed s now given before e c None h i is_open has_room) × Finds served.turn e told had_room × Leaves served.turn e f was room
ends s t before now most e f h c d i stop was room is_open has_room told had_room run all closes fails last given same =
    let k = all.serves in
    let turn : Turn = with_farewell k.turn last.farewell in (
      record {
        turn = turn;
        is_now = k.is_now;
        is_most = k.is_most ∙ same;
        is_turn = is_turn s t before now most e f c d (Some stop) was room told had_room last.farewell run all (last.event ∙ ap (λ p. option_map OfEvent (farewell_of p)) k.party);
        exchange = by_stop stop k.is_stop closes;
        calls = tells_then _ _ _ c d i (subst (λ x. Tells (λ calls. and_one (calls_of_asked (calls_of_texts calls k.turn.taken) k.turn.asked) x) c d) k.no_farewell k.calls) last.calls (λ x. refl);
        fails = λ failed. fails (sym k.opens ∙ failed);
        session = ap is_some k.is_stop;
      },
      record { exchange = k.finds.exchange; roomy = k.finds.roomy },
      record { exchange = k.exchange; opens = k.opens; roomy = k.roomy },
    )
  where
    by_stop : (reason : Stop) → all.serves.turn.stop ≡ Some reason → ClosesBy reason f h → Tells (exchanged (with_farewell all.serves.turn last.farewell)) e h
    by_stop Left is stays =
        subst (λ x. Tells (λ (y : Exchange). record { received = and_one (texts_received y.received all.serves.turn.taken) (option_map receipt_of_silence all.serves.turn.silence); sent = y.sent ++ all.serves.turn.sent; closes = closed x y.closes }) e h) (sym is)
        (subst (Tells (exchanged (without_stop all.serves.turn)) e) (sym stays) all.serves.exchange)
    by_stop (Closed close) is told =
        subst (λ x. Tells (λ (y : Exchange). record { received = and_one (texts_received y.received all.serves.turn.taken) (option_map receipt_of_silence all.serves.turn.silence); sent = y.sent ++ all.serves.turn.sent; closes = closed x y.closes }) e h) (sym is)
        (tells_then (exchanged (without_stop all.serves.turn)) (with_close close.code (reason_of close.fault)) _ e f h all.serves.exchange told (λ x. refl))
