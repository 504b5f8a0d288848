-- The parts of a turn make a turn.
use Rattle.std.proofs.Common.{is_some, nat_le, eq-eqb, length-drop, ◌≡◌, ℕ, ◌≤◌, List, [], ◌∷◌, ◌++◌, length, map, drop, All, Bool, true, false, ◌&&◌, Option, Some, None, Ok, Err, IsSome, ◌⊎◌, inl, inr, refl, sym, ap, ◌∙◌, subst, arith, append-nil, append_assoc}
use Rattle.std.specs.Option.{option_or}
use Rattle.std.proofs.lemmas.Bool.{le-leb}
use Rattle.std.proofs.lemmas.List.{length-map, map-append}
use Rattle.std.proofs.lemmas.List.Elements.{All-append}
use Rattle.session_links.specs.Links.{Call, Exchange, Tells}
use Rattle.session_texts.specs.declared.party.Party.{Party}
use Rattle.session_texts.specs.declared.party.Party.TheVariants.{Producer, Consumer, Admin}
use Rattle.session_texts.specs.declared.close.Close.{Close}
use Rattle.session_texts.specs.Unsent.{Unsent, answering, collected}
use Rattle.session_core.specs.declared.session.Session.{Session}
use Rattle.session_core.specs.declared.stop.Stop.{Stop}
use Rattle.session_core.specs.declared.stop.Stop.TheVariants.{Gone as Left, Closed}
use Rattle.session_core.specs.Held.{holds_nothing, unsent_of}
use Rattle.session_core.specs.Turns.{Silence, Taken, Turn, calls_of_asked}
use Rattle.session_core.specs.Texts.{IsRoomy, answered, closed_by}
use Rattle.session_core.specs.Asking.{Asked, AsksAll, AsksAs, asked_nothing, close_of_asked, copies_of, durable_after}
use Rattle.session_core.specs.Sending.{Gone, IsBlocked, IsReady, IsSent}
use Rattle.session_core.specs.Closing.{ServesOpen, StopsAtOnce}
use Rattle.session_core.specs.Runs.{EndsWithClient, FailsAt, GoesOn, HasReceived, IsFull, ReceivesNoMore, close_of, is_free}
use Rattle.session_core.specs.Steps.{AsksOwn, EndsSending, EndsTextsBy, SendsReady, SendsSome, StopsSo, TakesAll, TakesTexts, may_send, received_with, sent_with, wanting_memory}
use Rattle.session_core.proofs.Series.{both_true, nothing_unsent}
use Rattle.session_core.proofs.Telling.{tells_nothing, tells_then}

-- the turn of its parts
abbrev pub turn_of : ℕ → ℕ → List Taken → Option Silence → Asked → Bool → List (List ℕ) → List (List ℕ) → Bool → Bool → Option Stop → Turn
turn_of now most taken silence asked was_free sent_first sent is_open has_room stop = record {
  now = now;
  most = most;
  taken = taken;
  silence = silence;
  asked = asked;
  was_free = was_free;
  sent = sent;
  sent_first = sent_first;
  is_open = is_open;
  has_room = has_room;
  stop = stop;
  farewell = None;
}

-- what was ready is ready when more is stored
pub ready_later : (low high : ℕ) (gone : List Gone) → low ≤ high → All (IsSent low) gone → All (IsSent high) gone
ready_later low high gone more all = λ i x lt. let k = all i x lt in (let h = k.0 in omega (arith, h, more), k.1)

-- more is never seen to be stored than before
pub durable_grows : (party : Party) (durable : ℕ) (last : Option Call) → durable ≤ durable_after party durable last
durable_grows (Producer producer first) durable None = omega arith
durable_grows (Producer producer first) durable (Some call) = omega arith
durable_grows (Consumer consumer subscription) durable last = omega arith
durable_grows Admin durable last = omega arith

-- A turn of texts, of what was sent, of what was asked, and of what was sent then.
pub served : (s s1 s2 s3 s4 : Session) (now most : ℕ) (e e1 e2 e3 : Option Exchange) (c c1 c2 : Option (List Call)) (taken : List Taken) (silence : Option Silence) (asked : Asked) (was_free : Bool) (stop : Option Stop) (is_open has_room had_room : Bool)
    → (k : TakesAll s now taken silence e c s1 e1 c1) → length taken ≤ most
    → (first : SendsSome s1 e1 s2 e2)
    → AsksAs s.party now was_free asked → (was_free ≡ true → (unsent_of s2 ≡ []) × (had_room ≡ true)) → Tells (λ all. calls_of_asked all asked) c1 c2 → s3.party ≡ s2.party → s3.next ≡ s2.next
    → s3.durable ≡ durable_after s.party s2.durable asked.last → unsent_of s3 ≡ unsent_of s2 ++ copies_of s.party asked.last
    → (second : SendsSome s3 e2 s4 e3)
    → (let t : Turn = turn_of now most taken silence asked was_free (map (λ (g : Gone). g.text) first.gone) (map (λ (g : Gone). g.text) (first.gone ++ second.gone)) is_open has_room stop in
    ReceivesNoMore t (answered s.party now s.next (unsent_of s) taken) → ((closed_by taken ≡ None) ⊎ (asked ≡ asked_nothing)) → ((asked ≡ asked_nothing) ⊎ HasReceived t (answered s.party now s.next (unsent_of s) taken)) → StopsAtOnce (close_of t) t
    → (IsSome silence → IsRoomy (answered s.party now s.next (unsent_of s) taken)) → EndsWithClient t → FailsAt t s4.durable (unsent_of s4)
    → (stop ≡ None → GoesOn s.party t s4.durable (unsent_of s4)) → (stop ≡ None → is_open ≡ true) → ((close : Close) → stop ≡ Some (Closed close) → is_open ≡ true)
    → ServesOpen s now most e c stop s4 e3 c2 is_open has_room e2 had_room)
served s s1 s2 s3 s4 now most e e1 e2 e3 c c1 c2 taken silence asked was_free stop is_open has_room had_room k few first asks free calls party next durable unsent second receives over heard stops silent lost fails goes stays can =
    let at_first : s1.durable ≡ s.durable = k.keeps.durable in
    let at_second : s2.durable ≡ s.durable = first.keeps.durable ∙ at_first in
    let later : s3.durable ≡ durable_after s.party s.durable asked.last = durable ∙ ap (λ d. durable_after s.party d asked.last) at_second in
    let grows : s.durable ≤ durable_after s.party s.durable asked.last = durable_grows s.party s.durable asked.last in
    let last : s4.durable ≡ s3.durable = second.keeps.durable in
    record {
      serves = record {
        turn = turn_of now most taken silence asked was_free (map (λ (g : Gone). g.text) first.gone) (map (λ (g : Gone). g.text) (first.gone ++ second.gone)) is_open has_room stop;
        is_now = refl;
        is_most = refl;
        is_stop = refl;
        no_farewell = refl;
        opens = refl;
        roomy = refl;
        texts = k.texts;
        at_most = few;
        few = k.few;
        silent = silent;
        receives = receives;
        asks = asks;
        is_over = over;
        heard = heard;
        first = record {
          gone = first.gone;
          texts = refl;
          ready = subst (λ n. All (IsSent n) first.gone) at_first first.ready;
          all = λ e. sym (append-nil (map (λ (g : Gone). g.item) first.gone)) ∙ ap (λ l. map (λ (g : Gone). g.item) first.gone ++ l) (sym (free e).0) ∙ first.parts ∙ k.unsent;
          later = map (λ (g : Gone). g.text) second.gone;
          parts = sym (map-append (λ (g : Gone). g.text) first.gone second.gone);
        };
        finds = record {
          exchange = tells_then (received_with taken silence) (sent_with (map (λ (g : Gone). g.text) first.gone)) _ e e1 e2 k.exchange first.exchange (λ x. refl);
          roomy = λ e. (free e).1;
        };
        party = second.keeps.party ∙ party ∙ first.keeps.party ∙ k.keeps.party;
        next = second.keeps.next ∙ next ∙ first.keeps.next ∙ k.next;
        durable = last ∙ later;
        gone = first.gone ++ second.gone;
        parts = ap (λ l. l ++ unsent_of s4) (map-append (λ (g : Gone). g.item) first.gone second.gone)
            ∙ append_assoc (map (λ (g : Gone). g.item) first.gone) (map (λ (g : Gone). g.item) second.gone) (unsent_of s4)
            ∙ ap (λ l. map (λ (g : Gone). g.item) first.gone ++ l) (second.parts ∙ unsent)
            ∙ sym (append_assoc (map (λ (g : Gone). g.item) first.gone) (unsent_of s2) (copies_of s.party asked.last))
            ∙ ap (λ l. l ++ copies_of s.party asked.last) (first.parts ∙ k.unsent);
        sent = refl;
        ready = All-append (IsSent s4.durable) first.gone second.gone
            (ready_later s1.durable s4.durable first.gone (omega (arith, at_first, last, later, grows)) first.ready)
            (ready_later s3.durable s4.durable second.gone (omega (arith, last)) second.ready);
        exchange = tells_then (λ x. sent_with (map (λ (g : Gone). g.text) first.gone) (received_with taken silence x)) (sent_with (map (λ (g : Gone). g.text) second.gone)) _ e e2 e3
            (tells_then (received_with taken silence) (sent_with (map (λ (g : Gone). g.text) first.gone)) _ e e1 e2 k.exchange first.exchange (λ x. refl)) second.exchange
            (λ x. ap (λ l. sent_with l (received_with taken silence x)) (map-append (λ (g : Gone). g.text) first.gone second.gone)
            ∙ ap (λ l. record (received_with taken silence x) { sent = l }) (sym (append_assoc x.sent (map (λ (g : Gone). g.text) first.gone) (map (λ (g : Gone). g.text) second.gone))));
        calls = tells_then _ _ _ c c1 c2 k.calls calls (λ x. refl);
        goes_on = goes;
        stays_open = stays;
        lost = lost;
        fails = fails;
        can_close = can;
      };
      stops = stops;
    }

-- nothing was sent
pub sends_nothing : (s : Session) (e : Option Exchange) → SendsSome s e s e
sends_nothing s e = record {
  gone = [];
  parts = refl;
  ready = λ i x lt. absurd (omega (arith, lt));
  exchange = tells_nothing _ e (λ x. ap (λ l. record x { sent = l }) (append-nil x.sent));
  keeps = record { party = refl; next = refl; durable = refl };
}

-- nothing is asked of any party
pub asks_nothing : (party : Party) (now : ℕ) (is_free : Bool) → AsksAs party now is_free asked_nothing
asks_nothing (Producer producer first) now is_free = (refl, refl, tt)
asks_nothing (Consumer consumer subscription) now is_free = record { ticks = tt; dispatches = tt; last = tt; ticks_first = inl refl; dispatches_first = inl refl; held = λ e. (refl, refl) }
asks_nothing Admin now is_free = refl

pub durable_stays : (party : Party) (durable : ℕ) → durable ≡ durable_after party durable None
durable_stays (Producer producer first) durable = refl
durable_stays (Consumer consumer subscription) durable = refl
durable_stays Admin durable = refl

pub no_copies : (party : Party) (unsent : List Unsent) → unsent ≡ unsent ++ copies_of party None
no_copies (Producer producer first) unsent = sym (append-nil unsent)
no_copies (Consumer consumer subscription) unsent = sym (append-nil unsent)
no_copies Admin unsent = sym (append-nil unsent)

-- a stop is no close of another kind
pub closed_is_open : (stop : Stop) (is_open : Bool) → ((stop ≡ Left) × (is_open ≡ false)) ⊎ ((stop ≡ wanting_memory) × (is_open ≡ true)) → (close : Close) → Some stop ≡ Some (Closed close) → is_open ≡ true
closed_is_open stop is_open (inl (left, o)) close e = absurd (cc)
closed_is_open stop is_open (inr (wants, o)) close e = o

-- The texts ended the turn.
pub ends_with_texts : (s t : Session) (now most : ℕ) (e f : Option Exchange) (c d : Option (List Call)) (stop : Stop) (is_open has_room had_room : Bool)
    → TakesTexts s now most e c (Some stop) t f d is_open → ServesOpen s now most e c (Some stop) t f d is_open has_room f had_room
unfolding sends_nothing
ends_with_texts s t now most e f c d stop is_open has_room had_room k =
    served s t t t t now most e f f f c d d k.taken k.silence asked_nothing false (Some stop) is_open has_room had_room k.all k.at_most (sends_nothing t f) (asks_nothing s.party now false) (λ e. absurd (cc)) (tells_nothing _ d (λ x. refl)) refl refl
    (durable_stays s.party t.durable) (no_copies s.party (unsent_of t)) (sends_nothing t f) (receives (closed_by k.taken) refl k.ends) (inr refl) (inl refl) (stops (closed_by k.taken) k.ends)
    (λ some. subst IsRoomy k.all.unsent (k.silent some)) (λ e. (refl, refl, (k.gone e).0, (k.gone e).1)) (λ e. inl refl) (λ e. absurd (cc)) (λ e. absurd (cc)) (can (closed_by k.taken) k.ends)
  where
    receives : (close : Option Close) → closed_by k.taken ≡ close → EndsTextsBy close k.taken k.silence most (unsent_of t) (Some stop) is_open
        → ReceivesNoMore (turn_of now most k.taken k.silence asked_nothing false [] [] is_open has_room (Some stop)) (answered s.party now s.next (unsent_of s) k.taken)
    receives None is (inl (none, o, why)) = absurd (cc)
    receives None is (inr (inl (left, o))) = inr (inr (inr (inr (inl o))))
    receives None is (inr (inr (wants, o))) = inr (inr (inr (inr (inr wants))))
    receives (Some close) is (closes, o) = inr (inl (ap is_some is))

    stops : (close : Option Close) → EndsTextsBy close k.taken k.silence most (unsent_of t) (Some stop) is_open → StopsAtOnce (option_or close None) (turn_of now most k.taken k.silence asked_nothing false [] [] is_open has_room (Some stop))
    stops None (inl (none, o, why)) = absurd (cc)
    stops None (inr (inl (left, o))) = inr (inl (left, o))
    stops None (inr (inr (wants, o))) = inr (inr wants)
    stops (Some close) (closes, o) = closes

    can : (close : Option Close) → EndsTextsBy close k.taken k.silence most (unsent_of t) (Some stop) is_open → (close : Close) → Some stop ≡ Some (Closed close) → is_open ≡ true
    can None (inl (none, o, why)) other e = o
    can None (inr (inl (left, o))) other e = absurd (cc)
    can None (inr (inr (wants, o))) other e = o
    can (Some close) (closes, o) other e = o

-- texts that did not end the session closed nothing
pub texts_go_on : (close : Option Close) (taken : List Taken) (silence : Option Silence) (most : ℕ) (unsent : List Unsent) (is_open : Bool)
    → EndsTextsBy close taken silence most unsent None is_open → (close ≡ None) × (is_open ≡ true) × (IsSome silence ⊎ ((length taken ≡ most) ⊎ IsFull unsent))
texts_go_on None taken silence most unsent is_open (inl (none, o, why)) = (refl, o, why)
texts_go_on None taken silence most unsent is_open (inr (inl (left, o))) = absurd (cc)
texts_go_on None taken silence most unsent is_open (inr (inr (wants, o))) = absurd (cc)
texts_go_on (Some close) taken silence most unsent is_open (closes, o) = absurd (cc)

pub texts_open : (s t : Session) (now most : ℕ) (e f : Option Exchange) (c d : Option (List Call)) (is_open : Bool) → TakesTexts s now most e c None t f d is_open → is_open ≡ true
texts_open s t now most e f c d is_open k = (texts_go_on (closed_by k.taken) k.taken k.silence most (unsent_of t) is_open k.ends).1

-- why no more texts came in a turn that its texts did not end
pub received_so : (t : Turn) (unanswered unsent : List Unsent) → unsent ≡ unanswered → (IsSome t.silence ⊎ ((length t.taken ≡ t.most) ⊎ IsFull unsent)) → ReceivesNoMore t unanswered
received_so t unanswered unsent is (inl some) = inl some
received_so t unanswered unsent is (inr (inl all)) = inr (inr (inl all))
received_so t unanswered unsent is (inr (inr full)) = inr (inr (inr (inl (subst IsFull is full))))

pub has_received : (t : Turn) (unanswered unsent : List Unsent) → unsent ≡ unanswered → (IsSome t.silence ⊎ ((length t.taken ≡ t.most) ⊎ IsFull unsent)) → HasReceived t unanswered
has_received t unanswered unsent is why = subst (HasReceived t) is why

-- a sending that did not end the session
pub sending_goes_on : (durable : ℕ) (left : List Unsent) (is_open has_room : Bool) → EndsSending durable left None is_open has_room → (is_open ≡ true) × (has_room ≡ true → IsBlocked durable left)
sending_goes_on durable left is_open has_room (inl (none, o, blocked)) = (o, blocked)
sending_goes_on durable left is_open has_room (inr (ready, inl (gone, o))) = absurd (cc)
sending_goes_on durable left is_open has_room (inr (ready, inr (wants, o, room))) = absurd (cc)

pub sending_stops : (durable : ℕ) (left : List Unsent) (stop : Stop) (is_open has_room : Bool) → EndsSending durable left (Some stop) is_open has_room → ((stop ≡ Left) × (is_open ≡ false)) ⊎ ((stop ≡ wanting_memory) × (is_open ≡ true))
sending_stops durable left stop is_open has_room (inl (none, o, blocked)) = absurd (cc)
sending_stops durable left stop is_open has_room (inr (ready, inl (gone, o))) = inl (cc, o)
sending_stops durable left stop is_open has_room (inr (ready, inr (wants, o, room))) = inr (cc, o)

pub sends_open : (s t : Session) (e f : Option Exchange) (is_open has_room : Bool) → SendsReady s e None t f is_open has_room → is_open ≡ true
sends_open s t e f is_open has_room k = (sending_goes_on s.durable (unsent_of t) is_open has_room k.ends).0

-- how a turn stops by the sending
pub stops_sending : (t : Turn) (stop : Stop) (is_open : Bool) → t.stop ≡ Some stop → t.is_open ≡ is_open → ((stop ≡ Left) × (is_open ≡ false)) ⊎ ((stop ≡ wanting_memory) × (is_open ≡ true)) → StopsAtOnce None t
stops_sending t stop is_open is o (inl (left, f)) = inr (inl (is ∙ ap Some left, o ∙ f))
stops_sending t stop is_open is o (inr (wants, f)) = inr (inr (is ∙ ap Some wants))

-- a sending that fails leaves something that is ready
pub sending_left : (durable : ℕ) (left : List Unsent) (stop : Stop) (is_open has_room : Bool) → EndsSending durable left (Some stop) is_open has_room → IsReady durable left
sending_left durable left stop is_open has_room (inl (none, o, blocked)) = absurd (cc)
sending_left durable left stop is_open has_room (inr (ready, why)) = ready

-- texts that did not end the session were not the last of a client that is gone
pub goes_on_still : (silence : Option Silence) (is_open : Bool) → ((None ≡ Some Left) × (is_open ≡ false)) → ⊥
goes_on_still silence is_open (left, o) = cc

pub is_not_open : (is_open : Bool) → is_open ≡ true → is_open ≡ false → ⊥
is_not_open is_open o f = cc

-- The first sending ended the turn.
pub ends_with_first : (s s1 t : Session) (now most : ℕ) (e e1 f : Option Exchange) (c d : Option (List Call)) (stop : Stop) (was is_open has_room had_room : Bool)
    → TakesTexts s now most e c None s1 e1 d was → SendsReady s1 e1 (Some stop) t f is_open has_room → ServesOpen s now most e c (Some stop) t f d is_open has_room f had_room
unfolding sends_nothing
ends_with_first s s1 t now most e e1 f c d stop was is_open has_room had_room k first =
    let goes = texts_go_on (closed_by k.taken) k.taken k.silence most (unsent_of s1) was k.ends in
    let fails = sending_stops s1.durable (unsent_of t) stop is_open has_room first.ends in
    let turn : Turn = turn_of now most k.taken k.silence asked_nothing false (map (λ (g : Gone). g.text) first.sends.gone) (map (λ (g : Gone). g.text) (first.sends.gone ++ [])) is_open has_room (Some stop) in
    served s s1 t t t now most e e1 f f c d d k.taken k.silence asked_nothing false (Some stop) is_open has_room had_room k.all k.at_most first.sends (asks_nothing s.party now false) (λ e. absurd (cc)) (tells_nothing _ d (λ x. refl)) refl refl
    (durable_stays s.party t.durable) (no_copies s.party (unsent_of t)) (sends_nothing t f)
    (received_so turn (answered s.party now s.next (unsent_of s) k.taken) (unsent_of s1) k.all.unsent goes.2) (inl goes.0) (inl refl)
    (subst (λ x. StopsAtOnce (option_or x None) turn) (sym goes.0) (stops_sending turn stop is_open refl refl fails))
    (λ some. subst IsRoomy k.all.unsent (k.silent some)) (λ e. absurd (goes_on_still k.silence was (k.gone e))) (λ e. inl refl) (λ e. absurd (cc)) (λ e. absurd (cc)) (closed_is_open stop is_open fails)

-- a session that is free to send more has sent all, and its connection has room
pub found_free : (s : Session) (room had_room : Bool) → room ≡ had_room → (holds_nothing s && room) ≡ true → (unsent_of s ≡ []) × (had_room ≡ true)
found_free s room had_room same e = let k = both_true (holds_nothing s) room e in (nothing_unsent s k.0, sym same ∙ k.1)

-- the asking closes the session, or wants memory
pub stops_asking : (t : Turn) (close : Option Close) (stop : Stop) → t.stop ≡ Some stop → StopsSo close stop → StopsAtOnce close t
stops_asking t None stop is wants = inr (inr (is ∙ ap Some wants))
stops_asking t (Some close) stop is closes = is ∙ ap Some closes

-- The asking ended the turn.
pub ends_with_asking : (s s1 s2 t : Session) (now most : ℕ) (e e1 f : Option Exchange) (c c1 d : Option (List Call)) (stop : Stop) (was is_open has_room room : Bool) → room ≡ has_room
    → TakesTexts s now most e c None s1 e1 c1 was → SendsReady s1 e1 None s2 f is_open has_room → AsksOwn s2 now room c1 (Err stop) t d → ServesOpen s now most e c (Some stop) t f d is_open has_room f has_room
unfolding sends_nothing
ends_with_asking s s1 s2 t now most e e1 f c c1 d stop was is_open has_room room same k first own =
    let goes = texts_go_on (closed_by k.taken) k.taken k.silence most (unsent_of s1) was k.ends in
    let party : s2.party ≡ s.party = first.sends.keeps.party ∙ k.all.keeps.party in
    let was_free : Bool = holds_nothing s2 && room in
    let turn : Turn = turn_of now most k.taken k.silence own.asked was_free (map (λ (g : Gone). g.text) first.sends.gone) (map (λ (g : Gone). g.text) (first.sends.gone ++ [])) is_open has_room (Some stop) in
    served s s1 s2 t t now most e e1 f f c c1 d k.taken k.silence own.asked was_free (Some stop) is_open has_room has_room k.all k.at_most first.sends (subst (λ p. AsksAs p now was_free own.asked) party own.asks) (found_free s2 room has_room same) own.calls own.party own.next
    (subst (λ p. t.durable ≡ durable_after p s2.durable own.asked.last) party own.durable) (subst (λ p. unsent_of t ≡ unsent_of s2 ++ copies_of p own.asked.last) party own.unsent) (sends_nothing t f)
    (received_so turn (answered s.party now s.next (unsent_of s) k.taken) (unsent_of s1) k.all.unsent goes.2) (inl goes.0) (inr (has_received turn (answered s.party now s.next (unsent_of s) k.taken) (unsent_of s1) k.all.unsent goes.2))
    (subst (λ x. StopsAtOnce (option_or x (close_of_asked own.asked)) turn) (sym goes.0) (stops_asking turn (close_of_asked own.asked) stop refl own.ends))
    (λ some. subst IsRoomy k.all.unsent (k.silent some)) (λ e. absurd (goes_on_still k.silence was (k.gone e))) (λ e. absurd (is_not_open is_open (sends_open s1 s2 e1 f is_open has_room first) e)) (λ e. absurd (cc)) (λ e. absurd (cc)) (λ close e. sends_open s1 s2 e1 f is_open has_room first)

-- what is asked in full is asked in part
pub asks_less : (party : Party) (asked : Asked) (b : Bool) → AsksAll party true asked → AsksAll party b asked
asks_less (Producer producer first) asked b all = all
asks_less (Consumer consumer subscription) asked true all = all
asks_less (Consumer consumer subscription) asked false all = all.0
asks_less Admin asked b all = tt

-- The turn went on to its second sending.
pub goes_on_sent : (s s1 s2 s3 t : Session) (now most : ℕ) (e e1 e2 f : Option Exchange) (c c1 d : Option (List Call)) (stop : Option Stop) (was open1 room1 room is_open has_room : Bool) → room ≡ room1
    → TakesTexts s now most e c None s1 e1 c1 was → SendsReady s1 e1 None s2 e2 open1 room1 → AsksOwn s2 now room c1 (Ok true) s3 d → SendsReady s3 e2 stop t f is_open has_room
    → ServesOpen s now most e c stop t f d is_open has_room e2 room1
goes_on_sent s s1 s2 s3 t now most e e1 e2 f c c1 d None was open1 room1 room is_open has_room same k first own second =
    let goes = texts_go_on (closed_by k.taken) k.taken k.silence most (unsent_of s1) was k.ends in
    let on = sending_goes_on s3.durable (unsent_of t) is_open has_room second.ends in
    let party : s2.party ≡ s.party = first.sends.keeps.party ∙ k.all.keeps.party in
    let was_free : Bool = holds_nothing s2 && room in
    let turn : Turn = turn_of now most k.taken k.silence own.asked was_free (map (λ (g : Gone). g.text) first.sends.gone) (map (λ (g : Gone). g.text) (first.sends.gone ++ second.sends.gone)) is_open has_room None in
    served s s1 s2 s3 t now most e e1 e2 f c c1 d k.taken k.silence own.asked was_free None is_open has_room room1 k.all k.at_most first.sends (subst (λ p. AsksAs p now was_free own.asked) party own.asks) (found_free s2 room room1 same) own.calls own.party own.next
    (subst (λ p. s3.durable ≡ durable_after p s2.durable own.asked.last) party own.durable) (subst (λ p. unsent_of s3 ≡ unsent_of s2 ++ copies_of p own.asked.last) party own.unsent) second.sends
    (received_so turn (answered s.party now s.next (unsent_of s) k.taken) (unsent_of s1) k.all.unsent goes.2) (inl goes.0) (inr (has_received turn (answered s.party now s.next (unsent_of s) k.taken) (unsent_of s1) k.all.unsent goes.2))
    (subst (λ x. StopsAtOnce (option_or x (close_of_asked own.asked)) turn) (sym goes.0) (subst (λ x. StopsAtOnce x turn) (sym own.ends.0) (inl refl)))
    (λ some. subst IsRoomy k.all.unsent (k.silent some)) (λ e. absurd (goes_on_still k.silence was (k.gone e))) (λ e. absurd (is_not_open is_open on.0 e))
    (λ none. (asks_less s.party own.asked (is_free turn (unsent_of t)) (subst (λ p. AsksAll p true own.asked) party own.ends.2), λ room. subst (λ d. IsBlocked d (unsent_of t)) (sym second.sends.keeps.durable) (on.1 room)))
    (λ e. on.0) (λ close e. absurd (cc))
goes_on_sent s s1 s2 s3 t now most e e1 e2 f c c1 d (Some stop) was open1 room1 room is_open has_room same k first own second =
    let goes = texts_go_on (closed_by k.taken) k.taken k.silence most (unsent_of s1) was k.ends in
    let fails = sending_stops s3.durable (unsent_of t) stop is_open has_room second.ends in
    let party : s2.party ≡ s.party = first.sends.keeps.party ∙ k.all.keeps.party in
    let was_free : Bool = holds_nothing s2 && room in
    let turn : Turn = turn_of now most k.taken k.silence own.asked was_free (map (λ (g : Gone). g.text) first.sends.gone) (map (λ (g : Gone). g.text) (first.sends.gone ++ second.sends.gone)) is_open has_room (Some stop) in
    served s s1 s2 s3 t now most e e1 e2 f c c1 d k.taken k.silence own.asked was_free (Some stop) is_open has_room room1 k.all k.at_most first.sends (subst (λ p. AsksAs p now was_free own.asked) party own.asks) (found_free s2 room room1 same) own.calls own.party own.next
    (subst (λ p. s3.durable ≡ durable_after p s2.durable own.asked.last) party own.durable) (subst (λ p. unsent_of s3 ≡ unsent_of s2 ++ copies_of p own.asked.last) party own.unsent) second.sends
    (received_so turn (answered s.party now s.next (unsent_of s) k.taken) (unsent_of s1) k.all.unsent goes.2) (inl goes.0) (inr (has_received turn (answered s.party now s.next (unsent_of s) k.taken) (unsent_of s1) k.all.unsent goes.2))
    (subst (λ x. StopsAtOnce (option_or x (close_of_asked own.asked)) turn) (sym goes.0) (subst (λ x. StopsAtOnce x turn) (sym own.ends.0) (stops_sending turn stop is_open refl refl fails)))
    (λ some. subst IsRoomy k.all.unsent (k.silent some)) (λ e. absurd (goes_on_still k.silence was (k.gone e)))
    (λ e. inr (subst (λ n. IsReady n (unsent_of t)) (sym second.sends.keeps.durable) (sending_left s3.durable (unsent_of t) stop is_open has_room second.ends)))
    (λ none. absurd (cc)) (λ none. absurd (cc)) (closed_is_open stop is_open fails)

-- a session that has sent all holds nothing
pub holds_all_sent : (s : Session) → unsent_of s ≡ [] → holds_nothing s ≡ true
holds_all_sent s e =
    let k = both_empty (map collected (drop s.copies_sent s.copies)) (map answering s.waiting.items) e in
    let no_answers : length s.waiting.items ≡ 0 = sym (length-map s.waiting.items answering) ∙ ap length k.1 in
    let no_copies : length (drop s.copies_sent s.copies) ≡ 0 = sym (length-map (drop s.copies_sent s.copies) collected) ∙ ap length k.0 in
    let less : length s.copies ≤ s.copies_sent = omega (arith, no_copies, length-drop s.copies_sent s.copies) in
    ap (λ b. b && nat_le (length s.copies) s.copies_sent) (eq-eqb (length s.waiting.items) 0 no_answers) ∙ le-leb (length s.copies) s.copies_sent less
  where
    both_empty : (xs ys : List Unsent) → xs ++ ys ≡ [] → (xs ≡ []) × (ys ≡ [])
    both_empty [] ys e = (refl, e)
    both_empty (x ∷ xs) ys e = absurd (cc)

-- a session that is not free to send more asked all that it then asks
pub asks_held : (party : Party) (s : Session) (t : Turn) (room : Bool) → false ≡ may_send party s room → t.has_room ≡ room → AsksAll party false t.asked → AsksAll party (is_free t (unsent_of s)) t.asked
asks_held (Producer producer first) s t room may is all = absurd (cc)
asks_held (Consumer consumer subscription) s t room may is all =
    subst (λ b. AsksAll (Consumer consumer subscription) b t.asked) (sym (held (unsent_of s) refl)) all
  where
    held : (left : List Unsent) → unsent_of s ≡ left → is_free t (unsent_of s) ≡ false
    held [] e = ap (is_free t) e ∙ is ∙ sym (ap (λ b. b && room) (holds_all_sent s e)) ∙ sym may
    held (item ∷ more) e = ap (is_free t) e
asks_held Admin s t room may is all = tt

-- The turn ended with its asking.
pub goes_on_held : (s s1 s2 t : Session) (now most : ℕ) (e e1 f : Option Exchange) (c c1 d : Option (List Call)) (was is_open has_room room : Bool) → room ≡ has_room
    → TakesTexts s now most e c None s1 e1 c1 was → SendsReady s1 e1 None s2 f is_open has_room → AsksOwn s2 now room c1 (Ok false) t d → ServesOpen s now most e c None t f d is_open has_room f has_room
unfolding sends_nothing
goes_on_held s s1 s2 t now most e e1 f c c1 d was is_open has_room room same k first own =
    let goes = texts_go_on (closed_by k.taken) k.taken k.silence most (unsent_of s1) was k.ends in
    let on = sending_goes_on s1.durable (unsent_of s2) is_open has_room first.ends in
    let party : s2.party ≡ s.party = first.sends.keeps.party ∙ k.all.keeps.party in
    let was_free : Bool = holds_nothing s2 && room in
    let turn : Turn = turn_of now most k.taken k.silence own.asked was_free (map (λ (g : Gone). g.text) first.sends.gone) (map (λ (g : Gone). g.text) (first.sends.gone ++ [])) is_open has_room None in
    let none : own.asked.last ≡ None = no_last own.ends.3 in
    let unsent : unsent_of t ≡ unsent_of s2 = own.unsent ∙ ap (λ l. unsent_of s2 ++ copies_of s2.party l) none ∙ sym (no_copies s2.party (unsent_of s2)) in
    let durable : t.durable ≡ s1.durable = own.durable ∙ ap (durable_after s2.party s2.durable) none ∙ sym (durable_stays s2.party s2.durable) ∙ first.sends.keeps.durable in
    served s s1 s2 t t now most e e1 f f c c1 d k.taken k.silence own.asked was_free None is_open has_room has_room k.all k.at_most first.sends (subst (λ p. AsksAs p now was_free own.asked) party own.asks) (found_free s2 room has_room same) own.calls own.party own.next
    (subst (λ p. t.durable ≡ durable_after p s2.durable own.asked.last) party own.durable) (subst (λ p. unsent_of t ≡ unsent_of s2 ++ copies_of p own.asked.last) party own.unsent) (sends_nothing t f)
    (received_so turn (answered s.party now s.next (unsent_of s) k.taken) (unsent_of s1) k.all.unsent goes.2) (inl goes.0) (inr (has_received turn (answered s.party now s.next (unsent_of s) k.taken) (unsent_of s1) k.all.unsent goes.2))
    (subst (λ x. StopsAtOnce (option_or x (close_of_asked own.asked)) turn) (sym goes.0) (subst (λ x. StopsAtOnce x turn) (sym own.ends.0) (inl refl)))
    (λ some. subst IsRoomy k.all.unsent (k.silent some)) (λ e. absurd (goes_on_still k.silence was (k.gone e))) (λ e. absurd (is_not_open is_open on.0 e))
    (λ going. (
      subst (λ p. AsksAll p (is_free turn (unsent_of t)) own.asked) party
          (subst (λ l. AsksAll s2.party (is_free turn l) own.asked) (sym unsent) (asks_held s2.party s2 turn room own.ends.1 (sym same) own.ends.2)),
      λ roomy. subst (λ d. IsBlocked d (unsent_of t)) (sym durable) (subst (IsBlocked s1.durable) (sym unsent) (on.1 roomy)),
    ))
    (λ e. on.0) (λ close e. absurd (cc))
  where
    no_last : ((false ≡ true) ⊎ (own.asked.last ≡ None)) → own.asked.last ≡ None
    no_last (inl false_is) = absurd (cc)
    no_last (inr none) = none
