-- What is ready is sent before a close.
use Rattle.std.proofs.Common.{◌≡◌, ℕ, List, ◌++◌, map, All, Bool, true, Option, Some, None, inl, inr, refl, sym, ap, ◌∙◌, subst, append_assoc}
use Rattle.std.proofs.lemmas.List.{map-append}
use Rattle.std.proofs.lemmas.List.Elements.{All-append}
use Rattle.position_core.specs.declared.fault.Fault.TheVariants.{NoMemory}
use Rattle.session_links.specs.Links.{Call, Exchange}
use Rattle.session_texts.specs.declared.close.Close.{Close}
use Rattle.session_texts.specs.Asking.{refusing}
use Rattle.session_texts.specs.Unsent.{Unsent}
use Rattle.session_core.specs.declared.session.Session.{Session}
use Rattle.session_core.specs.declared.stop.Stop.{Stop}
use Rattle.session_core.specs.declared.stop.Stop.TheVariants.{Gone as Left, Closed}
use Rattle.session_core.specs.Held.{unsent_of}
use Rattle.session_core.specs.Turns.{Turn, exchanged, without_stop}
use Rattle.session_core.specs.Texts.{answered}
use Rattle.session_core.specs.Sending.{Gone, IsSent}
use Rattle.session_core.specs.Runs.{FailsAt, ReceivesNoMore, SendsBeforeClose, StopsBy, close_of}
use Rattle.session_core.specs.Steps.{CanClose, EndsSending, SendsReady, SendsSome, sent_with, wanting_memory}
use Rattle.session_core.specs.Closing.{EndsLast, SendsLast, ServesLast, ServesOpen, StopsAtOnce}
use Rattle.session_core.proofs.Telling.{tells_then}

-- all that is ready was sent, and the session is closed as it should be
pub sends_before_close : (s t : Session) (e f : Option Exchange) (stop : Stop) (close : Close) (was_open had_room is_open has_room : Bool) → stop ≡ Closed close
    → SendsReady s e None t f is_open has_room → SendsLast s stop e was_open had_room stop t f is_open has_room
sends_before_close s t e f stop close was_open had_room is_open has_room is k = subst (λ x. SendsLast s x e was_open had_room x t f is_open has_room) (sym is) (k.sends, by_case k.ends)
  where
    by_case : EndsSending s.durable (unsent_of t) None is_open has_room → EndsLast close s.durable (unsent_of t) (Closed close) is_open has_room
    by_case (inl (none, o, blocked)) = inl (refl, o, blocked)
    by_case (inr (ready, inl (left, o))) = absurd (cc)
    by_case (inr (ready, inr (wants, o, room))) = absurd (cc)

-- the sending failed
pub fails_before_close : (s t : Session) (e f : Option Exchange) (stop failed : Stop) (close : Close) (was_open had_room is_open has_room : Bool) → stop ≡ Closed close
    → SendsReady s e (Some failed) t f is_open has_room → SendsLast s stop e was_open had_room failed t f is_open has_room
fails_before_close s t e f stop failed close was_open had_room is_open has_room is k = subst (λ x. SendsLast s x e was_open had_room failed t f is_open has_room) (sym is) (k.sends, by_case k.ends)
  where
    by_case : EndsSending s.durable (unsent_of t) (Some failed) is_open has_room → EndsLast close s.durable (unsent_of t) failed is_open has_room
    by_case (inl (none, o, blocked)) = absurd (cc)
    by_case (inr (ready, inl (left, o))) = inr (ready, inl (cc, o))
    by_case (inr (ready, inr (wants, o, room))) = inr (ready, inr (cc, o, room))

-- a turn that has stopped stops as it did
pub stops_still : (close : Option Close) (t : Turn) (durable : ℕ) (left : List Unsent) → StopsAtOnce close t → StopsBy close t durable left
stops_still None t durable left k = k
stops_still (Some close) t durable left k = inl k

-- the turn with what was sent before its close
abbrev pub with_last : Turn → List (List ℕ) → Bool → Bool → Stop → Turn
with_last t texts is_open has_room last = record t { sent = t.sent ++ texts; is_open = is_open; has_room = has_room; stop = Some last }

-- how it stops then
pub stops_last : (close : Option Close) (t : Turn) (reason : Close) (texts : List (List ℕ)) (durable : ℕ) (left : List Unsent) (last : Stop) (is_open has_room : Bool)
    → StopsAtOnce close t → t.stop ≡ Some (Closed reason) → EndsLast reason durable left last is_open has_room → StopsBy close (with_last t texts is_open has_room last) durable left
stops_last None t reason texts durable left last is_open has_room (inl none) is ends = absurd (cc)
stops_last None t reason texts durable left last is_open has_room (inr (inl (gone, o))) is ends = absurd (cc)
stops_last None t reason texts durable left last is_open has_room (inr (inr wants)) is (inl (closes, o, blocked)) = inr (inr (ap Some closes ∙ sym is ∙ wants))
stops_last None t reason texts durable left last is_open has_room (inr (inr wants)) is (inr (ready, inl (gone, o))) = inr (inl (ap Some gone, o))
stops_last None t reason texts durable left last is_open has_room (inr (inr wants)) is (inr (ready, inr (again, o, room))) = inr (inr (ap Some again))
stops_last (Some close) t reason texts durable left last is_open has_room stops is (inl (closes, o, blocked)) = inl (ap Some closes ∙ sym is ∙ stops)
stops_last (Some close) t reason texts durable left last is_open has_room stops is (inr (ready, inl (gone, o))) = inr (ready, inl (ap Some gone, o))
stops_last (Some close) t reason texts durable left last is_open has_room stops is (inr (ready, inr (wants, o, room))) = inr (ready, inr (ap Some wants, o, room))

-- all that is ready was sent before the close
pub closes_last : (t : Turn) (reason : Close) (texts : List (List ℕ)) (durable : ℕ) (left : List Unsent) (last : Stop) (is_open has_room : Bool)
    → EndsLast reason durable left last is_open has_room → SendsBeforeClose (with_last t texts is_open has_room last) durable left
closes_last t reason texts durable left last is_open has_room (inl (closes, o, blocked)) close e = (o, λ room. inl (blocked room))
closes_last t reason texts durable left last is_open has_room (inr (ready, inl (gone, o))) close e = absurd (cc)
closes_last t reason texts durable left last is_open has_room (inr (ready, inr (wants, o, room))) close e = (o, λ r. inr (is_wanted close (sym (ap Some wants) ∙ e)))
  where
    is_wanted : (close : Close) → Some wanting_memory ≡ Some (Closed close) → close ≡ refusing NoMemory
    is_wanted close x = cc

-- why it received no more stands
pub receives_last : (t : Turn) (reason : Close) (texts : List (List ℕ)) (unanswered left : List Unsent) (durable : ℕ) (last : Stop) (is_open has_room : Bool)
    → ReceivesNoMore t unanswered → t.is_open ≡ true → t.stop ≡ Some (Closed reason) → EndsLast reason durable left last is_open has_room → ReceivesNoMore (with_last t texts is_open has_room last) unanswered
receives_last t reason texts unanswered left durable last is_open has_room (inl silence) o is ends = inl silence
receives_last t reason texts unanswered left durable last is_open has_room (inr (inl closes)) o is ends = inr (inl closes)
receives_last t reason texts unanswered left durable last is_open has_room (inr (inr (inl all))) o is ends = inr (inr (inl all))
receives_last t reason texts unanswered left durable last is_open has_room (inr (inr (inr (inl full)))) o is ends = inr (inr (inr (inl full)))
receives_last t reason texts unanswered left durable last is_open has_room (inr (inr (inr (inr (inl fails))))) o is ends = absurd (cc)
receives_last t reason texts unanswered left durable last is_open has_room (inr (inr (inr (inr (inr wants))))) o is (inl (closes, p, blocked)) = inr (inr (inr (inr (inr (ap Some closes ∙ sym is ∙ wants)))))
receives_last t reason texts unanswered left durable last is_open has_room (inr (inr (inr (inr (inr wants))))) o is (inr (ready, inl (gone, p))) = inr (inr (inr (inr (inl p))))
receives_last t reason texts unanswered left durable last is_open has_room (inr (inr (inr (inr (inr wants))))) o is (inr (ready, inr (again, p, room))) = inr (inr (inr (inr (inr (ap Some again)))))

-- a session that has a close to say has a connection for it
pub can_close_last : (reason : Close) (durable : ℕ) (left : List Unsent) (last : Stop) (is_open has_room : Bool) → EndsLast reason durable left last is_open has_room → (close : Close) → Some last ≡ Some (Closed close) → is_open ≡ true
can_close_last reason durable left last is_open has_room (inl (closes, o, blocked)) close e = o
can_close_last reason durable left last is_open has_room (inr (ready, inl (gone, o))) close e = absurd (cc)
can_close_last reason durable left last is_open has_room (inr (ready, inr (wants, o, room))) close e = o

-- a session that is closed is so by another stop than that its client is gone
pub closes_otherwise : (reason : Close) → Some (Closed reason) ≡ Some Left → ⊥
closes_otherwise reason e = cc

-- where the connection fails then, something is left that is ready
pub fails_last : (t : Turn) (texts : List (List ℕ)) (reason : Close) (durable : ℕ) (left : List Unsent) (last : Stop) (is_open has_room : Bool)
    → EndsLast reason durable left last is_open has_room → FailsAt (with_last t texts is_open has_room last) durable left
fails_last t texts reason durable left last is_open has_room (inl (closes, o, blocked)) e = absurd (cc)
fails_last t texts reason durable left last is_open has_room (inr (ready, why)) e = inr ready

-- The session sent what is ready before its close.
pub closing_with : (s t u : Session) (now most : ℕ) (e f h : Option Exchange) (c d : Option (List Call)) (reason : Close) (last : Stop) (was_open had_room is_open has_room : Bool) (told : Option Exchange) (found : Bool)
    → ServesOpen s now most e c (Some (Closed reason)) t f d was_open had_room told found → SendsSome t f u h → EndsLast reason t.durable (unsent_of u) last is_open has_room
    → ServesLast s now most e c (Some last) u h d is_open has_room told found
closing_with s t u now most e f h c d reason last was_open had_room is_open has_room told found first sends ends =
    let k = first.serves in
    let texts : List (List ℕ) = map (λ (g : Gone). g.text) sends.gone in
    let opened : k.turn.is_open ≡ true = k.opens ∙ k.can_close reason refl in
    let later : EndsLast reason u.durable (unsent_of u) last is_open has_room = subst (λ n. EndsLast reason n (unsent_of u) last is_open has_room) (sym sends.keeps.durable) ends in
    record {
      serves = record {
        turn = with_last k.turn texts is_open has_room last;
        is_now = k.is_now;
        is_most = k.is_most;
        is_stop = refl;
        no_farewell = k.no_farewell;
        opens = refl;
        roomy = refl;
        texts = k.texts;
        at_most = k.at_most;
        few = k.few;
        silent = k.silent;
        receives = receives_last k.turn reason texts (answered s.party now s.next (unsent_of s) k.turn.taken) (unsent_of u) u.durable last is_open has_room k.receives opened k.is_stop later;
        asks = k.asks;
        is_over = k.is_over;
        heard = k.heard;
        first = record {
          gone = k.first.gone;
          texts = k.first.texts;
          ready = k.first.ready;
          all = k.first.all;
          later = k.first.later ++ texts;
          parts = sym (append_assoc k.turn.sent_first k.first.later texts) ∙ ap (λ l. l ++ texts) k.first.parts;
        };
        finds = record { exchange = k.finds.exchange; roomy = k.finds.roomy };
        party = sends.keeps.party ∙ k.party;
        next = sends.keeps.next ∙ k.next;
        durable = sends.keeps.durable ∙ k.durable;
        gone = k.gone ++ sends.gone;
        parts = ap (λ l. l ++ unsent_of u) (map-append (λ (g : Gone). g.item) k.gone sends.gone)
            ∙ append_assoc (map (λ (g : Gone). g.item) k.gone) (map (λ (g : Gone). g.item) sends.gone) (unsent_of u)
            ∙ ap (λ l. map (λ (g : Gone). g.item) k.gone ++ l) sends.parts ∙ k.parts;
        sent = map-append (λ (g : Gone). g.text) k.gone sends.gone ∙ ap (λ l. l ++ texts) k.sent;
        ready = All-append (IsSent u.durable) k.gone sends.gone
            (subst (λ n. All (IsSent n) k.gone) (sym sends.keeps.durable) k.ready) (subst (λ n. All (IsSent n) sends.gone) (sym sends.keeps.durable) sends.ready);
        exchange = tells_then (exchanged (without_stop k.turn)) (sent_with texts) _ e f h k.exchange sends.exchange
            (λ x. ap (λ l. record (exchanged (without_stop k.turn) x) { sent = l }) (sym (append_assoc x.sent k.turn.sent texts)));
        calls = k.calls;
        goes_on = λ none. absurd (cc);
        stays_open = λ none. absurd (cc);
        lost = λ e. absurd (closes_otherwise reason (sym k.is_stop ∙ (k.lost e).2));
        fails = fails_last k.turn texts reason u.durable (unsent_of u) last is_open has_room later;
        can_close = can_close_last reason u.durable (unsent_of u) last is_open has_room later;
      };
      stops = stops_last (close_of k.turn) k.turn reason texts u.durable (unsent_of u) last is_open has_room first.stops k.is_stop later;
      closes = closes_last k.turn reason texts u.durable (unsent_of u) last is_open has_room later;
    }

-- what a session does before its end
pub closing : (s t u : Session) (now most : ℕ) (e f h : Option Exchange) (c d : Option (List Call)) (stop last : Stop) (was_open had_room is_open has_room : Bool) (told : Option Exchange) (found : Bool)
    → ServesOpen s now most e c (Some stop) t f d was_open had_room told found → SendsLast t stop f was_open had_room last u h is_open has_room → ServesLast s now most e c (Some last) u h d is_open has_room told found
closing s t u now most e f h c d Left last was_open had_room is_open has_room told found first (left, same, stays, o, r) =
    let stands : ServesLast s now most e c (Some Left) t f d was_open had_room told found = record {
      serves = first.serves;
      stops = stops_still (close_of first.serves.turn) first.serves.turn t.durable (unsent_of t) first.stops;
      closes = λ close is. absurd (other close (sym first.serves.is_stop ∙ is));
    } in
    subst (λ (x : Stop × Session × Option Exchange × Bool × Bool). ServesLast s now most e c (Some x.0) x.1 x.2 d x.3 x.4 told found) (λ i. (sym left i, sym same i, sym stays i, sym o i, sym r i)) stands
  where
    other : (close : Close) → Some Left ≡ Some (Closed close) → ⊥
    other close e = cc
closing s t u now most e f h c d (Closed reason) last was_open had_room is_open has_room told found first (sends, ends) =
    closing_with s t u now most e f h c d reason last was_open had_room is_open has_room told found first sends ends

-- a session that is to be closed can be
pub can_close : (stop : Stop) (is_open : Bool) → ((close : Close) → Some stop ≡ Some (Closed close) → is_open ≡ true) → CanClose stop is_open
can_close Left is_open k = tt
can_close (Closed close) is_open k = k close refl
