-- What each step adds to the texts of a turn.
use Rattle.std.proofs.Common.{◌≡◌, ℕ, ◌+◌, ◌≤◌, ◌<◌, List, [], ◌∷◌, ◌++◌, length, map, drop, Bool, false, true, Option, Some, None, ◌⊎◌, inl, inr, refl, sym, ap, ◌∙◌, subst, append-nil, append_assoc, arith, option_map}
use Rattle.std.proofs.lemmas.List.{map-append}
use Rattle.std.proofs.Common.{ℤ, is_some, if◌then◌else◌, count_by, Ok, Err}
use Rattle.std.proofs.lemmas.List.Sums.{sum_by-append, sum_by-cons}
use Rattle.std.proofs.lemmas.Bool.{leb-true, leb-false}
use Rattle.position_core.specs.declared.fault.Fault.TheVariants.{NoMemory}
use Rattle.delivery_machine.specs.declared.delivery.Delivery.{Delivery}
use Rattle.session_links.specs.declared.request.Request.{Request}
use Rattle.session_links.specs.Links.{Call, Exchange, Tells, came, gone, nothing, same, with_receipt}
use Rattle.session_texts.specs.declared.answer.Answer.{Answer}
use Rattle.session_texts.specs.declared.close.Close.{Close}
use Rattle.session_texts.specs.declared.asking.Asking.{Asking}
use Rattle.session_texts.specs.declared.asking.Asking.TheVariants.{Asks, Shows, Answers, Closes}
use Rattle.session_texts.specs.declared.outcome.Outcome.{Outcome}
use Rattle.session_texts.specs.declared.outcome.Outcome.TheVariants.{Answers as Answering, Passes, Closes as Closing}
use Rattle.session_texts.specs.Asking.{asks, refusing}
use Rattle.session_texts.specs.Outcomes.{answer_of_seen, outcome_of}
use Rattle.session_texts.specs.Unsent.{Unsent, answering, collected, is_answer}
use Rattle.session_core.proofs.Telling.{tells_nothing, tells_then}
use Rattle.session_core.specs.declared.session.Session.{Session}
use Rattle.session_core.specs.declared.stop.Stop.{Stop}
use Rattle.session_core.specs.declared.stop.Stop.TheVariants.{Closed}
use Rattle.session_core.specs.Held.{holds_full, unsent_of}
use Rattle.session_texts.specs.declared.party.Party.{Party}
use Rattle.session_core.specs.Turns.{Silence, quiet, ended, Taken, and_one, calls_of_texts}
use Rattle.session_core.specs.Texts.{IsRoomy, IsTakenAs, IsUnread, answer_as, answer_in, answer_to, answered, close_in, closed_by, next_after, number_after_call}
use Rattle.session_core.specs.declared.texts.Received.{Received}
use Rattle.session_core.specs.declared.texts.Received.TheVariants.{Nothing, Text}
use Rattle.std.specs.Prelude.{IfErr, IfOk, Result}
use Rattle.session_core.specs.Runs.{IsFull}
use Rattle.session_core.specs.Steps.{EndsTexts, EndsTextsBy, KeepsCopies, Stays, TakesAll, TakesNext, TakesReply, TakesSeen, TakesSome, TakesText, TakesTexts, received_with, wanting_memory}

-- the answers that came are to be sent after what there was
pub more_unsent : (s t : Session) (more : List Unsent) → KeepsCopies s t → map answering t.waiting.items ≡ map answering s.waiting.items ++ more → unsent_of t ≡ unsent_of s ++ more
more_unsent s t more k w =
    ap (λ n. map collected (drop n t.copies) ++ map answering t.waiting.items) k.copies_sent
    ∙ ap (λ (l : List _). map collected (drop s.copies_sent l) ++ map answering t.waiting.items) k.copies
    ∙ ap (λ l. map collected (drop s.copies_sent s.copies) ++ l) w
    ∙ sym (append_assoc (map collected (drop s.copies_sent s.copies)) (map answering s.waiting.items) more)

-- a text was taken as it asks
pub as_asked : (s : Session) (now : ℕ) (text : List ℕ) (c : Option (List Call)) (stop : Option Stop) (t : Session) (d : Option (List Call)) (taken : Taken) (asking : Asking)
    → asks s.party now s.next text ≡ asking → taken.text ≡ text → IsTakenAs s.party taken asking → stop ≡ option_map Closed taken.close
    → Tells (λ calls. and_one calls taken.call) c d → KeepsCopies s t → t.next ≡ number_after_call s.next taken.call
    → map answering t.waiting.items ≡ map answering s.waiting.items ++ (if is_some taken.close then [] else answer_as s.party taken.call taken.shown asking)
    → TakesText s now text c stop t d
as_asked s now text c stop t d taken asking is is_text as_it stops calls keeps next waiting = record {
  taken = taken;
  is_text = is_text;
  as_asked = inr (subst (IsTakenAs s.party taken) (sym is) as_it);
  stops = stops;
  calls = calls;
  keeps = keeps;
  next = next;
  unsent = more_unsent s t (answer_to s.party now s.next taken) keeps
      (waiting ∙ ap (λ (x : Asking). map answering s.waiting.items ++ (if is_some taken.close then [] else answer_as s.party taken.call taken.shown x)) (sym is ∙ ap (asks s.party now s.next) (sym is_text)));
}

-- a session keeps what it holds
pub keeps_all : (s : Session) → KeepsCopies s s
keeps_all s = record { party = refl; durable = refl; copies = refl; copies_sent = refl }

-- without a call the number stays
pub no_call : (n : Option ℤ) → n ≡ number_after_call n None
no_call None = refl
no_call (Some z) = refl

-- there was no memory to read the text
pub text_unread : (s : Session) (now : ℕ) (text : List ℕ) (c : Option (List Call)) (stop : Option Stop) → stop ≡ Some wanting_memory → TakesText s now text c stop s c
text_unread s now text c stop e = record {
  taken = record { text = text; call = None; shown = None; close = Some (refusing NoMemory) };
  is_text = refl;
  as_asked = inl (refl, refl, refl);
  stops = e;
  calls = tells_nothing _ c (λ x. refl);
  keeps = keeps_all s;
  next = no_call s.next;
  unsent = sym (append-nil (unsent_of s));
}

-- the text closes the session
pub text_closes : (s : Session) (now : ℕ) (text : List ℕ) (c : Option (List Call)) (close : Close) → asks s.party now s.next text ≡ Closes close → TakesText s now text c (Some (Closed close)) s c
text_closes s now text c close is =
    as_asked s now text c _ s c (record { text = text; call = None; shown = None; close = Some close }) (Closes close) is refl (refl, refl, refl) refl (tells_nothing _ c (λ x. refl)) (keeps_all s) (no_call s.next) (sym (append-nil (map answering s.waiting.items)))

-- the text is answered at once
pub text_answered : (s t : Session) (now : ℕ) (text : List ℕ) (c : Option (List Call)) (answer : Answer) → asks s.party now s.next text ≡ Answers answer → KeepsCopies s t → t.next ≡ s.next
    → t.waiting.items ≡ s.waiting.items ++ answer ∷ [] → TakesText s now text c None t c
text_answered s t now text c answer is keeps next w =
    as_asked s now text c None t c (record { text = text; call = None; shown = None; close = None }) (Answers answer) is refl (refl, refl, refl) refl (tells_nothing _ c (λ x. refl)) keeps (next ∙ no_call s.next)
    (ap (map answering) w ∙ map-append answering s.waiting.items (answer ∷ []))

-- the text was answered with what is seen of the broker
pub text_shown : (s t : Session) (now : ℕ) (text : List ℕ) (c d : Option (List Call)) → asks s.party now s.next text ≡ Shows → TakesSeen s c t d → TakesText s now text c None t d
text_shown s t now text c d is k =
    as_asked s now text c None t d (record { text = text; call = None; shown = Some k.seen; close = None }) Shows is refl (refl, refl, refl) refl
    (subst (Tells (λ calls. and_one calls None) c) (sym k.calls) (tells_nothing _ c (λ x. refl))) k.keeps (k.next ∙ no_call s.next)
    (ap (map answering) k.waiting ∙ map-append answering s.waiting.items (answer_of_seen k.seen ∷ []))

-- the text's request was called
pub text_asked : (s t : Session) (now : ℕ) (text : List ℕ) (c d : Option (List Call)) (stop : Option Stop) (request : Request) (context : Option (List ℕ)) → asks s.party now s.next text ≡ Asks request context
    → TakesReply s request context c stop t d → TakesText s now text c stop t d
text_asked s t now text c d stop request context is r =
    let call : Call = record { request = request; reply = r.reply } in
    let close : Option Close = close_in (outcome_of s.party context r.reply) in
    as_asked s now text c stop t d (record { text = text; call = Some call; shown = None; close = close }) (Asks request context) is refl (r.reply, refl, refl, refl) r.stops r.calls r.keeps r.next
    (r.waiting ∙ ap (λ l. map answering s.waiting.items ++ l) (by_outcome (outcome_of s.party context r.reply)))
  where
    by_outcome : (o : Outcome) → answer_in o ≡ (if is_some (close_in o) then [] else answer_in o)
    by_outcome (Answering a) = refl
    by_outcome Passes = refl
    by_outcome (Closing c) = refl

-- answers alone wait
pub waiting_answers : (answers : List Answer) → count_by is_answer (map answering answers) ≡ length answers
waiting_answers [] = refl
waiting_answers (answer ∷ more) = let h = waiting_answers more in let e = sum_by-cons {X = Unsent} in omega (arith, h, e)

-- a session that holds 1,000 answers is full
pub is_full : (s : Session) → holds_full s ≡ true → IsFull (unsent_of s)
is_full s e =
    let f : Unsent → ℕ = λ x. if is_answer x then 1 else 0 in
    let n : count_by is_answer (unsent_of s) ≡ count_by is_answer (map collected (drop s.copies_sent s.copies)) + count_by is_answer (map answering s.waiting.items) =
    sum_by-append f (map collected (drop s.copies_sent s.copies)) (map answering s.waiting.items) in
    let m = waiting_answers s.waiting.items in
    let full : 1000 ≤ length s.waiting.items = leb-true 1000 (length s.waiting.items) e in
    omega (arith, n, m, full)

-- messages answer nothing
pub copies_answer_none : (copies : List Delivery) → count_by is_answer (map collected copies) ≡ 0
copies_answer_none [] = refl
copies_answer_none (copy ∷ more) = let h = copies_answer_none more in let e = sum_by-cons {X = Unsent} in omega (arith, h, e)

-- a session that is not full has room for an answer
pub is_roomy : (s : Session) → holds_full s ≡ false → IsRoomy (unsent_of s)
is_roomy s e =
    let f : Unsent → ℕ = λ x. if is_answer x then 1 else 0 in
    let n : count_by is_answer (unsent_of s) ≡ count_by is_answer (map collected (drop s.copies_sent s.copies)) + count_by is_answer (map answering s.waiting.items) =
    sum_by-append f (map collected (drop s.copies_sent s.copies)) (map answering s.waiting.items) in
    let c = copies_answer_none (drop s.copies_sent s.copies) in
    let m = waiting_answers s.waiting.items in
    let less : length s.waiting.items < 1000 = leb-false 1000 (length s.waiting.items) e in
    omega (arith, n, c, m, less)

-- a session that is full stays as it is
pub stays_full : (s : Session) (now : ℕ) (e : Option Exchange) (c : Option (List Call)) → holds_full s ≡ true → (is_open : Bool) → is_open ≡ true → TakesNext s now e c (Ok Nothing) s e c is_open
stays_full s now e c full is_open o = (record { keeps = keeps_all s; next = refl; waiting = refl }, refl, o, inr (is_full s full, refl))

-- a session that holds the same takes a text in the same way
pub text_from : (s r t : Session) (now : ℕ) (text : List ℕ) (c d : Option (List Call)) (stop : Option Stop) → Stays s r → TakesText r now text c stop t d → TakesText s now text c stop t d
text_from s r t now text c d stop stays h =
    let party = stays.keeps.party in
    let same_unsent : unsent_of r ≡ unsent_of s =
    more_unsent s r [] stays.keeps (ap (map answering) stays.waiting ∙ sym (append-nil (map answering s.waiting.items))) ∙ append-nil (unsent_of s) in record {
      taken = h.taken;
      is_text = h.is_text;
      as_asked = subst (λ (n : Option ℤ). IsUnread h.taken ⊎ IsTakenAs s.party h.taken (asks s.party now n text)) stays.next
          (subst (λ (p : Party). IsUnread h.taken ⊎ IsTakenAs p h.taken (asks p now r.next text)) party h.as_asked);
      stops = h.stops;
      calls = h.calls;
      keeps = record {
        party = h.keeps.party ∙ party;
        durable = h.keeps.durable ∙ stays.keeps.durable;
        copies = h.keeps.copies ∙ stays.keeps.copies;
        copies_sent = h.keeps.copies_sent ∙ stays.keeps.copies_sent;
      };
      next = h.next ∙ ap (λ (n : Option ℤ). number_after_call n h.taken.call) stays.next;
      unsent = h.unsent
          ∙ ap (λ l. l ++ answer_to r.party now r.next h.taken) same_unsent
          ∙ ap (λ (p : Party). unsent_of s ++ answer_to p now r.next h.taken) party
          ∙ ap (λ (n : Option ℤ). unsent_of s ++ answer_to s.party now n h.taken) stays.next;
    }

-- a text was received and taken by a session that holds the same
pub next_text : (s r t : Session) (now : ℕ) (e f : Option Exchange) (c d : Option (List Call)) (result : Result Received Stop) (is_open : Bool) (text : List ℕ) → Stays s r
    → IfOk result (λ what. (what ≡ Text) × TakesText r now text c None t d) → IfErr result (λ stop. TakesText r now text c (Some stop) t d)
    → Tells (with_receipt (came text)) e f → is_open ≡ true → IsRoomy (unsent_of s) → TakesNext s now e c result t f d is_open
next_text s r t now e f c d (Ok Text) is_open text stays ok err tells o roomy = (text, text_from s r t now text c d None stays ok.1, tells, o, roomy)
next_text s r t now e f c d (Ok Nothing) is_open text stays ok err tells o roomy = let is = ok.0 in cc
next_text s r t now e f c d (Err stop) is_open text stays ok err tells o roomy = inl (text, text_from s r t now text c d (Some stop) stays err, tells, o, roomy)

-- a text that closes the session was taken
pub text_stops : (s : Session) (now : ℕ) (e f : Option Exchange) (c d : Option (List Call)) (stop : Stop) (t : Session) (is_open : Bool) (text : List ℕ)
    → TakesText s now text c (Some stop) t d → Tells (with_receipt (came text)) e f → is_open ≡ true → IsRoomy (unsent_of s) → TakesNext s now e c (Err stop) t f d is_open
text_stops s now e f c d stop t is_open text k x o roomy = inl (text, k, x, o, roomy)

-- no text was taken yet
pub took_none : (s : Session) (now : ℕ) (e : Option Exchange) (c : Option (List Call)) (is_open : Bool) → is_open ≡ true → TakesSome s now 0 e c s e c is_open
took_none s now e c is_open o = record {
  taken = [];
  all = record {
    texts = tt;
    exchange = tells_nothing _ e (λ x. refl);
    calls = tells_nothing _ c (λ x. refl);
    keeps = keeps_all s;
    next = refl;
    unsent = refl;
    few = tt;
  };
  as_many = refl;
  goes_on = refl;
  opens = o;
}

-- what is kept twice is kept
pub keeps_then : (s t u : Session) → KeepsCopies s t → KeepsCopies t u → KeepsCopies s u
keeps_then s t u k l = record { party = l.party ∙ k.party; durable = l.durable ∙ k.durable; copies = l.copies ∙ k.copies; copies_sent = l.copies_sent ∙ k.copies_sent }

-- a text more was taken
pub takes_one_more : (s t u : Session) (now : ℕ) (e f h : Option Exchange) (c d i : Option (List Call)) (taken : List Taken) (text : List ℕ) (stop : Option Stop)
    → TakesAll s now taken None e c t f d → closed_by taken ≡ None → (k : TakesText t now text d stop u i) → Tells (with_receipt (came text)) f h → IsRoomy (unsent_of t)
    → TakesAll s now (k.taken ∷ taken) None e c u h i
takes_one_more s t u now e f h c d i taken text stop all goes k tells roomy = record {
  texts = (all.texts, goes, as_party);
  exchange = tells_then (received_with taken None) (with_receipt (came text)) (received_with (k.taken ∷ taken) None) e f h all.exchange tells
      (λ x. ap (λ y. with_receipt (came y) (received_with taken None x)) k.is_text);
  calls = tells_then (λ calls. calls_of_texts calls taken) (λ calls. and_one calls k.taken.call) (λ calls. calls_of_texts calls (k.taken ∷ taken)) c d i all.calls k.calls (λ x. refl);
  keeps = keeps_then s t u all.keeps k.keeps;
  next = k.next ∙ ap (λ n. number_after_call n k.taken.call) all.next;
  unsent = k.unsent ∙ ap (λ l. l ++ answer_to t.party now t.next k.taken) all.unsent
      ∙ ap (λ p. answered s.party now s.next (unsent_of s) taken ++ answer_to p now t.next k.taken) all.keeps.party
      ∙ ap (λ n. answered s.party now s.next (unsent_of s) taken ++ answer_to s.party now n k.taken) all.next;
  few = (all.few, subst IsRoomy all.unsent roomy);
}
  where
    as_party : IsUnread k.taken ⊎ IsTakenAs s.party k.taken (asks s.party now (next_after s.next taken) k.taken.text)
    as_party = subst (λ (x : Party × Option ℤ × List ℕ). IsUnread k.taken ⊎ IsTakenAs x.0 k.taken (asks x.0 now x.1 x.2)) (λ j. (all.keeps.party j, all.next j, sym k.is_text j)) k.as_asked

-- one text more was taken, and the session goes on
pub took_one : (s t u : Session) (now n : ℕ) (e f h : Option Exchange) (c d i : Option (List Call)) (was is : Bool)
    → TakesSome s now n e c t f d was → TakesNext t now f d (Ok Text) u h i is → TakesSome s now (n + 1) e c u h i is
took_one s t u now n e f h c d i was is k (text, one, tells, o, roomy) = record {
  taken = one.taken ∷ k.taken;
  all = takes_one_more s t u now e f h c d i k.taken text None k.all k.goes_on one tells roomy;
  as_many = let m = k.as_many in omega (arith, m);
  goes_on = closes_none one.taken.close one.stops;
  opens = o;
}
  where
    closes_none : (close : Option Close) → None ≡ option_map Closed close → close ≡ None
    closes_none None x = refl
    closes_none (Some y) x = cc

-- what stays is to be sent as before
pub stays_unsent : (s t : Session) → Stays s t → unsent_of t ≡ unsent_of s
stays_unsent s t k = more_unsent s t [] k.keeps (ap (map answering) k.waiting ∙ sym (append-nil (map answering s.waiting.items))) ∙ append-nil (unsent_of s)

-- no text comes after those that were taken
pub takes_silence : (s t u : Session) (now : ℕ) (e f h : Option Exchange) (c d i : Option (List Call)) (taken : List Taken) (silence : Option Silence) (more : Exchange → Exchange)
    → TakesAll s now taken None e c t f d → Stays t u → i ≡ d → Tells more f h → ((x : Exchange) → received_with taken silence x ≡ more (received_with taken None x)) → TakesAll s now taken silence e c u h i
takes_silence s t u now e f h c d i taken silence more all k same tells is = record {
  texts = all.texts;
  exchange = tells_then (received_with taken None) more (received_with taken silence) e f h all.exchange tells is;
  calls = subst (λ x. Tells (λ calls. calls_of_texts calls taken) c x) (sym same) all.calls;
  keeps = keeps_then s t u all.keeps k.keeps;
  next = k.next ∙ all.next;
  unsent = stays_unsent t u k ∙ all.unsent;
  few = all.few;
}

-- how the taking ends where no text closed the session
pub ends_open : (taken : List Taken) (silence : Option Silence) (most : ℕ) (unsent : List Unsent) (stop : Option Stop) (is_open : Bool)
    → closed_by taken ≡ None → EndsTexts taken silence most unsent stop is_open → EndsTextsBy (closed_by taken) taken silence most unsent stop is_open
ends_open taken silence most unsent stop is_open goes ends = subst (λ x. EndsTextsBy x taken silence most unsent stop is_open) (sym goes) ends

-- as many texts as there may be
pub took_all : (s t : Session) (now n most : ℕ) (e f : Option Exchange) (c d : Option (List Call)) (is : Bool)
    → TakesSome s now n e c t f d is → n ≡ most → TakesTexts s now most e c None t f d is
took_all s t now n most e f c d is k all = record {
  taken = k.taken;
  silence = None;
  all = k.all;
  at_most = let m = k.as_many in omega (arith, m, all);
  ends = ends_open k.taken None most (unsent_of t) None is k.goes_on (inl (refl, k.opens, inr (inl (k.as_many ∙ all))));
  silent = λ some. absurd (cc);
  gone = λ e. absurd (cc);
}

-- nothing came, or the session is full
pub took_nothing : (s t u : Session) (now n most : ℕ) (e f h : Option Exchange) (c d i : Option (List Call)) (was is : Bool)
    → TakesSome s now n e c t f d was → n ≤ most → TakesNext t now f d (Ok Nothing) u h i is → TakesTexts s now most e c None u h i is
took_nothing s t u now n most e f h c d i was is k less (stays, same_calls, o, inl (tells, roomy)) = record {
  taken = k.taken;
  silence = Some quiet;
  all = takes_silence s t u now e f h c d i k.taken (Some quiet) (with_receipt nothing) k.all stays same_calls tells (λ x. refl);
  at_most = let m = k.as_many in omega (arith, m, less);
  ends = ends_open k.taken (Some quiet) most (unsent_of u) None is k.goes_on (inl (refl, o, inl refl));
  silent = λ some. subst IsRoomy (sym (stays_unsent t u stays)) roomy;
  gone = λ e. absurd (cc);
}
took_nothing s t u now n most e f h c d i was is k less (stays, same_calls, o, inr (full, same_exchange)) = record {
  taken = k.taken;
  silence = None;
  all = takes_silence s t u now e f h c d i k.taken None same k.all stays same_calls (subst (Tells same f) (sym same_exchange) (tells_nothing same f (λ x. refl))) (λ x. refl);
  at_most = let m = k.as_many in omega (arith, m, less);
  ends = ends_open k.taken None most (unsent_of u) None is k.goes_on (inl (refl, o, inr (inr (subst IsFull (sym (stays_unsent t u stays)) full))));
  silent = λ some. absurd (cc);
  gone = λ e. absurd (cc);
}

-- the session ends
pub took_end : (s t u : Session) (now n most : ℕ) (e f h : Option Exchange) (c d i : Option (List Call)) (was is : Bool) (stop : Stop)
    → TakesSome s now n e c t f d was → n < most → TakesNext t now f d (Err stop) u h i is → TakesTexts s now most e c (Some stop) u h i is
took_end s t u now n most e f h c d i was is stop k less (inl (text, one, tells, o, roomy)) = record {
  taken = one.taken ∷ k.taken;
  silence = None;
  all = takes_one_more s t u now e f h c d i k.taken text (Some stop) k.all k.goes_on one tells roomy;
  at_most = let m = k.as_many in omega (arith, m, less);
  ends = closes_so one.taken.close one.stops;
  silent = λ some. absurd (cc);
  gone = λ e. absurd (cc);
}
  where
    closes_so : (close : Option Close) → Some stop ≡ option_map Closed close → EndsTextsBy close (one.taken ∷ k.taken) None most (unsent_of u) (Some stop) is
    closes_so None x = absurd (cc)
    closes_so (Some y) x = (x, o)
took_end s t u now n most e f h c d i was is stop k less (inr (inl (stays, same_calls, left, o, inl (tells, roomy)))) = record {
  taken = k.taken;
  silence = Some ended;
  all = takes_silence s t u now e f h c d i k.taken (Some ended) (with_receipt gone) k.all stays same_calls tells (λ x. refl);
  at_most = let m = k.as_many in omega (arith, m, less);
  ends = ends_open k.taken (Some ended) most (unsent_of u) (Some stop) is k.goes_on (inr (inl (ap Some left, o)));
  silent = λ some. subst IsRoomy (sym (stays_unsent t u stays)) roomy;
  gone = λ e. (ap Some left, o);
}
took_end s t u now n most e f h c d i was is stop k less (inr (inl (stays, same_calls, left, o, inr tells))) = record {
  taken = k.taken;
  silence = None;
  all = takes_silence s t u now e f h c d i k.taken None same k.all stays same_calls tells (λ x. refl);
  at_most = let m = k.as_many in omega (arith, m, less);
  ends = ends_open k.taken None most (unsent_of u) (Some stop) is k.goes_on (inr (inl (ap Some left, o)));
  silent = λ some. absurd (cc);
  gone = λ e. absurd (cc);
}
took_end s t u now n most e f h c d i was is stop k less (inr (inr (stays, same_calls, wants, o, same_exchange))) = record {
  taken = k.taken;
  silence = None;
  all = takes_silence s t u now e f h c d i k.taken None same k.all stays same_calls (subst (Tells same f) (sym same_exchange) (tells_nothing same f (λ x. refl))) (λ x. refl);
  at_most = let m = k.as_many in omega (arith, m, less);
  ends = ends_open k.taken None most (unsent_of u) (Some stop) is k.goes_on (inr (inr (ap Some wants, o)));
  silent = λ some. absurd (cc);
  gone = λ e. absurd (cc);
}
