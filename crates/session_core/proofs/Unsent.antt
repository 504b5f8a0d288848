-- What each step takes from what is to be sent.
use Rattle.std.proofs.Common.{length-drop, suc, ◌≡◌, ℕ, ◌+◌, ◌≤◌, ◌<◌, List, [], ◌∷◌, ◌++◌, length, map, drop, get_or, Bool, true, false, Option, Some, None, ◌⊎◌, inl, inr, refl, sym, ap, ◌∙◌, subst, arith, append-nil, append_assoc, drop-cons, add-one, ◌||◌}
use Rattle.std.proofs.lemmas.Bool.{leb-false, leb-true, ltb-true, ltb-false}
use Rattle.std.proofs.lemmas.List.{drop_all, map-append}
use Rattle.std.proofs.lemmas.List.Elements.{All-push}
use Rattle.delivery_machine.specs.declared.delivery.Delivery.{Delivery}
use Rattle.session_links.specs.Links.{Exchange, Tells, same, with_sent}
use Rattle.session_texts.specs.declared.answer.Answer.{Answer}
use Rattle.session_texts.specs.Unsent.{IsAnswerText, IsDeliveryText, Unsent, answering, collected, least_durable}
use Rattle.session_core.specs.declared.session.Session.{Session}
use Rattle.session_core.specs.declared.stop.Stop.{Stop}
use Rattle.session_core.specs.declared.stop.Stop.TheVariants.{Gone as Left}
use Rattle.session_core.specs.Held.{can_send, first_ready, has_copies, is_ready, unsent_of}
use Rattle.session_core.specs.Sending.{Gone, IsBlocked, IsReady, IsSent}
use Rattle.session_core.specs.Steps.{FailsSending, KeepsState, SendsOne, SendsReady, SendsSome, wanting_memory}
use Rattle.session_core.proofs.Telling.{tells_nothing, tells_then}

-- a message that was sent is not to be sent any longer
pub copy_gone : (s t : Session) (delivery : Delivery) → has_copies s ≡ true → delivery ≡ get_or s.copies s.copies_sent delivery → t.copies ≡ s.copies → t.copies_sent ≡ s.copies_sent + 1 → t.waiting.items ≡ s.waiting.items
    → collected delivery ∷ unsent_of t ≡ unsent_of s
copy_gone s t delivery some is copies sent waiting =
    let within : s.copies_sent < length s.copies = ltb-true s.copies_sent (length s.copies) some in
    let parted : drop s.copies_sent s.copies ≡ delivery ∷ drop (s.copies_sent + 1) s.copies =
    drop-cons s.copies s.copies_sent delivery within ∙ ap (λ x. x ∷ drop (suc s.copies_sent) s.copies) (sym is) ∙ ap (λ n. delivery ∷ drop n s.copies) (sym (add-one s.copies_sent)) in
    ap (λ n. collected delivery ∷ map collected (drop n t.copies) ++ map answering t.waiting.items) sent
    ∙ ap (λ (l : List Delivery). collected delivery ∷ map collected (drop (s.copies_sent + 1) l) ++ map answering t.waiting.items) copies
    ∙ ap (λ (l : List Answer). collected delivery ∷ map collected (drop (s.copies_sent + 1) s.copies) ++ map answering l) waiting
    ∙ ap (λ (l : List Delivery). map collected l ++ map answering s.waiting.items) (sym parted)

-- a message was sent
pub sends_copy : (s t : Session) (delivery : Delivery) (text : List ℕ) (e f : Option Exchange) (had_room is_open has_room : Bool)
    → has_copies s ≡ true → delivery ≡ get_or s.copies s.copies_sent delivery → IsDeliveryText delivery text
    → t.copies ≡ s.copies → t.copies_sent ≡ s.copies_sent + 1 → t.waiting.items ≡ s.waiting.items → KeepsState s t
    → Tells (with_sent text) e f → is_open ≡ true → SendsOne s e had_room None t f is_open has_room
sends_copy s t delivery text e f had_room is_open has_room some is written copies sent waiting keeps tells o =
    (record { item = collected delivery; text = text }, copy_gone s t delivery some is copies sent waiting, (omega arith, written), tells, keeps, o)

-- an answer that was sent is not to be sent any longer
pub answer_gone : (s t : Session) (answer : Answer) → has_copies s ≡ false → is_ready s ≡ true → answer ≡ get_or s.waiting.items 0 answer
    → t.copies ≡ s.copies → t.copies_sent ≡ s.copies_sent → t.waiting.items ≡ drop 1 s.waiting.items
    → (answering answer ∷ unsent_of t ≡ unsent_of s) × (least_durable answer ≤ s.durable)
answer_gone s t answer none ready is copies sent waiting =
    let all_sent : length s.copies ≤ s.copies_sent = ltb-false s.copies_sent (length s.copies) none in
    let no_copies : drop s.copies_sent s.copies ≡ [] = drop_all s.copies_sent s.copies all_sent in
    let first = by_items s.waiting.items ready is in (
      ap (λ n. answering answer ∷ map collected (drop n t.copies) ++ map answering t.waiting.items) sent
          ∙ ap (λ (l : List Delivery). answering answer ∷ map collected (drop s.copies_sent l) ++ map answering t.waiting.items) copies
          ∙ ap (λ (l : List Delivery). answering answer ∷ map collected l ++ map answering t.waiting.items) no_copies
          ∙ ap (λ (l : List Answer). answering answer ∷ map answering l) waiting
          ∙ first.0
          ∙ ap (λ (l : List Delivery). map collected l ++ map answering s.waiting.items) (sym no_copies),
      first.1,
    )
  where
    by_items : (items : List Answer) → first_ready s.durable items ≡ true → answer ≡ get_or items 0 answer
        → (answering answer ∷ map answering (drop 1 items) ≡ map answering items) × (least_durable answer ≤ s.durable)
    by_items [] r i = absurd (cc)
    by_items (first ∷ more) r i = (ap (λ x. answering x ∷ map answering more) i, subst (λ x. least_durable x ≤ s.durable) (sym i) (leb-true (least_durable first) s.durable r))

-- an answer was sent
pub sends_answer : (s t : Session) (answer : Answer) (text : List ℕ) (e f : Option Exchange) (had_room is_open has_room : Bool)
    → has_copies s ≡ false → is_ready s ≡ true → answer ≡ get_or s.waiting.items 0 answer → IsAnswerText answer text
    → t.copies ≡ s.copies → t.copies_sent ≡ s.copies_sent → t.waiting.items ≡ drop 1 s.waiting.items → KeepsState s t
    → Tells (with_sent text) e f → is_open ≡ true → SendsOne s e had_room None t f is_open has_room
sends_answer s t answer text e f had_room is_open has_room none ready is written copies sent waiting keeps tells o =
    let k = answer_gone s t answer none ready is copies sent waiting in
    (record { item = answering answer; text = text }, k.0, (k.1, written), tells, keeps, o)

-- what was sent first, and what was sent then
pub sent_one : (s t u : Session) (e f h : Option Exchange) (had_room is_open has_room : Bool) → SendsSome s e t f → SendsOne t f had_room None u h is_open has_room → SendsSome s e u h
sent_one s t u e f h had_room is_open has_room k (gone, parts, ready, tells, keeps, o) = record {
  gone = k.gone ++ gone ∷ [];
  parts = ap (λ l. l ++ unsent_of u) (map-append (λ (g : Gone). g.item) k.gone (gone ∷ [])) ∙ append_assoc (map (λ (g : Gone). g.item) k.gone) (gone.item ∷ []) (unsent_of u)
      ∙ ap (λ l. map (λ (g : Gone). g.item) k.gone ++ l) parts ∙ k.parts;
  ready = All-push (IsSent s.durable) k.gone gone k.ready (subst (λ d. IsSent d gone) k.keeps.durable ready);
  exchange = tells_then _ _ _ e f h k.exchange tells (λ x. sym (ap (λ l. record { received = x.received; sent = l; closes = x.closes })
      (append_assoc x.sent (map (λ (g : Gone). g.text) k.gone) (gone.text ∷ []) ∙ ap (λ l. x.sent ++ l) (sym (map-append (λ (g : Gone). g.text) k.gone (gone ∷ []))))));
  keeps = record { party = keeps.party ∙ k.keeps.party; next = keeps.next ∙ k.keeps.next; durable = keeps.durable ∙ k.keeps.durable };
}

-- nothing was sent yet
pub sent_none : (s : Session) (e : Option Exchange) → SendsSome s e s e
sent_none s e = record {
  gone = [];
  parts = refl;
  ready = λ i x lt. absurd (omega (arith, lt));
  exchange = tells_nothing _ e (λ x. ap (λ l. record { received = x.received; sent = l; closes = x.closes }) (append-nil x.sent));
  keeps = record { party = refl; next = refl; durable = refl };
}

-- neither holds
pub both_false : (a b : Bool) → (a || b) ≡ false → (a ≡ false) × (b ≡ false)
both_false true b e = absurd (cc)
both_false false b e = (refl, e)

-- what may not be sent is blocked
pub is_blocked : (s : Session) → can_send s ≡ false → IsBlocked s.durable (unsent_of s)
is_blocked s e =
    let k = both_false (has_copies s) (is_ready s) e in
    let no_copies : drop s.copies_sent s.copies ≡ [] = drop_all s.copies_sent s.copies (ltb-false s.copies_sent (length s.copies) k.0) in
    subst (λ (l : List Delivery). IsBlocked s.durable (map collected l ++ map answering s.waiting.items)) (sym no_copies) (by_items s.waiting.items k.1)
  where
    by_items : (items : List Answer) → first_ready s.durable items ≡ false → IsBlocked s.durable (map answering items)
    by_items [] r = tt
    by_items (first ∷ more) r = leb-false (least_durable first) s.durable r

-- the sending is at its end
pub sent_all : (s t : Session) (e f : Option Exchange) (is_open has_room : Bool) → SendsSome s e t f → is_open ≡ true → (has_room ≡ true → IsBlocked t.durable (unsent_of t)) → SendsReady s e None t f is_open has_room
sent_all s t e f is_open has_room k o blocked = record {
  sends = k;
  ends = inl (refl, o, λ room. subst (λ d. IsBlocked d (unsent_of t)) k.keeps.durable (blocked room));
}

-- what may be sent is ready
pub is_ready_left : (s : Session) → can_send s ≡ true → IsReady s.durable (unsent_of s)
is_ready_left s e = by_copies (drop s.copies_sent s.copies) refl
  where
    by_items : (items : List Answer) → first_ready s.durable items ≡ true → IsReady s.durable (map answering items)
    by_items [] r = absurd (cc)
    by_items (first ∷ more) r = leb-true (least_durable first) s.durable r

    by_copies : (copies : List Delivery) → drop s.copies_sent s.copies ≡ copies → IsReady s.durable (map collected copies ++ map answering s.waiting.items)
    by_copies [] is = by_items s.waiting.items (by_case (has_copies s) refl e)
      where
        by_case : (some : Bool) → has_copies s ≡ some → (some || is_ready s) ≡ true → is_ready s ≡ true
        by_case false none r = r
        by_case true some r =
            let within : s.copies_sent < length s.copies = ltb-true s.copies_sent (length s.copies) some in
            let none : length s.copies ≤ s.copies_sent = omega (arith, ap length is, length-drop s.copies_sent s.copies) in
            absurd (omega (arith, within, none))
    by_copies (delivery ∷ more) is = omega arith

-- the sending ended the session
pub sent_end : (s t u : Session) (e f h : Option Exchange) (stop : Stop) (had_room is_open has_room : Bool) → SendsSome s e t f → can_send t ≡ true → had_room ≡ true → SendsOne t f had_room (Some stop) u h is_open has_room
    → SendsReady s e (Some stop) u h is_open has_room
sent_end s t u e f h stop had_room is_open has_room k some room (stays, tells, keeps, fails) = record {
  sends = record {
    gone = k.gone;
    parts = ap (λ l. map (λ (g : Gone). g.item) k.gone ++ l) stays ∙ k.parts;
    ready = k.ready;
    exchange = tells_then _ _ _ e f h k.exchange tells (λ x. refl);
    keeps = record { party = keeps.party ∙ k.keeps.party; next = keeps.next ∙ k.keeps.next; durable = keeps.durable ∙ k.keeps.durable };
  };
  ends = inr (subst (λ (x : ℕ × List Unsent). IsReady x.0 x.1) (λ i. (k.keeps.durable i, sym stays i)) (is_ready_left t some), by_case fails);
}
  where
    by_case : FailsSending stop had_room is_open has_room → (((Some stop ≡ Some Left) × (is_open ≡ false)) ⊎ ((Some stop ≡ Some wanting_memory) × (is_open ≡ true) × (has_room ≡ true)))
    by_case (inl (left, o)) = inl (ap Some left, o)
    by_case (inr (wants, o, same)) = inr (ap Some wants, o, same ∙ room)

-- one less is to be sent
pub smaller : (s t : Session) (item : Unsent) → item ∷ unsent_of t ≡ unsent_of s → length (unsent_of t) < length (unsent_of s)
smaller s t item e = let h = ap length e in omega (arith, h)
