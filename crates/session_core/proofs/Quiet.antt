-- Where nothing of what a session waits for came, its turn sends nothing.
use Rattle.std.proofs.Common.{◌≡◌, ◌≤◌, ◌<◌, ℕ, List, [], ◌∷◌, ◌++◌, map, drop, length, All, false, Some, None, IfSome, sym, ap, ◌∙◌, subst, arith, append-nil, if◌then◌else◌}
use Rattle.std.proofs.lemmas.Bool.{leb-false, lt-ltb, ltb-false}
use Rattle.std.proofs.lemmas.List.{drop_all}
use Rattle.std.proofs.lemmas.List.Elements.{All-head, All-tail}
use Rattle.delivery_machine.specs.declared.delivery.Delivery.{Delivery}
use Rattle.session_texts.specs.declared.answer.Answer.{Answer}
use Rattle.session_texts.specs.Unsent.{Unsent, answering, collected, least_durable, needs}
use Rattle.session_core.specs.declared.session.Session.{Session}
use Rattle.session_core.specs.Held.{can_send, first_ready, has_copies, is_ready, unsent_of}
use Rattle.session_core.specs.Turns.{Taken}
use Rattle.session_core.specs.Texts.{answered}
use Rattle.session_core.specs.Asking.{copies_of}
use Rattle.session_core.specs.Sending.{Gone, IsBlocked, IsSent, Sends}
use Rattle.session_core.specs.Runs.{all_of, durable_of, next_of, sent_of}
use Rattle.session_core.specs.Waiting.{WaitsQuietly, awaits_room, first_need, need_of}
use Rattle.session_core.proofs.Unsent.{both_false}

-- where the first that is left may not be sent, no more was sent
pub sent_no_more : (durable : ℕ) (gone later : List Gone) (more : List (List ℕ)) (left rest : List Unsent) → map (λ (g : Gone). g.text) later ≡ map (λ (g : Gone). g.text) gone ++ more
    → map (λ (g : Gone). g.item) later ++ rest ≡ map (λ (g : Gone). g.item) gone ++ left → All (IsSent durable) later → IsBlocked durable left → more ≡ []
sent_no_more durable [] [] more left rest texts items ready blocked = sym texts
sent_no_more durable [] (g ∷ later) more left rest texts items ready blocked = absurd (first left items blocked)
  where
    first : (left : List Unsent) → g.item ∷ map (λ (g : Gone). g.item) later ++ rest ≡ left → IsBlocked durable left → ⊥
    first [] e b = cc
    first (item ∷ more) e b =
        let h : needs g.item ≤ durable = (All-head (IsSent durable) g later ready).0 in
        let i : g.item ≡ item = cc in
        let k : needs g.item ≡ needs item = ap needs i in
        omega (arith, h, k, b)
sent_no_more durable (h ∷ gone) [] more left rest texts items ready blocked = absurd (cc)
sent_no_more durable (h ∷ gone) (g ∷ later) more left rest texts items ready blocked =
    let texts_left : map (λ (g : Gone). g.text) later ≡ map (λ (g : Gone). g.text) gone ++ more = cc in
    let items_left : map (λ (g : Gone). g.item) later ++ rest ≡ map (λ (g : Gone). g.item) gone ++ left = cc in
    sent_no_more durable gone later more left rest texts_left items_left (All-tail (IsSent durable) g later ready) blocked

-- the same of all that was sent
pub sends_no_more : (low high : ℕ) (all : List Unsent) (sent more : List (List ℕ)) (left rest : List Unsent) → Sends low all sent left → Sends high all (sent ++ more) rest → IsBlocked high left → more ≡ []
sends_no_more low high all sent more left rest k l blocked =
    sent_no_more high k.gone l.gone more left rest (l.texts ∙ ap (λ x. x ++ more) (sym k.texts)) (l.parts ∙ sym k.parts) l.ready blocked

-- the first answer needs more than that is stored
pub needs_more : (durable later : ℕ) (items : List Answer) → first_ready durable items ≡ false → IfSome (first_need durable items) (λ need. later < need) → IsBlocked later (map answering items)
needs_more durable later [] ready less = tt
needs_more durable later (answer ∷ more) ready less =
    let above : durable < least_durable answer = leb-false (least_durable answer) durable ready in
    subst (λ b. IfSome (if b then Some (least_durable answer) else None) (λ need. later < need)) (lt-ltb durable (least_durable answer) above) less

-- what a session holds is blocked, as long as what it waits for is not stored
pub still_blocked : (s : Session) (later : ℕ) → awaits_room s ≡ false → IfSome (need_of s) (λ need. later < need) → IsBlocked later (unsent_of s)
still_blocked s later room less =
    let none : can_send s ≡ false = (both_false (can_send s) _ room).0 in
    let k = both_false (has_copies s) (is_ready s) none in
    let all_sent : length s.copies ≤ s.copies_sent = ltb-false s.copies_sent (length s.copies) k.0 in
    let no_copies : drop s.copies_sent s.copies ≡ [] = drop_all s.copies_sent s.copies all_sent in
    subst (λ (l : List Delivery). IsBlocked later (map collected l ++ map answering s.waiting.items)) (sym no_copies) (needs_more s.durable later s.waiting.items k.1 less)

-- A session that waits for something sends nothing before it comes.
pub waits_quietly : WaitsQuietly
waits_quietly s before session t is k =
    let same : all_of s.party (t ∷ before) ≡ all_of s.party before =
    ap (λ (l : List Taken). answered s.party t.now (next_of s.party before) (all_of s.party before) l ++ copies_of s.party t.asked.last) k.texts
    ∙ ap (λ l. all_of s.party before ++ l) k.messages ∙ append-nil (all_of s.party before) in
    let later : ℕ = durable_of s.party (t ∷ before) in
    sends_no_more (durable_of s.party before) later (all_of s.party before) (sent_of before) t.sent (unsent_of s) is.left session.sends
    (subst (λ l. Sends later l (sent_of (t ∷ before)) is.left) same is.sends) (still_blocked s later k.room k.durable)
