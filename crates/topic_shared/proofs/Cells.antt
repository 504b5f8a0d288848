-- What a cell keeps, after one line more.
use Rattle.std.proofs.Common.{◌≡◌, ◌+◌, ◌≤◌, ◌++◌, ◌∷◌, [], length, ℕ, Bool, true, false, List, map, arith, length-append, refl, sym, ap, subst, ◌∙◌, true≢false}
use Rattle.std.specs.Prelude.{◌||◌, ◌==◌, is_some, if◌then◌else◌}
use Rattle.std.proofs.lemmas.Grind.{common_steps}
use Rattle.std.specs.List.{find}
use Rattle.delivery_machine.specs.State.{State, Producer, Member}
use Rattle.delivery_machine.specs.Words.{removed, is_producer, is_member}
use Rattle.delivery_machine.specs.Snapshot.{snapshot_of}
use Rattle.delivery_machine.specs.Run.{Step}
use Rattle.delivery_machine.specs.Journals.{producers_in, consumers_in, producers_noted, consumers_noted, changes_snapshot, is_storing}
use Rattle.delivery_machine.specs.declared.event.Event.{Event}
use Rattle.delivery_machine.specs.declared.event.Event.TheVariants.{DropProducer, Leave, Stored, StoredTo}
use Rattle.delivery_machine.specs.declared.reply.Reply.{Reply}
use Rattle.delivery_machine.specs.declared.reply.Reply.TheVariants.{ProducerAdded, Subscribed, Durable, Done, Refused}
use Rattle.delivery_machine.proofs.Journaling.{producers_are, consumers_are, snapshot_stays}
use Rattle.topic_shared.specs.Lines.{Line, line, Legal}
use Rattle.topic_shared.specs.Attached.{is_among, detaches, asks_to_attach, attaches, needs}
use Rattle.topic_shared.specs.Kept.{Kept, IsKept, Leads, StoresLine, spoken_for, needed_by}
use Rattle.topic_shared.proofs.Legality.{legal_joined, legal_snoc}
use Rattle.topic_shared.proofs.Replies.{attached_asked}

-- ---- numbers that go

fewer : (p : ℕ → Bool) (xs : List ℕ) → length (removed p xs) ≤ length xs
fewer p [] = omega arith
fewer p (x ∷ xs) = let h = fewer p xs in grind (arith, common_steps)

one_fewer : (n : ℕ) (xs : List ℕ) → is_among xs n ≡ true → length (removed (λ m. m == n) xs) + 1 ≤ length xs
one_fewer n [] h = absurd (true≢false (sym h))
one_fewer n (x ∷ xs) h = let i = one_fewer n xs in grind (arith, common_steps, i)

producer_found : (n : ℕ) (xs : List Producer) → is_among (map (λ (p : Producer). p.number) xs) n ≡ is_some (find (is_producer n) xs)
producer_found n [] = refl
producer_found n (x ∷ xs) = let h = producer_found n xs in grind (arith, common_steps, h)

member_found : (n : ℕ) (xs : List Member) → is_among (map (λ (m : Member). m.number) xs) n ≡ is_some (find (is_member n) xs)
member_found n [] = refl
member_found n (x ∷ xs) = let h = member_found n xs in grind (arith, common_steps, h)

-- ---- lines for those who are attached

noted_most : (ps cs : List ℕ) (e : Event) (r : Reply) → length (producers_noted ps e r) + length (consumers_noted cs e r) ≤ length ps + length cs + (if attaches r then 1 else 0)
noted_most ps cs e (ProducerAdded producer auto last) = omega (arith, length-append ps (producer ∷ []))
noted_most ps cs e (Subscribed consumer) = omega (arith, length-append cs (consumer ∷ []))
noted_most ps cs (DropProducer producer) Done = omega (arith, fewer (λ n. n == producer) ps)
noted_most ps cs (Leave consumer) Done = omega (arith, fewer (λ n. n == consumer) cs)
noted_most ps cs e r = omega arith

-- who is attached may go
goes : (s : State) (e : Event) (r : Reply) (t : State) → Step s e r t → detaches (producers_in s) (consumers_in s) e ≡ true → r ≡ Done
goes s (DropProducer producer) (Refused fault) t h is = let found = producer_found producer s.producers in let refused = h.0 in grind (arith, common_steps, found, refused, is)
goes s (DropProducer producer) r t h is = h.1.0
goes s (Leave consumer) (Refused fault) t h is = let found = member_found consumer s.members in let refused = h.0 in grind (arith, common_steps, found, refused, is)
goes s (Leave consumer) r t h is = h.1.0
goes s e r t h is = absurd (true≢false (sym is))

gone_fit : (ps cs : List ℕ) (e : Event) → detaches ps cs e ≡ true → length (producers_noted ps e Done) + length (consumers_noted cs e Done) + 1 ≤ length ps + length cs
gone_fit ps cs (DropProducer producer) is = omega (arith, one_fewer producer ps is)
gone_fit ps cs (Leave consumer) is = omega (arith, one_fewer consumer cs is)
gone_fit ps cs e is = absurd (true≢false (sym is))

-- one line more, with those that are kept then
attached_fit : (s : State) (e : Event) (r : Reply) (t : State) → Step s e r t
    → length (producers_noted (producers_in s) e r) + length (consumers_noted (consumers_in s) e r) + 1 ≤ length (producers_in s) + length (consumers_in s) + needs (producers_in s) (consumers_in s) e
attached_fit s e r t h = by (detaches ps cs e) (asks_to_attach e) (attaches r) refl refl refl
  where
    ps : List ℕ
    ps = producers_in s

    cs : List ℕ
    cs = consumers_in s

    noted : (b : Bool) → attaches r ≡ b → length (producers_noted ps e r) + length (consumers_noted cs e r) ≤ length ps + length cs + (if b then 1 else 0)
    noted b is = subst (λ x. length (producers_noted ps e r) + length (consumers_noted cs e r) ≤ length ps + length cs + (if x then 1 else 0)) is (noted_most ps cs e r)

    by : (d a b : Bool) → detaches ps cs e ≡ d → asks_to_attach e ≡ a → attaches r ≡ b
        → length (producers_noted ps e r) + length (consumers_noted cs e r) + 1 ≤ length ps + length cs + (if d then 0 else if a then 2 else 1)
    by true a b d_is a_is b_is =
        subst (λ (x : Reply). length (producers_noted ps e x) + length (consumers_noted cs e x) + 1 ≤ length ps + length cs + 0) (sym (goes s e r t h d_is)) (omega (arith, gone_fit ps cs e d_is))
    by false true true d_is a_is b_is = omega (arith, noted true b_is)
    by false true false d_is a_is b_is = omega (arith, noted false b_is)
    by false false true d_is a_is b_is = absurd (true≢false (sym (attached_asked s e r t h b_is) ∙ a_is))
    by false false false d_is a_is b_is = omega (arith, noted false b_is)

-- an event needs a line, or has one kept
pub needs_some : (ps cs : List ℕ) (e : Event) → 1 ≤ length ps + length cs + needs ps cs e
needs_some ps cs e = by (detaches ps cs e) (asks_to_attach e) refl
  where
    by : (d a : Bool) → detaches ps cs e ≡ d → 1 ≤ length ps + length cs + (if d then 0 else if a then 2 else 1)
    by true a is = omega (arith, gone_fit ps cs e is)
    by false true is = omega arith
    by false false is = omega arith

-- ---- a cell

or_false : (a b : Bool) → (a || b) ≡ false → (a ≡ false) × (b ≡ false)
or_false true b h = absurd (true≢false h)
or_false false b h = (refl, h)

pub kept_more : (k l : Kept) (ps cs ps' cs' : List ℕ) (capacity capacity' : ℕ) (seat : ℕ) (e : Event) (r : Reply)
    → IsKept k ps cs capacity → Step k.state e r l.state
    → l.began ≡ k.began → l.opening ≡ k.opening → l.viewed ≡ k.viewed → l.limit ≡ k.limit → l.own_line ≡ k.own_line → l.promised ≡ k.promised
    → l.lines ≡ k.lines ++ line seat e r ∷ [] → l.unsaved ≡ (k.unsaved || changes_snapshot e r)
    → ps' ≡ producers_noted ps e r → cs' ≡ consumers_noted cs e r
    → spoken_for k + needed_by k e ≤ k.limit → spoken_for k + needed_by k e ≤ capacity'
    → IsKept l ps' cs' capacity'
kept_more k l ps cs ps' cs' capacity capacity' seat e r kept step began opening viewed limit own promised lines unsaved ps_are cs_are room reserved =
    let producers : producers_in l.state ≡ producers_noted (producers_in k.state) e r = producers_are k.state e r l.state step in
    let consumers : consumers_in l.state ≡ consumers_noted (consumers_in k.state) e r = consumers_are k.state e r l.state step in
    let more : length l.lines ≡ length k.lines + 1 = ap length lines ∙ length-append k.lines (line seat e r ∷ []) in
    let fit = attached_fit k.state e r l.state step in
    let many = ap length producers in
    let few = ap length consumers in
    let own_as : ◌≡◌ {A = ℕ} (if l.own_line then 1 else 0) (if k.own_line then 1 else 0) = ap (λ (b : Bool). if b then 1 else 0) own in
    let promised_as : ◌≡◌ {A = ℕ} (if l.promised then 1 else 0) (if k.promised then 1 else 0) = ap (λ (b : Bool). if b then 1 else 0) promised in
    let spoken : spoken_for l ≤ spoken_for k + needed_by k e = omega (arith, more, fit, many, few, own_as, promised_as) in
    record {
      leads = subst (λ (x : State × State). Leads x.0 x.1) (λ i. (sym began i, sym opening i)) kept.leads;
      legal = subst (λ x. Legal x l.lines l.state) (sym opening) (subst (λ x. Legal k.opening x l.state) (sym lines) (legal_snoc k.opening k.lines k.state (line seat e r) l.state kept.legal step));
      producers_are = ps_are ∙ ap (λ x. producers_noted x e r) kept.producers_are ∙ sym producers;
      consumers_are = cs_are ∙ ap (λ x. consumers_noted x e r) kept.consumers_are ∙ sym consumers;
      room = omega (arith, spoken, room, limit);
      reserved = omega (arith, spoken, reserved);
      as_viewed = λ unchanged.
          let both = or_false k.unsaved (changes_snapshot e r) (sym unsaved ∙ unchanged) in
          snapshot_stays k.state e r l.state step both.1 ∙ kept.as_viewed both.0 ∙ ap snapshot_of (sym viewed);
    }

-- the same, over other lists and more room
pub kept_again : (k l : Kept) (ps cs ps' cs' : List ℕ) (capacity capacity' : ℕ) → IsKept k ps cs capacity → l ≡ k → ps' ≡ ps → cs' ≡ cs → capacity ≤ capacity' → IsKept l ps' cs' capacity'
kept_again k l ps cs ps' cs' capacity capacity' kept same ps_are cs_are more =
    let reserved : spoken_for k ≤ capacity' = omega (arith, kept.reserved, more) in
    let again : IsKept k ps cs capacity' = record { leads = kept.leads; legal = kept.legal; producers_are = kept.producers_are; consumers_are = kept.consumers_are; room = kept.room; reserved = reserved; as_viewed = kept.as_viewed } in
    subst (λ (x : Kept × List ℕ × List ℕ). IsKept x.0 x.1 x.2 capacity') (λ i. (sym same i, sym ps_are i, sym cs_are i)) again

-- an event of storing attaches nobody and lets nobody go, and no snapshot is another after it
storing_notes : (ps cs : List ℕ) (e : Event) (count : ℕ) → is_storing e ≡ true
    → (producers_noted ps e (Durable count) ≡ ps) × (consumers_noted cs e (Durable count) ≡ cs) × (changes_snapshot e (Durable count) ≡ false)
storing_notes ps cs Stored count is = (refl, refl, refl)
storing_notes ps cs (StoredTo length ordinal) count is = (refl, refl, refl)
storing_notes ps cs e count is = absurd (true≢false (sym is))

-- a line that was promised is written
pub kept_stored : (k l : Kept) (ps cs : List ℕ) (capacity capacity' : ℕ) (e : Event) (count : ℕ)
    → IsKept k ps cs capacity → is_storing e ≡ true → k.promised ≡ true → StoresLine k e count l → capacity' ≡ capacity → IsKept l ps cs capacity'
kept_stored k l ps cs capacity capacity' e count kept storing promised stores as_much =
    let notes = storing_notes (producers_in k.state) (consumers_in k.state) e count storing in
    let producers : producers_in l.state ≡ producers_in k.state = producers_are k.state e (Durable count) l.state stores.step ∙ notes.0 in
    let consumers : consumers_in l.state ≡ consumers_in k.state = consumers_are k.state e (Durable count) l.state stores.step ∙ notes.1 in
    let same = stores.others in
    let more : length l.lines ≡ length k.lines + 1 = ap length stores.line ∙ length-append k.lines (line 0 e (Durable count) ∷ []) in
    let many = ap length producers in
    let few = ap length consumers in
    let limit : l.limit ≡ k.limit = ap (λ (x : Kept). x.limit) same in
    let own_as : ◌≡◌ {A = ℕ} (if l.own_line then 1 else 0) (if k.own_line then 1 else 0) = ap (λ (x : Kept). if x.own_line then 1 else 0) same in
    let was : ◌≡◌ {A = ℕ} (if k.promised then 1 else 0) 1 = ap (λ (b : Bool). if b then 1 else 0) promised in
    let is : ◌≡◌ {A = ℕ} (if l.promised then 1 else 0) 0 = ap (λ (x : Kept). if x.promised then 1 else 0) same in
    let spoken : spoken_for l ≡ spoken_for k = omega (arith, more, many, few, own_as, was, is) in
    record {
      leads = subst (λ (x : Kept). Leads x.began x.opening) (sym same) kept.leads;
      legal = subst (λ x. Legal x l.lines l.state) (sym (ap (λ (x : Kept). x.opening) same)) (subst (λ x. Legal k.opening x l.state) (sym stores.line) (legal_snoc k.opening k.lines k.state (line 0 e (Durable count)) l.state kept.legal stores.step));
      producers_are = kept.producers_are ∙ sym producers;
      consumers_are = kept.consumers_are ∙ sym consumers;
      room = omega (arith, spoken, kept.room, limit);
      reserved = omega (arith, spoken, kept.reserved, as_much);
      as_viewed = λ unchanged.
          snapshot_stays k.state e (Durable count) l.state stores.step notes.2 ∙ kept.as_viewed (sym (ap (λ (x : Kept). x.unsaved) same) ∙ unchanged)
          ∙ ap (λ (x : Kept). snapshot_of x.viewed) (sym same);
    }

-- from where the cell began to where the topic is, over the opening state
pub leads_on : (k : Kept) (ps cs : List ℕ) (capacity : ℕ) → IsKept k ps cs capacity → Leads k.began k.state
leads_on k ps cs capacity kept = (kept.leads.0 ++ k.lines, legal_joined k.began kept.leads.0 k.opening k.lines k.state kept.leads.1 kept.legal)

-- where the journal begins anew, what led to the topic leads to where it begins
pub kept_rolled : (k : Kept) (opening : State) (lines : List Line) (ps cs : List ℕ) (capacity capacity' : ℕ)
    → IsKept k ps cs capacity → opening ≡ k.state → lines ≡ [] → capacity' ≡ capacity → IsKept (record k { opening = opening; lines = lines }) ps cs capacity'
kept_rolled k opening lines ps cs capacity capacity' kept here none as_much =
    let count = ap length none in
    record {
      leads = subst (Leads k.began) (sym here) (leads_on k ps cs capacity kept);
      legal = subst (λ (ls : List Line). Legal opening ls k.state) (sym none) (sym here);
      producers_are = kept.producers_are;
      consumers_are = kept.consumers_are;
      room = omega (arith, count, kept.room);
      reserved = omega (arith, count, kept.reserved, as_much);
      as_viewed = kept.as_viewed;
    }
