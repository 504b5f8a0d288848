-- What was told durable stands in the rows of its topic, whatever a keeper does then.
use Rattle.std.proofs.Common.{◌≡◌, ◌≢◌, ◌⊎◌, ℕ, zero, suc, ◌+◌, ◌-◌, ◌<◌, ◌≤◌, Bool, true, false, true≢false, not, List, [], ◌∷◌, ◌++◌, map, length, length-drop, drop, Option, None, Some, MatchOption, inl, inr, refl, sym, ap, subst, ◌∙◌, arith}
use Rattle.std.specs.Prelude.{All, IsPermutation, nat_le, reverse, slice_get}
use Rattle.std.specs.List.{AllByRecursion}
use Rattle.std.specs.Str.{bytes_eq}
use Rattle.std.proofs.lemmas.Slice.Eq.{bytes_eq-Decides}
use Rattle.std.proofs.lemmas.List.Elements.{All-append, All-contains, All-cons, All-filter, All-map, All-nil}
use Rattle.std.proofs.lemmas.List.Sorted.{IsPermutation-sym, IsPermutation-trans}
use Rattle.std.proofs.lemmas.Bool.Decides.{nat_tests}
use mathlib.Core.List.{IsPrefix}
use Rattle.position_core.specs.TopicName.{same_topic, topic_text}
use Rattle.position_core.specs.declared.message.Entry.{Entry}
use Rattle.sqlite.specs.Tree.{Trees}
use Rattle.sqlite.specs.Order.{Row}
use Rattle.delivery_machine.specs.State.{State}
use Rattle.delivery_machine.specs.Run.{Answers}
use Rattle.delivery_machine.specs.Producing.{had}
use Rattle.delivery_machine.specs.Snapshot.{restarted}
use Rattle.delivery_machine.specs.Places.{KeptTopic, snapshot_in}
use Rattle.delivery_machine.specs.declared.event.Event.TheVariants.{Progress}
use Rattle.delivery_machine.specs.declared.reply.Reply.TheVariants.{Progress as Told}
use Rattle.row_forms.specs.Forms.{TopicRows, entry_rows, retention_rows}
use Rattle.row_forms.specs.Standing.{Has, Same, Stands}
use Rattle.row_reading.proofs.Authors.{few_same, one_front, retentions_few}
use Rattle.row_reading.proofs.Told.{one_log}
use Rattle.stored_cell.specs.Noted.{GoesOn, Noted, StandsAmong, ToStore, all_rows}
use Rattle.stored_cell.specs.Held.{HasNoneStored, Held, IsProof}
use Rattle.stored_cell.specs.Opening.{begins}
use Rattle.stored_cell.proofs.GoingOver.{goes_further, goes_same}
use Rattle.stored_cell.proofs.Sound.{sound_restarted}
use Rattle.row_store.specs.Keeping.{GoesForward, StoresAll, is_of_one, kepts, known_after}
use Rattle.row_store.specs.Promise.{AllDoBeside, Deed, Deletes, Does, Forgets, Begins, HasBelow, HasStill, IsAt, IsKnown, IsToldOf, KeepsMessages, Loads, MayBeLeft, OkIsStored, OpenedAreTold, Rows, Spares, StaysStored, Stores}
use Rattle.row_store.proofs.Lists.{all_reversed}
use Rattle.row_store.proofs.Standing.{same_stands}
use Rattle.row_store.proofs.Storing.{among}

-- ---- messages by their places

-- what a log begins with, it has
longer_has : {A : Type 0} (xs ys : List A) (i : ℕ) (x : A) → slice_get xs i ≡ Some x → slice_get (xs ++ ys) i ≡ Some x
longer_has [] ys i x is = absurd cc
longer_has (z ∷ xs) ys zero x is = is
longer_has (z ∷ xs) ys (suc i) x is = longer_has xs ys i x is

-- and what it has so far, that has
shorter_has : {A : Type 0} (xs ys : List A) (i : ℕ) (x : A) → i < length xs → slice_get (xs ++ ys) i ≡ Some x → slice_get xs i ≡ Some x
shorter_has [] ys i x within is = absurd (omega (arith, within))
shorter_has (z ∷ xs) ys zero x within is = is
shorter_has (z ∷ xs) ys (suc i) x within is = shorter_has xs ys i x (omega (arith, within)) is

dropped_at : {A : Type 0} (k : ℕ) (xs : List A) (i : ℕ) → slice_get (drop k xs) i ≡ slice_get xs (k + i)
dropped_at zero xs i = let same : i ≡ 0 + i = omega arith in ap (slice_get xs) same
dropped_at (suc k) [] i = refl
dropped_at (suc k) (x ∷ xs) i = let next : suc (k + i) ≡ suc k + i = omega arith in dropped_at k xs i ∙ ap (slice_get (x ∷ xs)) next

-- where the later log begins with what of the earlier is not gone, a message that is not gone stands at its place
stays_at : (was gone : ℕ) (earlier later : List Entry) → was ≤ gone → IsPrefix (drop (gone - was) earlier) later → (place : ℕ) (e : Entry) → gone ≤ place → IsAt was earlier place e → IsAt gone later place e
stays_at was gone earlier later low over place e past at =
    let index : gone - was + (place - gone) ≡ place - was = omega (arith, low, past) in
    let here : slice_get (drop (gone - was) earlier) (place - gone) ≡ Some e = dropped_at (gone - was) earlier (place - gone) ∙ ap (slice_get earlier) index ∙ at.1 in
    (past, subst (λ l. slice_get l (place - gone) ≡ Some e) over.1 (longer_has (drop (gone - was) earlier) over.0 (place - gone) e here))

-- and what stands in the later stood so in the earlier, as far as that reaches
stood_at : (was gone bound : ℕ) (earlier later : List Entry) → was ≤ gone → IsPrefix (drop (gone - was) earlier) later → bound ≤ was + length earlier → (place : ℕ) (e : Entry) → place < bound → IsAt gone later place e → IsAt was earlier place e
stood_at was gone bound earlier later low over far place e below at =
    let past : gone ≤ place = at.0 in
    let index : gone - was + (place - gone) ≡ place - was = omega (arith, low, past) in
    let within : place - gone < length (drop (gone - was) earlier) = omega (arith, low, past, far, below, length-drop (gone - was) earlier) in
    let there : slice_get (drop (gone - was) earlier ++ over.0) (place - gone) ≡ Some e = subst (λ l. slice_get l (place - gone) ≡ Some e) (sym over.1) at.1 in
    let low_place : was ≤ place = omega (arith, low, past) in
    (low_place, ap (slice_get earlier) (sym index) ∙ sym (dropped_at (gone - was) earlier (place - gone)) ∙ shorter_has (drop (gone - was) earlier) over.0 (place - gone) e within there)

has_still : (bound : ℕ) (s : State) (kept later : KeptTopic) → HasBelow bound s kept → KeepsMessages kept later → HasStill bound s later
has_still bound s kept later has keeps place e below at = by (nat_le later.gone place) refl
  where
    by : (b : Bool) → nat_le later.gone place ≡ b → (place < later.gone) ⊎ IsAt later.gone later.log place e
    by true past = let low : later.gone ≤ place = grind (arith, nat_tests) in inr (stays_at kept.gone later.gone kept.log later.log keeps.gone keeps.log place e low (has place e below at))
    by false under = let below : place < later.gone = grind (arith, nat_tests) in inl below

-- ---- snapshots of one topic

keeps_itself : (kept : KeptTopic) → KeepsMessages kept kept
keeps_itself kept = record { name = refl; gone = omega arith; log = goes_same kept.gone kept.log }

keeps_on : (a b c : KeptTopic) → KeepsMessages a b → KeepsMessages b c → KeepsMessages a c
keeps_on a b c first then =
    let low = first.gone in
    let more = then.gone in
    let sum : c.gone ≡ b.gone + (c.gone - b.gone) = omega (arith, more) in
    record {
      name = then.name ∙ first.name;
      gone = omega (arith, low, more);
      log = goes_further a.gone b.gone (c.gone - b.gone) c.gone a.log b.log c.log first.gone sum first.log then.log;
    }

-- what goes on from a snapshot keeps its messages
going_keeps : (base kept : KeptTopic) → GoesOn base kept → KeepsMessages base kept
going_keeps base kept goes = record { name = ap topic_text goes.name; gone = goes.gone; log = goes.log }

-- two that stand in one database have the same messages
standing_keeps : (a b : KeptTopic) (db : Trees) → topic_text b.name ≡ topic_text a.name → Stands a db → Stands b db → KeepsMessages a b
standing_keeps a b db name (rows, ra, ha) (others, rb, hb) =
    let topic : List ℕ = topic_text a.name in
    let hb' : Has topic others db = subst (λ t. Has t others db) name hb in
    let fronts_b : others.retentions ≡ retention_rows topic b.gone b.retention = rb.retentions ∙ ap (λ t. retention_rows t b.gone b.retention) name in
    let fronts = few_same (retention_rows topic a.gone a.retention) (retention_rows topic b.gone b.retention) (retentions_few topic a.gone a.retention) (both rows.retentions others.retentions _ _ _ ra.retentions fronts_b ha.retentions hb'.retentions) in
    let gone : a.gone ≡ b.gone = (one_front topic a.gone b.gone a.retention b.retention fronts).0 in
    let entries_b : others.entries ≡ entry_rows topic a.gone b.log = rb.entries ∙ ap (λ t. entry_rows t b.gone b.log) name ∙ ap (λ n. entry_rows topic n b.log) (sym gone) in
    let log : a.log ≡ b.log = one_log topic a.gone a.log b.log (both rows.entries others.entries _ _ _ ra.entries entries_b ha.entries hb'.entries) in
    record {
      name = name;
      gone = omega (arith, gone);
      log = subst (λ n. IsPrefix (drop (n - a.gone) a.log) b.log) gone (subst (λ l. IsPrefix (drop (a.gone - a.gone) a.log) l) log (goes_same a.gone a.log));
    }
  where
    both : (xs ys us vs zs : List Row) → xs ≡ us → ys ≡ vs → IsPermutation xs zs → IsPermutation ys zs → IsPermutation us vs
    both xs ys us vs zs p q a b = subst (λ l. IsPermutation l vs) p (subst (IsPermutation xs) q (IsPermutation-trans xs zs ys a (IsPermutation-sym ys zs b)))

-- ---- deeds

module _ (kept : KeptTopic) where
  abbrev topic : List ℕ
  topic = topic_text kept.name

  abbrev IsOf : KeptTopic → Type 0
  IsOf other = topic_text other.name ≡ topic → KeepsMessages kept other

  abbrev HasRows : Trees → Type 0
  HasRows db = (later : KeptTopic) × Stands later db × KeepsMessages kept later

  abbrev KnowsOnly : List KeptTopic → Type 0
  KnowsOnly known = All IsOf known

  -- rows of the topic stand that have its messages, and nothing else is known of it
  abbrev Holds : Rows → Type 0
  Holds rows = HasRows rows.db × KnowsOnly rows.known

  -- a part of the topic that may be stored has its messages
  goes_on : (known : List KeptTopic) (part : ToStore) → KnowsOnly known → GoesForward known part → (topic_text part.kept.name ≡ topic → part.is_first ≡ true → IsKnown part.kept.name known) → IsOf part.kept
  goes_on known part all (inl (base, knows, bases, goes)) spares named =
      let same : topic_text base.name ≡ topic = sym (ap topic_text goes.name) ∙ named in
      keeps_on kept base part.kept (All-contains IsOf known base all knows same) (going_keeps base part.kept goes)
  goes_on known part all (inr (first, none)) spares named =
      let other = spares named first in
      absurd (true≢false (sym other.2 ∙ All-contains (λ (o : KeptTopic). same_topic o.name part.kept.name ≡ false) known other.0 none other.1))

  all_go_on : (known : List KeptTopic) (parts : List ToStore) → KnowsOnly known → All (GoesForward known) parts → Spares topic known (Stores parts) → All IsOf (kepts parts)
  all_go_on known parts all forward spares = All-map IsOf (λ (part : ToStore). part.kept) parts (λ n d lt. goes_on known _ all (forward n d lt) (spares n d lt))

  -- one of the snapshots is the topic's, or none is
  one_of : (them : List KeptTopic) (P : KeptTopic → Type 0) → All P them → ((one : KeptTopic) × (topic_text one.name ≡ topic) × P one) ⊎ AllByRecursion (λ name. topic ≢ name) (map (λ (one : KeptTopic). topic_text one.name) them)
  one_of [] P all = inr tt
  one_of (k ∷ them) P all = by (bytes_eq (topic_text k.name) topic) refl (one_of them P (λ n d lt. all (suc n) d (omega (arith, lt))))
    where
      by : (b : Bool) → bytes_eq (topic_text k.name) topic ≡ b → ((one : KeptTopic) × (topic_text one.name ≡ topic) × P one) ⊎ AllByRecursion (λ name. topic ≢ name) (map (λ (one : KeptTopic). topic_text one.name) them)
          → ((one : KeptTopic) × (topic_text one.name ≡ topic) × P one) ⊎ AllByRecursion (λ name. topic ≢ name) (map (λ (one : KeptTopic). topic_text one.name) (k ∷ them))
      by true is rest = inl (k, (bytes_eq-Decides (topic_text k.name) topic).0 is, all zero k (omega arith))
      by false is (inl one) = inl one
      by false is (inr none) =
          let other : topic ≢ topic_text k.name = λ e. absurd (cc (is, (bytes_eq-Decides (topic_text k.name) topic).1 (sym e))) in
          inr (other, none)

  both_hold : (P Q : KeptTopic → Type 0) (them : List KeptTopic) → All P them → All Q them → All (λ one. P one × Q one) them
  both_hold P Q them p q n d lt = (p n d lt, q n d lt)

  stored_rows : (them : List KeptTopic) (old new : Trees) → StoresAll them old new → All IsOf them → HasRows old → HasRows new
  stored_rows them old new does all (later, stands, keeps) = by (one_of them (λ one. Stands one new × IsOf one) (both_hold (λ one. Stands one new) IsOf them does.each all))
    where
      by : ((one : KeptTopic) × (topic_text one.name ≡ topic) × (Stands one new × IsOf one)) ⊎ AllByRecursion (λ name. topic ≢ name) (map (λ (one : KeptTopic). topic_text one.name) them) → HasRows new
      by (inl (one, named, (there, of))) = (one, there, of named)
      by (inr none) = (later, same_stands later old new (subst (λ t. Same t old new) (sym keeps.name) (does.others topic none)) stands, keeps)

  stored_known : (them known : List KeptTopic) → KnowsOnly known → All IsOf them → KnowsOnly (known_after them known)
  stored_known them known all of = All-append IsOf _ (reverse them) (All-filter (λ (other : KeptTopic). not (is_of_one them other)) IsOf known all) (all_reversed IsOf them of)

  one_deed : (deed : Deed) (old new : Rows) → Does deed old new → Spares topic old.known deed → Holds old → Holds new
  one_deed (Stores parts) old new (forward, does, known) spares (rows, all) =
      let of = all_go_on old.known parts all forward spares in
      (stored_rows (kepts parts) old.db new.db does of rows, subst KnowsOnly (sym known) (stored_known (kepts parts) old.known all of))
  one_deed (Loads loaded) old new (there, same, known) spares ((later, stands, keeps), all) =
      let of : IsOf loaded = λ named. keeps_on kept later loaded keeps (standing_keeps later loaded old.db (named ∙ sym keeps.name) stands there) in
      (subst HasRows (sym same) (later, stands, keeps), subst KnowsOnly (sym known) (All-append IsOf old.known (loaded ∷ []) all (All-cons IsOf loaded [] of (All-nil IsOf))))
  one_deed (Forgets name) old new (same, known) spares (rows, all) =
      (subst HasRows (sym same) rows, subst KnowsOnly (sym known) (All-filter (λ (other : KeptTopic). not (same_topic other.name name)) IsOf old.known all))
  one_deed (Deletes left) old new (does, known) spares (rows, all) =
      let of : IsOf left = λ named. absurd (spares named) in
      (stored_rows (left ∷ []) old.db new.db does (All-cons IsOf left [] of (All-nil IsOf)) rows, subst KnowsOnly (sym known) (All-filter (λ (other : KeptTopic). not (same_topic other.name left.name)) IsOf old.known all))
  one_deed Begins old new (same, known) spares (rows, all) = (subst HasRows (sym same) rows, subst KnowsOnly (sym known) (All-nil IsOf))

  all_deeds : (deeds : List Deed) (old new : Rows) → AllDoBeside topic deeds old new → Holds old → Holds new
  all_deeds [] old new same holds = subst Holds (sym same) holds
  all_deeds (deed ∷ deeds) old new (mid, (does, spares), more) holds = all_deeds deeds mid new more (one_deed deed old mid does spares holds)

  left_holds : (now : Rows) (under_way : Deed) (left : Trees) → MayBeLeft topic now under_way left → Holds now → HasRows left
  left_holds now under_way left (inl same) holds = subst HasRows (sym same) holds.0
  left_holds now under_way left (inr (next, (does, spares), same)) holds = subst HasRows (sym same) (one_deed under_way now next does spares holds).0

  stays_stored : (bound : ℕ) (s : State) (db : Trees) → Stands kept db → HasBelow bound s kept → StaysStored bound s kept db
  stays_stored bound s db stands has first now deeds under_way left same known does may =
      let here : Stands kept first.db = subst (Stands kept) (sym same) stands in
      let begin : Holds first = ((kept, here, keeps_itself kept), λ n d lt named. standing_keeps kept _ first.db named here (known n d lt)) in
      let rows = left_holds now under_way left may (all_deeds deeds first now does begin) in
      record { later = rows.0; stands = rows.1; keeps = rows.2; messages = has_still bound s kept rows.0 has rows.2 }

-- ---- what is told durable

stands_among : (kept : KeptTopic) (rows : TopicRows) (db : Trees) → rows ≡ all_rows db → StandsAmong kept rows → Stands kept db
stands_among kept rows db same among = by (subst (StandsAmong kept) same among)
  where
    by : StandsAmong kept (all_rows db) → Stands kept db
    by (its, are, has) = (
      its,
      are,
      record {
        topics = has.topics;
        entries = has.entries;
        subs = has.subs;
        acks = has.acks;
        deads = has.deads;
        counts = has.counts;
        authors = has.authors;
        retentions = has.retentions;
      },
    )

told_by : (s t : State) (durable all : ℕ) → Answers s Progress (Told durable all) t → durable ≡ s.gone + s.durable
told_by s t durable all answers = same (answers.1).0
  where
    same : Told durable all ≡ Told (s.gone + s.durable) (had s) → durable ≡ s.gone + s.durable
    same e = cc

told_of : (h : Held) (durable : ℕ) (n : Noted) → durable ≡ h.cell.state.gone + h.cell.state.durable → h.stored ≡ Some n → IsProof h.cell.state n → IsToldOf h durable n
told_of h durable n is stored proof =
    let far : durable ≤ n.kept.gone + length n.kept.log = subst (λ d. d ≤ n.kept.gone + length n.kept.log) (sym is) proof.durable in
    record {
      confirmed = stored;
      begins = proof.kept;
      rows = proof.stored;
      reaches = far;
      messages = stood_at n.kept.gone h.cell.state.gone durable n.kept.log h.cell.state.log proof.kept.gone proof.kept.log far;
    }

pub ok_is_stored : OkIsStored
ok_is_stored h durable all t sound by_word some answers = by h.stored refl (sound.durable by_word)
  where
    is : durable ≡ h.cell.state.gone + h.cell.state.durable
    is = told_by h.cell.state t durable all answers

    by : (o : Option Noted) → h.stored ≡ o → MatchOption o (HasNoneStored h.cell.state) (IsProof h.cell.state)
        → (n : Noted) × IsToldOf h durable n × (n.clean ≡ true → (db : Trees) → n.rows ≡ all_rows db → StaysStored durable h.cell.state n.kept db)
    by None stored none = let zero_told = none.durable in absurd (omega (arith, some, is, zero_told))
    by (Some n) stored proof =
        let told = told_of h durable n is stored proof in
        (n, told, λ clean db rows. stays_stored n.kept durable h.cell.state db (stands_among n.kept n.rows db rows (proof.stored clean)) told.messages)

-- ---- what is opened

pub opened_are_told : OpenedAreTold
opened_are_told kept terms db may stands some =
    let n : Noted = record { kept = kept; rows = all_rows db; clean = true } in
    (sound_restarted (begins (restarted (snapshot_in kept)) terms) n may.sound refl refl (λ clean. among kept db stands), refl, omega (arith, some), (refl, (refl, refl)))
