-- What a stored cell keeps, after each of its calls.
use Rattle.std.proofs.Common.{◌≡◌, ℕ, zero, suc, ◌+◌, ◌-◌, ◌≤◌, ◌++◌, List, [], ◌∷◌, slice_index_or, Bool, true, false, Option, Some, None, IfSome, MatchOption, length, inl, inr, refl, sym, ap, subst, ◌∙◌, arith, true≢false}
use Rattle.std.specs.Prelude.{All, ◌||◌, drop, min, max, nat_lt, if◌then◌else◌}
use Rattle.std.proofs.lemmas.List.Elements.{All-append, All-nil}
use mathlib.Core.List.{IsPrefix}
use Rattle.delivery_machine.specs.State.{State, fresh}
use Rattle.delivery_machine.specs.Snapshot.{Snapshot, snapshot_of, restarted}
use Rattle.delivery_machine.specs.Places.{KeptTopic, snapshot_in}
use Rattle.delivery_machine.specs.WellFormed.{IsSound as IsSoundSnapshot}
use Rattle.delivery_machine.specs.Laws.{IsReached}
use Rattle.delivery_machine.specs.Run.{Step}
use Rattle.delivery_machine.specs.Journals.{is_storing}
use Rattle.delivery_machine.specs.declared.event.Event.{Event}
use Rattle.delivery_machine.specs.declared.event.Event.TheVariants.{Stored, StoredTo}
use Rattle.delivery_machine.specs.declared.reply.Reply.{Reply}
use Rattle.delivery_machine.specs.declared.reply.Reply.TheVariants.{Durable}
use Rattle.machine_laws.proofs.Growing.{step_grows}
use Rattle.machine_laws.proofs.ReachedOn.{reached_fresh, reached_restarted}
use Rattle.topic_shared.specs.Lines.{line}
use Rattle.topic_shared.proofs.Legality.{legal_snoc}
use Rattle.topic_shared.specs.Kept.{Kept, IsVacant, StoresLine, spoken_for, with_promise}
use Rattle.stored_cell.specs.Noted.{Noted, GoesOn, IsOfNow, IsOfView, IsStored, marked}
use Rattle.stored_cell.specs.Held.{Held, IsBeginning, KeepsSafe, KeepsLetters, IsProof, HasNothing, HasNoneStored, IsAtRest, IsSound, bases_of, outstanding_in}
use Rattle.stored_cell.proofs.GoingOver.{goes_same, goes_further, reaches_within}
use Rattle.stored_cell.proofs.SafeKept.{reached_on, safe_on, none_on, letters_on, safe_viewed, letters_viewed, safe_confirmed, safe_all, safe_opened, none_fresh}

some_weaker : {A : Type 0} (o : Option A) (P Q : A → Type 0) → ((x : A) → P x → Q x) → IfSome o P → IfSome o Q
some_weaker None P Q all h = h
some_weaker (Some x) P Q all h = all x h

or_false : (a b : Bool) → (a || b) ≡ false → (a ≡ false) × (b ≡ false)
or_false true b h = absurd (true≢false h)
or_false false b h = (refl, h)

beginning_grows : (s t : State) (e : Event) (r : Reply) (kept : KeptTopic) → Step s e r t → IsBeginning s kept → IsBeginning t kept
beginning_grows s t e r kept step at =
    let grown = step_grows s e r t step in
    let been = at.events in
    record {
      name = at.name ∙ sym grown.name;
      gone = let low = at.gone in let more = grown.gone in omega (arith, low, more);
      log = goes_further kept.gone s.gone grown.went t.gone kept.log s.log t.log at.gone grown.gone at.log grown.log;
      events = (been.0, been.1 ++ line 0 e r ∷ [], been.2, legal_snoc been.0 been.1 s (line 0 e r) t been.3 step);
    }

-- the snapshot that is kept is the state's
beginning_of : (s : State) (kept : KeptTopic) → snapshot_in kept ≡ snapshot_of s → IsBeginning s kept
beginning_of s kept same = record {
  name = ap (λ (x : Snapshot). x.name) same;
  gone = let is : kept.gone ≡ s.gone = ap (λ (x : Snapshot). x.gone) same in omega (arith, is);
  log = subst (λ (x : Snapshot). IsPrefix (drop (x.gone - kept.gone) kept.log) x.log) same (goes_same kept.gone kept.log);
  events = (s, [], inl same, refl);
}

proof_grows : (s t : State) (e : Event) (r : Reply) (n : Noted) → Step s e r t → IsReached s → is_storing e ≡ false → IsProof s n → IsProof t n
proof_grows s t e r n step reached silent at = record {
  kept = beginning_grows s t e r n.kept step at.kept;
  durable = subst (λ d. d ≤ n.kept.gone + length n.kept.log) (sym ((step_grows s e r t step).durable silent)) at.durable;
  safe = safe_on s e r t n.kept step reached silent at.safe;
  stored = at.stored;
}

none_grows : (s t : State) (e : Event) (r : Reply) → Step s e r t → IsReached s → is_storing e ≡ false → HasNoneStored s → HasNoneStored t
none_grows s t e r step reached silent at = record {
  durable = (step_grows s e r t step).durable silent ∙ at.durable;
  safe = none_on s e r t step reached silent at.safe;
}

-- what is durable is of the log
durable_within : (s : State) (o : Option Noted) → MatchOption o (HasNoneStored s) (IsProof s) → s.durable ≤ length s.log
durable_within s None none = omega (arith, none.durable)
durable_within s (Some n) at = reaches_within n.kept.gone s.gone s.durable n.kept.log s.log at.kept.gone at.kept.log at.durable

-- a promise leaves the state as it was
pub promise_stays : (k : Kept) → (with_promise k).state ≡ k.state
promise_stays k = by k.promised (nat_lt (spoken_for k) k.limit)
  where
    by : (b c : Bool) → (if b then k else if c then record k { promised = true } else record k { own_line = false; promised = true }).state ≡ k.state
    by true c = refl
    by false true = refl
    by false false = refl

-- and what was viewed
pub promise_views : (k : Kept) → (with_promise k).viewed ≡ k.viewed
promise_views k = by k.promised (nat_lt (spoken_for k) k.limit)
  where
    by : (b c : Bool) → (if b then k else if c then record k { promised = true } else record k { own_line = false; promised = true }).viewed ≡ k.viewed
    by true c = refl
    by false true = refl
    by false false = refl

all_of_one : {A : Type 0} (P : A → Type 0) (x : A) → P x → All P (x ∷ [])
all_of_one P x h zero d less = h
all_of_one P x h (suc n) d less = absurd (omega (arith, less))

-- what the topic goes on from is kept of it
pub bases_begin : (h : Held) → IsSound h → All (IsBeginning h.cell.state) (bases_of h)
bases_begin h sound = All-append (IsBeginning h.cell.state) (marked h.stored) (outstanding_in h.outstanding) (of_stored h.stored sound.stored) (of_outstanding h.outstanding sound.outstanding)
  where
    of_stored : (o : Option Noted) → IfSome o (λ n. IsBeginning h.cell.state n.kept × IsStored n) → All (IsBeginning h.cell.state) (marked o)
    of_stored None none = All-nil (IsBeginning h.cell.state)
    of_stored (Some n) at = all_of_one (IsBeginning h.cell.state) n.kept at.0

    of_outstanding : (o : Option KeptTopic) → IfSome o (IsBeginning h.cell.state) → All (IsBeginning h.cell.state) (outstanding_in o)
    of_outstanding None none = All-nil (IsBeginning h.cell.state)
    of_outstanding (Some kept) at = all_of_one (IsBeginning h.cell.state) kept at

-- and a snapshot of now goes on from each of these
pub all_go_on : (s : State) (kept : KeptTopic) (bases : List KeptTopic) → snapshot_in kept ≡ snapshot_of s → All (IsBeginning s) bases → All (λ base. GoesOn base kept) bases
all_go_on s kept bases same begin n d less =
    let at = begin n d less in
    record {
      name = ap (λ (x : Snapshot). x.name) same ∙ sym at.name;
      gone = subst (λ (x : Snapshot). (slice_index_or bases n d).gone ≤ x.gone) (sym same) at.gone;
      log = subst (λ (x : Snapshot). IsPrefix (drop (x.gone - (slice_index_or bases n d).gone) (slice_index_or bases n d).log) x.log) (sym same) at.log;
      events = (at.events.0, s, at.events.1, at.events.2, at.events.3, same);
    }

-- ---- the calls

-- nothing else of the cell is spoken of
pub sound_same : (h : Held) (l : Kept) → IsSound h → l.state ≡ h.cell.state → l.viewed ≡ h.cell.viewed → l.promised ≡ h.cell.promised → IsSound (record h { cell = l })
sound_same h l sound state viewed promised =
    subst (λ (x : State × State × Bool). IsSound (record h { cell = record l { state = x.0; viewed = x.1; promised = x.2 } })) (λ i. (sym state i, sym viewed i, sym promised i))
    (record {
      reached = sound.reached;
      stored = sound.stored;
      durable = sound.durable;
      outstanding = sound.outstanding;
      within = sound.within;
      letters = sound.letters;
      promised = sound.promised;
      views = sound.views;
      stores_view = sound.stores_view;
      views_none = sound.views_none;
    })

-- a line is promised
pub sound_ready : (h : Held) (l : Kept) → IsSound h → l.state ≡ h.cell.state → l.viewed ≡ h.cell.viewed → l.promised ≡ true → IsSound (record h { cell = l })
sound_ready h l sound state viewed promised =
    subst (λ (x : State × State). IsSound (record h { cell = record l { state = x.0; viewed = x.1 } })) (λ i. (sym state i, sym viewed i))
    (record {
      reached = sound.reached;
      stored = sound.stored;
      durable = sound.durable;
      outstanding = sound.outstanding;
      within = sound.within;
      letters = sound.letters;
      promised = λ _. promised;
      views = sound.views;
      stores_view = sound.stores_view;
      views_none = sound.views_none;
    })

pub sound_fresh : (k : Kept) → k.viewed ≡ k.state → k.state ≡ fresh k.state.name k.state.ledger_size → IsSound (record { cell = k; stored = None; outstanding = None; by_word = false })
sound_fresh k viewed is = record {
  reached = subst IsReached (sym is) (reached_fresh k.state.name k.state.ledger_size);
  stored = tt;
  durable = λ _. none_fresh k.state is;
  outstanding = tt;
  within = λ _. tt;
  letters = tt;
  promised = λ none. absurd cc;
  views = tt;
  stores_view = λ _ _. tt;
  views_none = λ _ _ _. subst (λ (s : State). s ≡ fresh s.name s.ledger_size) (sym viewed) is;
}

pub sound_restarted : (k : Kept) (n : Noted) → IsSoundSnapshot (snapshot_in n.kept) → k.viewed ≡ k.state → k.state ≡ restarted (snapshot_in n.kept) → IsStored n → IsSound (record { cell = k; stored = Some n; outstanding = None; by_word = false })
sound_restarted k n sound viewed is stands =
    let kept : IsBeginning k.state n.kept = record {
      name = sym (ap (λ (s : State). s.name) is);
      gone = subst (λ (s : State). n.kept.gone ≤ s.gone) (sym is) (omega arith);
      log = subst (λ (s : State). IsPrefix (drop (s.gone - n.kept.gone) n.kept.log) s.log) (sym is) (goes_same n.kept.gone n.kept.log);
      events = (k.state, [], inr is, refl);
    } in
    record {
      reached = subst IsReached (sym is) (reached_restarted (snapshot_in n.kept) sound);
      stored = (kept, stands);
      durable = λ _. record {
        kept = kept;
        durable = subst (λ (s : State). s.gone + s.durable ≤ n.kept.gone + length n.kept.log) (sym is) (omega arith);
        safe = safe_opened k.state n.kept is;
        stored = stands;
      };
      outstanding = tt;
      within = λ _. tt;
      letters = tt;
      promised = λ none. absurd cc;
      views = tt;
      stores_view = λ _ _. inr (viewed ∙ is);
      views_none = λ _ _ none. absurd cc;
    }

pub sound_called : (h : Held) (l : Kept) (e : Event) (r : Reply) → IsSound h → Step h.cell.state e r l.state → l.promised ≡ h.cell.promised → l.viewed ≡ h.cell.viewed
    → IsSound (record h { cell = l; by_word = h.by_word || is_storing e })
sound_called h l e r sound step promised viewed =
    let grown = step_grows h.cell.state e r l.state step in
    record {
      reached = reached_on h.cell.state e r l.state step sound.reached;
      stored = some_weaker h.stored _ _ (λ n at. (beginning_grows h.cell.state l.state e r n.kept step at.0, at.1)) sound.stored;
      durable = λ said.
          let both = or_false h.by_word (is_storing e) said in
          of_stored h.stored (none_grows h.cell.state l.state e r step sound.reached both.1) (λ n at. proof_grows h.cell.state l.state e r n step sound.reached both.1 at) (sound.durable both.0);
      outstanding = some_weaker h.outstanding _ _ (λ kept at. beginning_grows h.cell.state l.state e r kept step at) sound.outstanding;
      within = λ said.
          let both = or_false h.by_word (is_storing e) said in
          some_weaker h.outstanding _ _ (λ (kept : KeptTopic) within.
          (subst (λ d. d ≤ kept.gone + length kept.log) (sym (grown.durable both.1)) within.0, safe_on h.cell.state e r l.state kept step sound.reached both.1 within.1)) (sound.within both.0);
      letters = some_weaker h.outstanding _ _ (λ kept at. letters_on h.cell.state e r l.state kept step sound.reached at) sound.letters;
      promised = λ some. promised ∙ sound.promised some;
      views = subst (λ (v : State). IfSome h.outstanding (λ (kept : KeptTopic). snapshot_in kept ≡ snapshot_of v)) (sym viewed) sound.views;
      stores_view = λ said none.
          let both = or_false h.by_word (is_storing e) said in
          subst (λ (v : State). IfSome h.stored (λ n. IsOfView v n.kept)) (sym viewed) (sound.stores_view both.0 none);
      views_none = λ said none unstored.
          let both = or_false h.by_word (is_storing e) said in
          subst (λ (v : State). v ≡ fresh v.name v.ledger_size) (sym viewed) (sound.views_none both.0 none unstored);
    }
  where
    of_stored : (o : Option Noted) → (HasNoneStored h.cell.state → HasNoneStored l.state) → ((n : Noted) → IsProof h.cell.state n → IsProof l.state n)
        → MatchOption o (HasNoneStored h.cell.state) (IsProof h.cell.state) → MatchOption o (HasNoneStored l.state) (IsProof l.state)
    of_stored None none all at = none at
    of_stored (Some n) none all at = all n at

pub sound_viewed : (h : Held) (l : Kept) (kept : KeptTopic) → IsSound h → l.state ≡ h.cell.state → l.viewed ≡ l.state → l.promised ≡ true → snapshot_in kept ≡ snapshot_of l.state
    → IsSound (record h { cell = l; outstanding = Some kept })
sound_viewed h l kept sound same last promised viewed =
    let log : kept.log ≡ l.state.log = ap (λ (x : Snapshot). x.log) viewed in
    let gone : kept.gone ≡ l.state.gone = ap (λ (x : Snapshot). x.gone) viewed in
    record {
      reached = subst IsReached (sym same) sound.reached;
      stored = subst (λ (s : State). IfSome h.stored (λ n. IsBeginning s n.kept × IsStored n)) (sym same) sound.stored;
      durable = subst (λ (s : State). h.by_word ≡ false → MatchOption h.stored (HasNoneStored s) (IsProof s)) (sym same) sound.durable;
      outstanding = beginning_of l.state kept viewed;
      within = λ said.
          let all : l.state.durable ≤ length l.state.log = subst (λ (s : State). s.durable ≤ length s.log) (sym same) (durable_within h.cell.state h.stored (sound.durable said)) in
          (omega (arith, all, gone, ap length log), safe_viewed l.state kept viewed);
      letters = letters_viewed l.state kept viewed;
      promised = λ _. promised;
      views = viewed ∙ ap snapshot_of (sym last);
      stores_view = λ _ none. absurd cc;
      views_none = λ _ none _. absurd cc;
    }

pub sound_confirmed : (h : Held) (l : Kept) (n : Noted) (count : ℕ) → IsSound h → h.outstanding ≡ Some n.kept → IsStored n
    → StoresLine h.cell (StoredTo (n.kept.gone + length n.kept.log) n.kept.next_ordinal) count l
    → IsSound (record { cell = l; stored = Some n; outstanding = None; by_word = h.by_word })
sound_confirmed h l n count sound viewed stands stores =
    let before : IsBeginning h.cell.state n.kept = subst (λ o. IfSome o (IsBeginning h.cell.state)) viewed sound.outstanding in
    let letters : KeepsLetters h.cell.state n.kept = subst (λ o. IfSome o (KeepsLetters h.cell.state)) viewed sound.letters in
    let kept = beginning_grows h.cell.state l.state told (Durable count) n.kept stores.step before in
    record {
      reached = reached_on h.cell.state told (Durable count) l.state stores.step sound.reached;
      stored = (kept, stands);
      durable = λ said.
          let within = subst (λ o. IfSome o (λ (kept : KeptTopic). (h.cell.state.gone + h.cell.state.durable ≤ kept.gone + length kept.log) × KeepsSafe h.cell.state kept)) viewed (sound.within said) in
          let most : h.cell.state.gone + h.cell.state.durable ≤ n.kept.gone + length n.kept.log = within.0 in
          record {
            kept = kept;
            durable = omega (arith, gone, after, most);
            safe = safe_confirmed h.cell.state (n.kept.gone + length n.kept.log) (Durable count) l.state n.kept stores.step sound.reached letters within.1;
            stored = stands;
          };
      outstanding = tt;
      within = λ _. tt;
      letters = tt;
      promised = λ none. absurd cc;
      views = tt;
      stores_view = λ _ _. inl (subst (λ o. IfSome o (λ (kept : KeptTopic). snapshot_in kept ≡ snapshot_of h.cell.viewed)) viewed sound.views ∙ ap (λ (k : Kept). snapshot_of k.viewed) (sym stores.others));
      views_none = λ _ _ none. absurd cc;
    }
  where
    told : Event
    told = StoredTo (n.kept.gone + length n.kept.log) n.kept.next_ordinal

    gone : l.state.gone ≡ h.cell.state.gone
    gone = ap (λ (s : State). s.gone) stores.step.1.1

    after : l.state.durable ≡ max h.cell.state.durable (min (n.kept.gone + length n.kept.log - h.cell.state.gone) (length h.cell.state.log))
    after = ap (λ (s : State). s.durable) stores.step.1.1

-- all that there is is durable, since a snapshot of now was stored
pub sound_all : (h : Held) (l : Kept) (n : Noted) (count : ℕ) → IsSound h → snapshot_in n.kept ≡ snapshot_of h.cell.state → IsStored n → StoresLine (record h.cell { viewed = h.cell.state; unsaved = false }) Stored count l
    → IsSound (record { cell = l; stored = Some n; outstanding = None; by_word = false })
sound_all h l n count sound now stands stores =
    let kept = beginning_grows h.cell.state l.state Stored (Durable count) n.kept stores.step (beginning_of h.cell.state n.kept now) in
    let log : n.kept.log ≡ h.cell.state.log = ap (λ (x : Snapshot). x.log) now in
    let gone : n.kept.gone ≡ h.cell.state.gone = ap (λ (x : Snapshot). x.gone) now in
    let same : l.state.gone ≡ h.cell.state.gone = ap (λ (s : State). s.gone) stores.step.1.1 in
    let after : l.state.durable ≡ length h.cell.state.log = ap (λ (s : State). s.durable) stores.step.1.1 in
    record {
      reached = reached_on h.cell.state Stored (Durable count) l.state stores.step sound.reached;
      stored = (kept, stands);
      durable = λ _. record {
        kept = kept;
        durable = omega (arith, gone, same, after, ap length log);
        safe = safe_all h.cell.state (Durable count) l.state n.kept stores.step sound.reached now;
        stored = stands;
      };
      outstanding = tt;
      within = λ _. tt;
      letters = tt;
      promised = λ none. absurd cc;
      views = tt;
      stores_view = λ _ _. inl (now ∙ ap (λ (k : Kept). snapshot_of k.viewed) (sym stores.others));
      views_none = λ _ _ none. absurd cc;
    }

-- all that there is is durable by a word
pub sound_stored : (h : Held) (l : Kept) (count : ℕ) → IsSound h → StoresLine (record h.cell { viewed = h.cell.state; unsaved = false }) Stored count l
    → IsSound (record { cell = l; stored = h.stored; outstanding = None; by_word = true })
sound_stored h l count sound stores =
    record {
      reached = reached_on h.cell.state Stored (Durable count) l.state stores.step sound.reached;
      stored = some_weaker h.stored _ _ (λ n at. (beginning_grows h.cell.state l.state Stored (Durable count) n.kept stores.step at.0, at.1)) sound.stored;
      durable = λ said. absurd cc;
      outstanding = tt;
      within = λ _. tt;
      letters = tt;
      promised = λ none. absurd cc;
      views = tt;
      stores_view = λ said. absurd cc;
      views_none = λ said. absurd cc;
    }

-- ---- at rest

of_now : (s viewed : State) (kept : KeptTopic) → snapshot_of s ≡ snapshot_of viewed → IsOfView viewed kept → IsOfNow s kept
of_now s viewed kept same (inl is) = inl (is ∙ sym same)
of_now s viewed kept same (inr on) = inr (ap snapshot_of (sym on) ∙ sym same)

has_nothing : (s viewed : State) → snapshot_of s ≡ snapshot_of viewed → viewed ≡ fresh viewed.name viewed.ledger_size → HasNothing s
has_nothing s viewed same is =
    same ∙ ap snapshot_of is
    ∙ ap (λ (x : Snapshot). snapshot_of (fresh x.name x.ledger_size)) (sym same)

-- what is stored of it, if anything is, is the topic as it is
pub at_rest : (h : Held) → IsSound h → snapshot_of h.cell.state ≡ snapshot_of h.cell.viewed → IsVacant h.cell.state → h.by_word ≡ false → h.outstanding ≡ None → h.cell.unsaved ≡ false → IsAtRest h
at_rest h sound same vacant word none saved = record {
  vacant = vacant;
  by_proof = word;
  confirmed = none;
  saved = saved;
  rows = rows h.stored (sound.stores_view word none) (sound.views_none word none);
}
  where
    rows : (o : Option Noted) → IfSome o (λ n. IsOfView h.cell.viewed n.kept) → (o ≡ None → h.cell.viewed ≡ fresh h.cell.viewed.name h.cell.viewed.ledger_size)
        → MatchOption o (HasNothing h.cell.state) (λ n. IsOfNow h.cell.state n.kept)
    rows None view nothing = has_nothing h.cell.state h.cell.viewed same (nothing refl)
    rows (Some n) view nothing = of_now h.cell.state h.cell.viewed n.kept same view
