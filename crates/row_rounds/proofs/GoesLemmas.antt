-- How the parts of a round follow one another.
use Rattle.std.proofs.Common.{◌≡◌, ◌≢◌, ℕ, ◌+◌, ◌-◌, ◌<◌, ◌≤◌, drop, slice_get, Some, length-drop, true, false, List, [], ◌∷◌, ◌++◌, length, get_or, take, map, arith, length-take, Ok, Err, Result, IsTrue, OnOk, refl, sym, ap, subst, ◌∙◌, append_assoc}
use Rattle.std.specs.List.Sorted.{IsPermutation}
use Rattle.std.proofs.lemmas.List.{take_more, map-append, get_or-drop}
use Rattle.std.proofs.lemmas.Option.{get_or_from_slice_get}
use Rattle.std.proofs.lemmas.List.Sorted.{IsPermutation-refl, IsPermutation-trans, IsPermutation-append_right, IsPermutation-append_left, IsPermutation-append_comm}
use Rattle.sqlite_trees.proofs.ListLemmas.{all_both, all_of}
use Rattle.sqlite.specs.Order.{Row}
use Rattle.sqlite.specs.Tree.{Trees}
use Rattle.sqlite.specs.State.{State, HasCleanDisk, Shows, Survives, KeepsCounts}
use Rattle.sqlite.specs.Effect.{Database}
use Rattle.sqlite.specs.Held.{Held, state}
use Rattle.sqlite.proofs.StateLemmas.{survives_then}
use Rattle.sqlite.proofs.Callers.{survives_begin}
use Rattle.sqlite_trees.specs.declared.store.Store.{Ghosts}
use Rattle.row_forms.specs.Schema.{schema_9}
use Rattle.position_core.specs.declared.message.Entry.{Entry}
use Rattle.row_forms.specs.declared.change.AckRow.{AckRow}
use Rattle.row_forms.specs.Cells.{ENTRY, bodies}
use Rattle.row_forms.specs.Changes.{ack_cells}
use Rattle.row_forms.specs.Places.{number_of}
use Rattle.row_forms.specs.Forms.{entry_row, entry_rows}
use Rattle.row_tables.specs.Ready.{IsReady}
use Rattle.row_rounds.specs.Rounds.{Via}
use Rattle.row_tables.specs.Goes.{Goes, Saves, SpareOthers, Adds, Takes, Swaps}

pub goes_then : (P Q R : Trees → Trees → Type 0) → ((x y z : Trees) → P x y → Q y z → R x z) → (a b c : State) → Goes P a b → Goes Q b c → Goes R a c
goes_then P Q R both a b c p q = record {
  running = λ h. q.running (p.running h);
  shown = λ h. q.shown (p.shown h);
  was_shown = λ h. p.was_shown (q.was_shown h);
  committed = λ h. q.committed (p.running h) ∙ p.committed h;
  does = λ ready. let one = p.does ready in let two = q.does one.0 in (two.0, both _ _ _ one.1 two.1);
}

-- a part that follows one that went well
pub then_ok : {E : Type 0} {A : Type 0} (r : Result A E) (P Q R : Trees → Trees → Type 0) → ((x y z : Trees) → P x y → Q y z → R x z) → (a b c : State) → Goes P a b → OnOk r (Goes Q b c) → OnOk r (Goes R a c)
then_ok (Ok x) P Q R both a b c p q = goes_then P Q R both a b c p q
then_ok (Err e) P Q R both a b c p q = tt

pub goes_by : (P R : Trees → Trees → Type 0) → ((x z : Trees) → P x z → R x z) → (a c : State) → Goes P a c → Goes R a c
goes_by P R f a c p = record { running = p.running; shown = p.shown; was_shown = p.was_shown; committed = p.committed; does = λ ready. let one = p.does ready in (one.0, f _ _ one.1) }

pub goes_weaker : {E : Type 0} {A : Type 0} (r : Result A E) (P R : Trees → Trees → Type 0) → ((x z : Trees) → P x z → R x z) → (a c : State) → OnOk r (Goes P a c) → OnOk r (Goes R a c)
goes_weaker (Ok x) P R f a c p = goes_by P R f a c p
goes_weaker (Err e) P R f a c p = tt

-- ---- one table

pub spares_none : (tree : ℕ) (x : Trees) → SpareOthers tree x x
spares_none tree x = all_of (λ t. t.tree ≢ tree → x t.tree ≡ x t.tree) (λ t _. refl) schema_9.tables

pub spares_then : (tree : ℕ) (x y z : Trees) → SpareOthers tree x y → SpareOthers tree y z → SpareOthers tree x z
spares_then tree x y z p q = all_both (λ t. t.tree ≢ tree → y t.tree ≡ x t.tree) (λ t. t.tree ≢ tree → z t.tree ≡ y t.tree) (λ t. t.tree ≢ tree → z t.tree ≡ x t.tree) (λ t f g ne. g ne ∙ f ne) schema_9.tables p q

pub adds_then : (tree : ℕ) (first later : List Row) (x y z : Trees) → Adds tree first x y → Adds tree later y z → Adds tree (first ++ later) x z
adds_then tree first later x y z p q = record {
  rows =
      let bx = bodies tree (x tree) in
      let by = bodies tree (y tree) in
      let moved : IsPermutation ((first ++ later) ++ bx) ((later ++ first) ++ bx) = IsPermutation-append_left bx (first ++ later) (later ++ first) (IsPermutation-append_comm first later) in
      let there : IsPermutation ((later ++ first) ++ bx) (later ++ by) = subst (λ l. IsPermutation l (later ++ by)) (sym (append_assoc later first bx)) (IsPermutation-append_right later (first ++ bx) by p.rows) in
      IsPermutation-trans _ _ _ moved (IsPermutation-trans _ _ _ there q.rows);
  others = spares_then tree x y z p.others q.others;
}

pub takes_then : (tree : ℕ) (first later : List Row) (x y z : Trees) → Takes tree first x y → Takes tree later y z → Takes tree (first ++ later) x z
takes_then tree first later x y z p q = record {
  rows = λ stay same. q.rows stay (p.rows (later ++ stay) (subst (λ l. IsPermutation l (bodies tree (x tree))) (append_assoc first later stay) same));
  others = spares_then tree x y z p.others q.others;
}

pub takes_adds : (tree : ℕ) (gone news : List Row) (x y z : Trees) → Takes tree gone x y → Adds tree news y z → Swaps tree gone news x z
takes_adds tree gone news x y z p q = record {
  rows = λ stay same. IsPermutation-trans _ _ _ (IsPermutation-append_right news stay (bodies tree (y tree)) (p.rows stay same)) q.rows;
  others = spares_then tree x y z p.others q.others;
}

pub takes_alone : (tree : ℕ) (gone : List Row) (x z : Trees) → Takes tree gone x z → Swaps tree gone [] x z
takes_alone tree gone x z p = record { rows = p.rows; others = p.others }

pub adds_alone : (tree : ℕ) (news : List Row) (x z : Trees) → Adds tree news x z → Swaps tree [] news x z
adds_alone tree news x z p = record { rows = λ stay same. IsPermutation-trans _ _ _ (IsPermutation-append_right news stay (bodies tree (x tree)) same) p.rows; others = p.others }

swaps_then : (tree : ℕ) (gone news later more : List Row) (x y z : Trees) → Swaps tree gone news x y → Swaps tree later more y z → Swaps tree (gone ++ later) (news ++ more) x z
swaps_then tree gone news later more x y z p q = record {
  rows = λ stay same.
      let first : IsPermutation (news ++ (later ++ stay)) (bodies tree (y tree)) = p.rows (later ++ stay) (subst (λ l. IsPermutation l (bodies tree (x tree))) (append_assoc gone later stay) same) in
      let then : IsPermutation (more ++ (news ++ stay)) (bodies tree (z tree)) = q.rows (news ++ stay) (IsPermutation-trans _ _ _ (past later news stay) first) in
      subst (λ l. IsPermutation l (bodies tree (z tree))) (sym (append_assoc news more stay)) (IsPermutation-trans _ _ _ (past news more stay) then);
  others = spares_then tree x y z p.others q.others;
}
  where
    past : (a b c : List Row) → IsPermutation (a ++ (b ++ c)) (b ++ (a ++ c))
    past a b c = subst (λ l. IsPermutation l (b ++ (a ++ c))) (append_assoc a b c) (subst (IsPermutation ((a ++ b) ++ c)) (append_assoc b a c) (IsPermutation-append_left c (a ++ b) (b ++ a) (IsPermutation-append_comm a b)))

-- ---- a list of rows, one after the other

module _ {R : Type 0} (tree : ℕ) (f : R → Row) (rows : List R) (i : ℕ) (row : R) (low : i < length rows) (is : row ≡ get_or rows i row) where
  one_more : map f (take (i + 1) rows) ≡ map f (take i rows) ++ f row ∷ []
  one_more = ap (map f) (take_more rows i row low ∙ ap (λ r. take i rows ++ r ∷ []) (sym is)) ∙ map-append f (take i rows) (row ∷ [])

  pub adds_more : (x y z : Trees) → Adds tree (map f (take i rows)) x y → Adds tree (f row ∷ []) y z → Adds tree (map f (take (i + 1) rows)) x z
  adds_more x y z p q = subst (λ rs. Adds tree rs x z) (sym one_more) (adds_then tree _ _ x y z p q)

  pub takes_more : (x y z : Trees) → Takes tree (map f (take i rows)) x y → Takes tree (f row ∷ []) y z → Takes tree (map f (take (i + 1) rows)) x z
  takes_more x y z p q = subst (λ rs. Takes tree rs x z) (sym one_more) (takes_then tree _ _ x y z p q)

-- the first rows, and then those that are left
swaps_more : {R : Type 0} (tree : ℕ) (f : R → Row) (gone news later more gone_all news_all : List R) → gone ++ later ≡ gone_all → news ++ more ≡ news_all
    → (x y z : Trees) → Swaps tree (map f gone) (map f news) x y → Swaps tree (map f later) (map f more) y z → Swaps tree (map f gone_all) (map f news_all) x z
swaps_more tree f gone news later more gone_all news_all goes comes x y z p q =
    let both = swaps_then tree (map f gone) (map f news) (map f later) (map f more) x y z p q in
    subst (λ rs. Swaps tree rs (map f news_all) x z) (sym (map-append f gone later) ∙ ap (map f) goes) (subst (λ rs. Swaps tree (map f gone ++ map f later) rs x z) (sym (map-append f news more) ∙ ap (map f) comes) both)

-- whoever then writes the rows that are left has written all
abbrev pub Leaves : {R : Type 0} → ℕ → (R → Row) → (gone news later more : List R) → Trees → Trees → Type 0
Leaves tree f gone news later more x y = (z : Trees) → Swaps tree (map f later) (map f more) y z → Swaps tree (map f gone) (map f news) x z

pub leaves_all : {R : Type 0} (tree : ℕ) (f : R → Row) (gone news later more : List R) → gone ≡ later → news ≡ more → (s : State) → Goes (Leaves tree f gone news later more) s s
leaves_all tree f gone news later more goes comes s = record {
  running = λ h. h;
  shown = λ h. h;
  was_shown = λ h. h;
  committed = λ h. refl;
  does = λ ready. (ready, λ z p. rw (goes, comes) p);
}

pub leaves_none : {R : Type 0} (tree : ℕ) (f : R → Row) (gone news later more : List R) → later ≡ [] → more ≡ [] → (x y : Trees) → Leaves tree f gone news later more x y → Swaps tree (map f gone) (map f news) x y
leaves_none tree f gone news later more goes comes x y p =
    p y (record { rows = λ stay same. subst (λ rs. IsPermutation (map f rs ++ stay) (bodies tree (y tree))) (sym comes) (subst (λ rs. IsPermutation (map f rs ++ stay) (bodies tree (y tree))) goes same); others = spares_none tree y })

pub leaves_less : {R : Type 0} (tree : ℕ) (f : R → Row) (gone news later more first second last_gone last_news : List R) → first ++ last_gone ≡ later → second ++ last_news ≡ more
    → (x y z : Trees) → Leaves tree f gone news later more x y → Swaps tree (map f first) (map f second) y z → Leaves tree f gone news last_gone last_news x z
leaves_less tree f gone news later more first second last_gone last_news goes comes x y z p q end r = p end (swaps_more tree f first second last_gone last_news later more goes comes y z end q r)

-- a run that gets another's last place has its row, where both are of one subscription and begin at one place
pub grown_cells : (topic : List ℕ) (old new : AckRow) → old.sub ≡ new.sub → number_of old.first ≡ number_of new.first → ack_cells topic (record old { last = new.last }) ≡ ack_cells topic new
grown_cells topic old new sub first = rw (sub, first) refl

-- ---- the messages from a place on

entry_rows_push : (topic : List ℕ) (from : ℕ) (log : List Entry) (e : Entry) → entry_rows topic from (log ++ e ∷ []) ≡ entry_rows topic from log ++ entry_row topic (from + length log) e ∷ []
entry_rows_push topic from [] e = ap (λ n. entry_row topic n e ∷ []) (omega arith)
entry_rows_push topic from (first ∷ log) e =
    ap (λ rows. entry_row topic from first ∷ rows) (entry_rows_push topic (from + 1) log e ∙ ap (λ n. entry_rows topic (from + 1) log ++ entry_row topic n e ∷ []) (omega arith))

pub messages_more : (topic : List ℕ) (from i place : ℕ) (log : List Entry) (e : Entry) → i < length log → e ≡ get_or log i e → place ≡ from + i
    → (x y z : Trees) → Adds ENTRY (entry_rows topic from (take i log)) x y → Adds ENTRY (entry_row topic place e ∷ []) y z → Adds ENTRY (entry_rows topic from (take (i + 1) log)) x z
messages_more topic from i place log e low is at x y z p q =
    let more : take (i + 1) log ≡ take i log ++ e ∷ [] = take_more log i e low ∙ ap (λ p. take i log ++ p ∷ []) (sym is) in
    let count : length (take i log) ≡ i = omega (arith, length-take i log) in
    let rows : entry_rows topic from (take (i + 1) log) ≡ entry_rows topic from (take i log) ++ entry_row topic place e ∷ [] =
    ap (entry_rows topic from) more ∙ entry_rows_push topic from (take i log) e ∙ ap (λ n. entry_rows topic from (take i log) ++ entry_row topic n e ∷ []) (ap (λ n. from + n) count ∙ sym at) in
    subst (λ rs. Adds ENTRY rs x z) (sym rows) (adds_then ENTRY _ _ x y z p q)

-- the message at an index of the log, where those before it from the first index on were added
pub messages_next : (topic : List ℕ) (gone from index : ℕ) (log : List Entry) (e : Entry) → from ≤ index → index < length log → slice_get log index ≡ Some e
    → (x y z : Trees) → Adds ENTRY (entry_rows topic (gone + from) (take (index - from) (drop from log))) x y → Adds ENTRY (entry_row topic (gone + index) e ∷ []) y z
    → Adds ENTRY (entry_rows topic (gone + from) (take (index + 1 - from) (drop from log))) x z
messages_next topic gone from index log e after low is x y z p q =
    let i = index - from in
    let at : from + i ≡ index = omega (arith, after) in
    let place : gone + index ≡ gone + from + i = omega (arith, after) in
    let here : e ≡ get_or (drop from log) i e = sym (get_or-drop from log i e ∙ ap (λ n. get_or log n e) at ∙ get_or_from_slice_get log index e e is) in
    let next : i + 1 ≡ index + 1 - from = omega (arith, after) in
    subst (λ n. Adds ENTRY (entry_rows topic (gone + from) (take n (drop from log))) x z) next (messages_more topic (gone + from) i (gone + index) (drop from log) e (omega (arith, length-drop from log, after, low)) here place x y z p q)

-- two steps, and then a third
pub then_third : (P Q R : Trees → Trees → Type 0) (x y z : Trees) → Via P Q x y → R y z → Via P (Via Q R) x z
then_third P Q R x y z p q = (p.0, p.1, (y, p.2, q))

-- no message is added yet
pub messages_none : (topic : List ℕ) (gone from : ℕ) (log : List Entry) (s : State) → Goes (Adds ENTRY (entry_rows topic (gone + from) (take (from - from) (drop from log)))) s s
messages_none topic gone from log s =
    let none : from - from ≡ 0 = omega arith in
    subst (λ n. Goes (Adds ENTRY (entry_rows topic (gone + from) (take n (drop from log)))) s s) (sym none) (record {
      running = λ h. h;
      shown = λ h. h;
      was_shown = λ h. h;
      committed = λ h. refl;
      does = λ ready. (ready, record { rows = IsPermutation-refl _; others = spares_none ENTRY s.now.trees });
    })

-- ---- the commit

module _ {S : Type 0} (g : Ghosts S) (old : Held S) (mid last : State) (P : Trees → Trees → Type 0) where
  abbrev Commit : Type 0
  Commit = IsTrue mid.in_transaction × Shows mid last mid.now mid.now false × KeepsCounts mid last × (last.marks ≡ [])

  pub saves_from : {A E : Type 0} (r : Result A E) → Goes P (state g (record old { in_transaction = true })) mid → OnOk r Commit → OnOk r (Saves P (state g old) last)
  saves_from (Ok x) went h = record {
    was_shown = went.was_shown h.1.was_open;
    shown = h.1.is_open;
    committed = h.1.committed_is ∙ sym h.1.now_is;
    does = λ ready. let d = went.does ready in (subst IsReady (sym h.1.now_is) d.0, subst (λ (db : Database). P (state g old).now.trees db.trees) (sym h.1.now_is) d.1);
  }
  saves_from (Err e) went h = tt

  -- and a crash leaves what it could before, or that
  pub crash_from : Survives (state g (record old { in_transaction = true })) mid (λ _. ⊥)
      → (HasCleanDisk mid → IsTrue (state g old).is_open × Goes P (state g (record old { in_transaction = true })) mid)
      → Survives mid last (λ db. db ≡ mid.now.trees)
      → Survives (state g old) last (λ db. IsTrue (state g old).is_open × (IsReady (state g old).now → P (state g old).now.trees db))
  crash_from inside went ends = survives_then (state g old) mid last _ _ _ (λ _ db none. absurd none) (λ clean db is.
      let early : HasCleanDisk mid = omega (arith, ends.clean) in
      let both = went early in
      (both.0, λ ready. rw is (both.1.does ready).1)) (survives_begin g old mid _ inside) ends

module _ {S : Type 0} (g : Ghosts S) (mid last : Held S) where
  -- while it is open, a crash leaves what was committed
  pub durable_from : {A E : Type 0} (r : Result A E) → ((db : Trees) → IsTrue (g.view last.store).is_open → g.recovers last.store db → db ≡ (g.view last.store).committed)
      → OnOk r (IsTrue (state g mid).in_transaction × Shows (state g mid) (state g last) (state g mid).now (state g mid).now false × KeepsCounts (state g mid) (state g last) × ((state g last).marks ≡ []))
      → OnOk r ((db : Trees) → (state g last).may_leave db → db ≡ (state g last).now.trees)
  durable_from (Ok x) settled h = λ db may. settled db h.1.is_open may ∙ ap (λ (d : Database). d.trees) (h.1.committed_is ∙ sym h.1.now_is)
  durable_from (Err e) settled h = tt
