-- What was loaded opens as it should.
use Rattle.std.proofs.Common.{◌≡◌, ◌⊎◌, ◌==◌, ◌||◌, inl, inr, refl, sym, ap, ◌∙◌, subst, arith, ℕ, Bool, true, false, not, List, [], length, Option, Some, None, is_some, MatchOption, IfSome, Result, Ok, Err, IfOk}
use Rattle.position_core.specs.declared.topic_name.TopicName.{TopicName}
use Rattle.std.proofs.lemmas.List.Sorted.{length_permutation}
use Rattle.position_core.specs.TopicName.{topic_text}
use Rattle.position_core.specs.declared.fault.Fault.{Fault}
use Rattle.sqlite.specs.Tree.{Trees}
use Rattle.sqlite.specs.State.{State}
use Rattle.delivery_machine.specs.State.{fresh}
use Rattle.delivery_machine.specs.Snapshot.{restarted}
use Rattle.delivery_machine.specs.Places.{KeptTopic, snapshot_in}
use Rattle.row_forms.specs.Cells.{TOPIC, ENTRY, SUB, ACK, DEAD, REDELIVERY, AUTHOR, RETENTION, bodies, of_topic}
use Rattle.row_forms.specs.Standing.{Stands, HasNone}
use Rattle.topic_lives.specs.Deleting.{is_bare}
use Rattle.stored_cell.specs.Noted.{Noted, all_rows}
use Rattle.stored_cell.specs.Held.{Held}
use Rattle.stored_cell.specs.declared.opening.Loaded.{Loaded}
use Rattle.stored_cell.specs.declared.opening.Terms.{Terms}
use Rattle.stored_cell.specs.Opening.{GoesOn, Opens, opened}
use Rattle.row_store.specs.Keeping.{IsTakenFrom, MayLeave, stored_in}
use Rattle.row_store.specs.Opened.{IsOpenedFrom, KeepsNothing, Loading, OpenedFrom, StandsIn, count_of, has_origin}

going_on : (name : TopicName) (terms : Terms) (db : Trees) (cell : Held) (kept : KeptTopic) (stored : Noted) → stored.kept ≡ kept → kept.name ≡ name → Stands kept db → cell ≡ opened (restarted (snapshot_in kept)) terms (Some stored) → GoesOn name terms db cell
going_on name terms db cell kept stored is its stands e = record {
  stored = stored;
  is_its = ap (λ (k : KeptTopic). k.name) is ∙ its;
  stands = subst (λ (k : KeptTopic). Stands k db) (sym is) stands;
  goes_on = subst (λ (k : KeptTopic). cell ≡ opened (restarted (snapshot_in k)) terms (Some stored)) (sym is) e;
}

-- a cell opens with what was found of its topic in the rows
pub opens_found : {J : Type 0} (name : TopicName) (terms : Terms) (db : Trees) (s : State) (found : Option (Loaded J)) (r : Result Held Fault)
    → MatchOption found (HasNone (topic_text name) db) (λ l. (l.snapshot.name ≡ name) × Stands l.snapshot db)
    → IfSome found (λ l. l.kept ≡ stored_in s l.snapshot)
    → IfOk r (λ (cell : Held). MatchOption found (cell ≡ opened (fresh name terms.ledger_size) terms None) (λ l. cell ≡ opened (restarted (snapshot_in l.snapshot)) terms (Some l.kept)))
    → IfOk r (Opens name terms db)
opens_found name terms db s None (Ok cell) none kept e = inr (record { has_none = none; nothing = e })
opens_found name terms db s (Some l) (Ok cell) stands kept e = inl (going_on name terms db cell l.snapshot l.kept (ap (λ (n : Noted). n.kept) kept) stands.0 stands.1 e)
opens_found name terms db s found (Err fault) stands kept e = tt

-- where nothing is in what was loaded, nothing is kept of the topic in the rows
pub keeps_nothing : {J : Type 0} (name : TopicName) (db : Trees) (found : Option (Loaded J))
    → MatchOption found (HasNone (topic_text name) db) (λ l. (l.snapshot.name ≡ name) × Stands l.snapshot db)
    → IfSome found (λ l. is_bare (snapshot_in l.snapshot) ≡ true) → KeepsNothing name db
keeps_nothing name db None none bare = inl none
keeps_nothing name db (Some l) stands bare = inr (l.snapshot, stands.0, stands.1, bare)

-- what a database may leave that is opened again is among what a start may leave
pub left_again : (s : State) (db : Trees) → s.may_leave db ⊎ IsTakenFrom s.committed.trees db → MayLeave s db
left_again s db (inl left) = inl left
left_again s db (inr done) = inr (inl done)

-- what opened under a name is of that name
pub opened_name : (name : TopicName) (terms : Terms) (db : Trees) (cell : Held) → Opens name terms db cell → cell.cell.state.name ≡ name
opened_name name terms db cell (inl on) = ap (λ (h : Held). h.cell.state.name) on.goes_on ∙ on.is_its
opened_name name terms db cell (inr anew) = ap (λ (h : Held). h.cell.state.name) anew.nothing

pub opens_itself : (name : TopicName) (terms : Terms) (db : Trees) (cell : Held) → Opens name terms db cell → Opens cell.cell.state.name terms db cell
opens_itself name terms db cell opens = subst (λ n. Opens n terms db cell) (sym (opened_name name terms db cell opens)) opens

-- what goes on from what was loaded is opened from the rows that were noted as it was
pub goes_on_from : (l : Loading) (terms : Terms) (cell : Held) → (l.rows.clean ≡ true → StandsIn l) → cell ≡ opened (restarted (snapshot_in l.stored.kept)) terms (Some l.stored) → OpenedFrom l.rows cell
goes_on_from l terms cell stands e = λ clean.
    let there : StandsIn l = stands clean in
    record {
      terms = terms;
      db = there.0;
      rows = there.1;
      opens = inl (going_on cell.cell.state.name terms there.0 cell l.stored.kept l.stored refl (sym (ap (λ (h : Held). h.cell.state.name) e)) there.2 e);
    }

-- no row is the topic's among those of a database that has none of it
count_none : (topic : List ℕ) (db : Trees) → HasNone topic db → count_of topic (all_rows db) ≡ 0
count_none topic db none =
    let topics : length (of_topic topic (bodies TOPIC (db TOPIC))) ≡ 0 = length_permutation [] (of_topic topic (bodies TOPIC (db TOPIC))) none.topics in
    let entries : length (of_topic topic (bodies ENTRY (db ENTRY))) ≡ 0 = length_permutation [] (of_topic topic (bodies ENTRY (db ENTRY))) none.entries in
    let subs : length (of_topic topic (bodies SUB (db SUB))) ≡ 0 = length_permutation [] (of_topic topic (bodies SUB (db SUB))) none.subs in
    let acks : length (of_topic topic (bodies ACK (db ACK))) ≡ 0 = length_permutation [] (of_topic topic (bodies ACK (db ACK))) none.acks in
    let deads : length (of_topic topic (bodies DEAD (db DEAD))) ≡ 0 = length_permutation [] (of_topic topic (bodies DEAD (db DEAD))) none.deads in
    let counts : length (of_topic topic (bodies REDELIVERY (db REDELIVERY))) ≡ 0 = length_permutation [] (of_topic topic (bodies REDELIVERY (db REDELIVERY))) none.counts in
    let authors : length (of_topic topic (bodies AUTHOR (db AUTHOR))) ≡ 0 = length_permutation [] (of_topic topic (bodies AUTHOR (db AUTHOR))) none.authors in
    let retentions : length (of_topic topic (bodies RETENTION (db RETENTION))) ≡ 0 = length_permutation [] (of_topic topic (bodies RETENTION (db RETENTION))) none.retentions in
    omega (arith, topics, entries, subs, acks, deads, counts, authors, retentions)

first : (a b c : Bool) → a ≡ true → (a || b || c) ≡ true
first a b c is = ap (λ x. x || b || c) is

second : (a b c : Bool) → b ≡ true → (a || b || c) ≡ true
second true b c is = refl
second false b c is = ap (λ x. false || x || c) is

third : (a b c : Bool) → c ≡ true → (a || b || c) ≡ true
third true b c is = refl
third false true c is = refl
third false false c is = is

-- what opened has its origin in the rows that were noted
pub has_its_origin : (noted : Noted) (cell : Held) → OpenedFrom noted cell → has_origin noted cell.stored cell.cell.state.name ≡ true
unfolding has_origin
has_its_origin noted cell from = by noted.clean refl
  where
    goes : (terms : Terms) (db : Trees) → noted.rows ≡ all_rows db → Opens cell.cell.state.name terms db cell → (is_some cell.stored || not noted.clean || count_of (topic_text cell.cell.state.name) noted.rows == 0) ≡ true
    goes terms db rows (inl on) =
        first (is_some cell.stored) (not noted.clean) (count_of (topic_text cell.cell.state.name) noted.rows == 0) (ap (λ (h : Held). is_some h.stored) on.goes_on)
    goes terms db rows (inr anew) =
        third (is_some cell.stored) (not noted.clean) (count_of (topic_text cell.cell.state.name) noted.rows == 0)
        (ap (λ n. n == 0) (ap (count_of (topic_text cell.cell.state.name)) rows ∙ count_none (topic_text cell.cell.state.name) db anew.has_none))

    opens : IsOpenedFrom noted cell → (is_some cell.stored || not noted.clean || count_of (topic_text cell.cell.state.name) noted.rows == 0) ≡ true
    opens is = goes is.terms is.db is.rows is.opens

    by : (b : Bool) → noted.clean ≡ b → (is_some cell.stored || not noted.clean || count_of (topic_text cell.cell.state.name) noted.rows == 0) ≡ true
    by true clean = opens (from clean)
    by false clean = second (is_some cell.stored) (not noted.clean) (count_of (topic_text cell.cell.state.name) noted.rows == 0) (ap not clean)
