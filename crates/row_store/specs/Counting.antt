-- How many rows a store of several snapshots inserts, updates and deletes.
use Rattle.std.specs.Prelude.{◌≡◌, ◌+◌, ◌-◌, ◌^◌, ℕ, if◌then◌else◌, List, All, length, map, min, sum_by, vec_len}
use Rattle.sqlite.specs.Tree.{Trees}
use Rattle.delivery_machine.specs.Places.{KeptTopic}
use Rattle.row_forms.specs.declared.change.Difference.{Difference}
use Rattle.row_rounds.specs.declared.saving.Write.{Write}
use Rattle.row_rounds.specs.Rounds.{Fits}
use Rattle.row_store.specs.declared.written.Written.{Written}

-- the rows that come, those that become others, and those that go: one that goes while another comes becomes it
abbrev pub coming : {R : Type 0} → Difference R → ℕ
coming d = vec_len d.news - vec_len d.gone

abbrev pub changing : {R : Type 0} → Difference R → ℕ
changing d = min (vec_len d.gone) (vec_len d.news)

abbrev pub going : {R : Type 0} → Difference R → ℕ
going d = vec_len d.gone - vec_len d.news

-- the topic's own row, which comes where all is written anew, and otherwise may become another
abbrev pub own_coming : Write → ℕ
own_coming w = if w.whole then 1 else 0

abbrev pub own_changing : Write → ℕ
own_changing w = if w.whole then 0 else if w.change.topic then 1 else 0

-- the messages from the change's place on
abbrev pub messages_of : Write → ℕ
messages_of w = length w.snapshot.log - w.change.from

abbrev pub inserted_by : Write → ℕ
inserted_by w =
    messages_of w + own_coming w + coming w.change.subs + coming w.change.acks + coming w.change.deads + coming w.change.counts + coming w.change.authors
    + coming w.change.retentions

abbrev pub updated_by : Write → ℕ
updated_by w =
    own_changing w + changing w.change.subs + changing w.change.acks + changing w.change.deads + changing w.change.counts + changing w.change.authors
    + changing w.change.retentions

-- the messages that went, and rows of the other tables
abbrev pub deleted_by : Write → ℕ
deleted_by w =
    w.change.went + going w.change.subs + going w.change.acks + going w.change.deads + going w.change.counts + going w.change.authors
    + going w.change.retentions

-- as far as a counter goes
abbrev pub counted : ℕ → ℕ
counted n = min n (2 ^ 64 - 1)

-- what the writes come to
abbrev pub written_by : List Write → Written
written_by writes = record {
  inserted = counted (sum_by inserted_by writes);
  updated = counted (sum_by updated_by writes);
  deleted = counted (sum_by deleted_by writes);
  cleared = counted (sum_by own_coming writes);
}

-- counts, with those of the rows of a table
abbrev pub with_difference : {R : Type 0} → Written → Difference R → Written
with_difference w d = record {
  inserted = counted (w.inserted + coming d);
  updated = counted (w.updated + changing d);
  deleted = counted (w.deleted + going d);
  cleared = w.cleared;
}

-- counts, with those of the messages that come and go
abbrev pub with_messages : Written → Write → Written
with_messages w write = record w { inserted = counted (w.inserted + messages_of write); deleted = counted (w.deleted + write.change.went) }

-- counts, with that of a topic's own row
abbrev pub with_own : Written → Write → Written
with_own w write = record w {
  inserted = counted (w.inserted + own_coming write);
  updated = counted (w.updated + own_changing write);
  cleared = counted (w.cleared + own_coming write);
}

-- counts, with those of a write
abbrev pub with_write : Written → Write → Written
with_write w write = record {
  inserted = counted (w.inserted + inserted_by write);
  updated = counted (w.updated + updated_by write);
  deleted = counted (w.deleted + deleted_by write);
  cleared = counted (w.cleared + own_coming write);
}

-- these are the counts of a store of the snapshots: of writes that fit what stood there
abbrev pub Counts : Written → List KeptTopic → Trees → Type 0
Counts written kepts old =
    (writes : List Write) × (map (λ (w : Write). w.snapshot) writes ≡ kepts) × All (Fits old) writes × (written ≡ written_by writes)
