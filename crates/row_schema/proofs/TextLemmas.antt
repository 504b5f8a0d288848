-- What the nine CREATEs mean, each where the tables before it are there.
use Rattle.std.proofs.Common.{◌≡◌, ℕ, List, codes, Ok, refl}
use Rattle.sqlite.specs.Change.{created}
use Rattle.sqlite.specs.Command.TheVariants.{CreateTable}
use Rattle.sqlite.specs.Compile.{table_defined_by}
use Rattle.sqlite.specs.Listing.{understood}
use Rattle.sqlite.proofs.Callers.{IsPlain, command_of, statement_of}
use Rattle.sqlite_tied.specs.Compute.{everything}
use Rattle.row_forms.specs.Schema.{schema_0, schema_1, schema_2, schema_3, schema_4, schema_5, schema_6, schema_7, schema_8, schema_9, meta_table, topic_table, entry_table, sub_table, ack_table, dead_table, redelivery_table, author_table, retention_table}
use Rattle.row_schema.specs.Making.{Leads}

abbrev pub create_meta : List ℕ
create_meta = codes "CREATE TABLE meta (id INTEGER NOT NULL PRIMARY KEY, version INTEGER NOT NULL) STRICT"

create_meta_is : (command_of (understood schema_0 create_meta) ≡ CreateTable) × (statement_of create_meta (understood schema_0 create_meta) ≡ create_meta) × (table_defined_by create_meta ≡ Ok (meta_table 0))
unfolding understood everything
create_meta_is = (refl, refl, refl)

abbrev pub create_topic : List ℕ
create_topic = codes "CREATE TABLE topic (name TEXT NOT NULL, ledger_size INTEGER NOT NULL, ledger INTEGER NOT NULL, ordinal INTEGER NOT NULL, PRIMARY KEY (name)) STRICT"

create_topic_is : (command_of (understood schema_1 create_topic) ≡ CreateTable) × (statement_of create_topic (understood schema_1 create_topic) ≡ create_topic) × (table_defined_by create_topic ≡ Ok (topic_table 0))
unfolding understood everything
create_topic_is = (refl, refl, refl)

abbrev pub create_entry : List ℕ
create_entry = codes "CREATE TABLE entry (topic TEXT NOT NULL, idx INTEGER NOT NULL, ledger INTEGER NOT NULL, entry INTEGER NOT NULL, producer TEXT NOT NULL, sequence INTEGER NOT NULL, time INTEGER NOT NULL, has_key INTEGER NOT NULL, key TEXT NOT NULL, properties TEXT NOT NULL, payload BLOB NOT NULL, PRIMARY KEY (topic, idx)) STRICT"

create_entry_is : (command_of (understood schema_2 create_entry) ≡ CreateTable) × (statement_of create_entry (understood schema_2 create_entry) ≡ create_entry) × (table_defined_by create_entry ≡ Ok (entry_table 0))
unfolding understood everything
create_entry_is = (refl, refl, refl)

abbrev pub create_sub : List ℕ
create_sub = codes "CREATE TABLE sub (topic TEXT NOT NULL, name TEXT NOT NULL, kind INTEGER NOT NULL, PRIMARY KEY (topic, name)) STRICT"

create_sub_is : (command_of (understood schema_3 create_sub) ≡ CreateTable) × (statement_of create_sub (understood schema_3 create_sub) ≡ create_sub) × (table_defined_by create_sub ≡ Ok (sub_table 0))
unfolding understood everything
create_sub_is = (refl, refl, refl)

abbrev pub create_ack : List ℕ
create_ack = codes "CREATE TABLE ack (topic TEXT NOT NULL, sub TEXT NOT NULL, first INTEGER NOT NULL, last INTEGER NOT NULL, PRIMARY KEY (topic, sub, first)) STRICT"

create_ack_is : (command_of (understood schema_4 create_ack) ≡ CreateTable) × (statement_of create_ack (understood schema_4 create_ack) ≡ create_ack) × (table_defined_by create_ack ≡ Ok (ack_table 0))
unfolding understood everything
create_ack_is = (refl, refl, refl)

abbrev pub create_dead : List ℕ
create_dead = codes "CREATE TABLE dead (topic TEXT NOT NULL, sub TEXT NOT NULL, ordinal INTEGER NOT NULL, idx INTEGER NOT NULL, target TEXT NOT NULL, PRIMARY KEY (topic, sub, ordinal)) STRICT"

create_dead_is : (command_of (understood schema_5 create_dead) ≡ CreateTable) × (statement_of create_dead (understood schema_5 create_dead) ≡ create_dead) × (table_defined_by create_dead ≡ Ok (dead_table 0))
unfolding understood everything
create_dead_is = (refl, refl, refl)

abbrev pub create_redelivery : List ℕ
create_redelivery = codes "CREATE TABLE redelivery (topic TEXT NOT NULL, sub TEXT NOT NULL, idx INTEGER NOT NULL, times INTEGER NOT NULL, PRIMARY KEY (topic, sub, idx)) STRICT"

create_redelivery_is : (command_of (understood schema_6 create_redelivery) ≡ CreateTable) × (statement_of create_redelivery (understood schema_6 create_redelivery) ≡ create_redelivery) × (table_defined_by create_redelivery ≡ Ok (redelivery_table 0))
unfolding understood everything
create_redelivery_is = (refl, refl, refl)

create_meta_plain : IsPlain (understood schema_0 create_meta)
unfolding understood everything
create_meta_plain = (refl, refl)

create_topic_plain : IsPlain (understood schema_1 create_topic)
unfolding understood everything
create_topic_plain = (refl, refl)

create_entry_plain : IsPlain (understood schema_2 create_entry)
unfolding understood everything
create_entry_plain = (refl, refl)

create_sub_plain : IsPlain (understood schema_3 create_sub)
unfolding understood everything
create_sub_plain = (refl, refl)

create_ack_plain : IsPlain (understood schema_4 create_ack)
unfolding understood everything
create_ack_plain = (refl, refl)

create_dead_plain : IsPlain (understood schema_5 create_dead)
unfolding understood everything
create_dead_plain = (refl, refl)

create_redelivery_plain : IsPlain (understood schema_6 create_redelivery)
unfolding understood everything
create_redelivery_plain = (refl, refl)

meta_created : created schema_0 (meta_table 0) ≡ schema_1
unfolding everything
meta_created = refl

topic_created : created schema_1 (topic_table 0) ≡ schema_2
unfolding everything
topic_created = refl

entry_created : created schema_2 (entry_table 0) ≡ schema_3
unfolding everything
entry_created = refl

sub_created : created schema_3 (sub_table 0) ≡ schema_4
unfolding everything
sub_created = refl

ack_created : created schema_4 (ack_table 0) ≡ schema_5
unfolding everything
ack_created = refl

dead_created : created schema_5 (dead_table 0) ≡ schema_6
unfolding everything
dead_created = refl

redelivery_created : created schema_6 (redelivery_table 0) ≡ schema_7
unfolding everything
redelivery_created = refl

pub meta_leads : Leads create_meta schema_0 schema_1
meta_leads = record { table = meta_table 0; plain = create_meta_plain; command = create_meta_is.0; text = create_meta_is.1; defined = create_meta_is.2; is = meta_created; uncounted = refl }

pub topic_leads : Leads create_topic schema_1 schema_2
topic_leads = record { table = topic_table 0; plain = create_topic_plain; command = create_topic_is.0; text = create_topic_is.1; defined = create_topic_is.2; is = topic_created; uncounted = refl }

pub entry_leads : Leads create_entry schema_2 schema_3
entry_leads = record { table = entry_table 0; plain = create_entry_plain; command = create_entry_is.0; text = create_entry_is.1; defined = create_entry_is.2; is = entry_created; uncounted = refl }

pub sub_leads : Leads create_sub schema_3 schema_4
sub_leads = record { table = sub_table 0; plain = create_sub_plain; command = create_sub_is.0; text = create_sub_is.1; defined = create_sub_is.2; is = sub_created; uncounted = refl }

pub ack_leads : Leads create_ack schema_4 schema_5
ack_leads = record { table = ack_table 0; plain = create_ack_plain; command = create_ack_is.0; text = create_ack_is.1; defined = create_ack_is.2; is = ack_created; uncounted = refl }

pub dead_leads : Leads create_dead schema_5 schema_6
dead_leads = record { table = dead_table 0; plain = create_dead_plain; command = create_dead_is.0; text = create_dead_is.1; defined = create_dead_is.2; is = dead_created; uncounted = refl }

pub redelivery_leads : Leads create_redelivery schema_6 schema_7
redelivery_leads = record { table = redelivery_table 0; plain = create_redelivery_plain; command = create_redelivery_is.0; text = create_redelivery_is.1; defined = create_redelivery_is.2; is = redelivery_created; uncounted = refl }

abbrev pub create_author : List ℕ
create_author = codes "CREATE TABLE author (topic TEXT NOT NULL, idx INTEGER NOT NULL, producer TEXT NOT NULL, sequence INTEGER NOT NULL, PRIMARY KEY (topic, idx)) STRICT"

create_author_is : (command_of (understood schema_7 create_author) ≡ CreateTable) × (statement_of create_author (understood schema_7 create_author) ≡ create_author) × (table_defined_by create_author ≡ Ok (author_table 0))
unfolding understood everything
create_author_is = (refl, refl, refl)

create_author_plain : IsPlain (understood schema_7 create_author)
unfolding understood everything
create_author_plain = (refl, refl)

author_created : created schema_7 (author_table 0) ≡ schema_8
unfolding everything
author_created = refl

pub author_leads : Leads create_author schema_7 schema_8
author_leads = record { table = author_table 0; plain = create_author_plain; command = create_author_is.0; text = create_author_is.1; defined = create_author_is.2; is = author_created; uncounted = refl }

abbrev pub create_retention : List ℕ
create_retention = codes "CREATE TABLE retention (topic TEXT NOT NULL, gone INTEGER NOT NULL, kind INTEGER NOT NULL, amount INTEGER NOT NULL, PRIMARY KEY (topic)) STRICT"

create_retention_is : (command_of (understood schema_8 create_retention) ≡ CreateTable) × (statement_of create_retention (understood schema_8 create_retention) ≡ create_retention) × (table_defined_by create_retention ≡ Ok (retention_table 0))
unfolding understood everything
create_retention_is = (refl, refl, refl)

create_retention_plain : IsPlain (understood schema_8 create_retention)
unfolding understood everything
create_retention_plain = (refl, refl)

retention_created : created schema_8 (retention_table 0) ≡ schema_9
unfolding everything
retention_created = refl

pub retention_leads : Leads create_retention schema_8 schema_9
retention_leads = record { table = retention_table 0; plain = create_retention_plain; command = create_retention_is.0; text = create_retention_is.1; defined = create_retention_is.2; is = retention_created; uncounted = refl }
