-- The tables of each version, as a database lists them: each table but the first has an index of its key behind it.
use Rattle.sqlite.specs.Collation.TheVariants.{Binary}
use Rattle.std.specs.Prelude.{true, false, [], ◌∷◌, None, Some, codes, List, ℕ}
use Rattle.sqlite.specs.declared.types.Value.TheVariants.{Null}
use Rattle.sqlite.specs.Table.{Table}
use Rattle.sqlite.specs.Schema.{Schema}
use Rattle.sqlite_schema.specs.declared.schema.Index.{Index}
use Rattle.sqlite_schema.specs.declared.schema.Column.{Column}
use Rattle.sqlite.specs.Kind.{Kind}
use Rattle.sqlite.specs.Kind.TheVariants.{Integer, Text, Blob}
use Rattle.sqlite_value.specs.Keys.{plain}

abbrev pub required : List ℕ → Kind → Column
required name kind = record { name = name; kind = kind; is_strict = true; not_null = true; default = Null; collation = Binary }

abbrev pub table_of : List ℕ → ℕ → List Column → List ℕ → Table
table_of name tree columns key = record {
  name = name;
  tree = tree;
  columns = columns;
  key = None;
  primary = key;
  uniques = key ∷ [];
  orders = plain ∷ [];
  checks = [];
  references = [];
  computed = [];
  stamps = record { places = []; terms = []; formats = [] };
  is_counted = false;
}

abbrev pub index_of : List ℕ → ℕ → ℕ → List ℕ → Index
index_of name tree table key = record { name = name; tree = tree; table = table; columns = key; order = plain; is_unique = true }

abbrev pub meta_table : ℕ → Table
meta_table tree = record (table_of (codes "meta") tree (required (codes "id") Integer ∷ required (codes "version") Integer ∷ []) (1 ∷ [])) { key = Some 0; primary = 0 ∷ []; uniques = []; orders = [] }

abbrev pub topic_table : ℕ → Table
topic_table tree = table_of (codes "topic") tree (required (codes "name") Text ∷ required (codes "ledger_size") Integer ∷ required (codes "ledger") Integer ∷ required (codes "ordinal") Integer ∷ []) (1 ∷ [])

abbrev pub entry_table : ℕ → Table
entry_table tree = table_of (codes "entry") tree (required (codes "topic") Text ∷ required (codes "idx") Integer ∷ required (codes "ledger") Integer ∷ required (codes "entry") Integer ∷ required (codes "producer") Text ∷ required (codes "sequence") Integer ∷ required (codes "time") Integer ∷ required (codes "has_key") Integer ∷ required (codes "key") Text ∷ required (codes "properties") Text ∷ required (codes "payload") Blob ∷ []) (1 ∷ 2 ∷ [])

abbrev pub sub_table : ℕ → Table
sub_table tree = table_of (codes "sub") tree (required (codes "topic") Text ∷ required (codes "name") Text ∷ required (codes "kind") Integer ∷ []) (1 ∷ 2 ∷ [])

abbrev pub ack_table : ℕ → Table
ack_table tree = table_of (codes "ack") tree (required (codes "topic") Text ∷ required (codes "sub") Text ∷ required (codes "first") Integer ∷ required (codes "last") Integer ∷ []) (1 ∷ 2 ∷ 3 ∷ [])

abbrev pub dead_table : ℕ → Table
dead_table tree = table_of (codes "dead") tree (required (codes "topic") Text ∷ required (codes "sub") Text ∷ required (codes "ordinal") Integer ∷ required (codes "idx") Integer ∷ required (codes "target") Text ∷ []) (1 ∷ 2 ∷ 3 ∷ [])

abbrev pub redelivery_table : ℕ → Table
redelivery_table tree = table_of (codes "redelivery") tree (required (codes "topic") Text ∷ required (codes "sub") Text ∷ required (codes "idx") Integer ∷ required (codes "times") Integer ∷ []) (1 ∷ 2 ∷ 3 ∷ [])

abbrev pub author_table : ℕ → Table
author_table tree = table_of (codes "author") tree (required (codes "topic") Text ∷ required (codes "idx") Integer ∷ required (codes "producer") Text ∷ required (codes "sequence") Integer ∷ []) (1 ∷ 2 ∷ [])

abbrev pub retention_table : ℕ → Table
retention_table tree = table_of (codes "retention") tree (required (codes "topic") Text ∷ required (codes "gone") Integer ∷ required (codes "kind") Integer ∷ required (codes "amount") Integer ∷ []) (1 ∷ [])

abbrev pub schema_0 : Schema
schema_0 = record { tables = []; indexes = []; views = [] }

abbrev pub schema_1 : Schema
schema_1 = record { tables = meta_table 0 ∷ []; indexes = []; views = [] }

abbrev pub schema_2 : Schema
schema_2 = record { tables = meta_table 0 ∷ topic_table 1 ∷ []; indexes = index_of (codes "sqlite_autoindex_topic_1") 2 1 (1 ∷ []) ∷ []; views = [] }

abbrev pub schema_3 : Schema
schema_3 = record { tables = meta_table 0 ∷ topic_table 1 ∷ entry_table 3 ∷ []; indexes = index_of (codes "sqlite_autoindex_topic_1") 2 1 (1 ∷ []) ∷ index_of (codes "sqlite_autoindex_entry_1") 4 3 (1 ∷ 2 ∷ []) ∷ []; views = [] }

abbrev pub schema_4 : Schema
schema_4 = record { tables = meta_table 0 ∷ topic_table 1 ∷ entry_table 3 ∷ sub_table 5 ∷ []; indexes = index_of (codes "sqlite_autoindex_topic_1") 2 1 (1 ∷ []) ∷ index_of (codes "sqlite_autoindex_entry_1") 4 3 (1 ∷ 2 ∷ []) ∷ index_of (codes "sqlite_autoindex_sub_1") 6 5 (1 ∷ 2 ∷ []) ∷ []; views = [] }

abbrev pub schema_5 : Schema
schema_5 = record { tables = meta_table 0 ∷ topic_table 1 ∷ entry_table 3 ∷ sub_table 5 ∷ ack_table 7 ∷ []; indexes = index_of (codes "sqlite_autoindex_topic_1") 2 1 (1 ∷ []) ∷ index_of (codes "sqlite_autoindex_entry_1") 4 3 (1 ∷ 2 ∷ []) ∷ index_of (codes "sqlite_autoindex_sub_1") 6 5 (1 ∷ 2 ∷ []) ∷ index_of (codes "sqlite_autoindex_ack_1") 8 7 (1 ∷ 2 ∷ 3 ∷ []) ∷ []; views = [] }

-- the six tables of version 1
abbrev pub schema_6 : Schema
schema_6 = record { tables = meta_table 0 ∷ topic_table 1 ∷ entry_table 3 ∷ sub_table 5 ∷ ack_table 7 ∷ dead_table 9 ∷ []; indexes = index_of (codes "sqlite_autoindex_topic_1") 2 1 (1 ∷ []) ∷ index_of (codes "sqlite_autoindex_entry_1") 4 3 (1 ∷ 2 ∷ []) ∷ index_of (codes "sqlite_autoindex_sub_1") 6 5 (1 ∷ 2 ∷ []) ∷ index_of (codes "sqlite_autoindex_ack_1") 8 7 (1 ∷ 2 ∷ 3 ∷ []) ∷ index_of (codes "sqlite_autoindex_dead_1") 10 9 (1 ∷ 2 ∷ 3 ∷ []) ∷ []; views = [] }

-- and the seven of version 2
abbrev pub schema_7 : Schema
schema_7 = record { tables = meta_table 0 ∷ topic_table 1 ∷ entry_table 3 ∷ sub_table 5 ∷ ack_table 7 ∷ dead_table 9 ∷ redelivery_table 11 ∷ []; indexes = index_of (codes "sqlite_autoindex_topic_1") 2 1 (1 ∷ []) ∷ index_of (codes "sqlite_autoindex_entry_1") 4 3 (1 ∷ 2 ∷ []) ∷ index_of (codes "sqlite_autoindex_sub_1") 6 5 (1 ∷ 2 ∷ []) ∷ index_of (codes "sqlite_autoindex_ack_1") 8 7 (1 ∷ 2 ∷ 3 ∷ []) ∷ index_of (codes "sqlite_autoindex_dead_1") 10 9 (1 ∷ 2 ∷ 3 ∷ []) ∷ index_of (codes "sqlite_autoindex_redelivery_1") 12 11 (1 ∷ 2 ∷ 3 ∷ []) ∷ []; views = [] }

abbrev pub schema_8 : Schema
schema_8 = record { tables = meta_table 0 ∷ topic_table 1 ∷ entry_table 3 ∷ sub_table 5 ∷ ack_table 7 ∷ dead_table 9 ∷ redelivery_table 11 ∷ author_table 13 ∷ []; indexes = index_of (codes "sqlite_autoindex_topic_1") 2 1 (1 ∷ []) ∷ index_of (codes "sqlite_autoindex_entry_1") 4 3 (1 ∷ 2 ∷ []) ∷ index_of (codes "sqlite_autoindex_sub_1") 6 5 (1 ∷ 2 ∷ []) ∷ index_of (codes "sqlite_autoindex_ack_1") 8 7 (1 ∷ 2 ∷ 3 ∷ []) ∷ index_of (codes "sqlite_autoindex_dead_1") 10 9 (1 ∷ 2 ∷ 3 ∷ []) ∷ index_of (codes "sqlite_autoindex_redelivery_1") 12 11 (1 ∷ 2 ∷ 3 ∷ []) ∷ index_of (codes "sqlite_autoindex_author_1") 14 13 (1 ∷ 2 ∷ []) ∷ []; views = [] }

-- and the nine of version 3
abbrev pub schema_9 : Schema
schema_9 = record { tables = meta_table 0 ∷ topic_table 1 ∷ entry_table 3 ∷ sub_table 5 ∷ ack_table 7 ∷ dead_table 9 ∷ redelivery_table 11 ∷ author_table 13 ∷ retention_table 15 ∷ []; indexes = index_of (codes "sqlite_autoindex_topic_1") 2 1 (1 ∷ []) ∷ index_of (codes "sqlite_autoindex_entry_1") 4 3 (1 ∷ 2 ∷ []) ∷ index_of (codes "sqlite_autoindex_sub_1") 6 5 (1 ∷ 2 ∷ []) ∷ index_of (codes "sqlite_autoindex_ack_1") 8 7 (1 ∷ 2 ∷ 3 ∷ []) ∷ index_of (codes "sqlite_autoindex_dead_1") 10 9 (1 ∷ 2 ∷ 3 ∷ []) ∷ index_of (codes "sqlite_autoindex_redelivery_1") 12 11 (1 ∷ 2 ∷ 3 ∷ []) ∷ index_of (codes "sqlite_autoindex_author_1") 14 13 (1 ∷ 2 ∷ []) ∷ index_of (codes "sqlite_autoindex_retention_1") 16 15 (1 ∷ []) ∷ []; views = [] }
