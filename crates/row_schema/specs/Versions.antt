-- The tables of each version, and its mark.
use Rattle.std.specs.Prelude.{◌≡◌, ℕ}
use Rattle.sqlite.specs.Schema.{Schema}
use Rattle.sqlite.specs.Effect.{Database}
use Rattle.row_forms.specs.Schema.{schema_6, schema_7, schema_9}
use Rattle.row_tables.specs.Ready.{IsMarked}
use Rattle.row_schema.specs.declared.version.Version.{Version}
use Rattle.row_schema.specs.declared.version.Version.TheVariants.{One, Two, Three}

abbrev pub schema_of : Version → Schema
schema_of One = schema_6
schema_of Two = schema_7
schema_of Three = schema_9

abbrev pub number_of : Version → ℕ
number_of One = 1
number_of Two = 2
number_of Three = 3

-- the tables of this version are there and nothing else, and its mark is the only one
abbrev pub HasVersion : Version → Database → Type 0
HasVersion version db = (db.schema ≡ schema_of version) × IsMarked (number_of version) db.trees

-- the database is of none of them
abbrev pub HasNoVersion : Database → Type 0
HasNoVersion db = (version : Version) → HasVersion version db → ⊥
