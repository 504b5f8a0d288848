-- What is seen of a value at a glance: of a list or an object, only that it is one of them.
use Rattle.std.specs.Prelude.{ℕ, List, Option, Some, None, option_map, option_and_then, ⊤}
use Rattle.json.specs.Json as json
use Rattle.json.specs.Token.{Token}
use Rattle.serde_json.specs.Data.{Data, null, boolean, number, string, array, object, no_items, Members, no_members, member, put}
use Rattle.serde_json.specs.Read.{converted, of_json}
use Rattle.serde_json.specs.View.{number_view}
use Rattle.json_glances.specs.declared.glances.Glance.{Glance}
use Rattle.json_glances.specs.declared.glances.Glance.TheVariants.{Null, Truth, Number, Text, Other}

-- a list without items stands for what is not seen
abbrev pub flat : Data → Data
flat null = null
flat (boolean b) = boolean b
flat (number n) = number n
flat (string s) = string s
flat (array ds) = array no_items
flat (object ms) = array no_items

-- each member's value, at a glance
abbrev pub flat_members : Members → Members
flat_members no_members = no_members
flat_members (member k d ms) = member k (flat d) (flat_members ms)

-- of an object, its members' values at a glance
abbrev pub shallow : Data → Data
shallow null = null
shallow (boolean b) = boolean b
shallow (number n) = number n
shallow (string s) = string s
shallow (array ds) = array no_items
shallow (object ms) = object (flat_members ms)

-- the value that a glance stands for
abbrev pub seen_as : Glance → Data
seen_as Null = null
seen_as (Truth b) = boolean b
seen_as (Number n) = number (number_view n)
seen_as (Text s) = string s.now
seen_as Other = array no_items

-- the value under f, where it can be read
abbrev pub read_as : {A : Type 0} → (Data → A) → json.Json → Option A
read_as f j = option_map f (of_json j)

-- what comes of the members, taken one after another, where each can be read
abbrev pub taking_all : {A : Type 0} → (List ℕ → Data → A → A) → json.Members → A → Option A
taking_all take json.no_members a = Some a
taking_all take (json.member k j ms) a = option_and_then (λ d. taking_all take ms (take k d a)) (of_json j)

-- a member that is passed over
abbrev pub passing : List ℕ → Data → ⊤ → ⊤
passing name d before = before

-- a further member, at a glance
abbrev pub flat_put : List ℕ → Data → Members → Members
flat_put name d found = put name (flat d) found

-- what follows a value that was passed over
abbrev pub passed : {A B : Type 0} → (A → Option B) → Option (A × List Token) → Option (List Token)
passed f read = option_map (λ p. p.1) (converted f read)
