-- The open topics of a directory, in the order of opening.
use Rattle.std.specs.Prelude.{◌≡◌, ◌<◌, ◌≤◌, ◌⊎◌, ◌++◌, ◌∷◌, [], ℕ, List, map, length, All, String}
use Rattle.std.specs.List.{remove}
use Rattle.std.specs.String.{string_bytes}
use Rattle.position_core.specs.declared.topic_name.TopicName.{TopicName}
use Rattle.position_core.specs.TopicName.{topic_text}
use Rattle.broker_dir.specs.declared.unloading.Room.{Room}
use Rattle.broker_dir.specs.declared.unloading.Room.TheVariants.{Free, InPlaceOf}

-- their names
abbrev pub names_of : {A X : Type 0} → List (String A × X) → List (List ℕ)
names_of = map (λ topic. string_bytes topic.0)

-- each is open under the text of its name
abbrev pub AreNamed : {A X : Type 0} → (X → TopicName) → List (String A × X) → Type 0
AreNamed name topics = All (λ topic. string_bytes topic.0 ≡ topic_text (name topic.1)) topics

-- how many may be open
abbrev pub most_open : ℕ
most_open = 256

-- there is room for one more beside so many: fewer are open than may be, or one of them may leave
abbrev pub HasRoom : Room → ℕ → Type 0
HasRoom Free count = count < most_open
HasRoom (InPlaceOf unused) count = (unused.sole.place < count) × (most_open ≤ count)

-- what is left once the place is made
abbrev pub after_making : {A : Type 0} → Room → List A → List A
after_making Free xs = xs
after_making (InPlaceOf unused) xs = remove xs unused.sole.place

-- the name stands behind the others, where fewer were open than may be; where as many were, one of them has left
abbrev pub IsListed : List (List ℕ) → List ℕ → List (List ℕ) → Type 0
IsListed old name new =
    ((length old < most_open) × (new ≡ old ++ name ∷ [])) ⊎ ((place : ℕ) × (place < length old) × (most_open ≤ length old) × (new ≡ remove (old ++ name ∷ []) place))
