-- How many messages are at each consumer that has some, as pairs in the order of the consumers.
use Rattle.std.specs.Prelude.{◌≡◌, ℕ, ◌<◌, ◌≤◌, ◌==◌, List, [], ◌∷◌, length, if◌then◌else◌, slice_index_or}
use Rattle.position_core.specs.Numbers.{ConsumerNumber}

-- the number that is kept of the consumer
abbrev pub number_at : List (ℕ × ℕ) → ConsumerNumber → ℕ
number_at [] consumer = 0
number_at ((first, number) ∷ rest) consumer = if first == consumer then number else number_at rest consumer

-- the same numbers are kept, but for one consumer, of which now this is kept
abbrev pub NumberChanges : ConsumerNumber → ℕ → List (ℕ × ℕ) → List (ℕ × ℕ) → Type 0
NumberChanges consumer number old new = (other : ℕ) → number_at new other ≡ (if consumer == other then number else number_at old other)

-- the consumer of the pair at the place
abbrev pub consumer_at : List (ℕ × ℕ) → ℕ → ConsumerNumber
consumer_at numbers place = let pair = slice_index_or numbers place (0, 0) in pair.0

-- so none comes twice
abbrev pub ConsumersRise : List (ℕ × ℕ) → Type 0
ConsumersRise numbers = (i j : ℕ) → i < j → j < length numbers → consumer_at numbers i < consumer_at numbers j

-- the consumer's pair stands at the place
pub record IsPlaceOf (numbers : List (ℕ × ℕ)) (consumer place : ℕ) : Type 0 where
  pub within : place < length numbers
  pub same : consumer_at numbers place ≡ consumer

-- lesser consumers stand before the place, and greater ones from it on
pub record IsGapFor (numbers : List (ℕ × ℕ)) (consumer place : ℕ) : Type 0 where
  pub within : place ≤ length numbers
  pub before : (i : ℕ) → i < place → consumer_at numbers i < consumer
  pub after : (i : ℕ) → place ≤ i → i < length numbers → consumer < consumer_at numbers i
