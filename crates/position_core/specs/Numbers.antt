-- Numbers that name something.
use Rattle.std.specs.Prelude.{ℕ}

abbrev pub ProducerNumber : Type 0
ProducerNumber = ℕ

abbrev pub ConsumerNumber : Type 0
ConsumerNumber = ℕ

-- of a death
abbrev pub Ordinal : Type 0
Ordinal = ℕ

-- in milliseconds since 1970, possibly past the last moment
abbrev pub DueMoment : Type 0
DueMoment = ℕ
