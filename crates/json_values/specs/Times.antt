-- How a moment is written: `2000-02-29T12:34:56.789Z`.
use Rattle.std.specs.Prelude.{◌≡◌, ℕ, ◌+◌, ◌/◌, ◌%◌, List, ◌∷◌, ◌++◌, codes, pos}
use Rattle.jiff_core.specs.declared.civil.date.Date.{Date}
use Rattle.jiff_core.specs.Date.{epoch_day}
use Rattle.jiff_fmt.specs.Text.{pad2, date_text}

-- how many milliseconds a day has
abbrev pub millis_a_day : ℕ
millis_a_day = 86400000

-- a number below 1,000, in three digits
abbrev pub pad3 : ℕ → List ℕ
pad3 n = (48 + n / 100) ∷ pad2 (n % 100)

-- `12:34`, of a time so many milliseconds after midnight
abbrev pub hour_text : ℕ → List ℕ
hour_text millis = pad2 (millis / 3600000) ++ codes ":" ++ pad2 (millis / 60000 % 60)

-- `56.789`
abbrev pub second_text : ℕ → List ℕ
second_text millis = pad2 (millis / 1000 % 60) ++ codes "." ++ pad3 (millis % 1000)

-- `12:34:56.789`
abbrev pub clock_text : ℕ → List ℕ
clock_text millis = hour_text millis ++ codes ":" ++ second_text millis

-- `2000-02-29T12:34:56.789Z`
abbrev pub time_text : Date → ℕ → List ℕ
time_text date millis = date_text date ++ codes "T" ++ clock_text millis ++ codes "Z"

-- the civil date that is the moment's number of days after 1 January 1970, and the time of that day, in UTC
abbrev pub IsTimeText : ℕ → List ℕ → Type 0
IsTimeText moment text = (date : Date) × (epoch_day date ≡ pos (moment / millis_a_day)) × (text ≡ time_text date (moment % millis_a_day))
