-- A moment's text needs no escape.
use Rattle.std.proofs.Common.{◌≡◌, ℕ, suc, ◌+◌, ◌/◌, ◌%◌, ◌<◌, List, [], ◌∷◌, ◌++◌, false, ℤ, pos, negsuc, refl, ◌∙◌, arith}
use Rattle.std.specs.Prelude.{codes}
use Rattle.std.proofs.lemmas.Grind.{common_steps, flat_map-append}
use Rattle.jiff_core.specs.declared.civil.date.Date.{Date}
use Rattle.jiff_core.specs.Calendar.{IsYear}
use Rattle.jiff_core.proofs.CalendarLemmas.{days_in_month_bounds}
use Rattle.jiff.proofs.SpanFacts.{signed_arith}
use Rattle.jiff_fmt.specs.Text.{date_text, pad2, pad4, year_text}
use Rattle.json.specs.Print.{escape, escape_byte}
use Rattle.json_values.specs.Escapes.{needs_escape}
use Rattle.json_values.specs.Times.{IsTimeText, clock_text, hour_text, millis_a_day, pad3, second_text, time_text}
use Rattle.json_values.proofs.Escapes.{plain_byte}

plain_digit : (x : ℕ) → x < 10 → needs_escape (48 + x) ≡ false
plain_digit x small = grind (arith, common_steps)

pub plain_append : (a b : List ℕ) → escape a ≡ a → escape b ≡ b → escape (a ++ b) ≡ a ++ b
plain_append a b plain_a plain_b = flat_map-append escape_byte a b ∙ rw (plain_a, plain_b) refl

plain_two : (n : ℕ) → n < 100 → escape (pad2 n) ≡ pad2 n
plain_two n small = rw (plain_byte (48 + n / 10) (plain_digit (n / 10) (omega arith)), plain_byte (48 + n % 10) (plain_digit (n % 10) (omega arith))) refl

plain_three : (n : ℕ) → n < 1000 → escape (pad3 n) ≡ pad3 n
plain_three n small = plain_append ((48 + n / 100) ∷ []) (pad2 (n % 100)) (rw (plain_byte (48 + n / 100) (plain_digit (n / 100) (omega arith))) refl) (plain_two (n % 100) (omega arith))

plain_four : (n : ℕ) → n < 10000 → escape (pad4 n) ≡ pad4 n
plain_four n small = plain_append (pad2 (n / 100)) (pad2 (n % 100)) (plain_two (n / 100) (omega arith)) (plain_two (n % 100) (omega arith))

plain_sign : escape (codes "-00") ≡ codes "-00"
unfolding escape_byte
plain_sign = refl

plain_dash : escape (45 ∷ []) ≡ 45 ∷ []
unfolding escape_byte
plain_dash = refl

plain_colon : escape (codes ":") ≡ codes ":"
unfolding escape_byte
plain_colon = refl

plain_dot : escape (codes ".") ≡ codes "."
unfolding escape_byte
plain_dot = refl

plain_t : escape (codes "T") ≡ codes "T"
unfolding escape_byte
plain_t = refl

plain_z : escape (codes "Z") ≡ codes "Z"
unfolding escape_byte
plain_z = refl

plain_year : (y : ℤ) → IsYear y → escape (year_text y) ≡ year_text y
plain_year (pos n) known = plain_four n (omega (arith, signed_arith))
plain_year (negsuc n) known = plain_append (codes "-00") (pad4 (suc n)) plain_sign (plain_four (suc n) (omega (arith, signed_arith)))

plain_date : (d : Date) → escape (date_text d) ≡ date_text d
plain_date d =
    plain_append (year_text d.year ++ 45 ∷ [] ++ pad2 d.month ++ 45 ∷ []) (pad2 d.day)
    (plain_append (year_text d.year ++ 45 ∷ [] ++ pad2 d.month) (45 ∷ [])
    (plain_append (year_text d.year ++ 45 ∷ []) (pad2 d.month) (plain_append (year_text d.year) (45 ∷ []) (plain_year d.year d.year_in) plain_dash) (plain_two d.month (omega (arith, d.month_in.1))))
    plain_dash)
    (plain_two d.day (omega (arith, d.day_in.1, days_in_month_bounds d.year d.month)))

plain_hour : (millis : ℕ) → millis < 86400000 → escape (hour_text millis) ≡ hour_text millis
plain_hour millis within =
    plain_append (pad2 (millis / 3600000) ++ codes ":") (pad2 (millis / 60000 % 60)) (plain_append (pad2 (millis / 3600000)) (codes ":") (plain_two (millis / 3600000) (omega arith)) plain_colon) (plain_two (millis / 60000 % 60) (omega arith))

plain_second : (millis : ℕ) → escape (second_text millis) ≡ second_text millis
plain_second millis =
    plain_append (pad2 (millis / 1000 % 60) ++ codes ".") (pad3 (millis % 1000)) (plain_append (pad2 (millis / 1000 % 60)) (codes ".") (plain_two (millis / 1000 % 60) (omega arith)) plain_dot) (plain_three (millis % 1000) (omega arith))

plain_clock : (millis : ℕ) → millis < 86400000 → escape (clock_text millis) ≡ clock_text millis
plain_clock millis within =
    plain_append (hour_text millis ++ codes ":") (second_text millis) (plain_append (hour_text millis) (codes ":") (plain_hour millis within) plain_colon) (plain_second millis)

plain_time_text : (d : Date) (millis : ℕ) → millis < 86400000 → escape (time_text d millis) ≡ time_text d millis
plain_time_text d millis within =
    plain_append (date_text d ++ codes "T" ++ clock_text millis) (codes "Z")
    (plain_append (date_text d ++ codes "T") (clock_text millis) (plain_append (date_text d) (codes "T") (plain_date d) plain_t) (plain_clock millis within)) plain_z

pub plain_time : (moment : ℕ) (text : List ℕ) → IsTimeText moment text → escape text ≡ text
plain_time moment text (d, day, is) = rw is (plain_time_text d (moment % millis_a_day) (omega arith))
