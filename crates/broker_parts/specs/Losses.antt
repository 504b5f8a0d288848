-- What has become of a file that the broker writes.
use Rattle.std.specs.Prelude.{ℕ, Bool, true, false, ◌&&◌, not, ◌==◌, nat_lt, Option, Some, None, if◌then◌else◌}
use Rattle.broker_parts.specs.declared.files.Known.{Known}
use Rattle.broker_parts.specs.declared.files.Loss.{Loss}
use Rattle.broker_parts.specs.declared.files.Lost.{Lost}
use Rattle.broker_parts.specs.declared.files.Loss.TheVariants.{Gone, Replaced, Short}

-- the same file is there
abbrev pub is_same : (before found : Known) → Bool
is_same before found = before.dev == found.dev && before.ino == found.ino

-- the length of a log with nothing in it
abbrev pub empty_length : ℕ
empty_length = 41

-- it is shorter than it was, and not for being empty
abbrev pub is_shorter : (before found : Known) → Bool
is_shorter before found = nat_lt found.len before.len && not (found.len == empty_length)

-- a file that had a head has none, or is shorter though it did not begin anew
abbrev pub cut_since : (before found : Option ℕ) → (is_shorter : Bool) → Bool
cut_since None found is_shorter = false
cut_since (Some round) None is_shorter = true
cut_since (Some round) (Some now) is_shorter = round == now && is_shorter

abbrev pub is_cut : (before found : Known) → Bool
is_cut before found = cut_since before.round found.round (is_shorter before found)

-- another one is in its place; or it was cut
abbrev pub loss_by : (before found : Known) → Option Loss
loss_by before found =
    if not (is_same before found) then Some Replaced
    else if is_cut before found then Some Short
    else None

-- of a file that was never seen nothing is lost; one that was is gone where there is none
abbrev pub loss_of : (before found : Option Known) → Option Loss
loss_of None found = None
loss_of (Some before) None = Some Gone
loss_of (Some before) (Some found) = loss_by before found

-- what is lost of both: of the database's file first
abbrev pub first_lost : (of_file of_log : Option Loss) → Option Lost
first_lost None None = None
first_lost None (Some loss) = Some (record { is_log = true; loss = loss })
first_lost (Some loss) of_log = Some (record { is_log = false; loss = loss })
