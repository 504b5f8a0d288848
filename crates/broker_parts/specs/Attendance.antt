-- Who is in a subscription: when it goes, and for how long nobody has used it.
use Rattle.std.specs.Prelude.{ℕ, ◌+◌, ◌-◌, ◌^◌, ◌==◌, ◌&&◌, ◌||◌, min, nat_lt, not, Bool, false, Option, Some, None, if◌then◌else◌}
use Rattle.broker_parts.specs.declared.attendance.Attendance.{Attendance}

-- nobody is in it, nobody has looked, and it stays
abbrev pub unattended : Attendance
unattended = record { consumers = 0; is_passing = false; unused = None }

-- one who is not durable and makes the subscription makes it go; a durable one makes it stay
abbrev pub joined : Bool → Bool → Attendance → Attendance
joined makes is_durable a = record {
  consumers = min (a.consumers + 1) (2 ^ 64 - 1);
  is_passing = not is_durable && (makes || a.is_passing);
  unused = None;
}

abbrev pub left : Attendance → Attendance
left a = record a { consumers = a.consumers - 1 }

-- nobody is in it any more, and only such consumers were
abbrev pub is_over : Attendance → Bool
is_over a = a.is_passing && a.consumers == 0

-- the first look finds it unused, and each later one for so much longer
abbrev pub later : Option ℕ → ℕ → Option ℕ
later None passed = Some 0
later (Some unused) passed = Some (min (unused + passed) (2 ^ 64 - 1))

abbrev pub looked_at : ℕ → Attendance → Attendance
looked_at passed a = record a { unused = if a.consumers == 0 then later a.unused passed else None }

abbrev pub unused_for : ℕ → Option ℕ → Bool
unused_for millis None = false
unused_for millis (Some unused) = nat_lt millis unused

abbrev pub is_unused_for : ℕ → Attendance → Bool
is_unused_for millis a = a.consumers == 0 && unused_for millis a.unused
