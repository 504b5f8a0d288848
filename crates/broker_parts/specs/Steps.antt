-- When the time of day was set, and how long rules by age wait then. All is in milliseconds.
use Rattle.std.specs.Prelude.{true, false, ℕ, ◌+◌, ◌-◌, nat_lt, Option, Some, None, is_some, if◌then◌else◌}
use Rattle.broker_parts.specs.declared.steps.Step.{Step}

-- where the time of day ought to be: as far from where it was as the clock went that nobody sets
abbrev pub due_day : (day steady now : ℕ) → ℕ
due_day day steady now = day + (now - steady)

-- it was set where it is away from there by more than a minute
abbrev pub step_from : (due day : ℕ) → Option Step
step_from due day =
    if nat_lt 60000 (day - due) then Some (record { is_ahead = true; millis = day - due })
    else if nat_lt 60000 (due - day) then Some (record { is_ahead = false; millis = due - day })
    else None

-- when it made its last step
abbrev pub stepped_after : Option ℕ → Option Step → ℕ → Option ℕ
stepped_after stepped step steady = if is_some step then Some steady else stepped

-- rules by age go by the time of day, unless a step is younger than an hour
abbrev pub time_of_rules : (stepped : Option ℕ) → (steady day : ℕ) → Option ℕ
time_of_rules None steady day = Some day
time_of_rules (Some stepped) steady day = if nat_lt steady (stepped + 3600000) then None else Some day
