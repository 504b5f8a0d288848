-- The dead letters of one subscription.
use Rattle.std.specs.Prelude.{◌≡◌, ℕ, ◌-◌, ◌==◌, nat_lt, max, List, [], ◌∷◌, ◌++◌, length, take, drop, Bool, false, Option, None, if◌then◌else◌}
use Rattle.std.specs.List.{count_by, list_any, slice_get}
use Rattle.std.specs.Option.{option_map_or}
use Rattle.std.specs.Ordering.{is_lt}
use Rattle.position_core.specs.declared.position.Position.{Position}
use Rattle.position_core.specs.Position.{position_cmp}
use Rattle.delivery_machine.specs.State.{DeadLetter, Subscription}

-- in the order of dying; the first `safe` of them are stored
pub record Letters : Type 0 where
  pub dead : List DeadLetter
  pub safe : ℕ

abbrev pub none_dead : Letters
none_dead = record { dead = []; safe = 0 }

-- a further one, not yet safe
abbrev pub ending_with : DeadLetter → Letters → Letters
ending_with letter q = record { dead = q.dead ++ letter ∷ []; safe = q.safe }

-- the last one is taken back, where it is not safe
abbrev pub without_last : Letters → Letters
without_last q = if nat_lt q.safe (length q.dead) then record { dead = take (length q.dead - 1) q.dead; safe = q.safe } else q

-- those below the ordinal are safe, and those that were
abbrev pub safe_below : ℕ → Letters → Letters
safe_below ordinal q = record { dead = q.dead; safe = max q.safe (count_by (λ d. nat_lt d.ordinal ordinal) q.dead) }

abbrev pub all_safe : Letters → Letters
all_safe q = record { dead = q.dead; safe = length q.dead }

-- the first one, where it is safe
abbrev pub next_safe : Letters → Option DeadLetter
next_safe q = if nat_lt 0 q.safe then slice_get q.dead 0 else None

-- the first one is safe, and of this ordinal
abbrev pub is_next : ℕ → Letters → Bool
is_next ordinal q = option_map_or (λ letter. letter.ordinal == ordinal) (next_safe q) false

abbrev pub without_first : Letters → Letters
without_first q = record { dead = drop 1 q.dead; safe = q.safe - 1 }

-- some letter's message stands before the position
abbrev pub has_before : Position → Letters → Bool
has_before end q = list_any (λ d. is_lt (position_cmp d.position end)) q.dead

-- the letters are the subscription's
abbrev pub AreLettersOf : Letters → Subscription → Type 0
AreLettersOf q sub = (sub.dead ≡ q.dead) × (sub.safe ≡ q.safe)
