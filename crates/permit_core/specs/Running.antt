-- A consumer's flow while it runs.
use Rattle.std.specs.Prelude.{◌≡◌, ℕ, ◌+◌, ◌-◌, ◌≤◌}
use Rattle.position_core.specs.declared.flow.Flow.{Flow}
use Rattle.position_core.specs.declared.flow.Flow.TheVariants.{Window, Credit}
use Rattle.position_core.specs.Flow.{spent}

-- a window with the number of messages that are pending in it, or the credit that is left
pub record Running : Type 0 where
  pub flow : Flow
  pub held : ℕ

-- a window holds no more than its size, and a credit holds nothing
abbrev pub IsWithin : Flow → ℕ → Type 0
IsWithin (Window size) held = held ≤ size
IsWithin (Credit left) held = held ≡ 0

-- one message more is pending in a window
abbrev pub held_more : Flow → ℕ → ℕ
held_more (Window size) held = held + 1
held_more (Credit left) held = 0

abbrev pub spent_one : Running → Running
spent_one r = record { flow = spent r.flow; held = held_more r.flow r.held }

abbrev pub given_back : Running → Running
given_back r = record { flow = r.flow; held = r.held - 1 }
