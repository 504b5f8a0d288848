-- How often a stream had to wait.
use Rattle.std.specs.Prelude.{◌≡◌, ◌+◌, ◌^◌, ◌%◌, ℕ, Result, Ok, Err}
use Rattle.std.specs.IoError.{error_kind}
use Rattle.std.specs.declared.io.Error.{Error}
use Rattle.std.specs.declared.io.ErrorKind.{ErrorKind}
use Rattle.std.specs.declared.io.ErrorKind.TheVariants.{WouldBlock}
use Rattle.tungstenite.specs.Socket.{Socket}

-- the count with one more, where the error is that it would block
abbrev pub with_wait : ℕ → ErrorKind → ℕ
with_wait times WouldBlock = (times + 1) % 2 ^ 64
with_wait times kind = times

-- the same of a call
abbrev pub with_waits : {A : Type 0} → ℕ → Result A Error → ℕ
with_waits times (Ok a) = times
with_waits times (Err e) = with_wait times (error_kind e)

module _ {S : Type 0} where
  -- the socket's stream did not have to wait in between
  abbrev pub HasNotWaited : (S → ℕ) → Socket S → Socket S → Type 0
  HasNotWaited times old new = times new.stream ≡ times old.stream

  -- it had to wait in between
  abbrev pub HasWaited : (S → ℕ) → Socket S → Socket S → Type 0
  HasWaited times old new = ¬ HasNotWaited times old new
