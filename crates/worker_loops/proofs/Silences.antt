-- Who is ended by silence, and who is not.
use Rattle.std.proofs.Common.{◌≡◌, ℕ, ◌+◌, ◌<◌, Some, None, refl, arith}
use Rattle.worker_loops.specs.declared.silence.Patience.{Patience}
use Rattle.worker_loops.specs.declared.silence.Silence.TheVariants.{Fine, Ping, End}
use Rattle.worker_loops.specs.Silence.{awaited_since, silence_of}

-- one that was not pinged is never ended, however long it was silent
pub unpinged_goes_on : (patience : Patience) (now heard : ℕ) → ¬ (silence_of patience now heard None ≡ End)
unpinged_goes_on patience now heard = λ h. grind (arith, h)

-- after a look that came late a ping counts from then, so its client gets its whole time again
pub late_look_begins_anew : (patience : Patience) (looked now heard pinged : ℕ) → 12000 + looked < now → 0 < patience.end → silence_of patience now heard (awaited_since looked now (Some pinged)) ≡ Fine
late_look_begins_anew patience looked now heard pinged late waits = grind arith

abbrev usual : Patience
usual = record { ping = 30000; end = 45000 }

-- 30 seconds of silence, and 45 more after the ping; looks are 2 seconds apart
before_ping : silence_of usual 29999 0 None ≡ Fine
before_ping = refl

at_ping : silence_of usual 30000 0 None ≡ Ping
at_ping = refl

before_end : silence_of usual 74999 0 (awaited_since 73000 74999 (Some 30000)) ≡ Fine
before_end = refl

at_end : silence_of usual 75000 0 (awaited_since 73000 75000 (Some 30000)) ≡ End
at_end = refl

-- the machine slept for ten minutes: one that was not pinged is pinged, and one that was gets its whole time again
slept : silence_of usual 610000 0 (awaited_since 10000 610000 None) ≡ Ping
slept = refl

slept_pinged : silence_of usual 640000 0 (awaited_since 40000 640000 (Some 30000)) ≡ Fine
slept_pinged = refl

slept_pinged_before_end : silence_of usual 684999 0 (awaited_since 683000 684999 (Some 640000)) ≡ Fine
slept_pinged_before_end = refl

slept_pinged_end : silence_of usual 685000 0 (awaited_since 683000 685000 (Some 640000)) ≡ End
slept_pinged_end = refl
