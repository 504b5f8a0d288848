-- How often what a connection asked for has failed.
use Rattle.std.specs.Prelude.{◌+◌, ◌^◌, ◌%◌, Result, Ok, Err}
use Rattle.socket_conn.specs.declared.faults.Faults.{Faults}
use Rattle.socket_conn.specs.declared.outcomes.Came.{Came}
use Rattle.socket_conn.specs.declared.outcomes.Came.TheVariants.{Breaks, Fails, Lost}

-- nothing has failed yet
abbrev pub no_faults : Faults
no_faults = record { times = 0 }

-- one more call has failed
abbrev pub one_more : Faults → Faults
one_more f = record { times = (f.times + 1) % 2 ^ 64 }

-- the count after a call that gave this
abbrev pub after : {A E : Type 0} → Result A E → Faults → Faults
after (Ok a) f = f
after (Err e) f = one_more f

-- the count after a read that came to this
abbrev pub after_read : Came → Faults → Faults
after_read Lost f = one_more f
after_read Fails f = one_more f
after_read (Breaks code) f = one_more f
after_read came f = f
