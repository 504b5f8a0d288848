-- How many of the first messages subscriptions have done with.
use Rattle.std.specs.Prelude.{ℕ, List}
use Rattle.std.specs.List.{list_all, prefix_len}
use Rattle.position_core.specs.declared.message.Entry.{Entry}
use Rattle.delivery_machine.specs.State.{Subscription}
use Rattle.delivery_machine.specs.Trimming.{is_done_with}

abbrev pub done_by : Subscription → List Entry → ℕ
done_by sub log = prefix_len (λ e. is_done_with e sub) log

abbrev pub done_by_all : List Subscription → List Entry → ℕ
done_by_all subs log = prefix_len (λ e. list_all (is_done_with e) subs) log
