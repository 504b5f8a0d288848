-- The member that is served, as the members are gone through.
use Rattle.std.proofs.Common.{◌≡◌, ℕ, ◌+◌, ◌<◌, List, Some, take, get_or, length}
use Rattle.std.specs.Prelude.{if◌then◌else◌}
use Rattle.std.specs.List.{filter}
use Rattle.delivery_machine.specs.State.{Member}
use Rattle.delivery_machine.specs.Words.{active_of, is_at, earlier}
use Rattle.delivery_machine.proofs.Best.{best_more, earlier_assoc}
use Rattle.plain_queries.specs.Members.{sooner}

pub active_more : (name : List ℕ) (ms : List Member) (i : ℕ) (d : Member) → i < length ms → active_of (filter (is_at name) (take (i + 1) ms)) ≡ (if is_at name (get_or ms i d) then Some (sooner (active_of (filter (is_at name) (take i ms))) (get_or ms i d)) else active_of (filter (is_at name) (take i ms)))
active_more name ms i d lt = best_more earlier earlier_assoc (is_at name) ms i d lt
