-- Statistics: how far a subscription is.
use Rattle.std.specs.Prelude.{◌≡◌, ℕ, List, [], ◌∷◌, length, Option, Some, None, slice_get, if◌then◌else◌}
use Rattle.std.specs.List.{count_by}
use Rattle.std.specs.Option.{option_map, unwrap_or}
use Rattle.std.specs.FinSet as set
use Rattle.std.specs.FinMap as map_of
use Rattle.position_core.specs.declared.position.Position.{Position}
use Rattle.position_core.specs.declared.message.Entry.{Entry}
use Rattle.delivery_machine.specs.State.{State, Subscription}
use Rattle.delivery_machine.specs.Words.{members_of, is_live, visible}
use Rattle.delivery_machine.specs.declared.reply.Reply.{Reply}
use Rattle.delivery_machine.specs.declared.reply.Reply.TheVariants.{Stats}

-- the greatest position of the log up to which all is acknowledged
abbrev pub mark_delete : Subscription → List Entry → Option Position
mark_delete sub [] = None
mark_delete sub (e ∷ es) = if set.contains sub.acknowledged e.position then Some (unwrap_or (mark_delete sub es) e.position) else None

-- when the first message that is kept was published
abbrev pub oldest : List Entry → Option ℕ
oldest log = option_map (λ e. e.time) (slice_get log 0)

abbrev pub ShowsStatistics : State → List ℕ → Subscription → Reply → State → Type 0
ShowsStatistics s name sub reply t =
    (reply ≡ Stats sub.kind
    (length (members_of s name))
    (mark_delete sub s.log)
    (count_by (λ e. set.contains sub.acknowledged e.position) s.log)
    (count_by (is_live sub) (visible s))
    (count_by (λ e. map_of.contains_key sub.pending e.position) s.log)
    (length sub.dead)
    s.gone
    (oldest s.log))
    × (t ≡ s)
