-- The mark-delete position, as the log is gone through.
use Rattle.std.proofs.Common.{◌≡◌, ℕ, ◌+◌, ◌<◌, ◌∙◌, List, ◌∷◌, Bool, true, false, Option, Some, None, get_or, drop, length, refl, sym, ap}
use Rattle.std.specs.Prelude.{if◌then◌else◌}
use Rattle.std.specs.Option.{option_or, unwrap_or}
use Rattle.std.specs.FinSet as set
use Rattle.std.proofs.lemmas.List.{drop_more}
use Rattle.position_core.specs.declared.position.Position.{Position}
use Rattle.position_core.specs.declared.message.Entry.{Entry}
use Rattle.delivery_machine.specs.State.{Subscription}
use Rattle.delivery_machine.specs.Statistics.{mark_delete}

-- what is marked once the rest of the log is gone through
abbrev pub marked : Subscription → Option Position → List Entry → Option Position
marked sub mark rest = option_or (mark_delete sub rest) mark

at_index : (sub : Subscription) (mark : Option Position) (log : List Entry) (i : ℕ) (e : Entry) → i < length log → e ≡ get_or log i e → marked sub mark (drop i log) ≡ marked sub mark (e ∷ drop (i + 1) log)
at_index sub mark log i e low is = ap (marked sub mark) (drop_more log i e low ∙ ap (λ x. x ∷ drop (i + 1) log) (sym is))

pub marked_once_more : (sub : Subscription) (mark : Option Position) (log : List Entry) (i : ℕ) (e : Entry) → i < length log → e ≡ get_or log i e → set.contains sub.acknowledged e.position ≡ true → marked sub mark (drop i log) ≡ marked sub (Some e.position) (drop (i + 1) log)
marked_once_more sub mark log i e low is acknowledged =
    at_index sub mark log i e low is ∙ by (set.contains sub.acknowledged e.position) (mark_delete sub (drop (i + 1) log)) acknowledged
  where
    by : (b : Bool) (later : Option Position) → b ≡ true → option_or (if b then Some (unwrap_or later e.position) else None) mark ≡ option_or later (Some e.position)
    by true None t = refl
    by true (Some p) t = refl
    by false later t = cc

pub marked_no_more : (sub : Subscription) (mark : Option Position) (log : List Entry) (i : ℕ) (e : Entry) → i < length log → e ≡ get_or log i e → set.contains sub.acknowledged e.position ≡ false → marked sub mark (drop i log) ≡ mark
marked_no_more sub mark log i e low is waiting =
    at_index sub mark log i e low is ∙ by (set.contains sub.acknowledged e.position) (mark_delete sub (drop (i + 1) log)) waiting
  where
    by : (b : Bool) (later : Option Position) → b ≡ false → option_or (if b then Some (unwrap_or later e.position) else None) mark ≡ mark
    by true later f = cc
    by false later f = refl
