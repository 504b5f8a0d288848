-- What is safe, or durable, stands in what is stored.
use Rattle.std.proofs.Common.{◌≡◌, ℕ, ◌+◌, arith, List, ◌++◌, take, ap, ◌∙◌, sym, subst}
use mathlib.Core.List.{IsPrefix}
use Rattle.position_core.specs.declared.message.Entry.{Entry}
use Rattle.delivery_machine.specs.State.{DeadLetter}
use Rattle.dead_letters.specs.Worlds.{Topic, everything}
use Rattle.dead_letters.specs.Letters.{dead_of}
use Rattle.dead_letters.specs.Laws.{SafeIsStored}
use Rattle.dead_letters.proofs.Fronts.{front_within, taken_whole}
use Rattle.dead_letters.proofs.Topics.{IsTopic, all_had}
use Rattle.dead_letters.proofs.Deaths.{dead_at, safe_deaths, WasKept, safe_stored}
use Rattle.dead_letters.proofs.DeadLetters.{dead_is, safe_is}
use Rattle.dead_letters.proofs.Invariant.{IsUnder}
use Rattle.dead_letters.proofs.AllActs.{always}

-- in what is kept all letters are safe
all_safe : (n : List ℕ) (past : Topic) (moved : List DeadLetter) → WasKept n past moved → safe_deaths n past.state moved ≡ moved ++ dead_of past.state n
all_safe n past moved kept =
    ap (λ (ds : List DeadLetter). moved ++ ds) (ap (λ (k : ℕ). take k (dead_at past.state n)) kept.all_safe ∙ taken_whole (dead_at past.state n) ∙ sym (dead_is past.state n))

durable_in : (name : List ℕ) (past s : Topic) → IsTopic name past → IsUnder past s → IsPrefix (take (s.state.gone + s.state.durable) (everything s)) (everything past)
durable_in name past s is under =
    let top = under.durable in
    let all = all_had name past is in
    subst (λ (l : List Entry). IsPrefix (take (s.state.gone + s.state.durable) l) (everything past)) under.log.1
    (front_within (s.state.gone + s.state.durable) (everything past) under.log.0 (omega (arith, top, all)))

pub safe_is_stored : SafeIsStored
safe_is_stored route target ledger_size acts w named happened =
    let holds = always route target route.source ledger_size acts w named happened in
    let n = route.subscription in (
      subst (λ (ds : List DeadLetter). IsPrefix (w.moved ++ ds) (w.moved_stored ++ dead_of w.source_stored.state n)) (sym (safe_is w.source.state n))
          (subst (IsPrefix (safe_deaths n w.source.state w.moved)) (all_safe n w.source_stored w.moved_stored holds.source_side.kept_stored)
          (safe_stored n w.source_stored w.moved_stored w.source w.moved holds.source_side.kept_stored holds.source_side.behind_stored)),
      durable_in route.name w.target_stored w.target holds.target_side.stored_is holds.target_side.under_stored,
    )
