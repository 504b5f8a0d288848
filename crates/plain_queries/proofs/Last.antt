-- How many entries of a ledger are used, told by the last message.
use Rattle.std.proofs.Common.{◌≡◌, ℕ, ◌+◌, ◌-◌, List, [], ◌∷◌, Some, length, get_or, refl, ap, ◌∙◌, sym, arith}
use Rattle.std.specs.Prelude.{◌==◌, slice_get, if◌then◌else◌}
use Rattle.std.proofs.lemmas.Option.{slice_get_within, slice_get-get_or}
use Rattle.position_core.specs.declared.message.Entry.{Entry}
use Rattle.delivery_machine.specs.Words.{used_after}

abbrev used_by : ℕ → Entry → ℕ
used_by ledger e = if e.position.ledger == ledger then e.position.entry + 1 else 0

used_at_end : (ledger : ℕ) (x : Entry) (log : List Entry) (d : Entry) → used_after ledger (x ∷ log) ≡ used_by ledger (get_or (x ∷ log) (length log) d)
used_at_end ledger x [] d = refl
used_at_end ledger x (y ∷ log) d = used_at_end ledger y log d

pub used_last : (ledger : ℕ) (log : List Entry) (e : Entry) → Some e ≡ slice_get log (length log - 1) → used_after ledger log ≡ (if e.position.ledger == ledger then e.position.entry + 1 else 0)
used_last ledger [] e last = cc
used_last ledger (x ∷ log) e last =
    let place : length (x ∷ log) - 1 ≡ length log = omega arith in
    let at : Some e ≡ slice_get (x ∷ log) (length log) = last ∙ ap (slice_get (x ∷ log)) place in
    let there = slice_get-get_or (x ∷ log) (length log) e (slice_get_within (x ∷ log) (length log) e (sym at)) in
    let same : e ≡ get_or (x ∷ log) (length log) e = cc (at, there) in
    used_at_end ledger x log e ∙ ap (used_by ledger) (sym same)
