-- A log whose messages are all in earlier ledgers than the open one.
use Rattle.std.proofs.Common.{◌≡◌, ℕ, ◌+◌, ◌<◌, ◌≤◌, ◌^◌, List, [], ◌∷◌, map, true, false, cond, refl, ap, sym, arith, All}
use Rattle.std.specs.Prelude.{◌==◌}
use Rattle.std.specs.List.Sorted.{IsStrictlySortedBy}
use Rattle.std.proofs.lemmas.Bool.Decides.{nat_tests}
use Rattle.std.proofs.lemmas.List.Elements.{All-head, All-tail}
use Rattle.position_core.specs.declared.position.Position.{Position}
use Rattle.position_core.specs.declared.message.Entry.{Entry}
use Rattle.position_core.specs.Position.{position_cmp}
use Rattle.delivery_machine.specs.Words.{used_after}
use Rattle.entry_log.specs.Kept.{IsAt, is_before}

is_earlier : (ledger : ℕ) (p : Position) → p.ledger < ledger → is_before ledger 0 p ≡ true
is_earlier ledger p low = grind (arith, nat_tests)

is_other : (n ledger : ℕ) → n < ledger → (n == ledger) ≡ false
is_other n ledger low = grind (arith, nat_tests)

none_used : (ledger : ℕ) (log : List Entry) → All (λ e. e.position.ledger < ledger) log → 0 ≡ used_after ledger log
none_used ledger [] all = refl
none_used ledger (e ∷ []) all =
    let other = is_other e.position.ledger ledger (All-head (λ (x : Entry). x.position.ledger < ledger) e [] all) in
    sym (ap (λ b. cond b (e.position.entry + 1) 0) other)
none_used ledger (e ∷ f ∷ log) all = none_used ledger (f ∷ log) (All-tail (λ (x : Entry). x.position.ledger < ledger) e (f ∷ log) all)

pub is_at_its_ledger : (log : List Entry) (ledger : ℕ) → IsStrictlySortedBy position_cmp (map (λ e. e.position) log) → All (λ e. e.position.ledger < ledger) log → ledger ≤ 2 ^ 62 + 1 → IsAt log ledger 0
is_at_its_ledger log ledger rising all bounded = record {
  rising = rising;
  before = λ k d low. is_earlier ledger _ (all k d low);
  counted = none_used ledger log all;
  bounded = bounded;
}
