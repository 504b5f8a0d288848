use Rattle.std.proofs.Common.{◌≡◌, ℕ, ◌+◌, ◌^◌, ◌++◌, ◌∷◌, [], List, false, length, nat_lt, sym, ◌∙◌, ap, subst}
use Rattle.std.specs.Prelude.{nat_le}
use Rattle.position_core.specs.declared.position.Position.{Position}
use Rattle.position_core.specs.declared.message.Entry.{Entry}
use Rattle.entry_log.specs.Log.{Log, next_in, position_after}
use Rattle.delivery_machine.specs.Words.{used_after}
use Rattle.log_pieces.specs.Pieces.{joined, front}
use Rattle.entry_log.specs.Kept.{IsAt}
use Rattle.entry_log.proofs.Keeping.{appended_at, front_push, one_longer}
use Rattle.entry_log.proofs.entry_log.EntryLog.append.Goals as goal
use Rattle.delivery_machine.proofs.Deciding.{or_false}

pub invariant_of-self-2 : goal.invariant_of-self-2
invariant_of-self-2 c =
    let inside = c.self.inside in
    let log : List Entry = joined inside.pieces in
    let e : Entry = c.args.message in
    let ledger : ℕ = inside.current.ledger in
    let used : ℕ = inside.current.used in
    let next : e.position ≡ position_after ledger (used_after ledger log) inside.ledger_size = c.requires.next ∙ sym (ap (λ (q : Log). next_in q) c.self.view_is) in
    let room : nat_lt (2 ^ 62) e.position.ledger ≡ false = ap (λ (p : Position). nat_lt (2 ^ 62) p.ledger) c.requires.next ∙ (or_false _ _ c.requires.room).1 in
    let is : joined c.push.new.self ≡ log ++ e ∷ [] = c.in_ok-push.ensures.ok in
    let own : c.next.result ≡ e.position = c.next.ensures.value ∙ ap (λ (n : ℕ). position_after ledger n inside.ledger_size) c.self.invariant.0.counted ∙ sym next in
    let its_ledger = c.after-current.ensures.ledger ∙ ap (λ (p : Position). p.ledger) own in
    let its_used = c.after-current.ensures.used ∙ ap (λ (p : Position). p.entry + 1) own in
    let at = appended_at log ledger used inside.ledger_size c.after-current.result.ledger c.after-current.result.used e c.self.invariant.0 next room its_ledger its_used in
    (subst (λ (xs : List Entry). IsAt xs c.after-current.result.ledger c.after-current.result.used) (sym is) at, (c.in_ok-push.ensures.some, subst (λ (xs : List Entry). IsAt xs ledger used) (sym (ap (λ (xs : List Entry). front xs) is ∙ front_push log e)) c.self.invariant.0), one_longer log (joined c.push.new.self) e is (ap (λ (q : Log). nat_le 1048576 (length q.log)) c.self.view_is ∙ (or_false _ _ c.requires.room).0))
