-- The tables follow, where the first messages of the log went.
use Rattle.std.proofs.Common.{◌≡◌, ℕ, ◌+◌, ◌-◌, ◌≤◌, length, Option, sym, ap, ◌∙◌, subst, arith, length-drop}
use Rattle.std.specs.Option.{option_map}
use Rattle.std.proofs.lemmas.List.{length-take}
use Rattle.delivery_machine.specs.State.{State, Subscription}
use Rattle.delivery_machine.specs.Words.{visible}
use Rattle.dispatch_core.specs.Changes.{Trimmed}
use Rattle.hash_rows.specs.Standing.{Found, later}
use Rattle.hash_rows.specs.Knowing.{Knows}
use Rattle.hash_rows.proofs.Trimmed.{knows_later}
use Rattle.dispatch_keyed.specs.Agreeing.{Agrees}
use Rattle.dispatch_keyed.specs.declared.keyed.Keyed.{Keyed}
use Rattle.dispatch_keyed.proofs.Agreed.{row_of, number_of}
use Rattle.dispatch_keyed.proofs.Owning.{same_owners}

-- as many less may be seen as went
pub seen_trimmed : (read n : ℕ) (s : State) (sub : Subscription) (t : State) (new : Subscription) → Trimmed n s sub t new → read ≤ length (visible s) → read - n ≤ length (visible t)
seen_trimmed read n s sub t new change seen =
    omega (arith, seen, length-take s.durable s.log, length-take t.durable t.log, change.durable, ap length change.log, length-drop n s.log)

pub agrees_trimmed : (n : ℕ) (d e : Keyed) (s : State) (sub : Subscription) (t : State) (new : Subscription) → Trimmed n s sub t new → Agrees d s sub → e.owners ≡ d.owners → e.read ≡ d.read - n → e.sent ≡ d.sent - n → ((h : ℕ) → row_of e h ≡ later n (row_of d h)) → ((h : ℕ) → number_of e h ≡ option_map (λ k. k - n) (number_of d h)) → Agrees e t new
agrees_trimmed n d e s sub t new change agreed owners read sent rows numbers = record {
  kind = change.kind ∙ agreed.kind;
  owners = owners ∙ same_owners s sub t new d.owners agreed.owners change.shares change.line;
  seen = omega (arith, read, seen_trimmed d.read n s sub t new change agreed.seen);
  small = omega (arith, read, agreed.small);
  unsent = λ i past behind. change.holder i ∙ agreed.unsent (n + i) (omega (arith, past, read)) (omega (arith, behind, sent));
  hashes = λ h within.
      subst (λ (r : ℕ). Knows (row_of e h) (number_of e h) h r t new) (sym read)
      (subst (λ (o : Found). Knows o (number_of e h) h (d.read - n) t new) (sym (rows h))
      (subst (λ (o : Option ℕ). Knows (later n (row_of d h)) o h (d.read - n) t new) (sym (numbers h))
      (knows_later n s sub t new change (row_of d h) (number_of d h) h d.read (agreed.hashes h within))));
}
