-- What is known where the checks before the end have passed.
use Rattle.std.proofs.Common.{◌≡◌, ◌+◌, length, List, ℕ, sym, ◌∙◌, subst, ap}
use Rattle.topic_shared.specs.Lines.{Line}
use Rattle.topic_shared.specs.Accounts.{Seated, Accounts, AllCounted, NoOthers, seat_lines, calls_of}

pub accounts : (all : ℕ) (j lines shown : List Line) (ss ss' ss'' rs rs' rs'' : List Seated)
    → j ≡ lines → shown ≡ lines → ss' ≡ ss → rs' ≡ rs → ss'' ≡ ss → rs'' ≡ rs
    → length ss + length rs ≡ all → AllCounted shown ss' → AllCounted shown rs' → NoOthers shown ss'' rs'' → seat_lines lines ≡ calls_of ss + calls_of rs
    → Accounts all j ss rs
accounts all j lines shown ss ss' ss'' rs rs' rs'' j_is shown_is ss_is rs_is ss_is' rs_is' whole each each_r none total =
    let is : shown ≡ j = shown_is ∙ sym j_is in
    record {
      whole = whole;
      each = subst (λ (x : List Line × List Seated). AllCounted x.0 x.1) (λ i. (is i, ss_is i)) each;
      each_returned = subst (λ (x : List Line × List Seated). AllCounted x.0 x.1) (λ i. (is i, rs_is i)) each_r;
      total = ap seat_lines j_is ∙ total;
      no_others = subst (λ (x : List Line × List Seated × List Seated). NoOthers x.0 x.1 x.2) (λ i. (is i, ss_is' i, rs_is' i)) none;
    }
