-- Subscriptions and their rows.
use Rattle.std.proofs.Common.{◌≡◌, ℕ, Bool, List, [], ◌++◌, true, refl, ap, sym, ◌∙◌, append-nil, append_assoc}
use Rattle.std.proofs.lemmas.List.{map-append}
use Rattle.position_core.specs.declared.kind.Kind.{Kind}
use Rattle.position_core.specs.declared.kind.Kind.TheVariants.{Exclusive, Failover, Shared, KeyShared}
use Rattle.position_core.specs.Kind.{same_kind}
use Rattle.delivery_machine.specs.Places.{KeptPlaces}
use Rattle.row_forms.specs.declared.change.SubRow.{SubRow}
use Rattle.row_forms.specs.Changes.{sub_cells}
use Rattle.row_forms.specs.Forms.{sub_row, sub_rows}
use Rattle.row_forms.proofs.Differences.{IsJoined}

pub sub_is : (row : SubRow) (sub : KeptPlaces) → row.name ≡ sub.name → row.kind ≡ sub.kind → (topic : List ℕ) → sub_cells topic row ≡ sub_row topic sub
sub_is row sub name kind topic = rw (name, kind) refl

pub kinds_are : (a b : Kind) → same_kind a b ≡ true → a ≡ b
kinds_are Exclusive Exclusive e = refl
kinds_are Failover Failover e = refl
kinds_are Shared Shared e = refl
kinds_are KeyShared KeyShared e = refl
kinds_are a b e = absurd (cc)

pub kinds_seen : (a b seen seen2 : Kind) (answer : Bool) → seen ≡ a → seen2 ≡ b → answer ≡ same_kind seen seen2 → answer ≡ true → same_kind a b ≡ true
kinds_seen a b seen seen2 answer first second is same = rw (← first, ← second) (sym is ∙ same)

pub sub_same : (a b : KeptPlaces) → a.name ≡ b.name → same_kind a.kind b.kind ≡ true → (topic : List ℕ) → sub_row topic a ≡ sub_row topic b
sub_same a b name kind topic = rw (name, kinds_are a.kind b.kind kind) refl

pub sub_rows-append : IsJoined sub_rows
sub_rows-append topic first second = map-append (sub_row topic) first second

-- ---- a walk over two lists

-- what was passed, what comes next, and what is left
pub passed : {A : Type 0} (all before next left rest : List A) → before ++ left ≡ all → next ++ rest ≡ left → (before ++ next) ++ rest ≡ all
passed all before next left rest whole is = append_assoc before next rest ∙ ap (λ l. before ++ l) is ∙ whole

pub nothing_left : {A : Type 0} (all before left : List A) → before ++ left ≡ all → left ≡ [] → before ≡ all
nothing_left all before left whole none = sym (append-nil before) ∙ ap (λ l. before ++ l) (sym none) ∙ whole
