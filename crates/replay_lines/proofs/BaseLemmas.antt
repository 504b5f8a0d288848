-- Where a word is no base.
use Rattle.std.proofs.Common.{◌≡◌, ℕ, ◌<◌, List, ℤ, codes, inl, inr, arith}
use Rattle.std.specs.declared.result.Result.TheVariants.{Err}
use Rattle.replay_lines.specs.Reads.{ReadsAtOnce}
use Rattle.value_texts.specs.Decimals.{IsNumber}
use Rattle.replay_lines.specs.Numbers.{IsBase}
use Rattle.replay_lines.specs.declared.words.Unread.{Unread}
use Rattle.value_texts.proofs.LastDigits.{one_number}
use Rattle.replay_lines.proofs.Findings.{still_bad}

-- a base other than `-` is a number
base_is_number : (word : List ℕ) (z : ℤ) → (word ≡ codes "-" → ⊥) → IsBase word z → (n : ℕ) × IsNumber word n
unfolding IsBase
base_is_number word z other (inl none) = absurd (other none.0)
base_is_number word z other (inr is) = (is.0, (omega (arith, is.1), is.2))

pub no_base : (word : List ℕ) (e : Unread) → (word ≡ codes "-" → ⊥) → ReadsAtOnce (IsNumber word) (Err e) → ReadsAtOnce (IsBase word) (Err e)
no_base word e other bad = still_bad (IsNumber word) (IsBase word) e bad (λ z is. base_is_number word z other is)

-- a number above 2^62 is no base
pub large_is_no_base : (word : List ℕ) (n : ℕ) → (word ≡ codes "-" → ⊥) → IsNumber word n → 4611686018427387904 < n → (z : ℤ) → IsBase word z → ⊥
unfolding IsBase
large_is_no_base word n other is large z (inl none) = other none.0
large_is_no_base word n other is large z (inr base) =
    let same : base.0 ≡ n = one_number word base.0 n (omega (arith, base.1)) is.0 base.2 is.1 in
    omega (arith, same, base.1)
