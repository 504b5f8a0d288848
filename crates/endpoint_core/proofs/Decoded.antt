-- Whether decoded bytes are a text.
use Rattle.std.proofs.Common.{◌≡◌, ℕ, List, Some, None, cond, refl}
use Rattle.std.specs.Prelude.{IsUtf8}
use Rattle.std.specs.Str.{is_utf8}
use Rattle.std.proofs.lemmas.Bool.{false_from_ne_true}
use Rattle.std.proofs.lemmas.Str.{IsUtf8-from_is_utf8, is_utf8-from_IsUtf8}

pub is_text : (bytes : List ℕ) → IsUtf8 bytes → cond (is_utf8 bytes) (Some bytes) None ≡ Some bytes
is_text bytes utf8 = rw (is_utf8-from_IsUtf8 bytes utf8) refl

pub is_no_text : (bytes : List ℕ) → (IsUtf8 bytes → ⊥) → cond (is_utf8 bytes) (Some bytes) None ≡ None
is_no_text bytes not = rw (false_from_ne_true (is_utf8 bytes) (λ e. not (IsUtf8-from_is_utf8 bytes e))) refl
