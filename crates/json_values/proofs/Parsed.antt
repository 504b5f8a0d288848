-- Whether a text is an object.
use Rattle.std.proofs.Common.{◌≡◌, ℕ, ◌≤◌, List, length, Bool, true, false, Some, None, refl, arith}
use Rattle.std.specs.Prelude.{nat_le, is_some}
use Rattle.std.specs.Str.{IsUtf8, is_utf8}
use Rattle.std.proofs.lemmas.Str.{IsUtf8-from_is_utf8, is_utf8-from_IsUtf8}
use Rattle.std.proofs.lemmas.Grind.{common_steps}
use Rattle.serde_json.specs.Data.{Data}
use Rattle.serde_json.specs.Find.{as_object}
use Rattle.serde_json.specs.Read.{read}
use Rattle.json_values.specs.Objects.{object_of}

short : (text : List ℕ) → length text ≤ 2097152 → nat_le (length text) 2097152 ≡ true
short text fits = grind (arith, common_steps)

pub object_read : (text : List ℕ) (d : Data) → length text ≤ 2097152 → IsUtf8 text → read text ≡ Some d → is_some (as_object d) ≡ true → object_of text ≡ Some d
object_read text d fits is_text is object = rw (short text fits, is_utf8-from_IsUtf8 text is_text, is, object) refl

none_read : (utf8 : Bool) (text : List ℕ) → is_utf8 text ≡ utf8 → length text ≤ 2097152 → (IsUtf8 text → read text ≡ None) → object_of text ≡ None
none_read true text is fits none = rw (short text fits, is, none (IsUtf8-from_is_utf8 text is)) refl
none_read false text is fits none = rw (short text fits, is) refl

pub no_object : (text : List ℕ) → length text ≤ 2097152 → (IsUtf8 text → read text ≡ None) → object_of text ≡ None
no_object text fits none = none_read (is_utf8 text) text refl fits none
