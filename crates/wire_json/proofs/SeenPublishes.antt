-- What is seen of the members of a publish says what the whole object says.
use Rattle.std.proofs.Common.{◌≡◌, ℕ, List, [], Option, Some, None, Err, Bool, true, false, option_map, option_and_then, bytes_eq, true≢false, refl, sym, ap, ap₂, subst, ◌∙◌}
use Rattle.std.specs.Prelude.{codes}
use Rattle.std.proofs.lemmas.Slice.Eq.{bytes_eq-Decides}
use Rattle.serde_json.specs.Data.{Data, null, boolean, number, string, array, object, Members, no_members, member, put}
use Rattle.serde_json.specs.Find.{as_str, get, get_member}
use Rattle.serde_json.proofs.Views.{get_member-put, get_member-put_other}
use Rattle.json_values.specs.Fields.{optional, pairs_in, properties_of, said_at, said_by, said_or, short_text, value_of, with_property, word_of}
use Rattle.json_glances.specs.Glances.{flat, flat_members, shallow}
use Rattle.wire_json.specs.PublishFields.{Fields, fields_in, with_member, content_seen, reading_seen}
use Rattle.position_core.specs.declared.fault.Fault.TheVariants.{BadJson}
use Rattle.wire_json.specs.Publishes.{Reading, content_from, content_in, key_in, payload_from, payload_in, reading_of, reading_with}

pub differ : (a b : List ℕ) → bytes_eq a b ≡ false → a ≡ b → ⊥
differ a b e is = true≢false (sym ((bytes_eq-Decides a b).1 is) ∙ e)

abbrev made : Option Data → Option Data → Option Data → Option Data → Fields
made context payload key properties = record {
  context = option_map flat context;
  payload = option_map flat payload;
  key = option_map flat key;
  properties = option_map shallow properties;
}

all_alike : (c d p q k l r s : Option Data) → c ≡ d → p ≡ q → k ≡ l → r ≡ s → made c p k r ≡ made d q l s
all_alike c d p q k l r s e f g h = cc

abbrev Puts : List ℕ → Data → Members → Type 0
Puts name d ms = with_member name d (fields_in (object ms)) ≡ fields_in (object (put name d ms))

module _ (d : Data) (ms : Members) where
  stays : (q k : List ℕ) → (q ≡ k → ⊥) → get_member q ms ≡ get_member q (put k d ms)
  stays q k other = sym (get_member-put_other q k d ms other)

  put_properties : Puts (codes "properties") d ms
  put_properties =
      all_alike _ _ _ _ _ _ (Some d) _
      (stays (codes "context") (codes "properties") (differ (codes "context") (codes "properties") refl))
      (stays (codes "payload") (codes "properties") (differ (codes "payload") (codes "properties") refl))
      (stays (codes "key") (codes "properties") (differ (codes "key") (codes "properties") refl))
      (sym (get_member-put (codes "properties") d ms))

  put_payload : Puts (codes "payload") d ms
  put_payload =
      all_alike _ _ (Some d) _ _ _ _ _
      (stays (codes "context") (codes "payload") (differ (codes "context") (codes "payload") refl))
      (sym (get_member-put (codes "payload") d ms))
      (stays (codes "key") (codes "payload") (differ (codes "key") (codes "payload") refl))
      (stays (codes "properties") (codes "payload") (differ (codes "properties") (codes "payload") refl))

  put_context : Puts (codes "context") d ms
  put_context =
      all_alike (Some d) _ _ _ _ _ _ _
      (sym (get_member-put (codes "context") d ms))
      (stays (codes "payload") (codes "context") (differ (codes "payload") (codes "context") refl))
      (stays (codes "key") (codes "context") (differ (codes "key") (codes "context") refl))
      (stays (codes "properties") (codes "context") (differ (codes "properties") (codes "context") refl))

  put_key : Puts (codes "key") d ms
  put_key =
      all_alike _ _ _ _ (Some d) _ _ _
      (stays (codes "context") (codes "key") (differ (codes "context") (codes "key") refl))
      (stays (codes "payload") (codes "key") (differ (codes "payload") (codes "key") refl))
      (sym (get_member-put (codes "key") d ms))
      (stays (codes "properties") (codes "key") (differ (codes "properties") (codes "key") refl))

  module _ (k : List ℕ) where
    untouched : (f : Fields) → bytes_eq k (codes "properties") ≡ false → bytes_eq k (codes "payload") ≡ false → bytes_eq k (codes "context") ≡ false → bytes_eq k (codes "key") ≡ false → with_member k d f ≡ f
    untouched f e1 e2 e3 e4 = rw (e1, e2, e3, e4) refl

    named : (name : List ℕ) → bytes_eq k name ≡ true → Puts name d ms → Puts k d ms
    named name e puts = subst (λ n. Puts n d ms) (sym ((bytes_eq-Decides k name).0 e)) puts

    by_name : (b1 b2 b3 b4 : Bool) → bytes_eq k (codes "properties") ≡ b1 → bytes_eq k (codes "payload") ≡ b2 → bytes_eq k (codes "context") ≡ b3 → bytes_eq k (codes "key") ≡ b4 → Puts k d ms
    by_name true b2 b3 b4 e1 e2 e3 e4 = named (codes "properties") e1 put_properties
    by_name false true b3 b4 e1 e2 e3 e4 = named (codes "payload") e2 put_payload
    by_name false false true b4 e1 e2 e3 e4 = named (codes "context") e3 put_context
    by_name false false false true e1 e2 e3 e4 = named (codes "key") e4 put_key
    by_name false false false false e1 e2 e3 e4 =
        untouched (fields_in (object ms)) e1 e2 e3 e4
        ∙ all_alike _ _ _ _ _ _ _ _
        (stays (codes "context") k (λ is. differ k (codes "context") e3 (sym is)))
        (stays (codes "payload") k (λ is. differ k (codes "payload") e2 (sym is)))
        (stays (codes "key") k (λ is. differ k (codes "key") e4 (sym is)))
        (stays (codes "properties") k (λ is. differ k (codes "properties") e1 (sym is)))

-- a further member of the object is a further one that is seen
pub member_seen : (k : List ℕ) (d : Data) (ms : Members) → with_member k d (fields_in (object ms)) ≡ fields_in (object (put k d ms))
member_seen k d ms = by_name d ms k (bytes_eq k (codes "properties")) (bytes_eq k (codes "payload")) (bytes_eq k (codes "context")) (bytes_eq k (codes "key")) refl refl refl refl

-- ---- what is read of what is seen

word_alike : (d : Data) → said_by word_of (flat d) ≡ said_by word_of d
word_alike null = refl
word_alike (boolean b) = refl
word_alike (number n) = refl
word_alike (string s) = refl
word_alike (array ds) = refl
word_alike (object ms) = refl

words_alike : (o : Option Data) → said_at word_of (option_map flat o) ≡ said_at word_of o
words_alike None = refl
words_alike (Some d) = word_alike d

pub text_alike : (d : Data) → as_str (flat d) ≡ as_str d
text_alike null = refl
text_alike (boolean b) = refl
text_alike (number n) = refl
text_alike (string s) = refl
text_alike (array ds) = refl
text_alike (object ms) = refl

pub texts_alike : (o : Option Data) → option_and_then as_str (option_map flat o) ≡ option_and_then as_str o
texts_alike None = refl
texts_alike (Some d) = text_alike d

key_alike : (d : Data) → said_by (short_text 1024) (flat d) ≡ said_by (short_text 1024) d
key_alike null = refl
key_alike (boolean b) = refl
key_alike (number n) = refl
key_alike (string s) = refl
key_alike (array ds) = refl
key_alike (object ms) = refl

keys_alike : (o : Option Data) → said_at (short_text 1024) (option_map flat o) ≡ said_at (short_text 1024) o
keys_alike None = refl
keys_alike (Some d) = key_alike d

value_alike : (d : Data) → said_by value_of (flat d) ≡ said_by value_of d
value_alike null = refl
value_alike (boolean b) = refl
value_alike (number n) = refl
value_alike (string s) = refl
value_alike (array ds) = refl
value_alike (object ms) = refl

pairs_alike : (ms : Members) → pairs_in (flat_members ms) ≡ pairs_in ms
pairs_alike no_members = refl
pairs_alike (member k d ms) = ap₂ (with_property k) (value_alike d) (pairs_alike ms)

property_alike : (d : Data) → said_by properties_of (shallow d) ≡ said_by properties_of d
property_alike null = refl
property_alike (boolean b) = refl
property_alike (number n) = refl
property_alike (string s) = refl
property_alike (array ds) = refl
property_alike (object ms) = rw (pairs_alike ms) refl

properties_alike : (o : Option Data) → said_at properties_of (option_map shallow o) ≡ said_at properties_of o
properties_alike None = refl
properties_alike (Some d) = property_alike d

content_alike : (d : Data) → content_seen (fields_in d) ≡ content_in d
content_alike d =
    let payload = ap payload_from (texts_alike (get (codes "payload") d)) in
    let key = ap optional (keys_alike (get (codes "key") d)) in
    let properties = ap (said_or []) (properties_alike (get (codes "properties") d)) in
    ap₂ (λ p k. content_from p k (said_or [] (said_at properties_of (option_map shallow (get (codes "properties") d))))) payload key
    ∙ ap (content_from (payload_in d) (key_in d)) properties

-- what is seen says what the object says
pub reading_alike : (d : Data) → reading_seen (fields_in d) ≡ reading_of (Some d)
reading_alike d = ap₂ reading_with (ap optional (words_alike (get (codes "context") d))) (content_alike d)

abbrev pub reading_from : Option Fields → Reading
reading_from None = record { context = None; content = Err BadJson }
reading_from (Some f) = reading_seen f

-- and so of a text
pub text_seen : (o : Option Data) → reading_from (option_map fields_in o) ≡ reading_of o
text_seen None = refl
text_seen (Some d) = reading_alike d
