-- What is seen of the members of a consumer's command says what the whole object says.
use Rattle.std.proofs.Common.{◌≡◌, ℕ, List, Option, Some, None, Err, Result, Bool, true, false, option_map, option_and_then, bytes_eq, refl, sym, ap, ap₂, subst, ◌∙◌}
use Rattle.std.specs.Prelude.{codes, ok_or}
use Rattle.std.proofs.lemmas.Slice.Eq.{bytes_eq-Decides}
use Rattle.serde_json.specs.Data.{Data, null, boolean, number, string, array, object, Members, no_members, put}
use Rattle.serde_json.specs.Find.{as_number, as_str, as_u64, get, get_member}
use Rattle.serde_json.proofs.Views.{get_member-put, get_member-put_other}
use Rattle.position_core.specs.declared.position.Position.{Position}
use Rattle.position_core.specs.declared.fault.Fault.{Fault}
use Rattle.position_core.specs.declared.fault.Fault.TheVariants.{BadJson}
use Rattle.json_values.specs.Fields.{Said, absent, other_form, says, ok_as, said_at, said_by}
use Rattle.json_values.specs.Objects.{between}
use Rattle.json_glances.specs.Glances.{flat}
use Rattle.wire_json.specs.declared.commands.Command.{Command}
use Rattle.wire_json.specs.declared.commands.Command.TheVariants.{Acknowledge}
use Rattle.wire_json.specs.CommandFields as seen
use Rattle.wire_json.specs.CommandFields.{Fields, fields_in, with_member, message_from, permits_from, command_seen}
use Rattle.wire_json.specs.Commands.{command_from, command_in, command_named, id_from, message_in, permits_in}
use Rattle.wire_json.proofs.SeenPublishes.{differ, text_alike, texts_alike}

abbrev made : Option Data → Option Data → Option Data → Fields
made type message_id permit_messages = record {
  type = option_map flat type;
  message_id = option_map flat message_id;
  permit_messages = option_map flat permit_messages;
}

all_alike : (t u m n p q : Option Data) → t ≡ u → m ≡ n → p ≡ q → made t m p ≡ made u n q
all_alike t u m n p q e f g = cc

abbrev Puts : List ℕ → Data → Members → Type 0
Puts name d ms = with_member name d (fields_in (object ms)) ≡ fields_in (object (put name d ms))

module _ (d : Data) (ms : Members) where
  stays : (q k : List ℕ) → (q ≡ k → ⊥) → get_member q ms ≡ get_member q (put k d ms)
  stays q k other = sym (get_member-put_other q k d ms other)

  put_message : Puts (codes "messageId") d ms
  put_message =
      all_alike _ _ (Some d) _ _ _
      (stays (codes "type") (codes "messageId") (differ (codes "type") (codes "messageId") refl))
      (sym (get_member-put (codes "messageId") d ms))
      (stays (codes "permitMessages") (codes "messageId") (differ (codes "permitMessages") (codes "messageId") refl))

  put_type : Puts (codes "type") d ms
  put_type =
      all_alike (Some d) _ _ _ _ _
      (sym (get_member-put (codes "type") d ms))
      (stays (codes "messageId") (codes "type") (differ (codes "messageId") (codes "type") refl))
      (stays (codes "permitMessages") (codes "type") (differ (codes "permitMessages") (codes "type") refl))

  put_permit : Puts (codes "permitMessages") d ms
  put_permit =
      all_alike _ _ _ _ (Some d) _
      (stays (codes "type") (codes "permitMessages") (differ (codes "type") (codes "permitMessages") refl))
      (stays (codes "messageId") (codes "permitMessages") (differ (codes "messageId") (codes "permitMessages") refl))
      (sym (get_member-put (codes "permitMessages") d ms))

  module _ (k : List ℕ) where
    untouched : (f : Fields) → bytes_eq k (codes "messageId") ≡ false → bytes_eq k (codes "type") ≡ false → bytes_eq k (codes "permitMessages") ≡ false → with_member k d f ≡ f
    untouched f e1 e2 e3 = rw (e1, e2, e3) refl

    named : (name : List ℕ) → bytes_eq k name ≡ true → Puts name d ms → Puts k d ms
    named name e puts = subst (λ n. Puts n d ms) (sym ((bytes_eq-Decides k name).0 e)) puts

    by_name : (b1 b2 b3 : Bool) → bytes_eq k (codes "messageId") ≡ b1 → bytes_eq k (codes "type") ≡ b2 → bytes_eq k (codes "permitMessages") ≡ b3 → Puts k d ms
    by_name true b2 b3 e1 e2 e3 = named (codes "messageId") e1 put_message
    by_name false true b3 e1 e2 e3 = named (codes "type") e2 put_type
    by_name false false true e1 e2 e3 = named (codes "permitMessages") e3 put_permit
    by_name false false false e1 e2 e3 =
        untouched (fields_in (object ms)) e1 e2 e3
        ∙ all_alike _ _ _ _ _ _
        (stays (codes "type") k (λ is. differ k (codes "type") e2 (sym is)))
        (stays (codes "messageId") k (λ is. differ k (codes "messageId") e1 (sym is)))
        (stays (codes "permitMessages") k (λ is. differ k (codes "permitMessages") e3 (sym is)))

-- a further member of the object is a further one that is seen
pub member_seen : (k : List ℕ) (d : Data) (ms : Members) → with_member k d (fields_in (object ms)) ≡ fields_in (object (put k d ms))
member_seen k d ms = by_name d ms k (bytes_eq k (codes "messageId")) (bytes_eq k (codes "type")) (bytes_eq k (codes "permitMessages")) refl refl refl

-- ---- what is read of what is seen

number_alike : (d : Data) → as_number (flat d) ≡ as_number d
number_alike null = refl
number_alike (boolean b) = refl
number_alike (number n) = refl
number_alike (string s) = refl
number_alike (array ds) = refl
number_alike (object ms) = refl

numbers_alike : (o : Option Data) → option_and_then as_number (option_map flat o) ≡ option_and_then as_number o
numbers_alike None = refl
numbers_alike (Some d) = number_alike d

name_alike : (d : Data) → said_by as_str (flat d) ≡ said_by as_str d
name_alike null = refl
name_alike (boolean b) = refl
name_alike (number n) = refl
name_alike (string s) = refl
name_alike (array ds) = refl
name_alike (object ms) = refl

names_alike : (o : Option Data) → said_at as_str (option_map flat o) ≡ said_at as_str o
names_alike None = refl
names_alike (Some d) = name_alike d

messages_alike : (d : Data) → message_from (fields_in d) ≡ message_in d
messages_alike d = ap id_from (texts_alike (get (codes "messageId") d))

permits_alike : (d : Data) → permits_from (fields_in d) ≡ permits_in d
permits_alike d = ap (λ n. ok_or (option_and_then (between 1 2147483647) (option_and_then as_u64 n)) BadJson) (numbers_alike (get (codes "permitMessages") d))

named_alike : (type : List ℕ) (d : Data) → seen.named type (fields_in d) ≡ command_named type d
named_alike type d = rw (messages_alike d, permits_alike d) refl

said_alike : (said : Said (List ℕ)) (d : Data) → seen.command_from said (fields_in d) ≡ command_from said d
said_alike absent d = ap (ok_as Acknowledge) (messages_alike d)
said_alike other_form d = refl
said_alike (says type) d = named_alike type d

command_alike : (d : Data) → command_seen (fields_in d) ≡ command_in (Some d)
command_alike d = ap (λ said. seen.command_from said (fields_in d)) (names_alike (get (codes "type") d)) ∙ said_alike (said_at as_str (get (codes "type") d)) d

abbrev pub command_from_seen : Option Fields → Result Command Fault
command_from_seen None = Err BadJson
command_from_seen (Some f) = command_seen f

-- and so of a text
pub text_seen : (o : Option Data) → command_from_seen (option_map fields_in o) ≡ command_in o
text_seen None = refl
text_seen (Some d) = command_alike d
