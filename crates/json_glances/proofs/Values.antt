-- What is seen of a value whose items or members are passed over.
use Rattle.std.proofs.Common.{◌≡◌, ℕ, zero, suc, ◌-◌, ◌<◌, List, ◌∷◌, length, Option, Some, None, option_map, option_and_then, Ordering, Less, Equal, Greater, nat_cmp, refl, sym, ap, subst, arith, ◌∙◌}
use Rattle.std.specs.Prelude.{⊤}
use Rattle.std.specs.Cmp.Lexicographic.{slice_cmp}
use Rattle.std.specs.Ordering.{match_ordering}
use Rattle.json.specs.Token.{Token}
use Rattle.json.specs.Json as json
use Rattle.json.specs.Json.{parse_map, items, value}
use Rattle.json.specs.Reads.{token_of}
use Rattle.json.specs.declared.token.Token.{Token as Read}
use Rattle.json.specs.declared.token.Token.TheVariants.{BeginObject, EndObject, BeginArray, EndArray, Key, String, Number, Bool, Null, Bad}
use Rattle.json.proofs.Grammar.{value_is, value-begin_array}
use Rattle.serde_json.specs.Data.{Num, Data, number, array, object, Items, no_items, Members, no_members, member, put}
use Rattle.serde_json.specs.Read.{number_of, of_json, of_items, of_members, converted}
use Rattle.json_glances.specs.Glances.{flat, flat_members, flat_put, shallow, read_as, taking_all, passing, passed}
use Rattle.json_glances.proofs.Turns.{members_taken}

list_seen : (s r : List Token) (x : Option Items) → option_map (λ p. p.1) (option_map {U = Items × List Token} (λ b. (b, s)) x) ≡ Some r
    → option_map {U = Data × List Token} (λ b. (b, s)) (option_map flat (option_map array x)) ≡ Some (array no_items, r)
list_seen s r None e = absurd (cc)
list_seen s r (Some ds) e = ap (option_map {U = Data × List Token} (λ q. (array no_items, q))) e

pub list_passed : (o : Option (json.Items × List Token)) (r : List Token) → passed of_items o ≡ Some r → converted (read_as flat) (parse_map json.array o) ≡ Some (array no_items, r)
list_passed None r e = absurd (cc)
list_passed (Some q) r e = list_seen q.1 r (of_items q.0) e

list_unread : (s : List Token) (x : Option Items) → option_map (λ p. p.1) (option_map {U = Items × List Token} (λ b. (b, s)) x) ≡ None → option_map {U = Data × List Token} (λ b. (b, s)) (option_map array x) ≡ None
list_unread s None e = refl
list_unread s (Some ds) e = absurd (cc)

pub list_refused : (o : Option (json.Items × List Token)) → passed of_items o ≡ None → converted of_json (parse_map json.array o) ≡ None
list_refused None e = refl
list_refused (Some q) e = list_unread q.1 (of_items q.0) e

-- ---- objects

module _ {A : Type 0} (f : Members → A) where
  object_seen : (g : Data → A) → ((ms : Members) → g (object ms) ≡ f ms) → (s r : List Token) (x : Option Members) (a : A)
      → parse_map f (option_map {U = Members × List Token} (λ b. (b, s)) x) ≡ Some (a, r) → option_map {U = A × List Token} (λ b. (b, s)) (option_map g (option_map object x)) ≡ Some (a, r)
  object_seen g alike s r None a e = absurd (cc)
  object_seen g alike s r (Some ms) a e = ap (λ b. Some (b, s)) (alike ms) ∙ e

  -- what is made of an object is what is made of its members
  pub object_under : (g : Data → A) → ((ms : Members) → g (object ms) ≡ f ms) → (o : Option (json.Members × List Token)) (a : A) (r : List Token)
      → parse_map f (converted (λ ms. of_members ms no_members) o) ≡ Some (a, r) → converted (read_as g) (parse_map json.object o) ≡ Some (a, r)
  object_under g alike None a r e = absurd (cc)
  object_under g alike (Some q) a r e = object_seen g alike q.1 r (of_members q.0 no_members) a e

  object_unread : (s : List Token) (x : Option Members) → parse_map f (option_map {U = Members × List Token} (λ b. (b, s)) x) ≡ None → option_map {U = Data × List Token} (λ b. (b, s)) (option_map object x) ≡ None
  object_unread s None e = refl
  object_unread s (Some ms) e = absurd (cc)

  pub object_refused : (o : Option (json.Members × List Token)) → parse_map f (converted (λ ms. of_members ms no_members) o) ≡ None → converted of_json (parse_map json.object o) ≡ None
  object_refused None e = refl
  object_refused (Some q) e = object_unread q.1 (of_members q.0 no_members) e

abbrev pub nothing : Members → ⊤
nothing ms = tt

abbrev other : Members → Data
other ms = array no_items

instead : (x : Option (Members × List Token)) → option_map (λ q. (array no_items, q.1)) (parse_map nothing x) ≡ parse_map other x
instead None = refl
instead (Some q) = refl

pub object_passed : (o : Option (json.Members × List Token)) (r : List Token) → converted (λ ms. taking_all passing ms tt) o ≡ Some (tt, r) → converted (read_as flat) (parse_map json.object o) ≡ Some (array no_items, r)
object_passed o r e =
    let is = sym (members_taken passing nothing (λ k d ms. refl) o) ∙ e in
    let seen : parse_map other (converted (λ ms. of_members ms no_members) o) ≡ Some (array no_items, r) =
    sym (instead (converted (λ ms. of_members ms no_members) o)) ∙ ap (option_map {U = Data × List Token} (λ q. (array no_items, q.1))) is in
    object_under other flat (λ ms. refl) o (array no_items) r seen

pub object_not_passed : (o : Option (json.Members × List Token)) → converted (λ ms. taking_all passing ms tt) o ≡ None → converted of_json (parse_map json.object o) ≡ None
object_not_passed o e = object_refused nothing o (sym (members_taken passing nothing (λ k d ms. refl) o) ∙ e)

flat_apart : (o : Ordering) (a b c : Members) → match_ordering o (flat_members a) (flat_members b) (flat_members c) ≡ flat_members (match_ordering o a b c)
flat_apart Less a b c = refl
flat_apart Equal a b c = refl
flat_apart Greater a b c = refl

pub flat_members-put : (k : List ℕ) (d : Data) (ms : Members) → flat_put k d (flat_members ms) ≡ flat_members (put k d ms)
flat_members-put k d no_members = refl
flat_members-put k d (member l e ms) =
    ap (λ later. match_ordering (slice_cmp nat_cmp k l) (member k (flat d) (member l (flat e) (flat_members ms))) (member l (flat d) (flat_members ms)) (member l (flat e) later)) (flat_members-put k d ms)
    ∙ flat_apart (slice_cmp nat_cmp k l) (member k d (member l e ms)) (member l d ms) (member l e (put k d ms))

as_object : (x : Option (Members × List Token)) → parse_map (λ m. object (flat_members m)) x ≡ option_map {U = Data × List Token} (λ q. (object q.0, q.1)) (parse_map flat_members x)
as_object None = refl
as_object (Some q) = refl

-- an object whose members were kept at a glance
pub object_kept : (o : Option (json.Members × List Token)) (ms : Members) (r : List Token) → converted (λ js. taking_all flat_put js no_members) o ≡ Some (ms, r)
    → converted (read_as shallow) (parse_map json.object o) ≡ Some (object ms, r)
object_kept o ms r e =
    let is = sym (members_taken flat_put flat_members flat_members-put o) ∙ e in
    object_under (λ m. object (flat_members m)) shallow (λ m. refl) o (object ms) r (as_object (converted (λ js. of_members js no_members) o) ∙ ap (option_map {U = Data × List Token} (λ q. (object q.0, q.1))) is)

pub object_not_kept : (o : Option (json.Members × List Token)) → converted (λ ms. taking_all flat_put ms no_members) o ≡ None → converted of_json (parse_map json.object o) ≡ None
object_not_kept o e = object_refused flat_members o (sym (members_taken flat_put flat_members flat_members-put o) ∙ e)

-- ---- what begins no object is seen as at a glance

same_list : (s : List Token) (x : Option Items) → option_map {U = Data × List Token} (λ b. (b, s)) (option_map shallow (option_map array x)) ≡ option_map {U = Data × List Token} (λ b. (b, s)) (option_map flat (option_map array x))
same_list s None = refl
same_list s (Some ds) = refl

list_alike : (o : Option (json.Items × List Token)) → converted (read_as shallow) (parse_map json.array o) ≡ converted (read_as flat) (parse_map json.array o)
list_alike None = refl
list_alike (Some q) = same_list q.1 (of_items q.0)

same_number : (s : List Token) (x : Option Num) → option_map {U = Data × List Token} (λ b. (b, s)) (option_map shallow (option_map number x)) ≡ option_map {U = Data × List Token} (λ b. (b, s)) (option_map flat (option_map number x))
same_number s None = refl
same_number s (Some n) = refl

abbrev alike_at : Option (json.Json × List Token) → Type 0
alike_at o = converted (read_as shallow) o ≡ converted (read_as flat) o

from_value : (o x : Option (json.Json × List Token)) → o ≡ x → alike_at x → alike_at o
from_value o x is alike = subst alike_at (sym is) alike

pub seen_from : (depth : ℕ) (t : Token) (r : List Token) → (t ≡ Token.begin_object → ⊥) → converted (read_as shallow) (value depth (t ∷ r)) ≡ converted (read_as flat) (value depth (t ∷ r))
seen_from depth Token.begin_object r other = absurd (other refl)
seen_from depth Token.end_object r other = from_value _ _ (value_is depth (Token.end_object ∷ r)) refl
seen_from zero Token.begin_array r other = from_value _ _ (value_is 0 (Token.begin_array ∷ r)) refl
seen_from (suc d) Token.begin_array r other = from_value _ _ (value-begin_array (suc d) r (omega arith)) (list_alike (items (value (suc d - 1)) (length r) r))
seen_from depth Token.end_array r other = from_value _ _ (value_is depth (Token.end_array ∷ r)) refl
seen_from depth (Token.key s) r other = from_value _ _ (value_is depth (Token.key s ∷ r)) refl
seen_from depth (Token.string s) r other = from_value _ _ (value_is depth (Token.string s ∷ r)) refl
seen_from depth (Token.number s) r other = from_value _ _ (value_is depth (Token.number s ∷ r)) (same_number r (number_of s))
seen_from depth (Token.boolean b) r other = from_value _ _ (value_is depth (Token.boolean b ∷ r)) refl
seen_from depth Token.null r other = from_value _ _ (value_is depth (Token.null ∷ r)) refl
seen_from depth Token.bad r other = from_value _ _ (value_is depth (Token.bad ∷ r)) refl

pub no_bracket : (t : Read) → (t ≡ BeginObject → ⊥) → token_of t ≡ Token.begin_object → ⊥
no_bracket BeginObject other is = other refl
no_bracket EndObject other is = cc
no_bracket BeginArray other is = cc
no_bracket EndArray other is = cc
no_bracket (Key s) other is = cc
no_bracket (String s) other is = cc
no_bracket (Number s) other is = cc
no_bracket (Bool b) other is = cc
no_bracket Null other is = cc
no_bracket Bad other is = cc
