-- The loops of the grammar, a turn at a time, under what is made of the values.
use Rattle.std.proofs.Common.{◌≡◌, ℕ, zero, suc, ◌-◌, ◌<◌, ◌≤◌, List, [], ◌∷◌, length, Option, Some, None, option_map, option_and_then, refl, sym, ap, ◌∙◌}
use Rattle.json.specs.Token.{Token}
use Rattle.json.specs.Json as json
use Rattle.json.specs.Json.{Parse, parse_map, after_end_array, read_key, items_step, members_step, items, members}
use Rattle.json.proofs.Grammar.{items_end, items_more, members_end, members_no_key, members_more}
use Rattle.serde_json.specs.Data.{Data, array, object, Items, no_items, item, Members, no_members, put}
use Rattle.serde_json.specs.Read.{of_json, of_items, of_members, converted}
use Rattle.json_glances.specs.Glances.{read_as, taking_all, passed}

abbrev pick : {A : Type 0} → A → Option A → A
pick d None = d
pick d (Some a) = a

found : {B : Type 0} (r s : List Token) (x : Option B) (b : B) → option_map {U = B × List Token} (λ y. (y, r)) x ≡ Some (b, s) → (r ≡ s) × (x ≡ Some b)
found r s None b e = absurd (cc)
found r s (Some y) b e = let same = ap (pick (y, r)) e in (ap (λ p. p.1) same, ap (λ p. Some p.0) same)

pub converted_some : {A B : Type 0} (f : A → Option B) (o : Option (A × List Token)) (b : B) (r : List Token) → converted f o ≡ Some (b, r) → (a : A) × (o ≡ Some (a, r)) × (f a ≡ Some b)
converted_some f None b r e = absurd (cc)
converted_some f (Some p) b r e = let both = found p.1 r (f p.0) b e in (p.0, ap (λ s. Some (p.0, s)) both.0, both.1)

refused : {B : Type 0} (r : List Token) (x : Option B) → option_map {U = B × List Token} (λ y. (y, r)) x ≡ None → x ≡ None
refused r None e = refl
refused r (Some y) e = absurd (cc)

-- ---- a value under f

mapped : {A B : Type 0} (f : A → B) (x : Option A) (b : B) → option_map f x ≡ Some b → (a : A) × (x ≡ Some a) × (f a ≡ b)
mapped f None b e = absurd (cc)
mapped f (Some a) b e = (a, refl, ap (pick (f a)) e)

-- a value that was read under f is one
pub value_read : {A : Type 0} (f : Data → A) (o : Option (json.Json × List Token)) (x : A) (r : List Token) → converted (read_as f) o ≡ Some (x, r) → (d : Data) × (converted of_json o ≡ Some (d, r)) × (f d ≡ x)
value_read f o x r e =
    let j = converted_some (read_as f) o x r e in
    let d = mapped f (of_json j.0) x j.2 in (
      d.0,
      ap (converted of_json) j.1 ∙ ap (option_map (λ b. (b, r))) d.1,
      d.2,
    )

-- and what was read is so under f
pub read_under : {A : Type 0} (f : Data → A) (o : Option (json.Json × List Token)) (d : Data) (r : List Token) → converted of_json o ≡ Some (d, r) → converted (read_as f) o ≡ Some (f d, r)
read_under f o d r e =
    let j = converted_some of_json o d r e in
    ap (converted (read_as f)) j.1 ∙ ap (λ x. option_map (λ b. (b, r)) (option_map f x)) j.2

pub read_further : {A B : Type 0} (f : Data → A) (g : A → B) (o : Option (json.Json × List Token)) (x : A) (r : List Token) → converted (read_as f) o ≡ Some (x, r) → converted (read_as (λ d. g (f d))) o ≡ Some (g x, r)
read_further f g o x r e =
    let d = value_read f o x r e in
    read_under (λ y. g (f y)) o d.0 r d.1 ∙ ap (λ y. Some (g y, r)) d.2

-- ---- items

without_item : (j : json.Json) → of_json j ≡ None → (o : Option (json.Items × List Token)) → passed of_items (parse_map (json.item j) o) ≡ None
without_item j e None = refl
without_item j e (Some p) = rw e

rest_alone : (d : Data) (r : List Token) (x : Option Items) → option_map (λ p. p.1) (option_map {U = Items × List Token} (λ b. (b, r)) (option_map (item d) x)) ≡ option_map (λ p. p.1) (option_map {U = Items × List Token} (λ b. (b, r)) x)
rest_alone d r None = refl
rest_alone d r (Some ds) = refl

with_item : (j : json.Json) (d : Data) → of_json j ≡ Some d → (o : Option (json.Items × List Token)) → passed of_items (parse_map (json.item j) o) ≡ passed of_items o
with_item j d e None = refl
with_item j d e (Some p) = rw e (rest_alone d p.1 (of_items p.0))

no_item : (more : Parse json.Items) (o : Option (json.Json × List Token)) → converted of_json o ≡ None → passed of_items (option_and_then (λ q. parse_map (json.item q.0) (more q.1)) o) ≡ None
no_item more None e = refl
no_item more (Some q) e = without_item q.0 (refused q.1 (of_json q.0) e) (more q.1)

module _ (p : Parse json.Json) where
  pub item_passed : {A : Type 0} (f : Data → A) (n : ℕ) (ts r : List Token) (x : A) → 0 < n → after_end_array ts ≡ None → converted (read_as f) (p ts) ≡ Some (x, r)
      → passed of_items (items p n ts) ≡ passed of_items (items p (n - 1) r)
  item_passed f n ts r x some going e =
      let d = value_read f (p ts) x r e in
      let j = converted_some of_json (p ts) d.0 r d.1 in
      ap (passed of_items) (items_more p n ts r j.0 some going j.1) ∙ with_item j.0 d.0 j.2 _

  pub item_refused : (n : ℕ) (ts : List Token) → after_end_array ts ≡ None → converted of_json (p ts) ≡ None → passed of_items (items p n ts) ≡ None
  unfolding items
  item_refused zero ts going e = refl
  item_refused (suc n) ts going e = ap (λ o. passed of_items (items_step p (items p n) ts o)) going ∙ no_item (items p n) (p ts) e

  pub items_over : (n : ℕ) (ts r : List Token) → length ts ≤ n → after_end_array ts ≡ Some r → passed of_items (items p n ts) ≡ Some r
  items_over n ts r enough e = ap (passed of_items) (items_end p n ts r enough e)

-- ---- members

module _ {A : Type 0} (take : List ℕ → Data → A → A) where
  abbrev pub taken : A → json.Members → Option A
  taken a ms = taking_all take ms a

  with_member : (k : List ℕ) (j : json.Json) (a b : A) → read_as (λ d. take k d a) j ≡ Some b → (o : Option (json.Members × List Token))
      → converted (taken a) (parse_map (json.member k j) o) ≡ converted (taken b) o
  with_member k j a b e None = refl
  with_member k j a b e (Some q) = let d = mapped (λ x. take k x a) (of_json j) b e in rw (d.1, d.2)

  without_member : (k : List ℕ) (j : json.Json) (a : A) → of_json j ≡ None → (o : Option (json.Members × List Token)) → converted (taken a) (parse_map (json.member k j) o) ≡ None
  without_member k j a e None = refl
  without_member k j a e (Some q) = rw e

  no_member : (k : List ℕ) (a : A) (more : Parse json.Members) (o : Option (json.Json × List Token)) → converted of_json o ≡ None
      → converted (taken a) (option_and_then (λ q. parse_map (json.member k q.0) (more q.1)) o) ≡ None
  no_member k a more None e = refl
  no_member k a more (Some q) e = without_member k q.0 a (refused q.1 (of_json q.0) e) (more q.1)

  module _ (p : Parse json.Json) (a : A) where
    pub member_taken : (n : ℕ) (k : List ℕ) (ts s r : List Token) (b : A) → 0 < n → read_key ts ≡ Some (Some k, s) → converted (read_as (λ d. take k d a)) (p s) ≡ Some (b, r)
        → converted (λ ms. taking_all take ms a) (members p n ts) ≡ converted (λ ms. taking_all take ms b) (members p (n - 1) r)
    member_taken n k ts s r b some key e =
        let j = converted_some (read_as (λ d. take k d a)) (p s) b r e in
        ap (converted (taken a)) (members_more p n k ts s r j.0 some key j.1) ∙ with_member k j.0 a b j.2 _

    pub member_refused : (n : ℕ) (k : List ℕ) (ts s : List Token) → read_key ts ≡ Some (Some k, s) → converted of_json (p s) ≡ None → converted (λ ms. taking_all take ms a) (members p n ts) ≡ None
    unfolding members
    member_refused zero k ts s key e = refl
    member_refused (suc n) k ts s key e = rw key (no_member k a (members p n) (p s) e)

    pub key_refused : (n : ℕ) (ts : List Token) → read_key ts ≡ None → converted (λ ms. taking_all take ms a) (members p n ts) ≡ None
    key_refused n ts e = ap (converted (taken a)) (members_no_key p n ts e)

    pub members_over : (n : ℕ) (ts r : List Token) → length ts ≤ n → read_key ts ≡ Some (None, r) → converted (λ ms. taking_all take ms a) (members p n ts) ≡ Some (a, r)
    members_over n ts r enough e = ap (converted (taken a)) (members_end p n ts r enough e)

  -- what is taken of the members is what is taken of the object
  module _ (f : Members → A) (alike : (k : List ℕ) (d : Data) (ms : Members) → take k d (f ms) ≡ f (put k d ms)) where
    taken_from : (k : List ℕ) (ms : json.Members) (before : Members) (o : Option Data)
        → ((d : Data) → taking_all take ms (f (put k d before)) ≡ option_map f (of_members ms (put k d before)))
        → option_and_then (λ d. taking_all take ms (take k d (f before))) o ≡ option_map f (option_and_then (λ d. of_members ms (put k d before)) o)
    taken_from k ms before None later = refl
    taken_from k ms before (Some d) later = ap (taking_all take ms) (alike k d before) ∙ later d

    pub taken_all : (ms : json.Members) (before : Members) → taking_all take ms (f before) ≡ option_map f (of_members ms before)
    taken_all json.no_members before = refl
    taken_all (json.member k j ms) before = taken_from k ms before (of_json j) (λ d. taken_all ms (put k d before))

    both_mapped : (r : List Token) (x : Option Members) → option_map (λ b. (b, r)) (option_map f x) ≡ parse_map f (option_map (λ b. (b, r)) x)
    both_mapped r None = refl
    both_mapped r (Some ms) = refl

    pub members_taken : (o : Option (json.Members × List Token)) → converted (λ ms. taking_all take ms (f no_members)) o ≡ parse_map f (converted (λ ms. of_members ms no_members) o)
    members_taken None = refl
    members_taken (Some q) = ap (option_map (λ b. (b, q.1))) (taken_all q.0 no_members) ∙ both_mapped q.1 (of_members q.0 no_members)
