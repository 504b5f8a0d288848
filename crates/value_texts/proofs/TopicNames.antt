-- How the text of a topic's name splits: a name has no `/`, so there is one way.
use Rattle.std.proofs.Common.{rules, tests, ◌≡◌, ℕ, ◌<◌, Bool, true, false, List, [], ◌∷◌, ◌++◌, length, get_or, Option, Some, None, Bor, IsTrue, IsSomeAnd, MatchOption, IfOk, IfNone, refl, sym, ◌∙◌, ap, lit<, true≢false}
use Rattle.std.specs.Prelude.{◌≢◌, ◌||◌, Result, Ok, Err}
use Rattle.std.specs.declared.alloc.AllocError.{AllocError}
use Rattle.std.specs.List.{list_any}
use Rattle.std.specs.Str.Pattern.{FindsTextPrefix, StripsPrefix}
use Rattle.std.proofs.Math.Seq.{drop-append_seam}
use Rattle.std.proofs.lemmas.List.Folds.{list_any_at}
use Rattle.std.proofs.lemmas.Str.Pattern.{IsSplitOnceResult, split_after}
use Rattle.std.proofs.lemmas.Bool.{false≢true}
use Rattle.position_core.specs.declared.topic_name.TopicName.{TopicName}
use Rattle.position_core.specs.Name.{is_name, is_barred}
use Rattle.position_core.specs.TopicName.{scheme, text_of_parts, topic_text, topic_of}

none_barred : (name : List ℕ) → IsTrue (is_name name) → list_any is_barred name ≡ false
none_barred name h = search (rules, tests)

no_slash : (name : List ℕ) → IsTrue (is_name name) → (i : ℕ) → i < length name → get_or name i 0 ≢ 47
no_slash name h i below e =
    let none = none_barred name h in
    let some = list_any_at is_barred name i 0 below (ap is_barred e) in
    cc

pub splits_after_name : (bs name rest : List ℕ) (r : Option (Bor (List ℕ) × Bor (List ℕ))) → IsSplitOnceResult 47 bs r → IsTrue (is_name name) → bs ≡ name ++ 47 ∷ rest
    → IsSomeAnd r (λ x. (x.0.now ≡ name) × (x.1.now ≡ rest))
splits_after_name bs name rest None h n e = split_after 47 bs name rest None h (lit< tt) e (no_slash name n)
splits_after_name bs name rest (Some x) h n e = split_after 47 bs name rest (Some x) h (lit< tt) e (no_slash name n)

pub strips_text : (prefix bs rest : List ℕ) (r : Option (Bor (List ℕ))) → MatchOption r (FindsTextPrefix prefix bs None) (λ x. StripsPrefix (FindsTextPrefix prefix) bs x.now) → bs ≡ prefix ++ rest
    → IsSomeAnd r (λ x. x.now ≡ rest)
strips_text prefix bs rest None h e = h rest e
strips_text prefix bs rest (Some x) h e = h.2 ∙ rw (h.1.0, e) (drop-append_seam prefix rest)

-- what stands before the first `/` is known, and what stands after it
parts_same : (a b x y : List ℕ) → list_any is_barred a ≡ false → list_any is_barred b ≡ false → a ++ 47 ∷ x ≡ b ++ 47 ∷ y → (a ≡ b) × (x ≡ y)
parts_same [] [] x y none_a none_b e = (refl, cc e)
parts_same [] (c ∷ b) x y none_a none_b e =
    let slash : 47 ≡ c = cc e in
    absurd (false≢true (sym none_b ∙ ap (λ (k : ℕ). is_barred k || list_any is_barred b) (sym slash)))
parts_same (c ∷ a) [] x y none_a none_b e =
    let slash : c ≡ 47 = cc e in
    absurd (false≢true (sym none_a ∙ ap (λ (k : ℕ). is_barred k || list_any is_barred a) slash))
parts_same (c ∷ a) (d ∷ b) x y none_a none_b e =
    let first : c ≡ d = cc e in
    let others : a ++ 47 ∷ x ≡ b ++ 47 ∷ y = cc e in
    let rest = parts_same a b x y (or_second (is_barred c) (list_any is_barred a) none_a) (or_second (is_barred d) (list_any is_barred b) none_b) others in
    (ap (λ (k : ℕ). k ∷ a) first ∙ ap (λ (z : List ℕ). d ∷ z) rest.0, rest.1)
  where
    or_second : (p q : Bool) → (p || q) ≡ false → q ≡ false
    or_second true q e = absurd (true≢false e)
    or_second false q e = e

after_scheme : (x y : List ℕ) → scheme ++ x ≡ scheme ++ y → x ≡ y
after_scheme x y e = cc e

topic_is : (t : TopicName) (tenant namespace topic : List ℕ) → tenant ≡ t.tenant → namespace ≡ t.namespace → topic ≡ t.topic → record { tenant = tenant; namespace = namespace; topic = topic } ≡ t
topic_is t tenant namespace topic tenants namespaces topics = rw (tenants, namespaces, topics) refl

-- a text is that of one topic
pub one_topic : (s t : TopicName) → IsTrue (is_name s.tenant) → IsTrue (is_name s.namespace) → IsTrue (is_name t.tenant) → IsTrue (is_name t.namespace) → topic_text s ≡ topic_text t → s ≡ t
one_topic s t tenant_s namespace_s tenant_t namespace_t e =
    let first = parts_same s.tenant t.tenant _ _ (none_barred s.tenant tenant_s) (none_barred t.tenant tenant_t) (after_scheme _ _ e) in
    let second = parts_same s.namespace t.namespace s.topic t.topic (none_barred s.namespace namespace_s) (none_barred t.namespace namespace_t) first.1 in
    topic_is t s.tenant s.namespace s.topic first.0 second.0 second.1

named_is_some : (t : TopicName) → IsTrue (is_name t.tenant) → IsTrue (is_name t.namespace) → IsTrue (is_name t.topic) → topic_of t.tenant t.namespace t.topic ≡ Some t
named_is_some t a b d = rw (a, b, d) refl

-- three texts that are no names are the parts of no topic's text
pub all_named : (bs tenant namespace topic : List ℕ) (r : Result (Option TopicName) AllocError) → IfOk r (λ found. found ≡ topic_of tenant namespace topic)
    → ((t n p : List ℕ) → IsTrue (is_name t) → IsTrue (is_name n) → bs ≡ text_of_parts t n p → (tenant ≡ t) × (namespace ≡ n) × (topic ≡ p))
    → IfOk r (λ found. IfNone found ((name : TopicName) → IsTrue (is_name name.tenant) → IsTrue (is_name name.namespace) → IsTrue (is_name name.topic) → bs ≡ topic_text name → ⊥))
all_named bs tenant namespace topic (Err e) found parted = search rules
all_named bs tenant namespace topic (Ok (Some name)) found parted = search rules
all_named bs tenant namespace topic (Ok None) found parted =
    λ name t n p e.
    let same = parted name.tenant name.namespace name.topic t n e in
    let some = named_is_some name t n p in
    let none : None ≡ topic_of name.tenant name.namespace name.topic = rw (same.0, same.1, same.2) at found in
    cc (none, some)
