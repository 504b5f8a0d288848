-- How a topic is found among the open ones, is listed, and leaves.
use Rattle.std.proofs.Common.{◌≡◌, ℕ, zero, suc, Bool, true, false, true≢false, List, [], ◌∷◌, ◌++◌, Option, None, Some, ap, sym, subst, ◌∙◌, cond, if◌then◌else◌, refl, Result, Ok, Err, is_ok, OnOk, arith, map, take, drop, slice_get}
use Rattle.std.proofs.lemmas.List.{map-append}
use Rattle.std.proofs.lemmas.List.Elements.{All-append, All-drop, All-take}
use Rattle.std.proofs.lemmas.Slice.Eq.{bytes_eq-Decides}
use denote.Ref.{Bor}
use Rattle.std.specs.Prelude.{String, All, IfSome, OnErr, option_copied}
use Rattle.std.specs.String.{string_bytes, string_eq}
use Rattle.std.specs.Str.{bytes_eq}
use Rattle.std.specs.List.{remove}
use Rattle.std.specs.Map.{lookup, remove_entry}
use Rattle.indexmap.specs.IndexMap.{insert_entry, set_value_at}
use Rattle.position_core.specs.declared.topic_name.TopicName.{TopicName}
use Rattle.position_core.specs.TopicName.{topic_text}
use Rattle.broker_dir.specs.Listing.{AreNamed, names_of}

-- the open topic that is found under a text bears it
pub named : {A X : Type 0} (name : X → TopicName) (es : List (String A × X)) (text : List ℕ) → AreNamed name es
    → IfSome (lookup (λ k. bytes_eq text (string_bytes k)) es) (λ topic. topic_text (name topic) ≡ text)
named name [] text all = tt
named name (e ∷ es) text all = by (bytes_eq text (string_bytes e.0)) refl (named name es text (λ n d less. all (suc n) d (omega (arith, less))))
  where
    by : (b : Bool) → bytes_eq text (string_bytes e.0) ≡ b → IfSome (lookup (λ k. bytes_eq text (string_bytes k)) es) (λ topic. topic_text (name topic) ≡ text)
        → IfSome (cond b (Some e.1) (lookup (λ k. bytes_eq text (string_bytes k)) es)) (λ topic. topic_text (name topic) ≡ text)
    by true is rest = sym (all zero e (omega arith)) ∙ sym ((bytes_eq-Decides text (string_bytes e.0)).0 is)
    by false is rest = rest

-- what is not there yet is listed behind all others
pub behind : {A X : Type 0} (es : List (String A × X)) (name : String A) (topic : X) → lookup (λ k. bytes_eq (string_bytes name) (string_bytes k)) es ≡ None
    → insert_entry string_eq es name topic ≡ es ++ (name, topic) ∷ []
behind [] name topic none = refl
behind (e ∷ es) name topic none = by (string_eq name e.0) none (behind es name topic)
  where
    by : (b : Bool) → cond b (Some e.1) (lookup (λ k. bytes_eq (string_bytes name) (string_bytes k)) es) ≡ None
        → (lookup (λ k. bytes_eq (string_bytes name) (string_bytes k)) es ≡ None → insert_entry string_eq es name topic ≡ es ++ (name, topic) ∷ [])
        → (if b then (e.0, topic) ∷ es else e ∷ insert_entry string_eq es name topic) ≡ e ∷ (es ++ (name, topic) ∷ [])
    by true is rest = absurd (cc is)
    by false is rest = ap (λ l. e ∷ l) (rest is)

-- a topic that is listed under its name
pub all_named : {A X : Type 0} (name_of : X → TopicName) (es : List (String A × X)) (name : String A) (topic : X) → AreNamed name_of es → string_bytes name ≡ topic_text (name_of topic)
    → AreNamed name_of (es ++ (name, topic) ∷ [])
all_named name_of es name topic all is = All-append (λ (t : String _ × _). string_bytes t.0 ≡ topic_text (name_of t.1)) es ((name, topic) ∷ []) all one
  where
    one : All (λ (t : String _ × _). string_bytes t.0 ≡ topic_text (name_of t.1)) ((name, topic) ∷ [])
    one zero d less = is
    one (suc n) d less = absurd (omega (arith, less))

pub names-behind : {A X : Type 0} (es : List (String A × X)) (name : String A) (topic : X) → names_of (es ++ (name, topic) ∷ []) ≡ names_of es ++ string_bytes name ∷ []
names-behind es name topic = map-append (λ (t : String _ × _). string_bytes t.0) es ((name, topic) ∷ [])

pub copied : {X : Type 0} (P : X → Type 0) (r : Option (Bor X)) (o : Option X) → option_copied r ≡ o → IfSome o P → IfSome r (λ x. P x.now)
copied P None o is has = tt
copied P (Some x) o is has = subst (λ y. IfSome y P) (sym is) has

-- whether the topic was listed or there was no memory, each is open under its own name
pub stays_named : {A X V E : Type 0} (name_of : X → TopicName) (r : Result V E) (es now : List (String A × X)) (name : String A) (topic : X) → AreNamed name_of es
    → string_bytes name ≡ topic_text (name_of topic) → lookup (λ k. bytes_eq (string_bytes name) (string_bytes k)) es ≡ None
    → OnOk r (now ≡ insert_entry string_eq es name topic) → OnErr r (now ≡ es) → AreNamed name_of now
stays_named name_of (Ok value) es now name topic all is none ok err =
    subst (AreNamed name_of) (sym (ok ∙ behind es name topic none)) (all_named name_of es name topic all is)
stays_named name_of (Err fault) es now name topic all is none ok err = subst (AreNamed name_of) (sym err) all

pub added : {A X V E : Type 0} (r : Result V E) (is_added : Bool) (es now : List (String A × X)) (name : String A) (topic : X) → is_added ≡ is_ok r
    → lookup (λ k. bytes_eq (string_bytes name) (string_bytes k)) es ≡ None → OnOk r (now ≡ insert_entry string_eq es name topic) → is_added ≡ true → now ≡ es ++ (name, topic) ∷ []
added (Ok value) is_added es now name topic is none entries done = entries ∙ behind es name topic none
added (Err fault) is_added es now name topic is none entries done = absurd (true≢false (sym done ∙ is))

-- ---- a topic that leaves

-- the others are open under their own names still
pub removed : {A X : Type 0} (name_of : X → TopicName) (es : List (String A × X)) (place : ℕ) → AreNamed name_of es → AreNamed name_of (remove es place)
removed name_of es place all =
    let named = λ (t : String _ × _). string_bytes t.0 ≡ topic_text (name_of t.1) in
    All-append named (take place es) (drop (suc place) es) (All-take named place es all) (All-drop named (suc place) es all)

pub taken_out : {A X : Type 0} (name_of : X → TopicName) (test : String A → Bool) (es : List (String A × X)) → AreNamed name_of es → AreNamed name_of (remove_entry test es)
taken_out name_of test [] all = all
taken_out {A} {X} name_of test (e ∷ es) all = by (test e.0) rest (taken_out name_of test es rest)
  where
    rest : AreNamed name_of es
    rest = λ n d less. all (suc n) d (omega (arith, less))

    with_first : AreNamed name_of (remove_entry test es) → AreNamed name_of (e ∷ remove_entry test es)
    with_first after zero d less = all zero d (omega arith)
    with_first after (suc n) d less = after n d (omega (arith, less))

    by : (b : Bool) → AreNamed name_of es → AreNamed name_of (remove_entry test es) → AreNamed name_of (cond b es (e ∷ remove_entry test es))
    by true others after = others
    by false others after = with_first after

names_taken : {A X : Type 0} (es : List (String A × X)) (place : ℕ) → names_of (take place es) ≡ take place (names_of es)
names_taken es zero = refl
names_taken [] (suc n) = refl
names_taken (e ∷ es) (suc n) = ap (λ names. string_bytes e.0 ∷ names) (names_taken es n)

names_dropped : {A X : Type 0} (es : List (String A × X)) (place : ℕ) → names_of (drop place es) ≡ drop place (names_of es)
names_dropped es zero = refl
names_dropped [] (suc n) = refl
names_dropped (e ∷ es) (suc n) = names_dropped es n

pub names-removed : {A X : Type 0} (es : List (String A × X)) (place : ℕ) → names_of (remove es place) ≡ remove (names_of es) place
names-removed es place =
    map-append (λ (t : String _ × _). string_bytes t.0) (take place es) (drop (suc place) es)
    ∙ ap (λ names. names ++ names_of (drop (suc place) es)) (names_taken es place) ∙ ap (λ names. take place (names_of es) ++ names) (names_dropped es (suc place))

-- a value that is written where it stands already
pub same_there : {K V : Type 0} (es : List (K × V)) (place : ℕ) (v : V) → Some v ≡ slice_get (map (λ e. e.1) es) place → set_value_at es place v ≡ es
same_there [] place v is = refl
same_there (e ∷ es) zero v is = let same : v ≡ e.1 = cc in ap (λ w. (e.0, w) ∷ es) same
same_there (e ∷ es) (suc n) v is = ap (λ rest. e ∷ rest) (same_there es n v is)
