-- A word stands for at most one value of each kind.
use Rattle.std.proofs.Common.{◌≡◌, ℕ, ◌<◌, ◌^◌, zero, suc, List, [], ◌∷◌, ◌++◌, Option, Some, None, ℤ, codes, refl, sym, ap, ◌∙◌, subst, inl, inr, arith}
use Rattle.std.specs.Prelude.{pos, if◌then◌else◌}
use Rattle.std.specs.Str.{bytes_eq}
use Rattle.std.specs.Fmt.{decimal}
use Rattle.base64.specs.Engines.{standard}
use Rattle.std.specs.Result.{result_ok}
use Rattle.std.proofs.lemmas.Option.{none-some}
use Rattle.base64.specs.GeneralPurpose.{decode_of, decoded_of, encode_of, IsBytes}
use Rattle.base64.proofs.OnLiterals.{base64_on_literals}
use Rattle.base64.proofs.EngineFacts.{decode_of-encode_of}
use Rattle.position_core.specs.declared.topic_name.TopicName.{TopicName}
use Rattle.position_core.specs.declared.position.Position.{Position}
use Rattle.position_core.specs.declared.body.Content.{Content}
use Rattle.position_core.specs.declared.kind.Kind.{Kind}
use Rattle.position_core.specs.declared.kind.Kind.TheVariants.{Exclusive, Failover, Shared, KeyShared}
use Rattle.position_core.specs.declared.flow.Flow.{Flow}
use Rattle.position_core.specs.declared.flow.Flow.TheVariants.{Window, Credit}
use Rattle.position_core.specs.TopicName.{topic_text}
use Rattle.value_texts.specs.Id.{IsIdOf, id_bytes}
use Rattle.value_texts.proofs.Ids.{one_id, text_decodes}
use Rattle.value_texts.proofs.TopicNames.{one_topic}
use Rattle.delivery_machine.specs.declared.event.Initial.{Initial}
use Rattle.delivery_machine.specs.declared.event.Initial.TheVariants.{Earliest, Latest}
use Rattle.delivery_machine.specs.declared.event.Target.{Target}
use Rattle.delivery_machine.specs.declared.event.Target.TheVariants as targets
use Rattle.replay_lines.specs.Numbers.{IsSequence, IsBase, IsMoment, IsBetween}
use Rattle.replay_lines.specs.Names.{IsText, IsNameWord, IsProducerWord, IsKeyWord, IsTopicWord, IsUnsaidTopic, IsDeadTopic}
use Rattle.replay_lines.specs.Payloads.{IsPayload}
use Rattle.replay_lines.specs.Grammar.{IsKind, IsFlow, IsInitial, IsTarget, IsBody, IsDeath}
use Rattle.value_texts.proofs.LastDigits.{one_number, digit_ends}

-- ---- numbers

pub one_moment : (word : List ℕ) (m n : ℕ) → IsMoment word m → IsMoment word n → m ≡ n
one_moment word m n is_m is_n = one_number word m n (omega (arith, is_m)) (omega (arith, is_n)) is_m.1 is_n.1

pub one_between : (least most : ℕ) (word : List ℕ) (m n : ℕ) → most < 2 ^ 64 → IsBetween least most word m → IsBetween least most word n → m ≡ n
one_between least most word m n small is_m is_n = one_number word m n (omega (arith, is_m.1, small)) (omega (arith, is_n.1, small)) is_m.2 is_n.2

pub one_sequence : (word : List ℕ) (y z : ℤ) → IsSequence word y → IsSequence word z → y ≡ z
unfolding IsSequence
one_sequence word y z is_y is_z =
    is_y.3 ∙ ap pos (one_number word is_y.0 is_z.0 (omega (arith, is_y.1)) (omega (arith, is_z.1)) is_y.2 is_z.2) ∙ sym is_z.3

dash_is_none : (word : List ℕ) (n : ℕ) → n < 2 ^ 64 → word ≡ codes "-" → word ≡ decimal n → ⊥
dash_is_none word n small dash is = let ends = digit_ends n [] 45 small (sym dash ∙ is) in omega (arith, ends.0)

pub one_base : (word : List ℕ) (y z : ℤ) → IsBase word y → IsBase word z → y ≡ z
unfolding IsBase
one_base word y z (inl none) (inl other) = none.1 ∙ sym other.1
one_base word y z (inl none) (inr is) = absurd (dash_is_none word is.0 (omega (arith, is.1)) none.0 is.2)
one_base word y z (inr is) (inl none) = absurd (dash_is_none word is.0 (omega (arith, is.1)) none.0 is.2)
one_base word y z (inr is_y) (inr is_z) =
    is_y.3 ∙ ap pos (one_number word is_y.0 is_z.0 (omega (arith, is_y.1)) (omega (arith, is_z.1)) is_y.2 is_z.2) ∙ sym is_z.3

-- ---- names and bodies

pub one_text : (word s t : List ℕ) → IsText word s → IsText word t → s ≡ t
one_text word s t is_s is_t = is_s.1 ∙ sym is_t.1

pub one_name : (word s t : List ℕ) → IsNameWord word s → IsNameWord word t → s ≡ t
one_name word s t is_s is_t = one_text word s t is_s.0 is_t.0

pub one_producer : (word : List ℕ) (s t : Option (List ℕ)) → IsProducerWord word s → IsProducerWord word t → s ≡ t
one_producer word None None is_s is_t = refl
one_producer word None (Some t) is_s is_t = absurd (is_t.0.0 is_s)
one_producer word (Some s) None is_s is_t = absurd (is_s.0.0 is_t)
one_producer word (Some s) (Some t) is_s is_t = ap Some (one_text word s t is_s.0 is_t.0)

pub one_key : (word : List ℕ) (s t : Option (List ℕ)) → IsKeyWord word s → IsKeyWord word t → s ≡ t
one_key word None None is_s is_t = refl
one_key word None (Some t) is_s is_t = absurd (is_t.0.0 is_s)
one_key word (Some s) None is_s is_t = absurd (is_s.0.0 is_t)
one_key word (Some s) (Some t) is_s is_t = ap Some (one_text word s t is_s.0 is_t.0)

same_bytes : (b c : List ℕ) → IsBytes b → IsBytes c → encode_of standard b ≡ encode_of standard c → b ≡ c
same_bytes b c are_b are_c same =
    let both = sym (decode_of-encode_of standard b refl are_b) ∙ ap (decode_of standard) same ∙ decode_of-encode_of standard c refl are_c in
    cc both

pub one_payload : (word b c : List ℕ) → IsPayload word b → IsPayload word c → b ≡ c
unfolding IsPayload
one_payload word b c (inl none) (inl other) = none.1 ∙ sym other.1
one_payload word b c (inl none) (inr is) = absurd (is.0 none.0)
one_payload word b c (inr is) (inl none) = absurd (is.0 none.0)
one_payload word b c (inr is_b) (inr is_c) = same_bytes b c is_b.1 is_c.1 (sym is_b.2 ∙ is_c.2)

body_is : (c : Content) (key : Option (List ℕ)) (properties : List (List ℕ × List ℕ)) (payload : List ℕ) → key ≡ c.key → properties ≡ c.properties → payload ≡ c.payload → record { key = key; properties = properties; payload = payload } ≡ c
body_is c key properties payload keys others payloads = rw (keys, others, payloads) refl

pub one_body : (key payload : List ℕ) (b c : Content) → IsBody key payload b → IsBody key payload c → b ≡ c
one_body key payload b c is_b is_c =
    body_is c b.key b.properties b.payload (one_key key b.key c.key is_b.0 is_c.0) (is_b.1 ∙ sym is_c.1) (one_payload payload b.payload c.payload is_b.2 is_c.2)

-- ---- words of a few values

-- the one value that a word stands for, found by its text
kind_of : List ℕ → Option Kind
kind_of word =
    if bytes_eq word (codes "Exclusive") then Some Exclusive else if bytes_eq word (codes "Failover") then Some Failover else if bytes_eq word (codes "Shared") then Some Shared
    else if bytes_eq word (codes "Key_Shared") then Some KeyShared else None

kind_found : (word : List ℕ) (kind : Kind) → IsKind word kind → kind_of word ≡ Some kind
unfolding kind_of
kind_found word Exclusive is = ap kind_of is
kind_found word Failover is = ap kind_of is
kind_found word Shared is = ap kind_of is
kind_found word KeyShared is = ap kind_of is

pub one_kind : (word : List ℕ) (j k : Kind) → IsKind word j → IsKind word k → j ≡ k
one_kind word j k is_j is_k = let both = sym (kind_found word j is_j) ∙ kind_found word k is_k in cc both

initial_of : List ℕ → Option Initial
initial_of word = if bytes_eq word (codes "Earliest") then Some Earliest else if bytes_eq word (codes "Latest") then Some Latest else None

initial_found : (word : List ℕ) (initial : Initial) → IsInitial word initial → initial_of word ≡ Some initial
unfolding initial_of
initial_found word Earliest is = ap initial_of is
initial_found word Latest is = ap initial_of is

pub one_initial : (word : List ℕ) (j k : Initial) → IsInitial word j → IsInitial word k → j ≡ k
one_initial word j k is_j is_k = let both = sym (initial_found word j is_j) ∙ initial_found word k is_k in cc both

push_is_not_pull : (word number : List ℕ) → word ≡ codes "push:" ++ number → word ≡ codes "pull" → ⊥
push_is_not_pull word number push pull =
    let same : codes "push:" ++ number ≡ codes "pull" = sym push ∙ pull in
    let letters : ◌≡◌ {A = ℕ} 115 108 = cc same in
    omega (arith, letters)

after_push : (a b : List ℕ) → codes "push:" ++ a ≡ codes "push:" ++ b → a ≡ b
after_push a b same = cc same

pub one_flow : (word : List ℕ) (f g : Flow) → IsFlow word f → IsFlow word g → f ≡ g
one_flow word (Window m) (Window n) is_m is_n =
    let same : is_m.0 ≡ is_n.0 = after_push is_m.0 is_n.0 (sym is_m.1 ∙ is_n.1) in
    ap Window (one_between 1 100000 is_n.0 m n (omega arith) (subst (λ (w : List ℕ). IsBetween 1 100000 w m) same is_m.2) is_n.2)
one_flow word (Window m) (Credit left) is_m is_left = absurd (push_is_not_pull word is_m.0 is_m.1 is_left.0)
one_flow word (Credit left) (Window m) is_left is_m = absurd (push_is_not_pull word is_m.0 is_m.1 is_left.0)
one_flow word (Credit left) (Credit right) is_left is_right = ap Credit (is_left.1 ∙ sym is_right.1)

-- ---- targets of a seek

literals_decode : (decoded_of standard (codes "earliest") ≡ Some (121 ∷ 170 ∷ 229 ∷ 137 ∷ 235 ∷ 45 ∷ [])) × (decoded_of standard (codes "latest") ≡ None)
unfolding base64_on_literals
literals_decode = (refl, refl)

id_decodes : (word : List ℕ) (p : Position) → IsIdOf word p → decoded_of standard word ≡ Some (id_bytes p)
unfolding decoded_of
id_decodes word p is = ap (λ (z : List ℕ). decoded_of standard z) is.text_is ∙ ap result_ok (text_decodes p)

earliest_is_no_id : (word : List ℕ) (p : Position) → word ≡ codes "earliest" → IsIdOf word p → ⊥
earliest_is_no_id word p earliest is =
    let both = sym literals_decode.0 ∙ ap (decoded_of standard) (sym earliest) ∙ id_decodes word p is in
    let first : ◌≡◌ {A = ℕ} 121 8 = cc both in
    omega (arith, first)

latest_is_no_id : (word : List ℕ) (p : Position) → word ≡ codes "latest" → IsIdOf word p → ⊥
latest_is_no_id word p latest is =
    none-some (id_bytes p) (sym literals_decode.1 ∙ ap (decoded_of standard) (sym latest) ∙ id_decodes word p is)

earliest_is_not_latest : (word : List ℕ) → word ≡ codes "earliest" → word ≡ codes "latest" → ⊥
earliest_is_not_latest word earliest latest =
    let same : codes "earliest" ≡ codes "latest" = sym earliest ∙ latest in
    let letters : ◌≡◌ {A = ℕ} 101 108 = cc same in
    omega (arith, letters)

pub one_target : (word : List ℕ) (s t : Option Target) → IsTarget word s → IsTarget word t → s ≡ t
one_target word (Some targets.Earliest) (Some targets.Earliest) is_s is_t = refl
one_target word (Some targets.Earliest) (Some targets.Latest) is_s is_t = absurd (earliest_is_not_latest word is_s is_t)
one_target word (Some targets.Earliest) (Some (targets.At q)) is_s is_t = absurd (earliest_is_no_id word q is_s is_t)
one_target word (Some targets.Earliest) None is_s is_t = absurd (is_t.0 is_s)
one_target word (Some targets.Latest) (Some targets.Earliest) is_s is_t = absurd (earliest_is_not_latest word is_t is_s)
one_target word (Some targets.Latest) (Some targets.Latest) is_s is_t = refl
one_target word (Some targets.Latest) (Some (targets.At q)) is_s is_t = absurd (latest_is_no_id word q is_s is_t)
one_target word (Some targets.Latest) None is_s is_t = absurd (is_t.1 is_s)
one_target word (Some (targets.At p)) (Some targets.Earliest) is_s is_t = absurd (earliest_is_no_id word p is_t is_s)
one_target word (Some (targets.At p)) (Some targets.Latest) is_s is_t = absurd (latest_is_no_id word p is_t is_s)
one_target word (Some (targets.At p)) (Some (targets.At q)) is_s is_t = ap (λ (x : Position). Some (targets.At x)) (one_id word p q is_s is_t)
one_target word (Some (targets.At p)) None is_s is_t = absurd (is_t.2 p is_s)
one_target word None (Some targets.Earliest) is_s is_t = absurd (is_s.0 is_t)
one_target word None (Some targets.Latest) is_s is_t = absurd (is_s.1 is_t)
one_target word None (Some (targets.At q)) is_s is_t = absurd (is_s.2 q is_t)
one_target word None None is_s is_t = refl

-- ---- how a message dies

one_unsaid : (this : TopicName) (subscription : List ℕ) (limit : ℕ) (s t : TopicName) → IsUnsaidTopic this subscription limit s → IsUnsaidTopic this subscription limit t → s ≡ t
one_unsaid this subscription zero s t is_s is_t = is_s ∙ sym is_t
one_unsaid this subscription (suc limit) s t is_s is_t = cc (is_s, is_t)

one_topic_word : (word : List ℕ) (s t : TopicName) → IsTopicWord word s → IsTopicWord word t → s ≡ t
one_topic_word word s t is_s is_t = one_topic s t is_s.1.0 is_s.1.1 is_t.1.0 is_t.1.1 (one_text word (topic_text s) (topic_text t) is_s.0 is_t.0)

one_dead_topic : (this : TopicName) (subscription : List ℕ) (limit : ℕ) (word : List ℕ) (s t : TopicName) → IsDeadTopic this subscription limit word s → IsDeadTopic this subscription limit word t → s ≡ t
unfolding IsDeadTopic
one_dead_topic this subscription limit word s t (inl none) (inl other) = one_unsaid this subscription limit s t none.1 other.1
one_dead_topic this subscription limit word s t (inl none) (inr is) = absurd (is.0.0 none.0)
one_dead_topic this subscription limit word s t (inr is) (inl none) = absurd (is.0.0 none.0)
one_dead_topic this subscription limit word s t (inr is_s) (inr is_t) = one_topic_word word s t is_s is_t

pub one_death : (this : TopicName) (subscription limit target : List ℕ) (d e : ℕ × TopicName) → IsDeath this subscription limit target d → IsDeath this subscription limit target e → (d.0 ≡ e.0) × (d.1 ≡ e.1)
one_death this subscription limit target d e is_d is_e =
    let same : d.0 ≡ e.0 = one_between 0 1000000 limit d.0 e.0 (omega arith) is_d.0 is_e.0 in
    (same, one_dead_topic this subscription e.0 target d.1 e.1 (subst (λ (m : ℕ). IsDeadTopic this subscription m target d.1) same is_d.1) is_e.1)
