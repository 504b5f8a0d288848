-- Couriers' names: no two subscriptions have one, and each begins with `dlq/`.
use Rattle.std.proofs.Common.{◌≡◌, ℕ, List, ◌∷◌, ◌++◌, Bool, true, false, refl, ap, ◌∙◌, sym, append_assoc, IsTrue, true≢false, arith}
use Rattle.std.specs.Prelude.{◌&&◌, pos, codes, nat_eq}
use Rattle.std.specs.List.{starts_with}
use Rattle.std.specs.Str.{bytes_eq}
use Rattle.position_core.specs.declared.topic_name.TopicName.{TopicName}
use Rattle.position_core.specs.Name.{is_name}
use Rattle.position_core.specs.TopicName.{scheme}
use Rattle.value_texts.proofs.TopicNames.{one_topic}
use Rattle.delivery_machine.proofs.Behind.{same_name}
use Rattle.delivery_machine.proofs.Deciding.{and_first, and_second}
use Rattle.delivery_machine.specs.declared.event.Event.TheVariants.{Publish}
use Rattle.dead_letters.specs.Moving.{courier_name, at_target}
use Rattle.dead_letters.specs.Couriers.{is_topic, CouriersDiffer, CouriersAreApart, CopiesBearOrdinals}
use Rattle.dead_letters.proofs.Sequences.{unbounded}

-- with the subscription's name in the place of the topic's, one text is made of all four
abbrev beside : TopicName → List ℕ → TopicName
beside source subscription = record { tenant = source.tenant; namespace = source.namespace; topic = source.topic ++ 47 ∷ subscription }

-- and one of the last two
abbrev within : TopicName → List ℕ → TopicName
within source subscription = record { tenant = codes "a"; namespace = source.topic; topic = subscription }

in_parts : (source : TopicName) (subscription : List ℕ) → courier_name source subscription ≡ codes "dlq/" ++ (source.tenant ++ 47 ∷ (source.namespace ++ 47 ∷ (source.topic ++ 47 ∷ subscription)))
in_parts source subscription = simp append_assoc refl

after_first : (xs ys : List ℕ) → codes "dlq/" ++ xs ≡ codes "dlq/" ++ ys → xs ≡ ys
after_first xs ys e = cc e

topic_is : (s t : TopicName) → s.tenant ≡ t.tenant → s.namespace ≡ t.namespace → s.topic ≡ t.topic → s ≡ t
topic_is s t a b c = ap (λ (x : List ℕ). record { tenant = x; namespace = s.namespace; topic = s.topic }) a
    ∙ ap (λ (x : List ℕ). record { tenant = t.tenant; namespace = x; topic = s.topic }) b
    ∙ ap (λ (x : List ℕ). record { tenant = t.tenant; namespace = t.namespace; topic = x }) c

pub couriers_differ : CouriersDiffer
couriers_differ source other subscription name is is_other e =
    let same = after_first _ _ (sym (in_parts source subscription) ∙ e ∙ in_parts other name) in
    let outer = one_topic (beside source subscription) (beside other name)
    (first_of source is) (second_of source is) (first_of other is_other) (second_of other is_other) (ap (λ (x : List ℕ). scheme ++ x) same) in
    let inner = one_topic (within source subscription) (within other name)
    refl (third_of source is) refl (third_of other is_other) (ap (λ (x : List ℕ). scheme ++ (codes "a" ++ 47 ∷ x)) (ap (λ (t : TopicName). t.topic) outer)) in (
      topic_is source other (ap (λ (t : TopicName). t.tenant) outer) (ap (λ (t : TopicName). t.namespace) outer) (ap (λ (t : TopicName). t.namespace) inner),
      ap (λ (t : TopicName). t.topic) inner,
    )
  where
    first_of : (t : TopicName) → IsTrue (is_topic t) → IsTrue (is_name t.tenant)
    first_of t h = and_first (is_name t.tenant) (is_name t.namespace) (and_first (is_name t.tenant && is_name t.namespace) (is_name t.topic) h)

    second_of : (t : TopicName) → IsTrue (is_topic t) → IsTrue (is_name t.namespace)
    second_of t h = and_second (is_name t.tenant) (is_name t.namespace) (and_first (is_name t.tenant && is_name t.namespace) (is_name t.topic) h)

    third_of : (t : TopicName) → IsTrue (is_topic t) → IsTrue (is_name t.topic)
    third_of t h = and_second (is_name t.tenant && is_name t.namespace) (is_name t.topic) h

begins : (source : TopicName) (subscription : List ℕ) → starts_with nat_eq (courier_name source subscription) (codes "dlq/") ≡ true
begins source subscription = refl

pub couriers_are_apart : CouriersAreApart
couriers_are_apart source subscription name apart = by (bytes_eq name (courier_name source subscription)) refl
  where
    by : (b : Bool) → bytes_eq name (courier_name source subscription) ≡ b → b ≡ false
    by false e = refl
    by true e =
        let same = same_name name (courier_name source subscription) e in
        absurd (true≢false (sym (begins source subscription) ∙ sym (ap (λ (x : List ℕ). starts_with nat_eq x (codes "dlq/")) same) ∙ apart))

pub copies_bear_ordinals : CopiesBearOrdinals
copies_bear_ordinals route letter producer now low =
    ap (λ (k : ℕ). at_target (Publish producer (pos k) letter.message.body now)) (unbounded letter.ordinal (omega arith))
