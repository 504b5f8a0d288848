-- All subscriptions at once: a message of one of them that dies and is moved.
use Rattle.std.proofs.Common.{◌≡◌, ℕ, List, [], ◌∷◌, map, Some, Bool, true, false, refl, ap, ap₂, ◌∙◌, sym, subst, true≢false}
use Rattle.std.specs.Prelude.{◌&&◌, if◌then◌else◌}
use Rattle.std.specs.Str.{bytes_eq}
use Rattle.std.proofs.Math.Path.{fun_ext}
use Rattle.position_core.specs.declared.topic_name.TopicName.{TopicName}
use Rattle.delivery_machine.specs.State.{State, DeadLetter}
use Rattle.delivery_machine.specs.declared.event.Event.{Event}
use Rattle.delivery_machine.specs.declared.event.Event.TheVariants.{AddProducer, DropProducer, Publish, DeadDone}
use Rattle.delivery_machine.specs.declared.reply.Reply.{Reply}
use Rattle.delivery_machine.proofs.Behind.{same_name, is_same_name}
use Rattle.delivery_machine.proofs.Deciding.{and_first, and_second}
use Rattle.dead_letters.specs.declared.hand.Hand.{Hand}
use Rattle.dead_letters.specs.Worlds.{in_state, new_topic, World, Act, at_source, at_target, view_source, view_target, store_source, store_target, reopen_source, reopen_target, delete_source, delete_target, courier, turned_away, let_go, crash, Happens, AllHappen, opened, idle, leaves_letters, leaves_couriers, done_with}
use Rattle.dead_letters.specs.Together.{TwoTopics, seen_by, route_of, begun, Deed, all_see, courier_of, turned_away_of, let_go_of, Stays, Does, DoesAll, AllMayBeMoved}
use Rattle.dead_letters.proofs.DyingExample.{a, b, name, letter, message}
use Rattle.dead_letters.proofs.Example.{acts_of, all_happen, last_world}

-- a name that is left alone, and no letter is done with
abbrev is_plain : Act → Bool
is_plain (at_source (DeadDone n ordinal) reply) = false
is_plain (at_target (AddProducer (Some n) base) reply) = false
is_plain (at_target (DropProducer producer) reply) = false
is_plain (at_target (Publish producer sequence body now) reply) = false
is_plain act = true

abbrev all_plain : List Act → Bool
all_plain [] = true
all_plain (act ∷ acts) = is_plain act && all_plain acts

-- what the subscription sees whose world it is, and what all others see
abbrev seen_as : Bool → World → World
seen_as own w = record w {
  moved = if own then w.moved else [];
  moved_viewed = if own then w.moved_viewed else [];
  moved_stored = if own then w.moved_stored else [];
  hands = if own then w.hands else idle;
}

module _ (source target : TopicName) (name : List ℕ) where
  -- the two topics of a world in which nobody else has couriers
  abbrev lifted : World → TwoTopics
  lifted w = record {
    source = w.source;
    source_viewed = w.source_viewed;
    source_stored = w.source_stored;
    target = w.target;
    target_viewed = w.target_viewed;
    target_stored = w.target_stored;
    moved = λ m. if bytes_eq m name then w.moved else [];
    moved_viewed = λ m. if bytes_eq m name then w.moved_viewed else [];
    moved_stored = λ m. if bytes_eq m name then w.moved_stored else [];
    hands = λ m. if bytes_eq m name then w.hands else idle;
  }

  abbrev deed_of : Act → Deed
  deed_of (courier number now reply) = courier_of name number now reply
  deed_of (turned_away number fault) = turned_away_of name number fault
  deed_of (let_go number) = let_go_of name number
  deed_of act = all_see act

  -- ---- what others see of it

  none_done : (m : List ℕ) (s : State) (e : Event) (r : Reply) → is_plain (at_source e r) ≡ true → done_with m s e r ≡ []
  none_done m s (DeadDone n ordinal) r plain = absurd (true≢false (sym plain))
  none_done m s e r plain = refl

  none_taken : (m : List ℕ) (s : State) (e : Event) (r : Reply) → is_plain (at_source e r) ≡ true → leaves_letters (route_of source m) target s e ≡ true
  none_taken m s (DeadDone n ordinal) r plain = absurd (true≢false (sym plain))
  none_taken m s e r plain = refl

  none_named : (m : List ℕ) (s : State) (e : Event) (r : Reply) → is_plain (at_target e r) ≡ true → leaves_couriers (route_of source m) s e ≡ true
  none_named m s (AddProducer (Some n) base) r plain = absurd (true≢false (sym plain))
  none_named m s (DropProducer producer) r plain = absurd (true≢false (sym plain))
  none_named m s (Publish producer sequence body now) r plain = absurd (true≢false (sym plain))
  none_named m s e r plain = refl

  abbrev IsForAll : Act → Bool
  IsForAll (courier number now reply) = false
  IsForAll (turned_away number fault) = false
  IsForAll (let_go number) = false
  IsForAll act = true

  others_see : (m : List ℕ) (w : World) (act : Act) (v : World) → is_plain act ≡ true → IsForAll act ≡ true → Happens (route_of source name) target w act v → Happens (route_of source m) target (seen_as false w) act (seen_as false v)
  others_see m w (at_source e r) v plain all h = (
    h.0,
    none_taken m w.source.state e r plain,
    (h.2.0, h.2.1, ap (seen_as false) h.2.2 ∙ ap (λ (ds : List DeadLetter). record (seen_as false w) { source = in_state w.source h.2.0; moved = ds }) (sym (none_done m w.source.state e r plain))),
  )
  others_see m w (at_target e r) v plain all h = (h.0, none_named m w.target.state e r plain, (h.2.0, h.2.1, ap (seen_as false) h.2.2))
  others_see m w view_source v plain all h = ap (seen_as false) h
  others_see m w view_target v plain all h = ap (seen_as false) h
  others_see m w store_source v plain all h = ap (seen_as false) h
  others_see m w store_target v plain all h = ap (seen_as false) h
  others_see m w reopen_source v plain all h = (h.0, ap (seen_as false) h.1)
  others_see m w reopen_target v plain all h = (h.0, ap (seen_as false) h.1)
  others_see m w delete_source v plain all h = (h.0, ap (seen_as false) h.1)
  others_see m w delete_target v plain all h = (h.0, ap (seen_as false) h.1)
  others_see m w crash v plain all h = ap (seen_as false) h
  others_see m w (courier number now reply) v plain all h = absurd (true≢false (sym all))
  others_see m w (turned_away number fault) v plain all h = absurd (true≢false (sym all))
  others_see m w (let_go number) v plain all h = absurd (true≢false (sym all))

  each_sees : (m : List ℕ) (w : World) (act : Act) (v : World) → is_plain act ≡ true → IsForAll act ≡ true → Happens (route_of source name) target w act v → Happens (route_of source m) target (seen_by m (lifted w)) act (seen_by m (lifted v))
  each_sees m w act v plain all h = by (bytes_eq m name) refl
    where
      by : (own : Bool) → bytes_eq m name ≡ own → Happens (route_of source m) target (seen_as own w) act (seen_as own v)
      by true e = subst (λ (k : List ℕ). Happens (route_of source k) target w act v) (sym (same_name m name e)) h
      by false e = others_see m w act v plain all h

  own_sees : (w : World) (act : Act) (v : World) → Happens (route_of source name) target w act v → Happens (route_of source name) target (seen_by name (lifted w)) act (seen_by name (lifted v))
  own_sees w act v h = subst (λ (own : Bool). Happens (route_of source name) target (seen_as own w) act (seen_as own v)) (sym (is_same_name name name refl)) h

  others_stay : (w v : World) (m : List ℕ) → bytes_eq m name ≡ false → Stays m (lifted w) (lifted v)
  others_stay w v m differ = record {
    moved = by v.moved w.moved;
    moved_viewed = by v.moved_viewed w.moved_viewed;
    moved_stored = by v.moved_stored w.moved_stored;
    hands = ap (λ own. if own then v.hands else idle) differ ∙ sym (ap (λ own. if own then w.hands else idle) differ);
  }
    where
      by : (xs ys : List DeadLetter) → (if bytes_eq m name then xs else []) ≡ (if bytes_eq m name then ys else [])
      by xs ys = ap (λ own. if own then xs else []) differ ∙ sym (ap (λ own. if own then ys else []) differ)

  does : (w : World) (act : Act) (v : World) → is_plain act ≡ true → Happens (route_of source name) target w act v → Does source target (lifted w) (deed_of act) (lifted v)
  does w (courier number now reply) v plain h = (own_sees w (courier number now reply) v h, others_stay w v)
  does w (turned_away number fault) v plain h = (own_sees w (turned_away number fault) v h, others_stay w v)
  does w (let_go number) v plain h = (own_sees w (let_go number) v h, others_stay w v)
  does w act v plain h = (refl, λ m. each_sees m w act v plain refl h)

  does_all : (w : World) (acts : List Act) (v : World) → all_plain acts ≡ true → AllHappen (route_of source name) target w acts v → DoesAll source target (lifted w) (map deed_of acts) (lifted v)
  does_all w [] v plain h = ap lifted h
  does_all w (act ∷ acts) v plain h =
      (lifted h.0, does w act h.0 (and_first (is_plain act) (all_plain acts) plain) h.1, does_all h.0 acts v (and_second (is_plain act) (all_plain acts) plain) h.2)

  -- ---- where it begins

  abbrev chosen : {A : Type 0} → A → List ℕ → A
  chosen x m = if bytes_eq m name then x else x

  abbrev always : {A : Type 0} → A → List ℕ → A
  always x m = x

  either : {A : Type 0} (x : A) → chosen x ≡ always x
  either {A} x = fun_ext (λ m. by (bytes_eq m name))
    where
      by : (own : Bool) → (if own then x else x) ≡ x
      by true = refl
      by false = refl

  begins : (ledger_size : ℕ) → lifted (opened source target ledger_size) ≡ begun source target ledger_size
  begins ledger_size = ap₂ (λ (f : List ℕ → List DeadLetter) (hands : List ℕ → ℕ → Hand). record {
    source = new_topic source ledger_size;
    source_viewed = new_topic source ledger_size;
    source_stored = new_topic source ledger_size;
    target = new_topic target ledger_size;
    target_viewed = new_topic target ledger_size;
    target_stored = new_topic target ledger_size;
    moved = f;
    moved_viewed = f;
    moved_stored = f;
    hands = hands;
  }) (either []) (either idle)

pub all_may_be_moved : AllMayBeMoved
all_may_be_moved body = (
  a,
  b,
  map (deed_of a b name) (acts_of body),
  lifted a b name (last_world body),
  subst (λ (t : TwoTopics). DoesAll a b t (map (deed_of a b name) (acts_of body)) (lifted a b name (last_world body))) (begins a b name 1)
      (does_all a b name (opened a b 1) (acts_of body) (last_world body) refl (all_happen body)),
  name,
  letter body 0,
  message body 0,
  refl,
  refl,
  refl,
)
