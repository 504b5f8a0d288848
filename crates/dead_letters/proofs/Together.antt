-- All subscriptions at once: whatever is done, is an act in the world of each of them.
use Rattle.std.proofs.Common.{◌≡◌, ℕ, List, [], ◌∷◌, ◌++◌, Some, Bool, true, false, refl, ap, ◌∙◌, sym, subst}
use Rattle.std.specs.Prelude.{◌+◌, ◌==◌, not, negsuc, codes, ◌&&◌, if◌then◌else◌}
use Rattle.std.specs.Option.{option_map_or, option_to_list}
use Rattle.std.specs.Str.{bytes_eq}
use Rattle.std.proofs.lemmas.List.{append-nil}
use Rattle.position_core.specs.declared.topic_name.TopicName.{TopicName}
use Rattle.delivery_machine.specs.State.{State, Producer, DeadLetter}
use Rattle.delivery_machine.specs.Producing.{had}
use Rattle.delivery_machine.specs.Run.{Answers}
use Rattle.delivery_machine.specs.declared.event.Event.{Event}
use Rattle.delivery_machine.specs.declared.event.Event.TheVariants.{AddProducer, DropProducer, Publish, Progress, DeadNext, DeadDone}
use Rattle.delivery_machine.specs.declared.reply.Reply.{Reply}
use Rattle.delivery_machine.specs.declared.reply.Reply.TheVariants.{Done, Progress as InProgress}
use Rattle.delivery_machine.proofs.Behind.{same_name, is_same_name, names_differ}
use Rattle.dead_letters.specs.declared.hand.Hand.{Hand}
use Rattle.dead_letters.specs.declared.hand.Hand.TheVariants.{Empty, Holds, Joined, Copied, Leaves, Waits, Moved}
use Rattle.dead_letters.specs.Moving.{courier_name, move_of, sequence_of}
use Rattle.dead_letters.specs.Worlds.{Topic, in_state, World, Act, at_source, at_target, courier, turned_away, let_go, Happens, AnswersAt, AllHappen, is_couriers, is_for, first_letter, leaves_letters, leaves_couriers, says_stored, done_with}
use Rattle.dead_letters.specs.Together.{TwoTopics, seen_by, route_of, begun, Deed, all_see, courier_of, turned_away_of, let_go_of, Stays, Does, DoesAll, AllMovedOnce}
use Rattle.dead_letters.proofs.Hands.{HandHolds, IsCourier}
use Rattle.dead_letters.proofs.Topics.{itself_in}
use Rattle.dead_letters.proofs.Invariant.{Holds as Kept}
use Rattle.dead_letters.proofs.Acting.{opened_holds}
use Rattle.dead_letters.proofs.AllActs.{acts_hold}
use Rattle.dead_letters.proofs.Result.{moved_once}

abbrev made : Topic → Topic → Topic → Topic → Topic → Topic → List DeadLetter → List DeadLetter → List DeadLetter → (ℕ → Hand) → World
made a b c d e f g h i j = record {
  source = a;
  source_viewed = b;
  source_stored = c;
  target = d;
  target_viewed = e;
  target_stored = f;
  moved = g;
  moved_viewed = h;
  moved_stored = i;
  hands = j;
}

same_world : (u v : World) → u.source ≡ v.source → u.source_viewed ≡ v.source_viewed → u.source_stored ≡ v.source_stored
    → u.target ≡ v.target → u.target_viewed ≡ v.target_viewed → u.target_stored ≡ v.target_stored
    → u.moved ≡ v.moved → u.moved_viewed ≡ v.moved_viewed → u.moved_stored ≡ v.moved_stored → u.hands ≡ v.hands → u ≡ v
same_world u v a b c d e f g h i j =
    ap (λ (x : Topic). made x u.source_viewed u.source_stored u.target u.target_viewed u.target_stored u.moved u.moved_viewed u.moved_stored u.hands) a
    ∙ ap (λ (x : Topic). made v.source x u.source_stored u.target u.target_viewed u.target_stored u.moved u.moved_viewed u.moved_stored u.hands) b
    ∙ ap (λ (x : Topic). made v.source v.source_viewed x u.target u.target_viewed u.target_stored u.moved u.moved_viewed u.moved_stored u.hands) c
    ∙ ap (λ (x : Topic). made v.source v.source_viewed v.source_stored x u.target_viewed u.target_stored u.moved u.moved_viewed u.moved_stored u.hands) d
    ∙ ap (λ (x : Topic). made v.source v.source_viewed v.source_stored v.target x u.target_stored u.moved u.moved_viewed u.moved_stored u.hands) e
    ∙ ap (λ (x : Topic). made v.source v.source_viewed v.source_stored v.target v.target_viewed x u.moved u.moved_viewed u.moved_stored u.hands) f
    ∙ ap (λ (x : List DeadLetter). made v.source v.source_viewed v.source_stored v.target v.target_viewed v.target_stored x u.moved_viewed u.moved_stored u.hands) g
    ∙ ap (λ (x : List DeadLetter). made v.source v.source_viewed v.source_stored v.target v.target_viewed v.target_stored v.moved x u.moved_stored u.hands) h
    ∙ ap (λ (x : List DeadLetter). made v.source v.source_viewed v.source_stored v.target v.target_viewed v.target_stored v.moved v.moved_viewed x u.hands) i
    ∙ ap (λ (x : ℕ → Hand). made v.source v.source_viewed v.source_stored v.target v.target_viewed v.target_stored v.moved v.moved_viewed v.moved_stored x) j

-- ---- couriers' names

cancelled : (xs ys zs : List ℕ) → xs ++ ys ≡ xs ++ zs → ys ≡ zs
cancelled [] ys zs e = e
cancelled (x ∷ xs) ys zs e = cancelled xs ys zs (let i = e in cc)

one_name : (source : TopicName) (m n : List ℕ) → courier_name source m ≡ courier_name source n → m ≡ n
one_name source m n e = cancelled (codes "dlq/" ++ source.tenant ++ codes "/" ++ source.namespace ++ codes "/" ++ source.topic ++ codes "/") m n e

other_courier : (source : TopicName) (m n : List ℕ) → bytes_eq m n ≡ false → bytes_eq (courier_name source m) (courier_name source n) ≡ false
other_courier source m n differ = by (bytes_eq (courier_name source m) (courier_name source n)) refl
  where
    by : (b : Bool) → bytes_eq (courier_name source m) (courier_name source n) ≡ b → b ≡ false
    by false e = refl
    by true e = sym (is_same_name m n (one_name source m n (same_name (courier_name source m) (courier_name source n) e))) ∙ differ

module _ (source target : TopicName) where
  abbrev Is : List ℕ → TwoTopics → Type 0
  Is n b = Kept (route_of source n) target (seen_by n b)

  -- an act of the world of the subscription
  abbrev SomeAct : List ℕ → TwoTopics → TwoTopics → Type 0
  SomeAct n b c = (act : Act) × Happens (route_of source n) target (seen_by n b) act (seen_by n c)

  module _ (m n : List ℕ) (differ : bytes_eq m n ≡ false) (b c : TwoTopics) (stays : Stays n b c) where
    -- another subscription's courier asks at the source
    by_source : (e : Event) (r : Reply) (s : State) (done : List DeadLetter) (hands : ℕ → Hand) → Answers b.source.state e r s → says_stored b.source_stored.state b.source.state e ≡ true → leaves_letters (route_of source n) target b.source.state e ≡ true
        → done_with n b.source.state e r ≡ [] → seen_by m c ≡ record (seen_by m b) { source = in_state b.source s; moved = done; hands = hands } → SomeAct n b c
    by_source e r s done hands h says leaves none is = (
      at_source e r,
      (
        says,
        leaves,
        (
          s,
          h,
          same_world (seen_by n c) (record (seen_by n b) { source = in_state b.source s; moved = b.moved n ++ done_with n b.source.state e r; hands = b.hands n })
              (ap (λ (w : World). w.source) is) (ap (λ (w : World). w.source_viewed) is) (ap (λ (w : World). w.source_stored) is) (ap (λ (w : World). w.target) is) (ap (λ (w : World). w.target_viewed) is) (ap (λ (w : World). w.target_stored) is)
              (stays.moved ∙ sym (ap (λ (ds : List DeadLetter). b.moved n ++ ds) none ∙ append-nil (b.moved n))) stays.moved_viewed stays.moved_stored stays.hands,
        ),
      ),
    )

    by_target : (e : Event) (r : Reply) (u : State) (hands : ℕ → Hand) → Answers b.target.state e r u → says_stored b.target_stored.state b.target.state e ≡ true → leaves_couriers (route_of source n) b.target.state e ≡ true
        → seen_by m c ≡ record (seen_by m b) { target = in_state b.target u; hands = hands } → SomeAct n b c
    by_target e r u hands h says leaves is = (
      at_target e r,
      (
        says,
        leaves,
        (
          u,
          h,
          same_world (seen_by n c) (record (seen_by n b) { target = in_state b.target u; hands = b.hands n })
              (ap (λ (w : World). w.source) is) (ap (λ (w : World). w.source_viewed) is) (ap (λ (w : World). w.source_stored) is) (ap (λ (w : World). w.target) is) (ap (λ (w : World). w.target_viewed) is) (ap (λ (w : World). w.target_stored) is)
              stays.moved stays.moved_viewed stays.moved_stored stays.hands,
        ),
      ),
    )

    -- nothing is asked: as if it were asked how much is stored
    by_nothing : (hands : ℕ → Hand) → seen_by m c ≡ record (seen_by m b) { hands = hands } → SomeAct n b c
    by_nothing hands is =
        by_source Progress (InProgress (b.source.state.gone + b.source.state.durable) (had b.source.state)) b.source.state (b.moved m) hands (refl, (refl, refl)) refl refl refl
        (is ∙ ap (λ (a : Topic). record (seen_by m b) { source = a; hands = hands }) (sym (itself_in b.source b.source.state refl)))

    none_done : (s : State) (o : ℕ) (r : Reply) → done_with n s (DeadDone m o) r ≡ []
    none_done s o Done = ap (λ t. if t then option_to_list (first_letter s m) else []) differ
    none_done s o r = refl

    not_ours : (p : ℕ) → IsCourier (route_of source m) target b.target.state p → not (is_couriers (route_of source n) b.target.state p) ≡ true
    not_ours p mover =
        ap not (ap (λ o. option_map_or (λ (q : Producer). bytes_eq q.name (courier_name source n)) o false) mover.1
        ∙ ap (λ (name : List ℕ). bytes_eq name (courier_name source n)) mover.2 ∙ other_courier source m n differ)

    by_courier : (hand : Hand) (now : ℕ) (r : Reply) (hands : ℕ → Hand)
        → HandHolds (route_of source m) target b.source (b.moved m) b.target b.target_stored b.target_viewed hand
        → AnswersAt (route_of source m) (move_of (route_of source m) hand now).side (seen_by m b) (move_of (route_of source m) hand now).event r hands (seen_by m c) → SomeAct n b c
    by_courier Empty now r hands held h = by_source (DeadNext m) r h.0 (b.moved m ++ done_with m b.source.state (DeadNext m) r) hands h.1 refl refl refl h.2
    by_courier (Holds l) now r hands held h = by_target (AddProducer (Some (courier_name source m)) (negsuc 0)) r h.0 hands h.1 refl (ap not (other_courier source m n differ)) h.2
    by_courier (Joined l p) now r hands held h = by_target (Publish p (sequence_of l.ordinal) l.message.body now) r h.0 hands h.1 refl (not_ours p held.1) h.2
    by_courier (Copied l p count) now r hands held h = by_target (DropProducer p) r h.0 hands h.1 refl (not_ours p held.1) h.2
    by_courier (Leaves p) now r hands held h = by_target (DropProducer p) r h.0 hands h.1 refl (not_ours p held) h.2
    by_courier (Waits l count) now r hands held h = by_target Progress r h.0 hands h.1 refl refl h.2
    by_courier (Moved l) now r hands held h = by_source (DeadDone m l.ordinal) r h.0 (b.moved m ++ done_with m b.source.state (DeadDone m l.ordinal) r) hands h.1 refl (ap (λ t. not (t && option_map_or (λ (d : DeadLetter). d.ordinal == l.ordinal && is_for target d) (first_letter b.source.state m) false)) differ) (none_done b.source.state l.ordinal r) h.2

  -- what is done is an act in the world of each subscription
  one_or_other : (P : List ℕ → Type 0) (m n : List ℕ) → P m → (bytes_eq n m ≡ false → P n) → P n
  one_or_other P m n own other = by (bytes_eq n m) refl
    where
      by : (t : Bool) → bytes_eq n m ≡ t → P n
      by true e = subst P (sym (same_name n m e)) own
      by false e = other e

  each_acts : (b : TwoTopics) (deed : Deed) (c : TwoTopics) → ((m : List ℕ) → Is m b) → Does source target b deed c → (n : List ℕ) → SomeAct n b c
  each_acts b (all_see act) c holds h n = (act, h.1 n)
  each_acts b (courier_of m number now reply) c holds h n =
      one_or_other (λ (k : List ℕ). SomeAct k b c) m n (courier number now reply, h.0) (λ e. by_courier m n (names_differ n m e) b c (h.1 n e) (b.hands m number) now reply _ ((holds m).hands number) h.0)
  each_acts b (turned_away_of m number fault) c holds h n =
      one_or_other (λ (k : List ℕ). SomeAct k b c) m n (turned_away number fault, h.0) (λ e. by_nothing m n (names_differ n m e) b c (h.1 n e) _ h.0)
  each_acts b (let_go_of m number) c holds h n =
      one_or_other (λ (k : List ℕ). SomeAct k b c) m n (let_go number, h.0) (λ e. by_nothing m n (names_differ n m e) b c (h.1 n e) _ h.0)

  each_holds : (b : TwoTopics) (deed : Deed) (c : TwoTopics) → ((m : List ℕ) → Is m b) → Does source target b deed c → (n : List ℕ) → Is n c
  each_holds b deed c holds h n = let one = each_acts b deed c holds h n in acts_hold (route_of source n) target (seen_by n b) one.0 (seen_by n c) one.1 (holds n)

  -- and so are all deeds
  each_happens : (b : TwoTopics) (deeds : List Deed) (c : TwoTopics) → ((m : List ℕ) → Is m b) → DoesAll source target b deeds c → (n : List ℕ) → (acts : List Act) × AllHappen (route_of source n) target (seen_by n b) acts (seen_by n c)
  each_happens b [] c holds h n = ([], ap (seen_by n) h)
  each_happens b (deed ∷ deeds) c holds h n =
      let one = each_acts b deed h.0 holds h.1 n in
      let rest = each_happens h.0 deeds c (each_holds b deed h.0 holds h.1) h.2 n in
      (one.0 ∷ rest.0, (seen_by n h.0, one.1, rest.1))

  all_hold : (b : TwoTopics) (deeds : List Deed) (c : TwoTopics) → ((m : List ℕ) → Is m b) → DoesAll source target b deeds c → (n : List ℕ) → Is n c
  all_hold b [] c holds h n = subst (Is n) (sym h) (holds n)
  all_hold b (deed ∷ deeds) c holds h n = all_hold h.0 deeds c (each_holds b deed h.0 holds h.1) h.2 n

pub all_moved_once : AllMovedOnce
all_moved_once source target ledger_size deeds b deed c does last name =
    let first = λ (m : List ℕ). opened_holds (route_of source m) target refl source target ledger_size in
    let before = each_happens source target (begun source target ledger_size) deeds b first does name in
    let one = each_acts source target b deed c (all_hold source target (begun source target ledger_size) deeds b first does) last name in
    moved_once (route_of source name) target ledger_size before.0 (seen_by name b) one.0 (seen_by name c) refl before.1 one.1
