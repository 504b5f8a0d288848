-- A message is handed to a member, which pays for it, or it is taken back.
use Rattle.std.proofs.Common.{◌≡◌, ℕ, ◌<◌, List, [], ◌∷◌, map, length, All, Some, None, Bool, true, false, cond, get_or, refl, ap, ap₂, ◌∙◌, sym, subst, arith}
use Rattle.std.specs.Prelude.{slice_get}
use Rattle.std.specs.List.{filter, position}
use Rattle.std.specs.Str.{bytes_eq}
use Rattle.std.specs.FinMap as map_of
use Rattle.position_core.specs.declared.position.Position.{Position}
use Rattle.position_core.specs.declared.message.Entry.{Entry}
use Rattle.position_core.specs.declared.held.Held.{Held}
use Rattle.position_core.specs.Position.{position_cmp, same_position, positions_total, exact_positions}
use Rattle.delivery_machine.specs.State.{State, Subscription, Member}
use Rattle.delivery_machine.specs.Words.{changed, is_at, is_member, is_named, is_waiting, visible}
use Rattle.delivery_machine.specs.Delivering.{holding}
use Rattle.delivery_machine.specs.declared.delivery.Delivery.{Delivery}
use Rattle.delivery_machine.proofs.Messages.{position_itself}
use Rattle.machine_laws.proofs.Ranks.{ranks_changed}
use Rattle.delivery_machine.proofs.Tended.{position_is}
use Rattle.dispatch_core.specs.Changes.{Sent}
use Rattle.topic_served.specs.Happening.{HappensAt}
use Rattle.topic_served.proofs.Chaining.{changed_alike, changed_twice}
use Rattle.topic_served.proofs.Seeing.{happens}
use Rattle.topic_served.proofs.Touching.{IsAbout, TouchesOne, sent_there}
use Rattle.topic_members.specs.Members.{pushed, shortened}
use Rattle.topic_members.proofs.Given.{given_back}
use Rattle.topic_parts.specs.Holding.{freeing}
use Rattle.topic_subscriptions.specs.Placed.{IsPlacedIn, Placed, line_at}
use Rattle.topic_parts.proofs.Acknowledged.{placed_beside}
use Rattle.delivery_events.specs.Handing.{handed, taken_back}

-- ---- members that keep their lines

line_kept : (f : Member → Member) (q : Member → Bool) (ms : List Member) (name : List ℕ) → ((m : Member) → (f m).number ≡ m.number) → ((m : Member) → (f m).subscription ≡ m.subscription) → line_at name (changed q f ms) ≡ line_at name ms
line_kept f q [] name numbers names = refl
line_kept f q (m ∷ ms) name numbers names = by (q m) (line_kept f q ms name numbers names)
  where
    at_is : is_at name (f m) ≡ is_at name m
    at_is = ap (λ (n : List ℕ). bytes_eq n name) (names m)

    first : (b : Bool) (n k : ℕ) (rest : List ℕ) → n ≡ k → cond b (n ∷ rest) rest ≡ cond b (k ∷ rest) rest
    first true n k rest is = ap (λ x. x ∷ rest) is
    first false n k rest is = refl

    numbered : (b : Bool) (x : Member) (xs : List Member) → map (λ (m : Member). m.number) (cond b (x ∷ xs) xs) ≡ cond b (x.number ∷ map (λ (m : Member). m.number) xs) (map (λ (m : Member). m.number) xs)
    numbered true x xs = refl
    numbered false x xs = refl

    by : (b : Bool) → line_at name (changed q f ms) ≡ line_at name ms → line_at name (cond b (f m ∷ ms) (m ∷ changed q f ms)) ≡ line_at name (m ∷ ms)
    by true rest =
        numbered (is_at name (f m)) (f m) (filter (is_at name) ms)
        ∙ ap (λ b. cond b ((f m).number ∷ line_at name ms) (line_at name ms)) at_is
        ∙ first (is_at name m) (f m).number m.number (line_at name ms) (numbers m)
        ∙ sym (numbered (is_at name m) m (filter (is_at name) ms))
    by false rest =
        numbered (is_at name m) m (filter (is_at name) (changed q f ms))
        ∙ ap (λ (l : List ℕ). cond (is_at name m) (m.number ∷ l) l) rest
        ∙ sym (numbered (is_at name m) m (filter (is_at name) ms))

pub tied_changed : (log : List Entry) (ms after : List Member) (n : ℕ) (f : Member → Member) (subs : List Placed) → after ≡ changed (is_member n) f ms → ((m : Member) → (f m).number ≡ m.number) → ((m : Member) → (f m).subscription ≡ m.subscription)
    → All (IsPlacedIn log ms) subs → All (IsPlacedIn log after) subs
tied_changed log ms after n f subs is numbers names tied k d low =
    placed_beside log ms after (get_or subs k d) (ap (line_at (get_or subs k d).name) is ∙ line_kept f (is_member n) ms (get_or subs k d).name numbers names) (tied k d low)

-- ---- handed, as its dispatcher sees it

got_inserted : (m : map_of.FinMap position_cmp Held) (p : Position) (h : Held) (q : Position) → map_of.get (map_of.insert m p h) q ≡ cond (same_position q p) (Some h) (map_of.get m q)
got_inserted m p h q = map_of.get-insert positions_total m p h q

touches_held : (p : Position) (h : Held) (sub : Subscription) → TouchesOne p sub (holding p h sub)
touches_held p h sub = record {
  name = refl;
  kind = refl;
  shares = refl;
  acknowledged = λ q differ. refl;
  dead = λ q differ. refl;
  pending = λ q differ. got_inserted sub.pending p h q ∙ ap (λ b. cond b (Some h) (map_of.get sub.pending q)) differ;
}

module _ (s : State) (name : List ℕ) (i : ℕ) (sub : Subscription) (d : Delivery) (held : Held) (k : ℕ) (about : IsAbout s name i sub d.message.position k) where
  pub sent_handed : k < length (visible s) → is_waiting sub d.message ≡ true → HappensAt i (Sent k held.consumer) s sub (handed s name d held) (holding d.message.position held sub)
  sent_handed seen waited =
      let t : State = handed s name d held in
      let p = d.message.position in
      let ranks = ranks_changed (is_member held.consumer) (pushed d) (λ _. refl) s.members in
      happens s t name (holding p held) i sub about.place about.was refl (Sent k held.consumer) refl (omega arith) ranks
      (sent_there s t name i sub (holding p held sub) p k about refl refl ranks (touches_held p held sub) held seen
      (λ x is. subst (λ (q : Position). is_waiting sub (record d.message { position = q }) ≡ true) (sym is) waited)
      (got_inserted sub.pending p held p ∙ ap (λ b. cond b (Some held) (map_of.get sub.pending p)) (position_itself p)))

-- ---- taken back

freed_again : (m : map_of.FinMap position_cmp Held) (p : Position) (h : Held) → map_of.get m p ≡ None → map_of.remove (map_of.insert m p h) p ≡ m
freed_again m p h none = map_of.same_map positions_total exact_positions _ _ (λ q.
    map_of.get-remove positions_total (map_of.insert m p h) p q
    ∙ ap (λ o. cond (same_position q p) None o) (got_inserted m p h q)
    ∙ by q (same_position q p) refl)
  where
    by : (q : Position) (b : Bool) → same_position q p ≡ b → cond b None (cond b (Some h) (map_of.get m q)) ≡ map_of.get m q
    by q true is = sym (ap (map_of.get m) (position_is q p is) ∙ none)
    by q false is = refl

changed_to_itself : {A : Type 0} (q : A → Bool) (xs : List A) → changed q (λ x. x) xs ≡ xs
changed_to_itself q [] = refl
changed_to_itself {A} q (x ∷ xs) = by (q x) (changed_to_itself q xs)
  where
    by : (b : Bool) → changed q (λ y. y) xs ≡ xs → cond b (x ∷ xs) (x ∷ changed q (λ y. y) xs) ≡ x ∷ xs
    by true rest = refl
    by false rest = ap (λ (ys : List A). x ∷ ys) rest

pub handed_back : (s : State) (name : List ℕ) (i : ℕ) (sub : Subscription) (d : Delivery) (held : Held) → position (is_named name) s.subscriptions ≡ Some i → slice_get s.subscriptions i ≡ Some sub
    → map_of.get sub.pending d.message.position ≡ None → taken_back (handed s name d held) name d.message.position held.consumer ≡ s
handed_back s name i sub d held place was none =
    let p = d.message.position in
    ap₂ (λ (subs : List Subscription) (ms : List Member). record s { subscriptions = subs; members = ms })
    (changed_twice (is_named name) (holding p held) (freeing p) s.subscriptions (λ _. refl)
    ∙ changed_alike (is_named name) (λ x. freeing p (holding p held x)) (λ x. x) s.subscriptions i sub place was (ap (λ (m : map_of.FinMap position_cmp Held). record sub { pending = m }) (freed_again sub.pending p held none))
    ∙ changed_to_itself (is_named name) s.subscriptions)
    (given_back held.consumer d s.members)

-- what was given is taken back, where nothing else changed
pub given_nothing : (s t u v : State) (n : ℕ) (d : Delivery) → t ≡ record s { members = changed (is_member n) (pushed d) s.members } → u ≡ t → v ≡ record u { members = changed (is_member n) shortened u.members } → v ≡ s
given_nothing s t u v n d given same back =
    back ∙ ap (λ (x : State). record x { members = changed (is_member n) shortened x.members }) (same ∙ given)
    ∙ ap (λ (ms : List Member). record s { members = ms }) (given_back n d s.members)
