-- A subscription is sought: where its dead letters stand, and what its members have left.
use Rattle.std.proofs.Common.{◌≡◌, ℕ, ◌+◌, ◌<◌, ◌≤◌, List, [], ◌∷◌, ◌++◌, map, length, take, Some, None, Option, Bool, true, false, cond, All, get_or, set, slice_get, Result, Ok, Err, refl, ap, ap₂, ◌∙◌, sym, subst, arith, true≢false}
use Rattle.std.specs.Prelude.{IfOk}
use Rattle.std.specs.Vec.{with_item}
use Rattle.std.specs.List.{filter, position}
use Rattle.std.specs.Str.{bytes_eq}
use Rattle.std.proofs.lemmas.List.{length-map, map-append, take_more}
use Rattle.std.proofs.lemmas.List.Elements.{All-contains}
use Rattle.std.proofs.Math.ListN.{get_or-map}
use Rattle.std.proofs.lemmas.List.Quantifiers.{position-Some}
use Rattle.position_core.specs.declared.position.Position.{Position}
use Rattle.position_core.specs.declared.message.Entry.{Entry}
use Rattle.log_pieces.specs.Pieces.{index_of, stands_at}
use Rattle.delivery_machine.specs.State.{Member, DeadLetter, Subscription}
use Rattle.delivery_machine.specs.Words.{emptied, emptied_at, has_position, is_at}
use Rattle.delivery_machine.specs.WellFormed.{IsWellFormed, IsWellFormedIn, has_message}
use Rattle.delivery_machine.proofs.Places.{none_passes}
use Rattle.delivery_machine.specs.Seeking.{seeking, sought}
use Rattle.delivery_machine.proofs.Behind.{same_name}
use Rattle.pending_core.proofs.Elements.{slice_get-set_same}
use Rattle.topic_members.specs.Joined.{emptied_in, is_in}
use Rattle.topic_subscriptions.specs.Placed.{IsPlacedIn, IsRising, Placed, StandAt, is_placed, line_at, sought_to, sub_in}
use Rattle.topic_subscriptions.proofs.Dying.{sought_in, sought_placed}
use Rattle.topic_parts.specs.Parts.{AreTied, log_of, state_of}
use Rattle.topic_parts.specs.declared.parts.Parts.{Parts}
use Rattle.topic_parts.proofs.Acknowledged.{placed_beside}
use Rattle.topic_parts.proofs.Changing.{changed_sub, tied_at}
use Rattle.topic_parts.proofs.Held.{tied_one}

-- one letter more
pub one_more_stands : (log : List Entry) (ls : List DeadLetter) (i : ℕ) (d : DeadLetter) (places : List ℕ) (index : ℕ) → i < length ls → StandAt log (take i ls) places → index_of (get_or ls i d).position log ≡ Some index → StandAt log (take (i + 1) ls) (places ++ index ∷ [])
one_more_stands log ls i d places index low stand is =
    ap (map at) (take_more ls i d low)
    ∙ map-append at (take i ls) (get_or ls i d ∷ [])
    ∙ ap₂ (λ xs o. xs ++ o ∷ []) stand is
    ∙ sym (map-append (λ (n : ℕ). Some n) places (index ∷ []))
  where
    at : DeadLetter → Option ℕ
    at l = index_of l.position log

pub within_log : (log : List Entry) (q : Position) (index : ℕ) → index_of q log ≡ Some index → index < length log
within_log [] q index is = cc
within_log (e ∷ log) q index is = (position-Some (stands_at q) (e ∷ log) index e is).0

pub nowhere : (log : List Entry) (q : Position) → has_message log q ≡ true → None ≡ index_of q log → ⊥
nowhere log q there none = true≢false (sym there ∙ none_passes (has_position q) log none)

-- ---- members

-- a change of all members that keeps their numbers and subscriptions
pub line_mapped : (f : Member → Member) (ms : List Member) (name : List ℕ) → ((m : Member) → (f m).number ≡ m.number) → ((m : Member) → (f m).subscription ≡ m.subscription) → line_at name (map f ms) ≡ line_at name ms
line_mapped f [] name numbers names = refl
line_mapped f (m ∷ ms) name numbers names =
    ap (λ b. map (λ (m : Member). m.number) (cond b (f m ∷ filter (is_at name) (map f ms)) (filter (is_at name) (map f ms)))) (ap (λ (n : List ℕ). bytes_eq n name) (names m))
    ∙ by (is_at name m) (line_mapped f ms name numbers names)
  where
    by : (b : Bool) → line_at name (map f ms) ≡ line_at name ms → map (λ (m : Member). m.number) (cond b (f m ∷ filter (is_at name) (map f ms)) (filter (is_at name) (map f ms))) ≡ map (λ (m : Member). m.number) (cond b (m ∷ filter (is_at name) ms) (filter (is_at name) ms))
    by true rest = ap₂ (λ n ns. n ∷ ns) (numbers m) rest
    by false rest = rest

pub line_emptied : (line : List ℕ) (ms : List Member) (name : List ℕ) → line_at name (map (emptied_in line) ms) ≡ line_at name ms
line_emptied line ms name = line_mapped (emptied_in line) ms name (λ m. number (is_in line m) m) (λ m. subscription (is_in line m) m)
  where
    number : (b : Bool) (m : Member) → (cond b (emptied m) m).number ≡ m.number
    number true m = refl
    number false m = refl

    subscription : (b : Bool) (m : Member) → (cond b (emptied m) m).subscription ≡ m.subscription
    subscription true m = refl
    subscription false m = refl

-- ---- the parts

pub then_ok : {T E : Type 0} (P Q : T → Type 0) (r : Result T E) → ((v : T) → P v → Q v) → IfOk r P → IfOk r Q
then_ok P Q (Ok v) then held = then v held
then_ok P Q (Err e) then held = tt

-- what well-formed states say of the subscription at a place
pub formed_at : (t : Parts) (place : ℕ) (x : Placed) → IsWellFormed (state_of t) → place < length t.subscriptions.items → x ≡ get_or t.subscriptions.items place x → IsWellFormedIn (state_of t) (sub_in (log_of t) x)
formed_at t place x well within at =
    All-contains (IsWellFormedIn (state_of t)) (state_of t).subscriptions (sub_in (log_of t) x) well.subscriptions
    (place, omega (arith, within, length-map t.subscriptions.items (sub_in (log_of t))), get_or-map (sub_in (log_of t)) t.subscriptions.items place x ∙ ap (sub_in (log_of t)) (sym at))

module _ (t after : Parts) (place end : ℕ) (x y : Placed) (dead : List ℕ)
    (within : place < length t.subscriptions.items) (at : x ≡ get_or t.subscriptions.items place x) (is : y ≡ sought_to end dead x)
    (next_is : after.members.next ≡ t.members.next)
    (rest_is : after ≡ record t { subscriptions = with_item t.subscriptions place y; members = after.members })
    (rising : IsRising (log_of t)) (tied : AreTied t)
  where
    placed : IsPlacedIn (log_of t) t.members.members x
    placed = tied_one t place within x at tied

    pub written : slice_get (set t.subscriptions.items place y) place ≡ Some y
    written = slice_get-set_same t.subscriptions.items place y within

    pub line_here : (name : List ℕ) → Some place ≡ position (is_placed name) t.subscriptions.items → (p : Placed) → slice_get (set t.subscriptions.items place y) place ≡ Some p → p.line ≡ line_at name t.members.members
    line_here name there p read =
        let it_is : p ≡ y = some_is p y (sym read ∙ written) in
        let named : x.name ≡ name = same_name x.name name (ap (is_placed name) at ∙ (position-Some (is_placed name) t.subscriptions.items place x (sym there)).1) in
        ap (λ (q : Placed). q.line) (it_is ∙ is) ∙ placed.line ∙ ap (λ (n : List ℕ). line_at n t.members.members) named
      where
        some_is : (a b : Placed) → ◌≡◌ {A = Option Placed} (Some a) (Some b) → a ≡ b
        some_is a b same = cc

    pub sought_state : (name : List ℕ) → Some place ≡ position (is_placed name) t.subscriptions.items → after.members.members ≡ map (emptied_at name) t.members.members → state_of after ≡ sought (state_of t) name end
    sought_state name there members_are =
        let log = log_of t in
        let subs_is = changed_sub log t.subscriptions.items name place there (seeking (take end log)) x y at (ap (sub_in log) is ∙ sought_in log x end dead rising) in
        ap state_of rest_is
        ∙ ap₂ (λ (ms : List Member) (n : ℕ). record (state_of t) { subscriptions = map (sub_in log) (set t.subscriptions.items place y); members = ms; next_consumer = n }) members_are next_is
        ∙ ap (λ (ss : List Subscription). record (state_of t) { subscriptions = ss; members = map (emptied_at name) t.members.members }) subs_is

    pub sought_tied : (line : List ℕ) → after.members.members ≡ map (emptied_in line) t.members.members → end ≤ length (log_of t) → StandAt (log_of t) x.letters.dead dead → AreTied after
    sought_tied line members_are low stand =
        let log = log_of t in
        let ms = t.members.members in
        let lines = line_emptied line ms in
        let new = subst (λ (p : Placed). IsPlacedIn log ms p) (sym is) (sought_placed log ms x end dead rising low stand placed) in
        subst (λ (p : Parts). AreTied p) (sym rest_is)
        (subst (λ (xs : List Member). All (IsPlacedIn log xs) (set t.subscriptions.items place y)) (sym members_are)
        (tied_at log ms (map (emptied_in line) ms) t.subscriptions.items place y lines tied (placed_beside log ms (map (emptied_in line) ms) y (lines y.name) new)))
