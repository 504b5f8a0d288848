-- A member that enters a subscription: in the machine's words, that the others stay tied, and that it is taken back.
use Rattle.std.proofs.Common.{◌≡◌, ◌≢◌, ℕ, zero, suc, ◌+◌, ◌<◌, List, [], ◌∷◌, ◌++◌, map, length, Some, Option, All, get_or, set, slice_get, false, refl, ap, ap₂, ◌∙◌, sym, subst, subst₂}
use Rattle.std.specs.List.{list_any}
use Rattle.std.specs.Str.{bytes_eq}
use Rattle.std.specs.Vec.{with_item}
use Rattle.std.proofs.lemmas.List.Elements.{All-contains}
use Rattle.std.proofs.lemmas.Option.{get_or_from_slice_get, slice_get_within, same_Some}
use Rattle.position_core.specs.declared.ranges.HashRange.{HashRange}
use Rattle.position_core.specs.declared.message.Entry.{Entry}
use Rattle.delivery_machine.specs.State.{State, Member, Subscription}
use Rattle.delivery_machine.specs.Words.{changed, is_at, is_member, is_named}
use Rattle.delivery_machine.specs.Joining.{joining}
use Rattle.delivery_machine.proofs.Behind.{is_same_name}
use Rattle.dispatch_core.specs.Changes.{AgreesAfter, Joined}
use Rattle.topic_served.specs.Agreeing.{agrees}
use Rattle.topic_served.specs.declared.dispatch.Dispatch.{Dispatch}
use Rattle.topic_served.specs.Happening.{HappensAt}
use Rattle.topic_served.proofs.Chaining.{changed_alike}
use Rattle.topic_served.proofs.Joining.{joined_at}
use Rattle.topic_served.proofs.Naming.{names_apart}
use Rattle.topic_served.proofs.Spots.{set_at}
use Rattle.topic_members.specs.Joined.{Joined as MemberList}
use Rattle.topic_subscriptions.specs.Placed.{IsPlacedIn, Placed, is_placed, joined_by, sub_in}
use Rattle.topic_subscriptions.proofs.Lines.{joined_placed, line_joined}
use Rattle.topic_parts.specs.declared.parts.Parts.{Parts}
use Rattle.topic_parts.specs.Parts.{AreTied, log_of, state_of}
use Rattle.topic_parts.proofs.Acknowledged.{placed_beside}
use Rattle.topic_parts.proofs.Changing.{changed_sub, placed_there, written_back}
use Rattle.topic_served.proofs.Telling.{at_place, named_place, place_within}
use Rattle.member_events.specs.Entering.{LetsIn, MayEnter, StaysAs, entered}
use Rattle.member_events.proofs.Standing.{all_but, are_named, its_name, names_written, one_there}

module _ (t : Parts) (place : ℕ) (m : Member) (ranges : Option (List HashRange)) (x : Placed) (may : MayEnter t place m.subscription) (number : m.number ≡ t.members.next) (at : x ≡ get_or t.subscriptions.items place x) where
  abbrev subs : List Placed
  subs = t.subscriptions.items

  abbrev ms : List Member
  ms = t.members.members

  stands : Some x ≡ slice_get subs place
  stands = one_there subs m.subscription place x may.named at

  name_is : x.name ≡ m.subscription
  name_is = its_name subs m.subscription place x may.named at

  elsewhere : (k : ℕ) (other : Placed) → k ≢ place → slice_get subs k ≡ Some other → is_at other.name m ≡ false
  elsewhere k other differs at_k =
      ap (λ (n : List ℕ). bytes_eq n other.name) (sym name_is)
      ∙ names_apart (state_of t).subscriptions place k (sub_in (log_of t) x) (sub_in (log_of t) other) (are_named t may.ordered) differs (at_place t place x stands) (at_place t k other (sym at_k))

  pub tied_entered : (y : Placed) → y ≡ joined_by x.kind ranges m.number x → All (IsPlacedIn (log_of t) (ms ++ m ∷ [])) (set subs place y)
  tied_entered y is =
      all_but (IsPlacedIn (log_of t) (ms ++ m ∷ [])) subs place y (place_within (is_placed m.subscription) subs place may.named)
      (subst (λ (p : Placed). IsPlacedIn (log_of t) (ms ++ m ∷ []) p) (sym is)
      (joined_placed (log_of t) ms m x.kind ranges x (is_same_name m.subscription x.name (sym name_is)) (placed_there (log_of t) subs m.subscription place may.named ms x may.tied at)))
      (λ k other differs at_k.
      placed_beside (log_of t) ms (ms ++ m ∷ []) other (line_joined other.name ms m (elsewhere k other differs at_k))
      (All-contains (IsPlacedIn (log_of t) ms) subs other may.tied (k, slice_get_within subs k other at_k, get_or_from_slice_get subs k other other at_k)))

  pub subs_entered : (y : Placed) → y ≡ joined_by x.kind ranges m.number x → map (sub_in (log_of t)) (set subs place y) ≡ changed (is_named m.subscription) (λ (sub : Subscription). joining sub.kind ranges m.number sub) (map (sub_in (log_of t)) subs)
  subs_entered y is = changed_sub (log_of t) subs m.subscription place may.named (λ (sub : Subscription). joining sub.kind ranges m.number sub) x y at (ap (sub_in (log_of t)) is)

  pub happens_entered : HappensAt place (Joined ranges m.number) (state_of t) (sub_in (log_of t) x) (entered (state_of t) ranges m) (joining x.kind ranges m.number (sub_in (log_of t) x))
  happens_entered =
      let s : State = state_of t in
      let sub : Subscription = sub_in (log_of t) x in
      joined_at s (entered s ranges m) place sub m (record {
        named = are_named t may.ordered;
        place = named_place t m.subscription place may.named;
        was = at_place t place x stands;
        fresh = subst (λ (n : ℕ). list_any (is_member n) t.members.members ≡ false) (sym number) may.fresh;
        few = may.few;
      }) ranges refl refl refl
      (changed_alike (is_named m.subscription) (λ (z : Subscription). joining z.kind ranges m.number z) (joining x.kind ranges m.number) s.subscriptions place sub (named_place t m.subscription place may.named) (at_place t place x stands) refl)

-- what is read of the one that is seen
pub told_as_there : (Changes : State → Subscription → State → Subscription → Type 0) (Before After : State → Subscription → Type 0) (place : ℕ) (seen new : Parts) (v p : Placed) → seen ≡ new → Some v ≡ slice_get new.subscriptions.items place → Some p ≡ slice_get new.subscriptions.items place
    → AgreesAfter Changes Before After (state_of seen) (sub_in (log_of seen) v) → AgreesAfter Changes Before After (state_of new) (sub_in (log_of new) p)
told_as_there Changes Before After place seen new v p same at_v at_p agreeing =
    subst₂ (λ (u : Parts) (z : Placed). AgreesAfter Changes Before After (state_of u) (sub_in (log_of u) z)) same (same_Some v p (at_v ∙ sym at_p)) agreeing

-- ---- taken back

pub set_twice : {A : Type 0} (xs : List A) (i : ℕ) (y z : A) → set (set xs i y) i z ≡ set xs i z
set_twice [] i y z = refl
set_twice (x ∷ xs) zero y z = refl
set_twice (x ∷ xs) (suc i) y z = ap (λ ys. x ∷ ys) (set_twice xs i y z)

-- what was written is read
pub read_back : {A : Type 0} (xs : List A) (i : ℕ) (y w : A) → i < length xs → w ≡ get_or (set xs i y) i w → w ≡ y
read_back xs i y w low at = at ∙ get_or_from_slice_get (set xs i y) i y w (set_at xs i y low)

pub same_state : (old new : Parts) → StaysAs old new → state_of new ≡ state_of old
same_state old new stays =
    ap state_of stays.rest
    ∙ ap₂ (λ (ms : List Member) (n : ℕ). record (state_of old) { members = ms; next_consumer = n; subscriptions = map (sub_in (log_of old)) new.subscriptions.items }) stays.members stays.next
    ∙ ap (λ (subs : List Placed). record (state_of old) { subscriptions = map (sub_in (log_of old)) subs }) stays.items

pub same_ties : (old new : Parts) → StaysAs old new → AreTied old → AreTied new
same_ties old new stays tied =
    subst (λ (log : List Entry). All (IsPlacedIn log new.members.members) new.subscriptions.items) (sym (ap log_of stays.rest))
    (subst₂ (λ (ms : List Member) (subs : List Placed). All (IsPlacedIn (log_of old) ms) subs) (sym stays.members) (sym stays.items) tied)

-- ---- the whole

-- the member entered
pub lets_in : (t seen : Parts) (place : ℕ) (m : Member) (ranges : Option (List HashRange)) (x y v : Placed) (after : MemberList) (before told : Dispatch) → MayEnter t place m.subscription → m.number ≡ t.members.next → x ≡ get_or t.subscriptions.items place x → y ≡ joined_by x.kind ranges m.number x
    → after.members ≡ t.members.members ++ m ∷ [] → after.next ≡ t.members.next + 1
    → seen ≡ record t { members = after; subscriptions = with_item t.subscriptions place y } → Some v ≡ slice_get (set t.subscriptions.items place y) place
    → AgreesAfter (Joined ranges m.number) (agrees before) (agrees told) (state_of seen) (sub_in (log_of seen) v)
    → LetsIn place ranges m t (record t { members = after; subscriptions = with_item t.subscriptions place y }) before told
lets_in t seen place m ranges x y v after before told may number at is members next same at_v agreeing =
    let new : Parts = record t { members = after; subscriptions = with_item t.subscriptions place y } in
    let s : State = state_of t in
    record {
      log = refl;
      state =
          ap₂ (λ (ms : List Member) (n : ℕ). record s { members = ms; next_consumer = n; subscriptions = map (sub_in (log_of t)) (set t.subscriptions.items place y) }) members next
          ∙ ap (λ (subs : List Subscription). record (entered s ranges m) { subscriptions = subs }) (subs_entered t place m ranges x may number at y is);
      tied = subst (λ (ms : List Member). All (IsPlacedIn (log_of t) ms) (set t.subscriptions.items place y)) (sym members) (tied_entered t place m ranges x may number at y is);
      names = names_written t.subscriptions.items place x y at (ap (λ (p : Placed). p.name) is);
      told = λ p at_p. told_as_there (Joined ranges m.number) (agrees before) (agrees told) place seen new v p same at_v at_p agreeing;
    }

-- the member was taken back
pub stays_as : (t : Parts) (place : ℕ) (x y z : Placed) (after : MemberList) → place < length t.subscriptions.items → x ≡ get_or t.subscriptions.items place x → z ≡ x → after.members ≡ t.members.members → after.next ≡ t.members.next
    → StaysAs t (record t { members = after; subscriptions = with_item (with_item t.subscriptions place y) place z })
stays_as t place x y z after low at back members next = record {
  rest = refl;
  members = members;
  next = next;
  items = set_twice t.subscriptions.items place y z ∙ written_back t.subscriptions.items place x z at back;
}
