-- A subscription without members that takes another kind.
use Rattle.std.proofs.Common.{◌≡◌, ℕ, ◌<◌, List, [], map, length, Option, Some, All, get_or, set, slice_get, refl, ap, ◌∙◌, sym, subst, subst₂}
use Rattle.std.specs.Prelude.{Vec}
use Rattle.std.specs.List.{filter, list_any}
use Rattle.std.specs.Vec.{with_item}
use Rattle.position_core.specs.declared.kind.Kind.{Kind}
use Rattle.position_core.specs.declared.message.Entry.{Entry}
use Rattle.dedup_core.specs.Sequences.{AgreesWith}
use Rattle.delivery_machine.specs.State.{State, Member, Subscription}
use Rattle.delivery_machine.specs.Words.{is_at, members_of}
use Rattle.delivery_machine.specs.WellFormed.{NamesRise}
use Rattle.topic_served.specs.Agreeing.{agrees}
use Rattle.topic_served.specs.Stepping.{of_kind, with_kind}
use Rattle.topic_served.specs.Told.{AreTold}
use Rattle.topic_served.specs.declared.dispatch.Dispatch.{Dispatch}
use Rattle.topic_served.proofs.Agreed.{told_at}
use Rattle.topic_served.proofs.Coming.{others_of_kind}
use Rattle.topic_served.proofs.Spots.{set_at}
use Rattle.std.proofs.lemmas.Option.{get_or_from_slice_get, same_Some}
use Rattle.position_core.specs.declared.ranges.HashRange.{HashRange}
use Rattle.delivery_machine.specs.Shares.{Shares, is_share_of, no_shares}
use Rattle.topic_served.specs.Happening.{OthersKept}
use Rattle.topic_log.specs.Written.{all_of, Written}
use Rattle.topic_subscriptions.specs.Placed.{IsPlacedIn, Placed, is_placed, sub_in}
use Rattle.topic_subscriptions.proofs.Changes.{still_live}
use Rattle.topic_parts.specs.declared.parts.Parts.{Parts}
use Rattle.topic_parts.specs.Parts.{log_of, state_of}
use Rattle.topic_parts.proofs.Changing.{changed_sub, placed_there, tied_at, written_back}
use Rattle.topic_served.specs.declared.served.Served.{Served}
use Rattle.topic_served.specs.Served.{IsBound}
use Rattle.topic_served.proofs.Telling.{are_told_within, at_place, named_place, place_within}
use Rattle.member_events.specs.Places.{names_of}
use Rattle.member_events.specs.Entering.{AsksWell, HasNoShares, IsBareAt, MayEnter, StaysAs}
use Rattle.member_events.proofs.Entered.{same_state, same_ties, set_twice}
use Rattle.member_events.proofs.Asking.{asks_none}
use Rattle.member_events.proofs.Standing.{its_name, names_written, one_there, same_place}

kinded_placed : (log : List Entry) (ms : List Member) (p : Placed) (kind : Kind) → IsPlacedIn log ms p → IsPlacedIn log ms (record p { kind = kind })
kinded_placed log ms p kind placed = record {
  within = placed.within;
  buried_within = placed.buried_within;
  live = placed.live;
  line = placed.line;
  pending = λ q key. still_live log p (record p { kind = kind }) q (placed.pending q key) (placed.pending q key).live;
  counted = λ q key. still_live log p (record p { kind = kind }) q (placed.counted q key) (placed.counted q key).live;
}

module _ (t : Parts) (place : ℕ) (name : List ℕ) (kind : Kind) (x y : Placed) (may : MayEnter t place name) (at : x ≡ get_or t.subscriptions.items place x) (is : y ≡ record x { kind = kind }) where
  abbrev subs : List Placed
  subs = t.subscriptions.items

  abbrev now : Parts
  now = record t { subscriptions = with_item t.subscriptions place y }

  low : place < length t.subscriptions.items
  low = place_within (is_placed name) subs place may.named

  pub written : Some y ≡ slice_get (set subs place y) place
  written = sym (set_at subs place y low)

  pub tied_kind : All (IsPlacedIn (log_of t) t.members.members) (set subs place y)
  tied_kind =
      tied_at (log_of t) t.members.members t.members.members subs place y (λ _. refl) may.tied
      (subst (λ (p : Placed). IsPlacedIn (log_of t) t.members.members p) (sym is)
      (kinded_placed (log_of t) t.members.members x kind (placed_there (log_of t) subs name place may.named t.members.members x may.tied at)))

  pub names_kind : names_of (set subs place y) ≡ names_of subs
  names_kind = names_written subs place x y at (ap (λ (p : Placed). p.name) is)

  pub none_shared : HasNoShares t place → y.shares ≡ no_shares
  none_shared none = ap (λ (p : Placed). p.shares) is ∙ none x (one_there subs name place x may.named at)

  pub bare_kind : members_of (state_of t) name ≡ [] → HasNoShares t place → IsBareAt now place kind
  bare_kind nobody none = record {
    sub = y;
    there = written;
    of_kind = sym (ap (λ (p : Placed). p.kind) is);
    nobody = ap (λ (n : List ℕ). filter (is_at n) t.members.members) (ap (λ (p : Placed). p.name) is ∙ its_name subs name place x may.named at) ∙ nobody;
    unshared = none_shared none;
  }

  pub may_still : HasNoShares t place → MayEnter now place name
  may_still none = record {
    tied = tied_kind;
    ordered = subst NamesRise (sym names_kind) may.ordered;
    named = may.named ∙ sym (same_place subs (set subs place y) name names_kind);
    fresh = may.fresh;
    few = may.few;
    unshared = λ p at_p. ap (λ (q : Placed). list_any (is_share_of t.members.next) q.shares.blocks) (same_Some p y (at_p ∙ sym written)) ∙ ap (λ (z : Shares). list_any (is_share_of t.members.next) z.blocks) (none_shared none);
    room = may.room;
    left = may.left;
  }

  -- whatever is asked for is nobody's
  pub asks_well : (ranges : Option (List HashRange)) → HasNoShares t place → AsksWell now place ranges
  asks_well ranges none p at_p =
      let p_is = ap (λ (q : Placed). q.shares) (same_Some p y (at_p ∙ sym written)) ∙ none_shared none in
      asks_none p ranges p_is

  pub state_kind : ◌≡◌ {A = State} (record (state_of t) { subscriptions = map (sub_in (log_of t)) (set subs place y) }) (with_kind (state_of t) name kind)
  state_kind = ap (λ (ss : List Subscription). record (state_of t) { subscriptions = ss }) (changed_sub (log_of t) subs name place may.named (of_kind kind) x y at (ap (sub_in (log_of t)) is))

  -- a new dispatcher stands there
  pub told_kind : (ds : List Dispatch) (d : Dispatch) → AreTold ds (state_of t) → agrees d (state_of now) (sub_in (log_of t) y) → AreTold (set ds place d) (state_of now)
  told_kind ds d told agreeing =
      let s : State = state_of t in
      let stands = one_there subs name place x may.named at in
      told_at ds s (state_of now) told place d (sub_in (log_of t) y)
      (subst (λ (u : State). OthersKept place s u) (sym state_kind) (others_of_kind s name place (sub_in (log_of t) x) kind (named_place t name place may.named) (at_place t place x stands)))
      (are_told_within ds t name place told may.named) (at_place now place y written) agreeing

  -- the kind is as it was
  pub taken_back : (left : List Placed) (w z : Placed) (before : Kind) → left ≡ set subs place y → w ≡ get_or left place w → z ≡ record w { kind = before } → before ≡ x.kind → set left place z ≡ subs
  taken_back left w z before same at_w back kind_is =
      let w_is : w ≡ y = at_w ∙ ap (λ (xs : List Placed). get_or xs place w) same ∙ get_or_from_slice_get (set subs place y) place y w (sym written) in
      let z_is : z ≡ x = back ∙ ap (λ (p : Placed). let q : Placed = record p { kind = before } in q) (w_is ∙ is) ∙ ap (λ (k : Kind). let q : Placed = record x { kind = k } in q) kind_is in
      ap (λ (xs : List Placed). set xs place z) same ∙ set_twice subs place y z ∙ written_back subs place x z at z_is

pub bound_stays : (c : Served) (new : Parts) (ds : Vec Dispatch _) → StaysAs c.parts new → ds.items ≡ c.dispatchers.items → IsBound c → IsBound (record { parts = new; dispatchers = ds })
bound_stays c new ds stays same bound = record {
  numbers = subst (λ (w : Written). AgreesWith (all_of w) w.numbers) (sym (ap (λ (p : Parts). p.log) stays.rest)) bound.numbers;
  tied = same_ties c.parts new stays bound.tied;
  told = subst₂ (λ (xs : List Dispatch) (u : State). AreTold xs u) (sym same) (sym (same_state c.parts new stays)) bound.told;
}
