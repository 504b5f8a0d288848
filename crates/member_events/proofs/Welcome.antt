-- A consumer that is not turned away may enter the subscription: nobody has its number, nor a share under it.
use Rattle.std.proofs.Common.{◌≡◌, ℕ, ◌<◌, ◌^◌, List, [], ◌∷◌, length, map, Option, Some, None, Bool, true, false, cond, All, get_or, inl, inr, refl, ap, ap₂, ◌∙◌, sym, subst, arith}
use Rattle.std.specs.Prelude.{not, ◌&&◌, nat_lt, slice_get, is_some, if◌then◌else◌}
use Rattle.std.specs.List.{filter, find, list_any, position}
use Rattle.std.specs.Option.{option_map_or}
use Rattle.std.proofs.lemmas.Bool.Decides.{nat_tests}
use Rattle.std.proofs.lemmas.List.Elements.{All-contains, All-head, All-tail}
use Rattle.std.proofs.lemmas.Option.{get_or_from_slice_get, same_Some, slice_get_within}
use Rattle.position_core.specs.declared.topic_name.TopicName.{TopicName}
use Rattle.position_core.specs.declared.kind.Kind.{Kind}
use Rattle.position_core.specs.declared.ranges.HashRange.{HashRange}
use Rattle.position_core.specs.declared.kind.Kind.TheVariants.{KeyShared}
use Rattle.position_core.specs.Kind.{same_kind}
use Rattle.delivery_machine.specs.State.{State, Member, Subscription}
use Rattle.delivery_machine.specs.Words.{has_kind, is_at, is_member, is_named, members_of}
use Rattle.delivery_machine.specs.Shares.{Shares, asks_taken, is_share_of, mixes, no_shares}
use Rattle.delivery_machine.specs.WellFormed.{IsWellFormed, IsWellFormedIn}
use Rattle.delivery_machine.specs.declared.event.Initial.{Initial}
use Rattle.machine_laws.proofs.TurnedAway.{IsLetIn, is_let_in}
use Rattle.delivery_machine.proofs.Deciding.{apart_below, both_false, or_false}
use Rattle.delivery_machine.proofs.Kept.{kinds_agree}
use Rattle.machine_laws.proofs.SharesByMode.{nobody_shares}
use Rattle.machine_laws.proofs.Named.{AreNamed, named_placed}
use Rattle.topic_served.specs.Stepping.{opened, unshared}
use Rattle.topic_members.specs.declared.member.Terms.{Terms}
use Rattle.topic_members.specs.Joined.{Joined}
use Rattle.topic_subscriptions.specs.Placed.{KeepsPolicy, Placed, is_placed, sub_in}
use Rattle.topic_parts.specs.declared.parts.Parts.{Parts}
use Rattle.topic_parts.specs.Parts.{AreTied, log_of, state_of}
use Rattle.topic_parts.proofs.Changing.{named_sub}
use Rattle.topic_served.specs.declared.served.Served.{Served}
use Rattle.topic_served.specs.Served.{state_in}
use Rattle.topic_served.proofs.Settled.{well_of}
use Rattle.topic_served.proofs.Telling.{at_place}
use Rattle.member_events.specs.Entering.{AsksWell, HasNoShares, IsAllowed, IsWelcome, MayEnter}
use Rattle.member_events.proofs.Standing.{are_ordered, its_name, one_there}

-- ---- what the tests say

no_more : (ms : List Member) → length ms ≡ 0 → ms ≡ []
no_more [] none = refl
no_more (m ∷ ms) none = absurd (omega arith)

module _ (s : State) (name : List ℕ) (kind : Kind) (terms : Terms) (dead_topic : TopicName) (ranges : Option (List HashRange)) (allowed : IsAllowed s name kind terms dead_topic ranges) where
  let_in : IsLetIn s name kind ranges
  let_in = is_let_in s name kind terms.max_redeliver dead_topic ranges (sym allowed)

  -- where the kind is another
  pub nobody_there : has_kind s name kind ≡ false → members_of s name ≡ []
  nobody_there other = no_more (members_of s name) (none (length (members_of s name)) (has_kind s name kind) let_in.of_kind other)
    where
      none : (n : ℕ) (b : Bool) → (nat_lt 0 n && not b) ≡ false → b ≡ false → n ≡ 0
      none n b e f = grind (arith, nat_tests)

-- ---- numbers and shares

nobody_yet : (next : ℕ) (ms : List Member) → All (λ n. n < next) (map (λ (m : Member). m.number) ms) → list_any (is_member next) ms ≡ false
nobody_yet next [] below = refl
nobody_yet next (m ∷ ms) below =
    let numbers = map (λ (x : Member). x.number) ms in
    both_false (is_member next m) (list_any (is_member next) ms) (apart_below m.number next (All-head (λ n. n < next) m.number numbers below)) (nobody_yet next ms (All-tail (λ n. n < next) m.number numbers below))

none_among : (p q : Member → Bool) (ms : List Member) → list_any p ms ≡ false → list_any p (filter q ms) ≡ false
none_among p q [] none = refl
none_among p q (m ∷ ms) none =
    let both = or_false (p m) (list_any p ms) none in
    by (q m) both.0 (none_among p q ms both.1)
  where
    by : (b : Bool) → p m ≡ false → list_any p (filter q ms) ≡ false → list_any p (cond b (m ∷ filter q ms) (filter q ms)) ≡ false
    by true here rest = both_false (p m) (list_any p (filter q ms)) here rest
    by false here rest = rest

module _ (t : Parts) (place : ℕ) (p : Placed) (well : IsWellFormed (state_of t)) (at : Some p ≡ slice_get t.subscriptions.items place) where
  abbrev sub : Subscription
  sub = sub_in (log_of t) p

  well_there : IsWellFormedIn (state_of t) sub
  well_there =
      let subs = (state_of t).subscriptions in
      let there = at_place t place p at in
      All-contains (IsWellFormedIn (state_of t)) subs sub well.subscriptions (place, slice_get_within subs place sub there, get_or_from_slice_get subs place sub sub there)

  none_shares : (number : ℕ) → list_any (is_member number) (members_of (state_of t) p.name) ≡ false → list_any (is_share_of number) p.shares.blocks ≡ false
  none_shares number none = well_there.sharers number ∙ ap (λ b. same_kind p.kind KeyShared && b) none ∙ never (same_kind p.kind KeyShared)
    where
      never : (b : Bool) → (b && false) ≡ false
      never true = refl
      never false = refl

  new_has_none : list_any (is_share_of t.members.next) p.shares.blocks ≡ false
  new_has_none = none_shares t.members.next (none_among (is_member t.members.next) (is_at p.name) t.members.members (nobody_yet t.members.next t.members.members well.members.below))

  pub unshared_there : members_of (state_of t) p.name ≡ [] → p.shares ≡ no_shares
  unshared_there nobody = nobody_shares p.shares well_there.shares (λ number. none_shares number (ap (list_any (is_member number)) nobody))

-- ---- it may enter

module _ (c : Served) (name : List ℕ) (kind : Kind) (terms : Terms) (dead_topic : TopicName) (ranges : Option (List HashRange)) (welcome : IsWelcome c name kind terms dead_topic ranges) where
  abbrev s : State
  s = state_in c

  pub well : IsWellFormed s
  well = well_of s welcome.settled.reached

  pub may_enter : (place : ℕ) → Some place ≡ position (is_placed name) c.parts.subscriptions.items → MayEnter c.parts place name
  may_enter place named = record {
    tied = welcome.settled.bound.tied;
    ordered = are_ordered c.parts well.names;
    named = named;
    fresh = nobody_yet s.next_consumer s.members well.members.below;
    few = (let_in s name kind terms dead_topic ranges welcome.allowed).few;
    unshared = λ p at. new_has_none c.parts place p well at;
    room = welcome.room;
    left = (let_in s name kind terms dead_topic ranges welcome.allowed).number;
  }

  -- in the subscription at the place, whose kind it has, it asks for nothing that is taken
  pub asks_well : (place : ℕ) (x : Placed) → Some place ≡ position (is_placed name) c.parts.subscriptions.items → x ≡ get_or c.parts.subscriptions.items place x → x.kind ≡ kind → AsksWell c.parts place ranges
  asks_well place x named at_x same p at_p = (free, policy)
    where
      p_is : p ≡ x
      p_is = same_Some p x (at_p ∙ sym (one_there c.parts.subscriptions.items name place x named at_x))

      kind_is : p.kind ≡ kind
      kind_is = ap (λ (q : Placed). q.kind) p_is ∙ same

      found : find (is_named name) s.subscriptions ≡ Some (sub_in (log_of c.parts) x)
      found = named_sub (log_of c.parts) c.parts.subscriptions.items name place named x at_x

      passes : IsLetIn s name kind ranges
      passes = let_in s name kind terms dead_topic ranges welcome.allowed

      free : asks_taken p.kind ranges p.shares ≡ false
      free =
          ap₂ (λ (k : Kind) (z : Shares). asks_taken k ranges z) kind_is (ap (λ (q : Placed). q.shares) p_is)
          ∙ sym (ap (λ (o : Option Subscription). option_map_or (λ sub. asks_taken kind ranges sub.shares) o false) found) ∙ passes.free

      name_is : p.name ≡ name
      name_is = ap (λ (q : Placed). q.name) p_is ∙ its_name c.parts.subscriptions.items name place x named at_x

      mixes_not : nat_lt 0 (length (members_of s name)) ≡ true → mixes p.kind ranges p.shares ≡ false
      mixes_not some =
          ap₂ (λ (k : Kind) (z : Shares). mixes k ranges z) kind_is (ap (λ (q : Placed). q.shares) p_is)
          ∙ sym (ap (λ b. b && mixes kind ranges x.shares) some)
          ∙ sym (ap (λ (o : Option Subscription). nat_lt 0 (length (members_of s name)) && option_map_or (λ sub. mixes kind ranges sub.shares) o false) found) ∙ passes.policy

      none : (ms : List Member) → nat_lt 0 (length ms) ≡ false → ms ≡ []
      none ms e = no_more ms (zero_is (length ms) e)
        where
          zero_is : (n : ℕ) → nat_lt 0 n ≡ false → n ≡ 0
          zero_is n e = grind (arith, nat_tests)

      there : IsWellFormedIn s (sub_in (log_of c.parts) p)
      there = well_there c.parts place p well at_p

      -- in the other kinds nobody has a share
      of_key : same_kind p.kind KeyShared ≡ true → nat_lt 0 (length (members_of s name)) ≡ true → KeepsPolicy ranges p.shares
      of_key key some = inr (same_policy p.shares.sticky (is_some ranges) (sym (mixes_key p.kind ranges p.shares (kinds_agree p.kind KeyShared key)) ∙ mixes_not some), there.shares)
        where
          mixes_key : (k : Kind) (rs : Option (List HashRange)) (z : Shares) → k ≡ KeyShared → mixes k rs z ≡ (if z.sticky then not (is_some rs) else is_some rs)
          mixes_key k rs z is = ap (λ (l : Kind). mixes l rs z) is

          same_policy : (a b : Bool) → (if a then not b else b) ≡ false → a ≡ b
          same_policy a b e = grind (arith, nat_tests)

      of_none : same_kind p.kind KeyShared ≡ false → KeepsPolicy ranges p.shares
      of_none other = inl (nobody_shares p.shares there.shares (λ number. there.sharers number ∙ ap (λ b. b && list_any (is_member number) (members_of s p.name)) other))

      policy : KeepsPolicy ranges p.shares
      policy = by (nat_lt 0 (length (members_of s name))) refl (same_kind p.kind KeyShared) refl
        where
          by : (b : Bool) → nat_lt 0 (length (members_of s name)) ≡ b → (k : Bool) → same_kind p.kind KeyShared ≡ k → KeepsPolicy ranges p.shares
          by true some true key = of_key key some
          by b some false other = of_none other
          by false nobody true key = inl (unshared_there c.parts place p well at_p (ap (λ (n : List ℕ). members_of s n) name_is ∙ none (members_of s name) nobody))

  -- the subscription that was made for it
  pub may_enter_new : (new : Parts) (place : ℕ) (initial : Initial) → find (is_named name) s.subscriptions ≡ None → state_of new ≡ opened s name kind initial → new.members ≡ c.parts.members
      → AreTied new → Some place ≡ position (is_placed name) new.subscriptions.items → HasNoShares new place → MayEnter new place name
  may_enter_new new place initial absent state members tied named unshared_new = record {
    tied = tied;
    ordered = are_ordered new (subst (λ (u : State). AreNamed u.subscriptions) (sym state) (named_placed (unshared name kind initial s.log) s.subscriptions absent well.names));
    named = named;
    fresh = ap (λ (ms : Joined). list_any (is_member ms.next) ms.members) members ∙ nobody_yet s.next_consumer s.members well.members.below;
    few = subst (λ (ms : Joined). length (filter (is_at name) ms.members) < 64) (sym members) (let_in s name kind terms dead_topic ranges welcome.allowed).few;
    unshared = λ p at. ap (λ (z : Shares). list_any (is_share_of new.members.next) z.blocks) (unshared_new p at);
    room = subst (λ (ms : Joined). 0 < ms.room) (sym members) welcome.room;
    left = subst (λ (ms : Joined). ms.next < 2 ^ 63) (sym members) ((let_in s name kind terms dead_topic ranges welcome.allowed).number);
  }
