-- A member that joins stands last in the line of its subscription.
use Rattle.std.proofs.Common.{◌≡◌, ℕ, ◌<◌, List, [], ◌∷◌, ◌++◌, map, length, Some, Option, Bool, true, false, cond, refl, ap, ap₂, ◌∙◌, sym, subst, arith}
use Rattle.std.specs.Prelude.{◌≢◌, ◌==◌, ◌||◌, slice_get, is_some, if◌then◌else◌}
use Rattle.std.specs.List.{filter, list_any, position}
use Rattle.std.specs.Str.{bytes_eq}
use Rattle.std.proofs.lemmas.List.{length-map, map-append}
use Rattle.std.proofs.lemmas.List.Elements.{filter-append}
use Rattle.position_core.specs.declared.kind.Kind.{Kind}
use Rattle.position_core.specs.declared.ranges.HashRange.{HashRange}
use Rattle.delivery_machine.specs.State.{State, Subscription, Member}
use Rattle.delivery_machine.specs.Words.{changed, is_at, is_member, is_named, members_of}
use Rattle.delivery_machine.specs.Joining.{joining, placed, new_subscription, with_member}
use Rattle.delivery_machine.specs.declared.event.Initial.{Initial}
use Rattle.delivery_machine.proofs.Behind.{is_same_name}
use Rattle.delivery_machine.proofs.Deciding.{or_false}
use Rattle.machine_laws.proofs.Named.{AreNamed}
use Rattle.delivery_machine.proofs.Places.{find-position}
use Rattle.machine_laws.proofs.Ranks.{those_pushed}
use Rattle.dispatch_core.specs.Log.{line_of}
use Rattle.dispatch_core.specs.Changes.{Joined}
use Rattle.topic_served.specs.Happening.{HappensAt}
use Rattle.topic_served.proofs.Naming.{has_name, names_apart}
use Rattle.topic_served.proofs.Seeing.{pair_of, stays_at, line_of_those, changed_is, others_kept}

-- ---- the line

line_pushed : (s t : State) (sub new : Subscription) (m : Member) → new.name ≡ sub.name → t.members ≡ s.members ++ m ∷ [] → is_at sub.name m ≡ true → line_of t new ≡ line_of s sub ++ (m.number, m.level) ∷ []
unfolding line_of
line_pushed s t sub new m name members at =
    ap₂ (λ (n : List ℕ) (ms : List Member). map pair_of (filter (is_at n) ms)) name members
    ∙ ap (λ (ms : List Member). map pair_of ms) (filter-append (is_at sub.name) s.members (m ∷ []))
    ∙ map-append pair_of (filter (is_at sub.name) s.members) (filter (is_at sub.name) (m ∷ []))
    ∙ ap (λ b. map pair_of (filter (is_at sub.name) s.members) ++ map pair_of (cond b (m ∷ []) [])) at

-- who is nowhere among the members is not in line
not_among : (name : List ℕ) (members : List Member) (consumer : ℕ) → list_any (is_member consumer) members ≡ false → list_any (λ (p : ℕ × ℕ). p.0 == consumer) (map pair_of (filter (is_at name) members)) ≡ false
not_among name [] consumer none = refl
not_among name (m ∷ members) consumer none = by (is_at name m) (or_false (is_member consumer m) _ none).0 (not_among name members consumer (or_false (is_member consumer m) _ none).1)
  where
    by : (b : Bool) → is_member consumer m ≡ false → list_any (λ (p : ℕ × ℕ). p.0 == consumer) (map pair_of (filter (is_at name) members)) ≡ false
        → list_any (λ (p : ℕ × ℕ). p.0 == consumer) (map pair_of (cond b (m ∷ filter (is_at name) members) (filter (is_at name) members))) ≡ false
    by true is rest = ap (λ b. b || list_any (λ (p : ℕ × ℕ). p.0 == consumer) (map pair_of (filter (is_at name) members))) is ∙ rest
    by false is rest = rest

not_in_line : (s : State) (sub : Subscription) (consumer : ℕ) → list_any (is_member consumer) s.members ≡ false → list_any (λ (p : ℕ × ℕ). p.0 == consumer) (line_of s sub) ≡ false
unfolding line_of
not_in_line s sub consumer none = not_among sub.name s.members consumer none

length_of_line : (s : State) (sub : Subscription) → length (line_of s sub) ≡ length (members_of s sub.name)
unfolding line_of
length_of_line s sub = length-map (members_of s sub.name) pair_of

-- ---- joined

-- a member of a number that nobody has may join the subscription, and there is room in its line
pub record MayJoin (s : State) (i : ℕ) (sub : Subscription) (m : Member) : Type 0 where
  pub named : AreNamed s.subscriptions
  pub place : position (is_named m.subscription) s.subscriptions ≡ Some i
  pub was : slice_get s.subscriptions i ≡ Some sub
  pub fresh : list_any (is_member m.number) s.members ≡ false
  pub few : length (members_of s m.subscription) < 64

module _ (s t : State) (i : ℕ) (sub : Subscription) (m : Member) (may : MayJoin s i sub m) (ranges : Option (List HashRange)) (members : t.members ≡ s.members ++ m ∷ []) where
  name : sub.name ≡ m.subscription
  name = has_name s.subscriptions m.subscription i sub may.place may.was

  -- those of other subscriptions stay
  other_line : (k : ℕ) (other : Subscription) → k ≢ i → slice_get s.subscriptions k ≡ Some other → line_of t other ≡ line_of s other
  other_line k other differs at =
      line_of_those s t other
      (ap (λ (ms : List Member). filter (is_at other.name) ms) members
      ∙ those_pushed s.members m other.name (ap (λ (n : List ℕ). bytes_eq n other.name) (sym name) ∙ names_apart s.subscriptions i k sub other may.named differs may.was at))

  -- where nothing else of the log and of the subscriptions changes
  pub joined_at : t.log ≡ s.log → t.durable ≡ s.durable → t.subscriptions ≡ changed (is_named m.subscription) (joining sub.kind ranges m.number) s.subscriptions → HappensAt i (Joined ranges m.number) s sub t (joining sub.kind ranges m.number sub)
  joined_at log durable changes = record {
    was = may.was;
    is = changed_is s t m.subscription (joining sub.kind ranges m.number) i sub may.place may.was changes;
    change = record {
      stays = record { log = record { kind = refl; log = log; durable = durable }; messages = λ k. stays_at s t sub (joining sub.kind ranges m.number sub) k log (λ e _. record { waits = refl; holder = refl }) };
      level = m.level;
      line = line_pushed s t sub (joining sub.kind ranges m.number sub) m refl members (is_same_name m.subscription sub.name (sym name));
      shares = refl;
      absent = not_in_line s sub m.number may.fresh;
      few = omega (arith, length_of_line s sub, ap (λ (n : List ℕ). length (members_of s n)) name, may.few);
    };
    others = others_kept s t m.subscription (joining sub.kind ranges m.number) i sub may.place may.was changes log (omega (arith, durable)) other_line;
  }

-- as the machine has it, where the subscription is there and of the kind
pub joined_with_member : (s : State) (kind : Kind) (ranges : Option (List HashRange)) (initial : Initial) (i : ℕ) (sub : Subscription) (m : Member) → MayJoin s i sub m → sub.kind ≡ kind → HappensAt i (Joined ranges m.number) s sub (with_member s kind ranges initial m) (joining kind ranges m.number sub)
joined_with_member s kind ranges initial i sub m may same =
    subst (λ (k : Kind). HappensAt i (Joined ranges m.number) s sub (with_member s k ranges initial m) (joining k ranges m.number sub)) same
    (joined_at s (with_member s sub.kind ranges initial m) i sub m may ranges refl refl refl
    (ap (λ (o : Option Subscription). if is_some o then changed (is_named m.subscription) (joining sub.kind ranges m.number) s.subscriptions else placed (new_subscription m.subscription sub.kind ranges m.number initial s.log) s.subscriptions)
    (find-position (is_named m.subscription) s.subscriptions i sub may.place)))
