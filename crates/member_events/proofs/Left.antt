-- A member that goes, with nothing pending at it: in the machine's words, and that the others stay tied.
use Rattle.std.proofs.Common.{◌≡◌, ◌≢◌, ℕ, List, map, Some, All, get_or, set, slice_get, false, refl, ap, ◌∙◌, sym, subst}
use Rattle.std.specs.List.{find, position}
use Rattle.std.specs.Str.{bytes_eq}
use Rattle.std.specs.FinMap as map_of
use Rattle.std.proofs.lemmas.List.Elements.{All-contains}
use Rattle.std.proofs.lemmas.Option.{get_or_from_slice_get, slice_get_within}
use Rattle.position_core.specs.declared.position.Position.{Position}
use Rattle.delivery_machine.specs.State.{Member}
use Rattle.delivery_machine.specs.Words.{changed, is_at, is_held_by, is_member, is_named, removed}
use Rattle.delivery_machine.specs.Joining.{leaving, without_member}
use Rattle.delivery_machine.proofs.Deciding.{number_is}
use Rattle.delivery_machine.proofs.Firsts.{found_passes}
use Rattle.dispatch_core.specs.Changes.{Left}
use Rattle.topic_served.specs.Happening.{HappensAt}
use Rattle.topic_served.proofs.Leaving.{left_without}
use Rattle.topic_served.proofs.Naming.{names_apart}
use Rattle.topic_members.specs.Members.{NumbersRise}
use Rattle.topic_subscriptions.specs.Placed.{IsPlacedIn, Placed, is_placed, left_by, sub_in}
use Rattle.topic_subscriptions.proofs.Lines.{left_in, left_placed, line_left}
use Rattle.topic_parts.specs.declared.parts.Parts.{Parts}
use Rattle.topic_parts.specs.Parts.{AreTied, log_of, state_of}
use Rattle.topic_parts.proofs.Acknowledged.{placed_beside}
use Rattle.topic_parts.proofs.Changing.{changed_sub, placed_there}
use Rattle.topic_served.proofs.Telling.{at_place, named_place, place_within}
use Rattle.member_events.specs.Places.{AreOrdered}
use Rattle.member_events.proofs.Standing.{all_but, are_named, its_name, one_there}

module _ (t : Parts) (place consumer : ℕ) (m : Member) (x y : Placed) (ordered : AreOrdered t) (numbers : NumbersRise t.members.members) (named : Some place ≡ position (is_placed m.subscription) t.subscriptions.items)
    (at : x ≡ get_or t.subscriptions.items place x) (is : y ≡ left_by consumer x) (found : find (is_member consumer) t.members.members ≡ Some m) where
  abbrev subs : List Placed
  subs = t.subscriptions.items

  abbrev ms : List Member
  ms = t.members.members

  stands : Some x ≡ slice_get subs place
  stands = one_there subs m.subscription place x named at

  elsewhere : (k : ℕ) (other : Placed) → k ≢ place → slice_get subs k ≡ Some other → is_at other.name m ≡ false
  elsewhere k other differs at_k =
      ap (λ (n : List ℕ). bytes_eq n other.name) (sym (its_name subs m.subscription place x named at))
      ∙ names_apart (state_of t).subscriptions place k (sub_in (log_of t) x) (sub_in (log_of t) other) (are_named t ordered) differs (at_place t place x stands) (at_place t k other (sym at_k))

  pub tied_left : AreTied t → All (IsPlacedIn (log_of t) (removed (is_member consumer) ms)) (set subs place y)
  tied_left tied =
      all_but (IsPlacedIn (log_of t) (removed (is_member consumer) ms)) subs place y (place_within (is_placed m.subscription) subs place named)
      (subst (λ (p : Placed). IsPlacedIn (log_of t) (removed (is_member consumer) ms) p) (sym is)
      (left_placed (log_of t) ms consumer x numbers (placed_there (log_of t) subs m.subscription place named ms x tied at)))
      (λ k other differs at_k.
      placed_beside (log_of t) ms (removed (is_member consumer) ms) other (line_left other.name ms consumer m found (elsewhere k other differs at_k))
      (All-contains (IsPlacedIn (log_of t) ms) subs other tied (k, slice_get_within subs k other at_k, get_or_from_slice_get subs k other other at_k)))

  pub subs_left : ((q : Position) → is_held_by consumer (map_of.get x.pending.pending q) ≡ false) → map (sub_in (log_of t)) (set subs place y) ≡ changed (is_named m.subscription) (leaving consumer) (map (sub_in (log_of t)) subs)
  subs_left idle = changed_sub (log_of t) subs m.subscription place named (leaving consumer) x y at (ap (sub_in (log_of t)) is ∙ left_in (log_of t) x consumer idle)

  pub happens_left : ((q : Position) → is_held_by consumer (map_of.get x.pending.pending q) ≡ false)
      → HappensAt place (Left consumer) (state_of t) (sub_in (log_of t) x) (without_member (state_of t) consumer m.subscription) (leaving consumer (sub_in (log_of t) x))
  happens_left idle =
      let number : m.number ≡ consumer = number_is m.number consumer (found_passes (is_member consumer) ms m found) in
      subst (λ (n : ℕ). HappensAt place (Left n) (state_of t) (sub_in (log_of t) x) (without_member (state_of t) n m.subscription) (leaving n (sub_in (log_of t) x))) number
      (left_without (state_of t) m.subscription place (sub_in (log_of t) x) m (record {
        named = are_named t ordered;
        numbers = numbers;
        place = named_place t m.subscription place named;
        was = at_place t place x stands;
        found = subst (λ (n : ℕ). find (is_member n) ms ≡ Some m) (sym number) found;
        at = refl;
        idle = λ q. ap (λ (n : ℕ). is_held_by n (map_of.get x.pending.pending q)) number ∙ idle q;
      }))
