-- Which pairs of a Shared subscription are eligible.
use Rattle.std.proofs.Common.{◌≡◌, ℕ, ◌≤◌, ◌∙◌, List, [], ◌∷◌, map, Bool, true, false, cond, Some, None, get_or, length, refl, sym, ap, subst, arith, inl, inr}
use Rattle.std.specs.Prelude.{◌&&◌}
use Rattle.std.specs.List.{filter, All, Contains}
use Rattle.std.proofs.lemmas.Bool.Decides.{nat_tests}
use Rattle.std.proofs.lemmas.List.{get_or-map, length-map}
use Rattle.std.proofs.lemmas.Option.{slice_get_cases, none-some}
use Rattle.position_core.specs.declared.kind.Kind.{Kind}
use Rattle.position_core.specs.declared.kind.Kind.TheVariants.{Shared}
use Rattle.position_core.specs.declared.message.Entry.{Entry}
use Rattle.delivery_machine.specs.State.{State, Subscription, Member}
use Rattle.delivery_machine.specs.Words.{is_at, has_room, with_room, visible, ChoosesBy, IsNextAtBestLevel, NoneEligible}
use Rattle.delivery_machine.proofs.Passes.{passes}
use Rattle.dispatch_core.specs.Log.{IsNextReady, NoneReady}
use Rattle.dispatch_core.specs.Offers.{seen_of, IsGoodOffer}
use Rattle.dispatch_core.specs.declared.view.Seen.{Seen}
use Rattle.dispatch_core.proofs.Ready.{first_waiting-next, first_waiting-none}
use Rattle.dispatch_shared.specs.Turn.{pair_of, roomy, goes_first, IsFirst}
use Rattle.delivery_machine.proofs.Deciding.{and_second}

-- ---- the members with room, and as they are seen

-- what passes both tests, the second of its picture
filter-map-filter : {A B : Type 0} (p : A → Bool) (f : A → B) (q : B → Bool) (xs : List A) → filter q (map f (filter p xs)) ≡ map f (filter (λ x. p x && q (f x)) xs)
filter-map-filter p f q [] = refl
filter-map-filter {A} {B} p f q (x ∷ xs) =
    by_first (filter p xs) (filter (λ y. p y && q (f y)) xs) (p x) (filter-map-filter p f q xs)
  where
    by_second : (here : List B) (there : List A) (t : Bool) → here ≡ map f there → cond t (f x ∷ here) here ≡ map f (cond t (x ∷ there) there)
    by_second here there true same = ap (λ (ys : List B). f x ∷ ys) same
    by_second here there false same = same

    by_first : (here there : List A) (t : Bool) → filter q (map f here) ≡ map f there → filter q (map f (cond t (x ∷ here) here)) ≡ map f (cond (t && q (f x)) (x ∷ there) there)
    by_first here there true same = by_second (filter q (map f here)) there (q (f x)) same
    by_first here there false same = same

roomy-with_room : (s : State) (sub : Subscription) → roomy s sub ≡ map (seen_of s sub) (with_room s sub)
roomy-with_room s sub = filter-map-filter (is_at sub.name) (seen_of s sub) (λ seen. seen.room) s.members

has_room-with_room : (s : State) (sub : Subscription) (m : Member) → Contains (with_room s sub) m → has_room s sub m ≡ true
has_room-with_room s sub m at =
    and_second (is_at sub.name m) (has_room s sub m)
    (passes (λ (x : Member). is_at sub.name x && has_room s sub x) s.members m at)

at_best_level : (last : ℕ) (a b : ℕ × ℕ) → goes_first last b a ≡ false → a.1 ≤ b.1
at_best_level last a b behind = grind (arith, nat_tests)

-- ---- eligible pairs

next_at_best : (s : State) (sub : Subscription) (e : Entry) (m : Member) → sub.kind ≡ Shared → ChoosesBy sub.kind s sub e m → IsNextAtBestLevel s sub e m
next_at_best s sub e m kind chosen = subst (λ (k : Kind). ChoosesBy k s sub e m) kind chosen

pub none_without_message : (s : State) (sub : Subscription) → sub.kind ≡ Shared → NoneReady s sub 0 → NoneEligible s sub
none_without_message s sub kind none e m pair =
    none-some e (sym (first_waiting-none s sub e none) ∙ (next_at_best s sub e m kind pair.1).0)

pub none_without_room : (last : ℕ) (s : State) (sub : Subscription) → sub.kind ≡ Shared → IsFirst last (roomy s sub) None → NoneEligible s sub
none_without_room last s sub kind none e m pair =
    let at = (next_at_best s sub e m kind pair.1).1 in
    let nobody = ap length (sym (roomy-with_room s sub) ∙ none) in
    absurd (omega (arith, at.1, nobody, length-map (with_room s sub) (seen_of s sub)))

-- the member with room that is seen to go first is of the best level
record IsServed (s : State) (sub : Subscription) (seen : Seen) (m : Member) : Type 0 where
  is : seen ≡ seen_of s sub m
  at : Contains (with_room s sub) m
  best : All (λ other. m.level ≤ other.level) (with_room s sub)

served : (last : ℕ) (s : State) (sub : Subscription) (seen : Seen) → IsFirst last (roomy s sub) (Some seen) → (m : Member) × IsServed s sub seen m
served last s sub seen first = among (subst (λ (ys : List Seen). IsFirst last ys (Some seen)) (roomy-with_room s sub) first)
  where
    among : IsFirst last (map (seen_of s sub) (with_room s sub)) (Some seen) → (m : Member) × IsServed s sub seen m
    among here =
        let k : ℕ = here.0.0 in
        let as_many = length-map (with_room s sub) (seen_of s sub) in
        elim (slice_get_cases (with_room s sub) k).1 [
          | inl at ↦
              let is : seen ≡ seen_of s sub at.0 = sym here.0.2 ∙ get_or-map (seen_of s sub) (with_room s sub) k at.0 seen at.1 ∙ ap (seen_of s sub) at.3 in (
                at.0,
                record {
                  is = is;
                  at = (k, at.1, at.3);
                  best = λ j d below.
                      let behind : goes_first last (pair_of (seen_of s sub (get_or (with_room s sub) j d))) (pair_of seen) ≡ false =
                      ap (λ (y : Seen). goes_first last (pair_of y) (pair_of seen)) (sym (get_or-map (seen_of s sub) (with_room s sub) j d (seen_of s sub d) below)) ∙ here.1 j (seen_of s sub d) (omega (arith, below, as_many)) in
                      omega (arith, at_best_level last (pair_of seen) (pair_of (seen_of s sub (get_or (with_room s sub) j d))) behind, ap (λ (y : Seen). y.level) is);
                },
              )
          | inr past ↦ absurd (omega (arith, past.0, here.0.1, as_many))
        ]

-- the first waiting message may be sent to the member with room that goes first
pub good_offer : (last : ℕ) (s : State) (sub : Subscription) (i : ℕ) (seen : Seen) → sub.kind ≡ Shared → IsNextReady s sub 0 i → IsFirst last (roomy s sub) (Some seen) → IsGoodOffer s sub (record { index = i; consumer = seen.consumer })
good_offer last s sub i seen kind next first =
    let to = served last s sub seen first in
    elim (slice_get_cases (visible s) i).1 [
      | inl at ↦ record {
        message = at.0;
        member = to.0;
        found = at.2;
        number = sym (ap (λ (x : Seen). x.consumer) to.1.is);
        eligible = (
          has_room-with_room s sub to.0 to.1.at,
          subst (λ (k : Kind). ChoosesBy k s sub at.0 to.0) (sym kind) (first_waiting-next s sub i at.0 next ∙ ap Some at.3, to.1.at, to.1.best),
        );
      }
      | inr past ↦ absurd (omega (arith, past.0, next.ready.seen))
    ]
