-- A snapshot has the dead letters of the topic, and tells whether it may be deleted.
use Rattle.std.proofs.Common.{◌≡◌, ◌↔◌, ◌+◌, ◌≤◌, zero, suc, List, [], ◌∷◌, map, length, refl, ap, subst, sym, arith}
use Rattle.std.specs.Prelude.{All, ◌^◌}
use Rattle.std.proofs.lemmas.List.Elements.{All-map}
use Rattle.delivery_machine.specs.State.{State, Member, Producer}
use Rattle.delivery_machine.specs.Places.{KeptPlaces, KeptTopic, kept_in, snapshot_in}
use Rattle.delivery_machine.specs.Snapshot.{KeptSubscription, Snapshot, kept_of, snapshot_of}
use Rattle.topic_shared.specs.Kept.{IsVacant}
use Rattle.topic_lives.specs.Deleting.{HasNoLetter, IsDeletable, IsDeserted}

-- what holds of all images
pub all_of_map : {X Y : Type 0} (P : X → Type 0) (f : Y → X) (ys : List Y) → All P (map f ys) → All (λ y. P (f y)) ys
all_of_map P f [] all n d lt = absurd (omega (arith, lt))
all_of_map P f (y ∷ ys) all zero d lt = all 0 (f d) (omega arith)
all_of_map P f (y ∷ ys) all (suc n) d lt = all_of_map P f ys (λ m e within. all (suc m) e (omega (arith, within))) n d (omega (arith, lt))

abbrev IsWithout : KeptSubscription → Type 0
IsWithout sub = sub.dead ≡ []

-- what is kept has no letter exactly where the state has none
pub no_letter : (s : State) (kept : KeptTopic) → snapshot_in kept ≡ snapshot_of s → All (λ (sub : KeptPlaces). sub.dead ≡ []) kept.subscriptions ↔ HasNoLetter s
no_letter s kept same = (
  λ none. all_of_map IsWithout kept_of s.subscriptions (subst (All IsWithout) subs (All-map IsWithout (kept_in kept.log) kept.subscriptions none)),
  λ none. all_of_map IsWithout (kept_in kept.log) kept.subscriptions (subst (All IsWithout) (sym subs) (All-map IsWithout kept_of s.subscriptions none)),
)
  where
    subs : map (kept_in kept.log) kept.subscriptions ≡ map kept_of s.subscriptions
    subs = ap (λ (x : Snapshot). x.subscriptions) same

-- ---- who may be deleted

none_mapped : {X Y : Type 0} (f : X → Y) (xs : List X) → map f xs ≡ [] → xs ≡ []
none_mapped f [] none = refl
none_mapped f (x ∷ xs) none = cc

-- nobody is connected where nobody is at the topic
pub deserted : (s : State) → IsVacant s ↔ IsDeserted s
deserted s = (
  λ vacant. (none_mapped (λ (p : Producer). p.number) s.producers vacant.0, none_mapped (λ (m : Member). m.number) s.members vacant.1),
  λ none. (ap (map (λ (p : Producer). p.number)) none.0, ap (map (λ (m : Member). m.number)) none.1),
)

-- where nobody is connected, the snapshot tells whether the topic may be deleted
pub deletable : (s : State) (kept : KeptTopic) → snapshot_in kept ≡ snapshot_of s → IsVacant s
    → (All (λ (sub : KeptPlaces). sub.dead ≡ []) kept.subscriptions × (kept.gone + length kept.log ≤ 2 ^ 62)) ↔ IsDeletable s
deletable s kept same vacant = (
  λ may. record { deserted = (deserted s).0 vacant; letters = (no_letter s kept same).0 may.0; count = subst (λ (x : Snapshot). x.gone + length x.log ≤ 2 ^ 62) same may.1 },
  λ may. ((no_letter s kept same).1 may.letters, subst (λ (x : Snapshot). x.gone + length x.log ≤ 2 ^ 62) (sym same) may.count),
)
