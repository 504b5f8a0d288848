-- A message that is acknowledged, dies, or moves as a dead letter is gone.
use Rattle.std.proofs.Common.{◌≡◌, ℕ, List, [], ◌∷◌, ◌++◌, Some, None, Bool, true, false, cond, drop, refl, ap, ◌∙◌, sym, arith}
use Rattle.std.specs.Prelude.{slice_get, not, ◌&&◌, ◌||◌, nat_lt}
use Rattle.std.specs.List.{list_any}
use Rattle.std.specs.FinSet as set
use Rattle.std.specs.FinMap as map_of
use Rattle.std.proofs.lemmas.List.Folds.{list_any-append}
use Rattle.position_core.specs.declared.position.Position.{Position}
use Rattle.position_core.specs.declared.message.Entry.{Entry}
use Rattle.position_core.specs.Position.{position_cmp, same_position, positions_total, exact_positions}
use Rattle.delivery_machine.specs.State.{State, Subscription, DeadLetter}
use Rattle.delivery_machine.specs.Words.{is_dead, is_live}
use Rattle.delivery_machine.specs.Acknowledging.{is_one_of, acknowledging, with_acknowledged}
use Rattle.delivery_machine.specs.Dying.{burying, first_safe, moving, moved}
use Rattle.delivery_machine.proofs.Messages.{either_way, position_itself}
use Rattle.dispatch_core.specs.Changes.{Gone}
use Rattle.topic_served.specs.Happening.{HappensAt}
use Rattle.topic_served.specs.Stepping.{buried}
use Rattle.topic_served.proofs.Seeing.{happens, forgetting_ranks}
use Rattle.topic_served.proofs.Touching.{IsAbout, TouchesOne, gone_there}

or_neither : (b : Bool) → (b || (false || false)) ≡ b
or_neither true = refl
or_neither false = refl

or_either : (b : Bool) → (b || (true || false)) ≡ true
or_either true = refl
or_either false = refl

-- ---- sets and maps with one position more or less

abbrev pub keeps_others : Position → Position → Bool
keeps_others p q = not (is_one_of (p ∷ []) q)

pub got_apart : {X : Type 0} (m : map_of.FinMap position_cmp X) (p q : Position) → same_position q p ≡ false → map_of.get (map_of.retain_keys m (keeps_others p)) q ≡ map_of.get m q
got_apart m p q differ =
    map_of.get-retain_keys m (keeps_others p) q (λ x t. ap (keeps_others p) (sym (exact_positions q x t)))
    ∙ ap (λ b. cond (not (b || false)) (map_of.get m q) None) differ

pub got_nowhere : {X : Type 0} (m : map_of.FinMap position_cmp X) (p : Position) → map_of.get (map_of.retain_keys m (keeps_others p)) p ≡ None
got_nowhere m p =
    map_of.get-retain_keys m (keeps_others p) p (λ x t. ap (keeps_others p) (sym (exact_positions p x t)))
    ∙ ap (λ b. cond (not (b || false)) (map_of.get m p) None) (position_itself p)

contained_more : (a : set.FinSet position_cmp) (p q : Position) → set.contains (set.union a (set.from_list (p ∷ []))) q ≡ (set.contains a q || (same_position q p || false))
contained_more a p q = set.contains-union positions_total a (set.from_list (p ∷ [])) q ∙ ap (λ b. set.contains a q || b) (set.contains-from_list positions_total (p ∷ []) q)

contained_apart : (a : set.FinSet position_cmp) (p q : Position) → same_position q p ≡ false → set.contains (set.union a (set.from_list (p ∷ []))) q ≡ set.contains a q
contained_apart a p q differ = contained_more a p q ∙ ap (λ b. set.contains a q || (b || false)) differ ∙ or_neither (set.contains a q)

contained_there : (a : set.FinSet position_cmp) (p : Position) → set.contains (set.union a (set.from_list (p ∷ []))) p ≡ true
contained_there a p = contained_more a p p ∙ ap (λ b. set.contains a p || (b || false)) (position_itself p) ∙ or_either (set.contains a p)

-- ---- acknowledged

touches_acknowledged : (p : Position) (sub : Subscription) → TouchesOne p sub (acknowledging (p ∷ []) sub)
touches_acknowledged p sub = record {
  name = refl;
  kind = refl;
  shares = refl;
  acknowledged = contained_apart sub.acknowledged p;
  dead = λ q differ. refl;
  pending = got_apart sub.pending p;
}

acknowledged_out : (p : Position) (sub : Subscription) (e : Entry) → e.position ≡ p → is_live (acknowledging (p ∷ []) sub) e ≡ false
acknowledged_out p sub e is =
    ap (λ b. not b && not (is_dead sub e.position))
    (ap (set.contains (set.union sub.acknowledged (set.from_list (p ∷ [])))) is ∙ contained_there sub.acknowledged p)

module _ (s : State) (name : List ℕ) (i : ℕ) (sub : Subscription) (p : Position) (k : ℕ) (about : IsAbout s name i sub p k) where
  pub gone_acknowledged : HappensAt i (Gone k) s sub (with_acknowledged s name (p ∷ [])) (acknowledging (p ∷ []) sub)
  gone_acknowledged =
      let t : State = with_acknowledged s name (p ∷ []) in
      let ranks = forgetting_ranks name (p ∷ []) s.members in
      happens s t name (acknowledging (p ∷ [])) i sub about.place about.was refl (Gone k) refl (omega arith) ranks
      (gone_there s t name i sub (acknowledging (p ∷ []) sub) p k about refl refl ranks (touches_acknowledged p sub) (acknowledged_out p sub) (got_nowhere sub.pending p))

-- ---- dead

dead_apart : (dead : List DeadLetter) (letter : DeadLetter) (q : Position) → same_position letter.position q ≡ false → list_any (λ (d : DeadLetter). same_position d.position q) (dead ++ letter ∷ []) ≡ list_any (λ (d : DeadLetter). same_position d.position q) dead
dead_apart dead letter q differ =
    list_any-append (λ (d : DeadLetter). same_position d.position q) dead (letter ∷ [])
    ∙ ap (λ b. list_any (λ (d : DeadLetter). same_position d.position q) dead || (b || false)) differ
    ∙ or_neither (list_any (λ (d : DeadLetter). same_position d.position q) dead)

dead_there : (dead : List DeadLetter) (letter : DeadLetter) → list_any (λ (d : DeadLetter). same_position d.position letter.position) (dead ++ letter ∷ []) ≡ true
dead_there dead letter =
    list_any-append (λ (d : DeadLetter). same_position d.position letter.position) dead (letter ∷ [])
    ∙ ap (λ b. list_any (λ (d : DeadLetter). same_position d.position letter.position) dead || (b || false)) (position_itself letter.position)
    ∙ or_either (list_any (λ (d : DeadLetter). same_position d.position letter.position) dead)

touches_buried : (letter : DeadLetter) (sub : Subscription) → TouchesOne letter.position sub (burying letter sub)
touches_buried letter sub = record {
  name = refl;
  kind = refl;
  shares = refl;
  acknowledged = λ q differ. refl;
  dead = λ q differ. dead_apart sub.dead letter q (either_way letter.position q ∙ differ);
  pending = got_apart sub.pending letter.position;
}

buried_out : (letter : DeadLetter) (sub : Subscription) (e : Entry) → e.position ≡ letter.position → is_live (burying letter sub) e ≡ false
buried_out letter sub e is =
    ap (λ b. not (set.contains sub.acknowledged e.position) && not b)
    (ap (λ (q : Position). list_any (λ (d : DeadLetter). same_position d.position q) (sub.dead ++ letter ∷ [])) is ∙ dead_there sub.dead letter)
    ∙ and_false (not (set.contains sub.acknowledged e.position))
  where
    and_false : (b : Bool) → (b && false) ≡ false
    and_false true = refl
    and_false false = refl

module _ (s : State) (name : List ℕ) (i : ℕ) (sub : Subscription) (letter : DeadLetter) (k : ℕ) (about : IsAbout s name i sub letter.position k) where
  pub gone_buried : HappensAt i (Gone k) s sub (buried s name letter) (burying letter sub)
  gone_buried =
      let t : State = buried s name letter in
      let ranks = forgetting_ranks name (letter.position ∷ []) s.members in
      happens s t name (burying letter) i sub about.place about.was refl (Gone k) refl (omega arith) ranks
      (gone_there s t name i sub (burying letter sub) letter.position k about refl refl ranks (touches_buried letter sub) (buried_out letter sub) (got_nowhere sub.pending letter.position))

-- ---- moved

-- the first letter is of another position
dead_behind : (dead : List DeadLetter) (letter : DeadLetter) (q : Position) → slice_get dead 0 ≡ Some letter → same_position letter.position q ≡ false → list_any (λ (d : DeadLetter). same_position d.position q) (drop 1 dead) ≡ list_any (λ (d : DeadLetter). same_position d.position q) dead
dead_behind [] letter q first differ = refl
dead_behind (d ∷ dead) letter q first differ =
    let is : d ≡ letter = cc in
    sym (ap (λ b. b || list_any (λ (d : DeadLetter). same_position d.position q) dead) (ap (λ (x : DeadLetter). same_position x.position q) is ∙ differ))

touches_moved : (letter : DeadLetter) (sub : Subscription) → slice_get sub.dead 0 ≡ Some letter → TouchesOne letter.position sub (moving letter sub)
touches_moved letter sub first = record {
  name = refl;
  kind = refl;
  shares = refl;
  acknowledged = contained_apart sub.acknowledged letter.position;
  dead = λ q differ. dead_behind sub.dead letter q first (either_way letter.position q ∙ differ);
  pending = got_apart sub.pending letter.position;
}

moved_out : (letter : DeadLetter) (sub : Subscription) (e : Entry) → e.position ≡ letter.position → is_live (moving letter sub) e ≡ false
moved_out letter sub e is =
    ap (λ b. not b && not (is_dead (moving letter sub) e.position))
    (ap (set.contains (set.union sub.acknowledged (set.from_list (letter.position ∷ [])))) is ∙ contained_there sub.acknowledged letter.position)

module _ (s : State) (name : List ℕ) (i : ℕ) (sub : Subscription) (letter : DeadLetter) (k : ℕ) (about : IsAbout s name i sub letter.position k) where
  pub gone_moved : slice_get sub.dead 0 ≡ Some letter → HappensAt i (Gone k) s sub (moved s name letter) (moving letter sub)
  gone_moved first =
      let t : State = moved s name letter in
      let ranks = forgetting_ranks name (letter.position ∷ []) s.members in
      happens s t name (moving letter) i sub about.place about.was refl (Gone k) refl (omega arith) ranks
      (gone_there s t name i sub (moving letter sub) letter.position k about refl refl ranks (touches_moved letter sub first) (moved_out letter sub) (got_nowhere sub.pending letter.position))

-- the first letter, where it is safe
pub first_letter : (sub : Subscription) (letter : DeadLetter) → first_safe sub ≡ Some letter → slice_get sub.dead 0 ≡ Some letter
first_letter sub letter safe = by (nat_lt 0 sub.safe) safe
  where
    by : (b : Bool) → cond b (slice_get sub.dead 0) None ≡ Some letter → slice_get sub.dead 0 ≡ Some letter
    by true is = is
    by false is = absurd (cc)
