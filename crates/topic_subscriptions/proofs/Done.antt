-- Which messages a subscription has done with.
use Rattle.std.proofs.Common.{◌≡◌, ℕ, ◌<◌, ◌≤◌, min, List, [], ◌∷◌, length, Some, Bool, true, false, refl, ap, ap₂, ◌∙◌, sym, arith, inl, inr, slice_get, All, get_or, Option}
use Rattle.std.specs.Prelude.{◌||◌, ◌&&◌, not}
use Rattle.std.specs.List.{Any, list_any, prefix_len}
use Rattle.std.specs.Ordering.{nat_cmp, is_lt}
use Rattle.std.specs.declared.cmp.Ordering.{Ordering}
use Rattle.std.specs.FinSet as set
use Rattle.std.specs.FinMap as map_of
use Rattle.std.proofs.lemmas.Bool.{cases_lt, false≢true}
use Rattle.std.proofs.lemmas.List.Folds.{list_any_none, list_any-from_Any}
use Rattle.std.proofs.lemmas.List.Sums.{prefix_len_is}
use Rattle.std.proofs.lemmas.Map.Lookups.{exact_unsigned}
use Rattle.std.proofs.lemmas.Map.Views.{tells_apart}
use Rattle.std.proofs.lemmas.Option.{slice_get-get_or}
use Rattle.position_core.specs.declared.position.Position.{Position}
use Rattle.position_core.specs.declared.message.Entry.{Entry}
use Rattle.position_core.specs.Position.{position_cmp, same_position}
use Rattle.log_pieces.specs.Pieces.{index_of}
use Rattle.ack_ranges.specs.Ranges.{IsNextMissing}
use Rattle.delivery_machine.specs.State.{Member, DeadLetter}
use Rattle.delivery_machine.specs.Words.{is_dead}
use Rattle.delivery_machine.specs.Trimming.{is_done_with}
use Rattle.delivery_machine.proofs.Deciding.{or_false}
use Rattle.delivery_machine.proofs.Messages.{position_itself}
use Rattle.delivery_machine.proofs.Tended.{position_is}
use Rattle.dead_core.specs.Letters.{Letters, has_before}
use Rattle.topic_subscriptions.specs.Done.{done_by}
use Rattle.topic_subscriptions.specs.Placed.{AreAcknowledged, IsPlacedIn, IsRising, Placed, sub_in}
use Rattle.topic_subscriptions.proofs.Links.{contains_at, earlier, same_places}
use Rattle.topic_subscriptions.proofs.Changes.{stands}

-- an acknowledged message is pending at nobody
pub done_with : (log : List Entry) (ms : List Member) (p : Placed) (i : ℕ) (e : Entry) → IsRising log → slice_get log i ≡ Some e → IsPlacedIn log ms p → is_done_with e (sub_in log p) ≡ (set.contains p.places i && not (is_dead (sub_in log p) e.position))
done_with log ms p i e rising at placed =
    ap (λ a. a && not (map_of.contains_key p.pending.pending e.position) && not (is_dead (sub_in log p) e.position)) (contains_at log p.places i e rising at)
    ∙ by (set.contains p.places i) (map_of.contains_key p.pending.pending e.position) (is_dead (sub_in log p) e.position) free
  where
    free : set.contains p.places i ≡ true → map_of.contains_key p.pending.pending e.position ≡ false
    free inside = held (map_of.contains_key p.pending.pending e.position) refl
      where
        held : (b : Bool) → map_of.contains_key p.pending.pending e.position ≡ b → map_of.contains_key p.pending.pending e.position ≡ false
        held false out = out
        held true key =
            let l = placed.pending e.position key in
            let d = stands log e.position l.place l.there in
            let one : l.place ≡ i = tells_apart {R = nat_cmp} exact_unsigned l.place i (sym (same_places log l.place i d.0 e rising d.1 at) ∙ ap (λ (q : Position). same_position q e.position) d.2 ∙ position_itself e.position) in
            absurd (false≢true (sym (ap (λ b. not (b || set.contains p.buried l.place)) (ap (set.contains p.places) one ∙ inside)) ∙ l.live))

    by : (a b c : Bool) → (a ≡ true → b ≡ false) → (a && not b && not c) ≡ (a && not c)
    by true b c free = ap (λ x. not x && not c) (free refl)
    by false b c free = refl

-- where no letter's message stands before a message of the log, none of those before it is dead
none_dead : (log : List Entry) (letters : Letters) (n i : ℕ) (d e : Entry) → IsRising log → i < n → slice_get log i ≡ Some d → slice_get log n ≡ Some e → has_before e.position letters ≡ false → list_any (λ (l : DeadLetter). same_position l.position d.position) letters.dead ≡ false
none_dead log letters n i d e rising low at_d at_e none = by letters.dead none
  where
    apart : (l : DeadLetter) (b : Bool) → same_position l.position d.position ≡ b → is_lt (position_cmp l.position e.position) ≡ false → same_position l.position d.position ≡ false
    apart l false out none = out
    apart l true is none =
        absurd (false≢true (sym none ∙ ap (λ (q : Position). is_lt (position_cmp q e.position)) (position_is l.position d.position is) ∙ ap (λ (r : Ordering). is_lt r) (earlier log i n d e rising low at_d at_e)))

    by : (ls : List DeadLetter) → list_any (λ (l : DeadLetter). is_lt (position_cmp l.position e.position)) ls ≡ false → list_any (λ (l : DeadLetter). same_position l.position d.position) ls ≡ false
    by [] none = refl
    by (l ∷ ls) none =
        let both = or_false (is_lt (position_cmp l.position e.position)) (list_any (λ (l : DeadLetter). is_lt (position_cmp l.position e.position)) ls) none in
        ap₂ (λ a b. a || b) (apart l (same_position l.position d.position) refl both.0) (by ls both.1)

-- it has done with all before a message, where all are acknowledged and none is dead
pub done_before : (log : List Entry) (ms : List Member) (p : Placed) (n : ℕ) (e : Entry) → IsRising log → slice_get log n ≡ Some e → IsPlacedIn log ms p → AreAcknowledged n p → has_before e.position p.letters ≡ false
    → (i : ℕ) (d : Entry) → i < n → slice_get log i ≡ Some d → is_done_with d (sub_in log p) ≡ true
done_before log ms p n e rising at placed acknowledged none i d low there =
    done_with log ms p i d rising there placed
    ∙ ap₂ (λ a b. a && not b) (acknowledged i low) (none_dead log p.letters n i d e rising low there at none)

-- ---- how many of the first messages

pub prefix_to : {X : Type 0} (p : X → Bool) (xs : List X) (end : ℕ) → end ≤ length xs → ((i : ℕ) (x : X) → i < end → slice_get xs i ≡ Some x → p x ≡ true) → ((x : X) → slice_get xs end ≡ Some x → p x ≡ false) → prefix_len p xs ≡ end
prefix_to p [] end within passes stops = omega (arith, within)
prefix_to p (x ∷ xs) end within passes stops =
    prefix_len_is p (x ∷ xs) end x within
    (λ k low. passes k (get_or (x ∷ xs) k x) low (slice_get-get_or (x ∷ xs) k x (omega (arith, low, within))))
    (λ low. stops (get_or (x ∷ xs) end x) (slice_get-get_or (x ∷ xs) end x low))

module _ (log : List Entry) (ms : List Member) (p : Placed) (q : ℕ) (rising : IsRising log) (placed : IsPlacedIn log ms p) (missing : IsNextMissing p.places 0 q) where
  open_within : q ≤ length log
  open_within = elim (cases_lt (length log) q) [
    | inl past ↦ absurd (let low = placed.within (length log) (missing.before (length log) (omega arith) past) in omega (arith, low))
    | inr near ↦ near
  ]

  not_done : (i : ℕ) (e : Entry) → i ≡ q → slice_get log i ≡ Some e → is_done_with e (sub_in log p) ≡ false
  not_done i e is at = done_with log ms p i e rising at placed ∙ ap (λ a. a && not (is_dead (sub_in log p) e.position)) (ap (set.contains p.places) is ∙ missing.missing)

  done_up_to : (end : ℕ) → end ≤ q → ((i : ℕ) (e : Entry) → i < end → slice_get log i ≡ Some e → is_dead (sub_in log p) e.position ≡ false) → ((e : Entry) → slice_get log end ≡ Some e → is_done_with e (sub_in log p) ≡ false)
      → done_by (sub_in log p) log ≡ end
  done_up_to end low alive stops =
      prefix_to (λ e. is_done_with e (sub_in log p)) log end (omega (arith, low, open_within))
      (λ i e before at. done_with log ms p i e rising at placed ∙ ap₂ (λ a b. a && not b) (missing.before i (omega arith) (omega (arith, low, before))) (alive i e before at))
      stops

  -- without dead letters, all before the first that is not acknowledged
  pub done_until_open : p.letters.dead ≡ [] → done_by (sub_in log p) log ≡ q
  done_until_open none =
      done_up_to q (omega arith) (λ i e before at. ap (λ (ls : List DeadLetter). list_any (λ (l : DeadLetter). same_position l.position e.position) ls) none) (λ e at. not_done q e refl at)

  -- else all before that one and before the first dead one
  pub done_until_dead : (f : ℕ) (first : Position) → index_of first log ≡ Some f → Any (λ (l : DeadLetter). l.position ≡ first) p.letters.dead → All (λ (l : DeadLetter). is_lt (position_cmp l.position first) ≡ false) p.letters.dead
      → done_by (sub_in log p) log ≡ min q f
  done_until_dead f first there dies least = done_up_to (min q f) (omega arith) alive stops
    where
      none : has_before first p.letters ≡ false
      none = list_any_none (λ (l : DeadLetter). is_lt (position_cmp l.position first)) p.letters.dead least

      alive : (i : ℕ) (e : Entry) → i < min q f → slice_get log i ≡ Some e → is_dead (sub_in log p) e.position ≡ false
      alive i e low at =
          let d = stands log first f there in
          none_dead log p.letters f i e d.0 rising (omega (arith, low)) at d.1 (ap (λ (x : Position). has_before x p.letters) d.2 ∙ none)

      dead_there : (e : Entry) → slice_get log f ≡ Some e → is_dead (sub_in log p) e.position ≡ true
      dead_there e at =
          let d = stands log first f there in
          let it : first ≡ e.position = sym d.2 ∙ ap (λ (x : Entry). x.position) (one d.0 e (sym d.1 ∙ at)) in
          list_any-from_Any (λ (l : DeadLetter). same_position l.position e.position) p.letters.dead
          (dies.0, dies.1, dies.2, dies.3, ap (λ (x : Position). same_position x e.position) (dies.4 ∙ it) ∙ position_itself e.position)
        where
          one : (d e : Entry) → ◌≡◌ {A = Option Entry} (Some d) (Some e) → d ≡ e
          one d e is = cc

      stops : (e : Entry) → slice_get log (min q f) ≡ Some e → is_done_with e (sub_in log p) ≡ false
      stops e at = elim (cases_lt q f) [
        | inl open_first ↦ not_done (min q f) e (omega (arith, open_first)) at
        | inr dead_first ↦
            let is : min q f ≡ f = omega (arith, dead_first) in
            done_with log ms p (min q f) e rising at placed
            ∙ ap (λ b. set.contains p.places (min q f) && not b) (dead_there e (ap (slice_get log) (sym is) ∙ at))
            ∙ and_false (set.contains p.places (min q f))
      ]
        where
          and_false : (b : Bool) → (b && false) ≡ false
          and_false true = refl
          and_false false = refl
