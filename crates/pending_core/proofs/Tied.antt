-- What is kept, and its slots, after a change at one position.
use Rattle.std.proofs.Common.{◌≡◌, ◌≢◌, ℕ, ◌+◌, ◌-◌, ◌<◌, ◌≤◌, min, List, [], ◌∷◌, ◌++◌, length, set, Bool, true, false, cond, Option, Some, None, ⊎_elim, refl, sym, ap, subst, ◌∙◌, arith}
use Rattle.std.specs.List.{slice_get, swap_remove}
use Rattle.std.specs.Option.{option_map, IfSome, is_some}
use Rattle.std.specs.Ordering.{is_eq}
use Rattle.std.specs.Cmp.{Equal-is, tied_itself}
use Rattle.std.specs.BTreeMap.{is_at}
use Rattle.std.proofs.lemmas.Bool.{cases_eq, cases_lt}
use Rattle.std.proofs.lemmas.Option.{slice_get_within, slice_get-get_or, same_Some}
use Rattle.position_core.specs.Position.{position_cmp, positions_total, exact_positions}
use Rattle.position_core.specs.declared.position.Position.{Position}
use Rattle.position_core.specs.declared.held.Held.{Held}
use Rattle.pending_core.specs.declared.due.Slot.{Slot}
use Rattle.pending_core.proofs.Elements.{set-slice_get, slice_get-set_same, slice_get-set_other, slice_get_push_end, slice_get_push_other, slice_get-swap_remove_same, slice_get-swap_remove_other, slice_get-swap_remove_past}
use Rattle.pending_core.specs.declared.kept.Kept.{Kept}
use Rattle.pending_core.specs.Pending.{most_count}
use Rattle.pending_core.specs.Kept.{kept_at, slot_of, counted_once_more, ChangesAt, AreTied}

-- q is p, or else nothing changed there
at_itself : (p : Position) → is_at (position_cmp p) p ≡ true
at_itself p = ap is_eq (tied_itself positions_total p)

same_at : (p q : Position) → is_at (position_cmp p) q ≡ true → p ≡ q
same_at p q e = exact_positions p q ((Equal-is (position_cmp p q)).0 e)

changed_here : (es fs : List (Position × Kept)) (p : Position) (o : Option Kept) → ChangesAt p o es fs → kept_at fs p ≡ o
changed_here es fs p o h = h p ∙ ap (λ b. cond b o (kept_at es p)) (at_itself p)

changed_there : (es fs : List (Position × Kept)) (p : Position) (o : Option Kept) → ChangesAt p o es fs → (q : Position) → is_at (position_cmp p) q ≡ false → kept_at fs q ≡ kept_at es q
changed_there es fs p o h q e = h q ∙ ap (λ b. cond b o (kept_at es q)) e

abbrev slot_kept : List (Position × Kept) → Position → Option ℕ
slot_kept es q = option_map (λ kept. kept.slot) (kept_at es q)

pub nothing_is_some : {A : Type 0} (o : Option A) (x : A) → o ≡ None → o ≡ Some x → ⊥
nothing_is_some o x p q = cc

both_ways_at : (b : Bool) → b ≡ true → b ≡ false → ⊥
both_ways_at b p q = cc

-- two positions have two slots
apart : (es : List (Position × Kept)) (slots : List Slot) (p q : Position) (k kq : Kept) → AreTied es slots → kept_at es p ≡ Some k → kept_at es q ≡ Some kq → is_at (position_cmp p) q ≡ false → kq.slot ≢ k.slot
apart es slots p q k kq tied was was_q differ same =
    let one : slot_of p k ≡ slot_of q kq = same_Some (slot_of p k) (slot_of q kq) (sym (tied.placed p k was) ∙ ap (slice_get slots) (sym same) ∙ tied.placed q kq was_q) in
    both_ways_at (is_at (position_cmp p) q) (ap (is_at (position_cmp p)) (sym (ap (λ (s : Slot). s.position) one)) ∙ at_itself p) differ

-- a slot of another number is another position's
other_owner : (es : List (Position × Kept)) (slots : List Slot) (p : Position) (k : Kept) → AreTied es slots → kept_at es p ≡ Some k → (i : ℕ) (s : Slot) → slice_get slots i ≡ Some s → i ≢ k.slot → is_at (position_cmp p) s.position ≡ false
other_owner es slots p k tied was i s at ne = by_test (is_at (position_cmp p) s.position) refl
  where
    by_test : (b : Bool) → is_at (position_cmp p) s.position ≡ b → b ≡ false
    by_test true e = absurd (ne (same_Some i k.slot (sym (tied.owned i s at) ∙ ap (slot_kept es) (sym (same_at p s.position e)) ∙ ap (option_map (λ kept. kept.slot)) was)))
    by_test false e = refl

-- another holder or count at a position
module _ (es fs : List (Position × Kept)) (slots : List Slot) (p : Position) (k k' : Kept) (tied : AreTied es slots) (was : kept_at es p ≡ Some k) (same : k'.slot ≡ k.slot) (capped : k'.count ≤ most_count) (change : ChangesAt p (Some k') es fs) where
  placed_by : (q : Position) (kq : Kept) (b : Bool) → is_at (position_cmp p) q ≡ b → kept_at fs q ≡ Some kq → slice_get (set slots k.slot (slot_of p k')) kq.slot ≡ Some (slot_of q kq)
  placed_by q kq true e is =
      let here : k' ≡ kq = same_Some k' kq (sym (change q ∙ ap (λ b. cond b (Some k') (kept_at es q)) e) ∙ is) in
      ap (slice_get (set slots k.slot (slot_of p k'))) (sym (ap (λ (x : Kept). x.slot) here) ∙ same)
      ∙ slice_get-set_same slots k.slot (slot_of p k') (slice_get_within slots k.slot (slot_of p k) (tied.placed p k was))
      ∙ ap (λ x. Some (slot_of x k')) (same_at p q e) ∙ ap (λ x. Some (slot_of q x)) here
  placed_by q kq false e is =
      let there = sym (changed_there es fs p (Some k') change q e) ∙ is in
      slice_get-set_other slots k.slot kq.slot (slot_of p k') (apart es slots p q k kq tied was there e) ∙ tied.placed q kq there

  owned_here : (i : ℕ) (s : Slot) → i ≡ k.slot → slice_get (set slots k.slot (slot_of p k')) i ≡ Some s → slot_kept fs s.position ≡ Some i
  owned_here i s e at =
      let here : slot_of p k' ≡ s = same_Some (slot_of p k') s (sym (slice_get-set_same slots k.slot (slot_of p k') (slice_get_within slots k.slot (slot_of p k) (tied.placed p k was))) ∙ ap (slice_get (set slots k.slot (slot_of p k'))) (sym e) ∙ at) in
      ap (slot_kept fs) (sym (ap (λ (x : Slot). x.position) here)) ∙ ap (option_map (λ kept. kept.slot)) (changed_here es fs p (Some k') change) ∙ ap Some (same ∙ sym e)

  owned_there : (i : ℕ) (s : Slot) → i ≢ k.slot → slice_get (set slots k.slot (slot_of p k')) i ≡ Some s → slot_kept fs s.position ≡ Some i
  owned_there i s ne at =
      let before = sym (slice_get-set_other slots k.slot i (slot_of p k') ne) ∙ at in
      ap (option_map (λ kept. kept.slot)) (changed_there es fs p (Some k') change s.position (other_owner es slots p k tied was i s before ne)) ∙ tied.owned i s before

  within_by : (q : Position) (kq : Kept) (b : Bool) → is_at (position_cmp p) q ≡ b → kept_at fs q ≡ Some kq → kq.count ≤ most_count
  within_by q kq true e is = subst (λ (x : Kept). x.count ≤ most_count) (same_Some k' kq (sym (change q ∙ ap (λ b. cond b (Some k') (kept_at es q)) e) ∙ is)) capped
  within_by q kq false e is = tied.within q kq (sym (changed_there es fs p (Some k') change q e) ∙ is)

  pub tied_changed : AreTied fs (set slots k.slot (slot_of p k'))
  tied_changed = record {
    placed = λ q kq is. placed_by q kq (is_at (position_cmp p) q) refl is;
    owned = λ i s at. ⊎_elim (λ e. owned_here i s e at) (λ ne. owned_there i s ne at) (cases_eq i k.slot);
    within = λ q kq is. within_by q kq (is_at (position_cmp p) q) refl is;
  }

-- another holder
pub tied_held : (es fs : List (Position × Kept)) (slots : List Slot) (p : Position) (k k' : Kept) (held : Option Held) → AreTied es slots → kept_at es p ≡ Some k → k' ≡ record k { held = held } → ChangesAt p (Some k') es fs → AreTied fs (set slots k.slot (slot_of p k'))
tied_held es fs slots p k k' held tied was new change = tied_changed es fs slots p k k' tied was (ap (λ (x : Kept). x.slot) new) (subst (λ n. n ≤ most_count) (sym (ap (λ (x : Kept). x.count) new)) (tied.within p k was)) change

-- another count
pub tied_counted : (es fs : List (Position × Kept)) (slots : List Slot) (p : Position) (k k' : Kept) → AreTied es slots → kept_at es p ≡ Some k → k' ≡ counted_once_more k → ChangesAt p (Some k') es fs → AreTied fs slots
tied_counted es fs slots p k k' tied was new change =
    let is : Kept = record k { count = k'.count } in
    let same : k' ≡ is = only_count k' (is_some k.held) new in
    subst (AreTied fs) (set-slice_get slots k.slot (slot_of p k') (tied.placed p k was ∙ ap (λ (x : Kept). Some (slot_of p (record x { count = k.count }))) (sym same)))
    (tied_changed es fs slots p k k' tied was (ap (λ (x : Kept). x.slot) same) (capped k' (is_some k.held) new) change)
  where
    only_count : (x : Kept) (b : Bool) → x ≡ cond b (record k { count = min (k.count + 1) most_count }) k → x ≡ record k { count = x.count }
    only_count x true e = e ∙ sym (ap (λ (y : Kept). let z : Kept = record k { count = y.count } in z) e)
    only_count x false e = e ∙ sym (ap (λ (y : Kept). let z : Kept = record k { count = y.count } in z) e)

    capped : (x : Kept) (b : Bool) → x ≡ cond b (record k { count = min (k.count + 1) most_count }) k → x.count ≤ most_count
    capped x true e = subst (λ (y : Kept). y.count ≤ most_count) (sym e) (omega arith)
    capped x false e = subst (λ (y : Kept). y.count ≤ most_count) (sym e) (tied.within p k was)

-- any count that goes no further
pub tied_recounted : (es fs : List (Position × Kept)) (slots : List Slot) (p : Position) (k : Kept) (count : ℕ) → AreTied es slots → kept_at es p ≡ Some k → count ≤ most_count → ChangesAt p (Some (record k { count = count })) es fs → AreTied fs slots
tied_recounted es fs slots p k count tied was capped change =
    subst (AreTied fs) (set-slice_get slots k.slot (slot_of p k) (tied.placed p k was)) (tied_changed es fs slots p k (record k { count = count }) tied was refl capped change)

-- a new position
module _ (es fs : List (Position × Kept)) (slots : List Slot) (p : Position) (k : Kept) (tied : AreTied es slots) (was : kept_at es p ≡ None) (last : k.slot ≡ length slots) (capped : k.count ≤ most_count) (change : ChangesAt p (Some k) es fs) where
  added_placed : (q : Position) (kq : Kept) (b : Bool) → is_at (position_cmp p) q ≡ b → kept_at fs q ≡ Some kq → slice_get (slots ++ slot_of p k ∷ []) kq.slot ≡ Some (slot_of q kq)
  added_placed q kq true e is =
      let here : k ≡ kq = same_Some k kq (sym (change q ∙ ap (λ b. cond b (Some k) (kept_at es q)) e) ∙ is) in
      ap (slice_get (slots ++ slot_of p k ∷ [])) (sym (ap (λ (x : Kept). x.slot) here) ∙ last)
      ∙ slice_get_push_end slots (slot_of p k)
      ∙ ap (λ x. Some (slot_of x k)) (same_at p q e) ∙ ap (λ x. Some (slot_of q x)) here
  added_placed q kq false e is =
      let there = sym (changed_there es fs p (Some k) change q e) ∙ is in
      let at = tied.placed q kq there in
      let lower = slice_get_within slots kq.slot (slot_of q kq) at in
      slice_get_push_other slots (slot_of p k) kq.slot (λ e'. omega arith) ∙ at

  added_owned : (i : ℕ) (s : Slot) → i ≢ length slots → slice_get (slots ++ slot_of p k ∷ []) i ≡ Some s → slot_kept fs s.position ≡ Some i
  added_owned i s ne at = by_test (is_at (position_cmp p) s.position) refl
    where
      before : slice_get slots i ≡ Some s
      before = sym (slice_get_push_other slots (slot_of p k) i ne) ∙ at

      by_test : (b : Bool) → is_at (position_cmp p) s.position ≡ b → slot_kept fs s.position ≡ Some i
      by_test true e = absurd (nothing_is_some (slot_kept es s.position) i (ap (slot_kept es) (sym (same_at p s.position e)) ∙ ap (option_map (λ kept. kept.slot)) was) (tied.owned i s before))
      by_test false e = ap (option_map (λ kept. kept.slot)) (changed_there es fs p (Some k) change s.position e) ∙ tied.owned i s before

  added_owner : (i : ℕ) (s : Slot) → i ≡ length slots → slice_get (slots ++ slot_of p k ∷ []) i ≡ Some s → slot_kept fs s.position ≡ Some i
  added_owner i s e at =
      let here : slot_of p k ≡ s = same_Some (slot_of p k) s (sym (slice_get_push_end slots (slot_of p k)) ∙ ap (slice_get (slots ++ slot_of p k ∷ [])) (sym e) ∙ at) in
      ap (slot_kept fs) (sym (ap (λ (x : Slot). x.position) here)) ∙ ap (option_map (λ kept. kept.slot)) (changed_here es fs p (Some k) change) ∙ ap Some (last ∙ sym e)

  added_within : (q : Position) (kq : Kept) (b : Bool) → is_at (position_cmp p) q ≡ b → kept_at fs q ≡ Some kq → kq.count ≤ most_count
  added_within q kq true e is = subst (λ (x : Kept). x.count ≤ most_count) (same_Some k kq (sym (change q ∙ ap (λ b. cond b (Some k) (kept_at es q)) e) ∙ is)) capped
  added_within q kq false e is = tied.within q kq (sym (changed_there es fs p (Some k) change q e) ∙ is)

  pub tied_added : AreTied fs (slots ++ slot_of p k ∷ [])
  tied_added = record {
    placed = λ q kq is. added_placed q kq (is_at (position_cmp p) q) refl is;
    owned = λ i s at. ⊎_elim (λ e. added_owner i s e at) (λ ne. added_owned i s ne at) (cases_eq i (length slots));
    within = λ q kq is. added_within q kq (is_at (position_cmp p) q) refl is;
  }

-- a position left out, of which k was kept: the last slot goes where its slot was
module _ (es fs : List (Position × Kept)) (slots : List Slot) (p : Position) (k : Kept) (d : Slot) (tied : AreTied es slots) (was : kept_at es p ≡ Some k) (change : ChangesAt p None es fs) where
  left : (q : Position) (kq : Kept) → kept_at fs q ≡ Some kq → (is_at (position_cmp p) q ≡ false) × (kept_at es q ≡ Some kq)
  left q kq is = by_test (is_at (position_cmp p) q) refl
    where
      by_test : (b : Bool) → is_at (position_cmp p) q ≡ b → (is_at (position_cmp p) q ≡ false) × (kept_at es q ≡ Some kq)
      by_test true e = absurd (nothing_is_some (kept_at fs q) kq (change q ∙ ap (λ b. cond b None (kept_at es q)) e) is)
      by_test false e = (e, sym (changed_there es fs p None change q e) ∙ is)

  left_slot : (q : Position) (kq : Kept) → kept_at fs q ≡ Some kq → kq.slot ≢ k.slot
  left_slot q kq is = apart es slots p q k kq tied was (left q kq is).1 (left q kq is).0

  left_placed : (q : Position) (kq : Kept) → kept_at fs q ≡ Some kq → slice_get slots kq.slot ≡ Some (slot_of q kq)
  left_placed q kq is = tied.placed q kq (left q kq is).1

  left_within : (q : Position) (kq : Kept) → kept_at fs q ≡ Some kq → kq.count ≤ most_count
  left_within q kq is = tied.within q kq (left q kq is).1

  left_owned : (i : ℕ) (s : Slot) → i ≢ k.slot → slice_get slots i ≡ Some s → slot_kept fs s.position ≡ Some i
  left_owned i s ne at = ap (option_map (λ kept. kept.slot)) (changed_there es fs p None change s.position (other_owner es slots p k tied was i s at ne)) ∙ tied.owned i s at

  -- a slot other than the last stays, where it is not taken out
  stays : (i : ℕ) → i ≢ k.slot → i + 1 < length slots → slice_get (swap_remove slots k.slot d) i ≡ slice_get slots i
  stays i ne lower = slice_get-swap_remove_other slots k.slot d i lower ne

  inside : (i : ℕ) (s : Slot) → slice_get (swap_remove slots k.slot d) i ≡ Some s → i + 1 < length slots
  inside i s at = ⊎_elim (λ lower. lower) (λ upper. absurd (nothing_is_some _ s (slice_get-swap_remove_past slots k.slot d i upper) at)) (cases_lt (i + 1) (length slots))

  -- it was the last
  module _ (end : slice_get (swap_remove slots k.slot d) k.slot ≡ None) where
    is_last : length slots ≡ k.slot + 1
    is_last =
        let lower = slice_get_within slots k.slot (slot_of p k) (tied.placed p k was) in
        ⊎_elim
        (λ more. absurd (nothing_is_some (slice_get slots (length slots - 1)) _ (sym (slice_get-swap_remove_same slots k.slot d more) ∙ end) (slice_get-get_or slots (length slots - 1) d (omega arith))))
        (λ upper. omega arith)
        (cases_lt (k.slot + 1) (length slots))

    pub tied_without_last : AreTied fs (swap_remove slots k.slot d)
    tied_without_last = record {
      placed = λ q kq is.
          let ne = left_slot q kq is in
          let at = left_placed q kq is in
          let lower = slice_get_within slots kq.slot (slot_of q kq) at in
          let end' = is_last in
          stays kq.slot ne (omega arith) ∙ at;
      owned = λ i s at.
          let lower = inside i s at in
          let end' = is_last in
          let ne : i ≢ k.slot = λ e. omega arith in
          left_owned i s ne (sym (stays i ne lower) ∙ at);
      within = left_within;
    }

  -- or another is now where it was, and is kept as m
  module _ (s : Slot) (m : Kept) (gs : List (Position × Kept)) (now : slice_get (swap_remove slots k.slot d) k.slot ≡ Some s) (had : kept_at fs s.position ≡ Some m) (then : ChangesAt s.position (Some (record m { slot = k.slot })) fs gs) where
    more : k.slot + 1 < length slots
    more = inside k.slot s now

    was_last : slice_get slots (length slots - 1) ≡ Some s
    was_last = sym (slice_get-swap_remove_same slots k.slot d more) ∙ now

    last_slot : m.slot ≡ length slots - 1
    last_slot =
        let higher = more in
        same_Some m.slot (length slots - 1) (ap (option_map (λ kept. kept.slot)) (sym had) ∙ left_owned (length slots - 1) s (λ e. omega arith) was_last)

    moved_placed : (q : Position) (kq : Kept) (b : Bool) → is_at (position_cmp s.position) q ≡ b → kept_at gs q ≡ Some kq → slice_get (swap_remove slots k.slot d) kq.slot ≡ Some (slot_of q kq)
    moved_placed q kq true e is =
        let new : Kept = record m { slot = k.slot } in
        let here : new ≡ kq = same_Some new kq (sym (then q ∙ ap (λ b. cond b (Some new) (kept_at fs q)) e) ∙ is) in
        let as_was : s ≡ slot_of s.position m = same_Some s (slot_of s.position m) (sym was_last ∙ ap (slice_get slots) (sym last_slot) ∙ left_placed s.position m had) in
        ap (slice_get (swap_remove slots k.slot d)) (sym (ap (λ (x : Kept). x.slot) here))
        ∙ now ∙ ap Some as_was
        ∙ ap (λ x. Some (slot_of x new)) (same_at s.position q e) ∙ ap (λ x. Some (slot_of q x)) here
    moved_placed q kq false e is =
        let there = sym (changed_there fs gs s.position (Some (record m { slot = k.slot })) then q e) ∙ is in
        let ne = left_slot q kq there in
        let at = left_placed q kq there in
        let lower = slice_get_within slots kq.slot (slot_of q kq) at in
        let from_last : kq.slot ≢ m.slot = apart es slots s.position q m kq tied (left s.position m had).1 (left q kq there).1 e in
        let end = last_slot in
        stays kq.slot ne (omega arith) ∙ at

    moved_owned : (i : ℕ) (t : Slot) → i ≢ k.slot → slice_get (swap_remove slots k.slot d) i ≡ Some t → slot_kept gs t.position ≡ Some i
    moved_owned i t ne at =
        let lower = inside i t at in
        let before = sym (stays i ne lower) ∙ at in
        let end = last_slot in
        ap (option_map (λ kept. kept.slot)) (changed_there fs gs s.position (Some (record m { slot = k.slot })) then t.position (other_owner es slots s.position m tied (left s.position m had).1 i t before (λ e. omega arith)))
        ∙ left_owned i t ne before

    moved_owner : (i : ℕ) (t : Slot) → i ≡ k.slot → slice_get (swap_remove slots k.slot d) i ≡ Some t → slot_kept gs t.position ≡ Some i
    moved_owner i t e at =
        let here : s ≡ t = same_Some s t (sym now ∙ ap (slice_get (swap_remove slots k.slot d)) (sym e) ∙ at) in
        ap (slot_kept gs) (sym (ap (λ (x : Slot). x.position) here)) ∙ ap (option_map (λ kept. kept.slot)) (changed_here fs gs s.position (Some (record m { slot = k.slot })) then) ∙ ap Some (sym e)

    moved_within : (q : Position) (kq : Kept) (b : Bool) → is_at (position_cmp s.position) q ≡ b → kept_at gs q ≡ Some kq → kq.count ≤ most_count
    moved_within q kq true e is = subst (λ (x : Kept). x.count ≤ most_count) (same_Some (record m { slot = k.slot }) kq (sym (then q ∙ ap (λ b. cond b (Some (record m { slot = k.slot })) (kept_at fs q)) e) ∙ is)) (left_within s.position m had)
    moved_within q kq false e is = left_within q kq (sym (changed_there fs gs s.position (Some (record m { slot = k.slot })) then q e) ∙ is)

    pub tied_with_moved : AreTied gs (swap_remove slots k.slot d)
    tied_with_moved = record {
      placed = λ q kq is. moved_placed q kq (is_at (position_cmp s.position) q) refl is;
      owned = λ i t at. ⊎_elim (λ e. moved_owner i t e at) (λ ne. moved_owned i t ne at) (cases_eq i k.slot);
      within = λ q kq is. moved_within q kq (is_at (position_cmp s.position) q) refl is;
    }

  -- its position is kept
  moved_is_kept : (s : Slot) → slice_get (swap_remove slots k.slot d) k.slot ≡ Some s → kept_at fs s.position ≡ None → ⊥
  moved_is_kept s now none =
      let more = inside k.slot s now in
      nothing_is_some (slot_kept fs s.position) (length slots - 1)
      (ap (option_map (λ kept. kept.slot)) none)
      (left_owned (length slots - 1) s (λ e. omega arith) (sym (slice_get-swap_remove_same slots k.slot d more) ∙ now))

  -- which is kept at another slot then
  pub moved_from : (s : Slot) (gs : List (Position × Kept)) → slice_get (swap_remove slots k.slot d) k.slot ≡ Some s → IfSome (kept_at fs s.position) (λ m. ChangesAt s.position (Some (record m { slot = k.slot })) fs gs) → (m : Kept) × (kept_at fs s.position ≡ Some m) × ChangesAt s.position (Some (record m { slot = k.slot })) fs gs
  moved_from s gs now then = by_cases (kept_at fs s.position) refl then
    where
      by_cases : (o : Option Kept) → kept_at fs s.position ≡ o → IfSome o (λ m. ChangesAt s.position (Some (record m { slot = k.slot })) fs gs) → (m : Kept) × (kept_at fs s.position ≡ Some m) × ChangesAt s.position (Some (record m { slot = k.slot })) fs gs
      by_cases None e h = absurd (moved_is_kept s now e)
      by_cases (Some m) e h = (m, e, h)
