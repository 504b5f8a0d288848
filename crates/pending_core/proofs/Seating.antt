-- The seats that are taken, after a message came to a consumer or left it.
use Rattle.std.proofs.Common.{◌≡◌, ◌==◌, ℕ, Bool, true, false, cond, ◌&&◌, Option, Some, None, refl, sym, ap, subst, ◌∙◌}
use Rattle.std.specs.Option.{option_map, option_map_or, IfSome, IfNone}
use Rattle.std.specs.Ordering.{nat_cmp, is_eq, ordering_then, eq_by_cmp}
use Rattle.std.specs.declared.cmp.Ordering.{Ordering}
use Rattle.std.specs.declared.cmp.Ordering.TheVariants.{Less, Equal, Greater}
use Rattle.std.specs.Cmp.{Equal-is, tied_itself, eq_by_cmp_equiv, nat_eq_equiv}
use Rattle.std.specs.BTreeMap.{is_at}
use Rattle.std.specs.BTreeSet.{BTreeSet, contains}
use Rattle.std.specs.FinMap as map_of
use Rattle.std.proofs.lemmas.Bool.{false≢true}
use Rattle.std.proofs.lemmas.Option.{same_Some}
use Rattle.position_core.specs.Position.{position_cmp, positions_total, exact_positions}
use Rattle.position_core.specs.declared.position.Position.{Position}
use Rattle.position_core.specs.declared.held.Held.{Held}
use Rattle.delivery_machine.specs.Words.{is_held_by}
use Rattle.pending_core.specs.declared.seats.Seat.{Seat}
use Rattle.pending_core.specs.Pending.{Pending, due_again, redelivered}
use Rattle.pending_core.specs.Seats.{seat_cmp, seat_of, SeatChanges, AreSeatsOf}
use Rattle.pending_core.proofs.Tied.{nothing_is_some}
use Rattle.pending_core.proofs.Counting.{seats_total, same_consumer}

abbrev pub Holding : Type 0
Holding = map_of.FinMap position_cmp Held

both : (o r : Ordering) → is_eq (ordering_then o r) ≡ (is_eq o && is_eq r)
both Less r = refl
both Equal r = refl
both Greater r = refl

pub and_true : (b : Bool) → (b && true) ≡ b
and_true true = refl
and_true false = refl

pub and_false : (b : Bool) → (b && false) ≡ false
and_false true = refl
and_false false = refl

-- two seats are the same where the consumers and the positions are
pub seat_test : (a b : Seat) → is_at (seat_cmp a) b ≡ ((a.consumer == b.consumer) && is_at (position_cmp a.position) b.position)
seat_test a b = both (nat_cmp a.consumer b.consumer) (position_cmp a.position b.position) ∙ ap (λ t. t && is_at (position_cmp a.position) b.position) (same_consumer a.consumer b.consumer)

pub at_itself : (s : Seat) → is_at (seat_cmp s) s ≡ true
at_itself s = ap is_eq (tied_itself seats_total s)

pub same_position_at : (p q : Position) → is_at (position_cmp p) q ≡ true → p ≡ q
same_position_at p q e = exact_positions p q ((Equal-is (position_cmp p q)).0 e)

turned : (p q : Position) → eq_by_cmp position_cmp q p ≡ is_at (position_cmp p) q
turned p q = (eq_by_cmp_equiv positions_total).symm q p

pub got-insert : (m : Holding) (p : Position) (h : Held) (q : Position) → map_of.get (map_of.insert m p h) q ≡ cond (is_at (position_cmp p) q) (Some h) (map_of.get m q)
got-insert m p h q = map_of.get-insert positions_total m p h q ∙ ap (λ b. cond b (Some h) (map_of.get m q)) (turned p q)

pub got-remove : (m : Holding) (p q : Position) → map_of.get (map_of.remove m p) q ≡ cond (is_at (position_cmp p) q) None (map_of.get m q)
got-remove m p q = map_of.get-remove positions_total m p q ∙ ap (λ b. cond b None (map_of.get m q)) (turned p q)

-- at the position the seats are as this has it, and at the others as they were
module _ (seats new : BTreeSet Seat) (m n : Holding) (p : Position) (o : Option Held) (are : AreSeatsOf seats m)
    (got : (q : Position) → map_of.get n q ≡ cond (is_at (position_cmp p) q) o (map_of.get m q))
    (here : (s : Seat) → is_at (position_cmp p) s.position ≡ true → contains seat_cmp seats s ≡ is_held_by s.consumer (map_of.get m p) → contains seat_cmp new s ≡ is_held_by s.consumer o)
    (there : (s : Seat) → is_at (position_cmp p) s.position ≡ false → contains seat_cmp new s ≡ contains seat_cmp seats s) where
  reseated : AreSeatsOf new n
  reseated s = by_test (is_at (position_cmp p) s.position) refl ∙ sym (ap (is_held_by s.consumer) (got s.position))
    where
      by_test : (b : Bool) → is_at (position_cmp p) s.position ≡ b → contains seat_cmp new s ≡ is_held_by s.consumer (cond (is_at (position_cmp p) s.position) o (map_of.get m s.position))
      by_test true e = here s e (are s ∙ ap (λ q. is_held_by s.consumer (map_of.get m q)) (sym (same_position_at p s.position e))) ∙ sym (ap (λ b. is_held_by s.consumer (cond b o (map_of.get m s.position))) e)
      by_test false e = there s e ∙ are s ∙ sym (ap (λ b. is_held_by s.consumer (cond b o (map_of.get m s.position))) e)

-- what a change of one seat of the position does, at the position and at others
module _ (old new : BTreeSet Seat) (consumer : ℕ) (p : Position) (taken : Bool) (change : SeatChanges (seat_of consumer p) taken old new) (s : Seat) where
  at_position : is_at (position_cmp p) s.position ≡ true → contains seat_cmp new s ≡ cond (consumer == s.consumer) taken (contains seat_cmp old s)
  at_position e = change s ∙ ap (λ b. cond b taken (contains seat_cmp old s)) (seat_test (seat_of consumer p) s ∙ ap (λ b. (consumer == s.consumer) && b) e ∙ and_true (consumer == s.consumer))

  at_others : is_at (position_cmp p) s.position ≡ false → contains seat_cmp new s ≡ contains seat_cmp old s
  at_others e = change s ∙ ap (λ b. cond b taken (contains seat_cmp old s)) (seat_test (seat_of consumer p) s ∙ ap (λ b. (consumer == s.consumer) && b) e ∙ and_false (consumer == s.consumer))

abbrev seat_held : Position → Option Held → Option Seat
seat_held p = option_map (λ h. seat_of h.consumer p)

came : (b x : Bool) → x ≡ false → cond b true x ≡ b
came true x e = refl
came false x e = e

went : (b x : Bool) → x ≡ b → cond b false x ≡ false
went true x e = refl
went false x e = e

-- from one consumer to another
moves : (b c x : Bool) → x ≡ b → (b ≡ true → c ≡ false) → cond b false (cond c true x) ≡ c
moves true c x e apart = sym (apart refl)
moves false true x e apart = refl
moves false false x e apart = e

module _ (seats : BTreeSet Seat) (m : Holding) (p : Position) (are : AreSeatsOf seats m) where
  -- it came to a consumer
  pub held_elsewhere : (taken new : BTreeSet Seat) (h : Held) (before : Option Seat) → before ≡ seat_held p (map_of.get m p) → is_held_by h.consumer (map_of.get m p) ≡ false
      → SeatChanges (seat_of h.consumer p) true seats taken → IfSome before (λ s. SeatChanges s false taken new) → IfNone before (new ≡ taken) → AreSeatsOf new (map_of.insert m p h)
  held_elsewhere taken new h before is elsewhere took left stays = by_cases (map_of.get m p) refl
    where
      by_cases : (o : Option Held) → map_of.get m p ≡ o → AreSeatsOf new (map_of.insert m p h)
      by_cases None e =
          let same : new ≡ taken = subst (λ b. IfNone b (new ≡ taken)) (is ∙ ap (seat_held p) e) stays in
          subst (λ ks. AreSeatsOf ks (map_of.insert m p h)) (sym same)
          (reseated seats taken m (map_of.insert m p h) p (Some h) are (got-insert m p h)
          (λ s here was. at_position seats taken h.consumer p true took s here ∙ came (h.consumer == s.consumer) _ (was ∙ ap (is_held_by s.consumer) e))
          (λ s there. at_others seats taken h.consumer p true took s there))
      by_cases (Some x) e =
          let leaves : SeatChanges (seat_of x.consumer p) false taken new = subst (λ b. IfSome b (λ s. SeatChanges s false taken new)) (is ∙ ap (seat_held p) e) left in
          let apart : (x.consumer == h.consumer) ≡ false = sym (ap (is_held_by h.consumer) e) ∙ elsewhere in
          reseated seats new m (map_of.insert m p h) p (Some h) are (got-insert m p h)
          (λ s here was.
          at_position taken new x.consumer p false leaves s here
          ∙ ap (cond (x.consumer == s.consumer) false) (at_position seats taken h.consumer p true took s here)
          ∙ moves (x.consumer == s.consumer) (h.consumer == s.consumer) _ (was ∙ ap (is_held_by s.consumer) e) (λ t. nat_eq_equiv.symm h.consumer s.consumer ∙ sym (nat_eq_equiv.congr x.consumer s.consumer h.consumer t) ∙ apart))
          (λ s there. at_others taken new x.consumer p false leaves s there ∙ at_others seats taken h.consumer p true took s there)

  -- or left the one that had it
  pub left_after : (new : BTreeSet Seat) (before : Option Seat) → before ≡ seat_held p (map_of.get m p) → IfSome before (λ s. SeatChanges s false seats new) → IfNone before (new ≡ seats) → AreSeatsOf new (map_of.remove m p)
  left_after new before is left stays = by_cases (map_of.get m p) refl
    where
      by_cases : (o : Option Held) → map_of.get m p ≡ o → AreSeatsOf new (map_of.remove m p)
      by_cases None e =
          let same : new ≡ seats = subst (λ b. IfNone b (new ≡ seats)) (is ∙ ap (seat_held p) e) stays in
          subst (λ ks. AreSeatsOf ks (map_of.remove m p)) (sym same)
          (reseated seats seats m (map_of.remove m p) p None are (got-remove m p) (λ s here was. was ∙ ap (is_held_by s.consumer) e) (λ s there. refl))
      by_cases (Some x) e =
          let leaves : SeatChanges (seat_of x.consumer p) false seats new = subst (λ b. IfSome b (λ s. SeatChanges s false seats new)) (is ∙ ap (seat_held p) e) left in
          reseated seats new m (map_of.remove m p) p None are (got-remove m p)
          (λ s here was. at_position seats new x.consumer p false leaves s here ∙ went (x.consumer == s.consumer) _ (was ∙ ap (is_held_by s.consumer) e))
          (λ s there. at_others seats new x.consumer p false leaves s there)

  -- the same consumer keeps it, otherwise
  pub held_again : (h : Held) → is_held_by h.consumer (map_of.get m p) ≡ true → AreSeatsOf seats (map_of.insert m p h)
  held_again h is = reseated seats seats m (map_of.insert m p h) p (Some h) are (got-insert m p h) (λ s here was. was ∙ by_cases s (map_of.get m p) is) (λ s there. refl)
    where
      by_cases : (s : Seat) (o : Option Held) → is_held_by h.consumer o ≡ true → is_held_by s.consumer o ≡ (h.consumer == s.consumer)
      by_cases s None t = absurd (false≢true t)
      by_cases s (Some x) t = nat_eq_equiv.congr x.consumer h.consumer s.consumer t

-- the message whose seat it is
pub held_by_seat : (m : Holding) (p : Position) (s : Seat) (consumer : ℕ) → Some s ≡ seat_held p (map_of.get m p) → s.consumer ≡ consumer → is_held_by consumer (map_of.get m p) ≡ true
held_by_seat m p s consumer is same = by_cases (map_of.get m p) refl
  where
    by_cases : (o : Option Held) → map_of.get m p ≡ o → is_held_by consumer (map_of.get m p) ≡ true
    by_cases None e = absurd (nothing_is_some (Some s) s (is ∙ ap (seat_held p) e) refl)
    by_cases (Some h) e =
        let here : s ≡ seat_of h.consumer p = same_Some s (seat_of h.consumer p) (is ∙ ap (seat_held p) e) in
        ap (is_held_by consumer) e ∙ ap (λ n. n == consumer) (sym (ap (λ (x : Seat). x.consumer) here) ∙ same) ∙ nat_eq_equiv.refl consumer

-- another due moment
pub seated_due_again : (seats : BTreeSet Seat) (s : Pending) (p : Position) (due : ℕ) → AreSeatsOf seats s.pending → AreSeatsOf seats (due_again p due s).pending
seated_due_again seats s p due are = by_cases (map_of.get s.pending p) refl
  where
    chosen : Option Held → Pending
    chosen o = option_map_or (λ held. record s { pending = map_of.insert s.pending p (record held { due = Some due }) }) o s

    by_cases : (o : Option Held) → map_of.get s.pending p ≡ o → AreSeatsOf seats (due_again p due s).pending
    by_cases None e = subst (λ o. AreSeatsOf seats (chosen o).pending) (sym e) are
    by_cases (Some x) e = subst (λ o. AreSeatsOf seats (chosen o).pending) (sym e) (held_again seats s.pending p are (record x { due = Some due }) (ap (is_held_by x.consumer) e ∙ nat_eq_equiv.refl x.consumer))

-- a count
pub seated_redelivered : (seats : BTreeSet Seat) (s : Pending) (p : Position) → AreSeatsOf seats s.pending → AreSeatsOf seats (redelivered p s).pending
seated_redelivered seats s p are = by_test (map_of.contains_key s.pending p) _ refl
  where
    by_test : (b : Bool) (counted : Pending) → s.pending ≡ counted.pending → AreSeatsOf seats (cond b counted s).pending
    by_test true counted same = subst (AreSeatsOf seats) same are
    by_test false counted same = are
