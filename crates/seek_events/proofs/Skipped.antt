-- The first live messages are acknowledged, one after another.
use Rattle.std.proofs.Common.{◌≡◌, ◌≢◌, ℕ, zero, suc, ◌<◌, ◌≤◌, List, [], ◌∷◌, ◌++◌, map, take, Some, None, Option, Bool, true, false, cond, slice_get, refl, ap, ap₂, ◌∙◌, sym, subst, arith}
use Rattle.std.specs.Prelude.{◌||◌, ◌&&◌, not, drop, is_some, if◌then◌else◌, IsSomeAnd}
use Rattle.std.specs.List.{filter, find}
use Rattle.std.specs.FinSet as set_of
use Rattle.position_core.specs.declared.position.Position.{Position}
use Rattle.position_core.specs.declared.message.Entry.{Entry}
use Rattle.position_core.specs.Position.{same_position, positions_total}
use Rattle.position_core.specs.declared.fault.Fault.TheVariants.{NoSuchSubscription}
use Rattle.delivery_machine.specs.State.{State, Subscription}
use Rattle.delivery_machine.specs.Words.{is_dead, is_live, is_named, visible}
use Rattle.delivery_machine.specs.Acknowledging.{acknowledging, with_acknowledged}
use Rattle.delivery_machine.specs.Refusals.{absence_refused}
use Rattle.delivery_machine.specs.Seeking.{first_live}
use Rattle.delivery_machine.specs.Laws.{IsReached}
use Rattle.delivery_machine.specs.Run.{Answers}
use Rattle.delivery_machine.specs.declared.event.Event.TheVariants.{Skip}
use Rattle.delivery_machine.specs.declared.reply.Reply.TheVariants.{Done}
use Rattle.machine_laws.proofs.ReachedOn.{reached_step}
use Rattle.delivery_machine.proofs.Messages.{position_itself}

-- ---- lists

filtered_alike : {A : Type 0} (p q : A → Bool) (n : ℕ) (xs : List A) → ((k : ℕ) (y : A) → slice_get xs k ≡ Some y → q y ≡ p y) → filter p (take n xs) ≡ filter q (take n xs)
filtered_alike p q zero xs alike = refl
filtered_alike p q (suc n) [] alike = refl
filtered_alike p q (suc n) (x ∷ xs) alike =
    ap₂ (λ b ys. cond b (x ∷ ys) ys) (sym (alike 0 x refl)) (filtered_alike p q n xs (λ k y at. alike (suc k) y at))

-- the first that passes comes first, and the others are those that pass without it
pub filtered_first : {A : Type 0} (p q : A → Bool) (n : ℕ) (xs : List A) (i : ℕ) (x : A) → slice_get xs i ≡ Some x → i < n → p x ≡ true → q x ≡ false
    → ((k : ℕ) (y : A) → k < i → slice_get xs k ≡ Some y → p y ≡ false) → ((k : ℕ) (y : A) → k ≢ i → slice_get xs k ≡ Some y → q y ≡ p y) → filter p (take n xs) ≡ x ∷ filter q (take n xs)
filtered_first p q zero xs i x at low passes fails before others = absurd (omega (arith, low))
filtered_first p q (suc n) [] i x at low passes fails before others = cc
filtered_first {A} p q (suc n) (y ∷ ys) zero x at low passes fails before others =
    let is : y ≡ x = cc (at) in
    subst (λ (z : A). filter p (z ∷ take n ys) ≡ x ∷ filter q (z ∷ take n ys)) (sym is)
    (ap (λ b. cond b (x ∷ filter p (take n ys)) (filter p (take n ys))) passes
    ∙ ap (λ zs. x ∷ zs) (filtered_alike p q n ys (λ k z there. others (suc k) z (λ e. absurd (omega (arith, e))) there))
    ∙ sym (ap (λ b. x ∷ cond b (x ∷ filter q (take n ys)) (filter q (take n ys))) fails))
filtered_first p q (suc n) (y ∷ ys) (suc i) x at low passes fails before others =
    let out = before 0 y (omega arith) refl in
    ap (λ b. cond b (y ∷ filter p (take n ys)) (filter p (take n ys))) out
    ∙ filtered_first p q n ys i x at (omega (arith, low)) passes fails (λ k z lt there. before (suc k) z (omega (arith, lt)) there) (λ k z apart there. others (suc k) z (λ e. apart (omega (arith, e))) there)
    ∙ sym (ap (λ b. x ∷ cond b (y ∷ filter q (take n ys)) (filter q (take n ys))) (others 0 y (λ e. absurd (omega (arith, e))) refl ∙ out))

pub filtered_none : {A : Type 0} (p : A → Bool) (n : ℕ) (xs : List A) → ((k : ℕ) (y : A) → k < n → slice_get xs k ≡ Some y → p y ≡ false) → filter p (take n xs) ≡ []
filtered_none p zero xs none = refl
filtered_none p (suc n) [] none = refl
filtered_none p (suc n) (x ∷ xs) none =
    ap (λ b. cond b (x ∷ filter p (take n xs)) (filter p (take n xs))) (none 0 x (omega arith) refl)
    ∙ filtered_none p n xs (λ k y lt at. none (suc k) y (omega (arith, lt)) at)

pub one_taken : {A : Type 0} (k : ℕ) (xs rest : List A) (x : A) → drop k xs ≡ x ∷ rest → (take (suc k) xs ≡ take k xs ++ x ∷ []) × (drop (suc k) xs ≡ rest)
one_taken zero [] rest x is = cc
one_taken zero (y ∷ ys) rest x is = (ap (λ z. z ∷ []) (head is), tail is)
  where
    head : y ∷ ys ≡ x ∷ rest → y ≡ x
    head e = cc

    tail : y ∷ ys ≡ x ∷ rest → ys ≡ rest
    tail e = cc
one_taken (suc k) [] rest x is = cc
one_taken (suc k) (y ∷ ys) rest x is = (let more = one_taken k ys rest x is in (ap (λ zs. y ∷ zs) more.0, more.1))

pub all_taken : {A : Type 0} (k count : ℕ) (xs : List A) → drop k xs ≡ [] → k ≤ count → take k xs ≡ take count xs
all_taken zero zero [] none le = refl
all_taken zero (suc count) [] none le = refl
all_taken zero count (x ∷ xs) none le = cc
all_taken (suc k) zero xs none le = absurd (omega (arith, le))
all_taken (suc k) (suc count) [] none le = refl
all_taken (suc k) (suc count) (x ∷ xs) none le = ap (λ ys. x ∷ ys) (all_taken k count xs none (omega (arith, le)))

-- ---- one live message

-- the live messages that are visible, by their positions
abbrev pub live_of : State → Subscription → List Position
live_of s sub = map (λ (e : Entry). e.position) (filter (is_live sub) (visible s))

-- a message that is acknowledged is not live, and the others are as live as they were
pub live_after : (sub : Subscription) (p : Position) (e : Entry) → is_live (acknowledging (p ∷ []) sub) e ≡ (not (set_of.contains sub.acknowledged e.position || (same_position e.position p || false)) && not (is_dead sub e.position))
live_after sub p e =
    ap (λ b. not b && not (is_dead sub e.position))
    (set_of.contains-union positions_total sub.acknowledged (set_of.from_list (p ∷ [])) e.position
    ∙ ap (λ b. set_of.contains sub.acknowledged e.position || b) (set_of.contains-from_list positions_total (p ∷ []) e.position))

pub skipped_one : (s : State) (sub : Subscription) (i : ℕ) (e : Entry) → slice_get s.log i ≡ Some e → i < s.durable → is_live sub e ≡ true
    → ((k : ℕ) (d : Entry) → k < i → slice_get s.log k ≡ Some d → is_live sub d ≡ false) → ((k : ℕ) (d : Entry) → k ≢ i → slice_get s.log k ≡ Some d → same_position d.position e.position ≡ false)
    → live_of s sub ≡ e.position ∷ live_of s (acknowledging (e.position ∷ []) sub)
skipped_one s sub i e at low alive before apart =
    ap (map (λ (d : Entry). d.position))
    (filtered_first (is_live sub) (is_live (acknowledging (e.position ∷ []) sub)) s.durable s.log i e at low alive gone before others)
  where
    or_false : (a : Bool) → (a || (false || false)) ≡ a
    or_false true = refl
    or_false false = refl

    or_true : (a : Bool) → (a || (true || false)) ≡ true
    or_true true = refl
    or_true false = refl

    gone : is_live (acknowledging (e.position ∷ []) sub) e ≡ false
    gone =
        live_after sub e.position e
        ∙ ap (λ b. not (set_of.contains sub.acknowledged e.position || (b || false)) && not (is_dead sub e.position)) (position_itself e.position)
        ∙ ap (λ b. not b && not (is_dead sub e.position)) (or_true (set_of.contains sub.acknowledged e.position))

    others : (k : ℕ) (d : Entry) → k ≢ i → slice_get s.log k ≡ Some d → is_live (acknowledging (e.position ∷ []) sub) d ≡ is_live sub d
    others k d other there =
        live_after sub e.position d
        ∙ ap (λ b. not (set_of.contains sub.acknowledged d.position || (b || false)) && not (is_dead sub d.position)) (apart k d other there)
        ∙ ap (λ b. not b && not (is_dead sub d.position)) (or_false (set_of.contains sub.acknowledged d.position))

-- to skip one is a step
pub reached_skip : (s : State) (name : List ℕ) (sub : Subscription) (p : Position) (rest : List Position) → IsReached s → find (is_named name) s.subscriptions ≡ Some sub → live_of s sub ≡ p ∷ rest → IsReached (with_acknowledged s name (p ∷ []))
reached_skip s name sub p rest reached named live = reached_step s (Skip name 1) Done (with_acknowledged s name (p ∷ [])) answers reached
  where
    allowed : absence_refused s name ≡ None
    allowed = ap (λ (o : Option Subscription). if is_some o then None else Some NoSuchSubscription) named

    one : first_live s sub 1 ≡ p ∷ []
    one = ap (take 1) live

    answers : Answers s (Skip name 1) Done (with_acknowledged s name (p ∷ []))
    answers = (allowed, subst (λ (o : Option Subscription). IsSomeAnd o (λ x. (Done ≡ Done) × (with_acknowledged s name (p ∷ []) ≡ with_acknowledged s name (first_live s x 1)))) (sym named) (refl, ap (with_acknowledged s name) (sym one)))
