-- What is known of a hash, once the first messages of the log went.
use Rattle.std.proofs.Common.{◌≡◌, ℕ, zero, suc, ◌+◌, ◌-◌, Bool, false, List, [], ◌∷◌, drop, Option, Some, None, inl, inr, refl, sym, ap, ◌∙◌, subst, arith, true≢false, add_assoc}
use Rattle.std.specs.Prelude.{◌==◌, ◌&&◌, nat_lt, is_some, slice_get}
use Rattle.std.specs.Option.{option_map, option_map_or, option_and_then}
use Rattle.std.proofs.lemmas.Bool.{cases_lt, lt-ltb, le-ltb}
use Rattle.std.proofs.lemmas.Option.{same_Some, none-some, slice_get_past}
use Rattle.murmur_core.specs.Sticky.{sticky_hash}
use Rattle.number_sets.specs.Places.{IsNext}
use Rattle.position_core.specs.declared.message.Entry.{Entry}
use Rattle.delivery_machine.specs.State.{State, Subscription}
use Rattle.delivery_machine.specs.Shares.{owner_of}
use Rattle.dispatch_core.specs.Log.{waits_at, holder_at, key_at}
use Rattle.dispatch_core.specs.Changes.{Trimmed}
use Rattle.hash_rows.specs.declared.row.Row.{Row}
use Rattle.hash_rows.specs.Hashes.{hash_at}
use Rattle.hash_rows.specs.Rows.{is_in, waits_in, holds_in}
use Rattle.hash_rows.specs.Standing.{Found, later, is_placed, waits_there, holds_there, keeper_of}
use Rattle.hash_rows.specs.Knowing.{Knows, IsRowOf, IsFirstOf, AreHeldBy, is_read}
use Rattle.hash_rows.proofs.Moving.{held_read, waiting_read}

there : (o : Option Row) (word : Row → ℕ → Bool) (base n i : ℕ) → option_map_or (λ r. word r ((base + n) + i)) o false ≡ option_map_or (λ r. word r (base + (n + i))) o false
there o word base n i = ap (λ (p : ℕ). option_map_or (λ r. word r p) o false) (add_assoc base n i)

placed_later : (n : ℕ) (o : Found) (i : ℕ) → is_placed (later n o) i ≡ is_placed o (n + i)
unfolding is_placed
placed_later n o i = there o.row is_in o.base n i

waits_later : (n : ℕ) (o : Found) (i : ℕ) → waits_there (later n o) i ≡ waits_there o (n + i)
unfolding waits_there
waits_later n o i = there o.row waits_in o.base n i

holds_later : (n : ℕ) (o : Found) (i : ℕ) → holds_there (later n o) i ≡ holds_there o (n + i)
unfolding holds_there
holds_later n o i = there o.row holds_in o.base n i

keeper_later : (n : ℕ) (o : Found) → keeper_of (later n o) ≡ keeper_of o
unfolding keeper_of
keeper_later n o = refl

get_dropped : {X : Type 0} (xs : List X) (n i : ℕ) → slice_get (drop n xs) i ≡ slice_get xs (n + i)
get_dropped xs zero i = ap (slice_get xs) (omega arith)
get_dropped [] (suc n) i = slice_get_past [] i (omega arith) ∙ sym (slice_get_past [] (suc n + i) (omega arith))
get_dropped (x ∷ xs) (suc n) i =
    let one : suc n + i ≡ suc (n + i) = omega arith in
    get_dropped xs n i ∙ sym (ap (slice_get (x ∷ xs)) one)

module _ (n : ℕ) (s : State) (sub : Subscription) (t : State) (new : Subscription) (change : Trimmed n s sub t new) where
  pub hash_later : (i : ℕ) → hash_at t i ≡ hash_at s (n + i)
  unfolding key_at
  hash_later i =
      ap (λ (o : Option Entry). sticky_hash (option_and_then (λ e. e.body.key) o))
      (ap (λ (log : List Entry). slice_get log i) change.log ∙ get_dropped s.log n i)

  read_later : (hash read i : ℕ) → is_read t hash (read - n) i ≡ is_read s hash read (n + i)
  read_later hash read i =
      ap (λ (h : ℕ). nat_lt i (read - n) && h == hash) (hash_later i)
      ∙ ap (λ (b : Bool). b && hash_at s (n + i) == hash)
      (elim (cases_lt i (read - n)) [
        | inl below ↦ lt-ltb i (read - n) below ∙ sym (lt-ltb (n + i) read (omega (arith, below)))
        | inr past ↦ le-ltb i (read - n) past ∙ sym (le-ltb (n + i) read (omega (arith, past)))
      ])

  module _ (o : Found) (hash read : ℕ) (of_row : IsRowOf o hash read s sub) where
    held_later : (consumer : ℕ) → AreHeldBy o s sub consumer → AreHeldBy (later n o) t new consumer
    held_later consumer all i held = change.holder i ∙ all (n + i) (sym (holds_later n o i) ∙ held)

    -- nothing was pending that went
    held_before : (consumer : ℕ) → AreHeldBy (later n o) t new consumer → AreHeldBy o s sub consumer
    held_before consumer all i held = elim (cases_lt i n) [
      | inl gone ↦ absurd (true≢false (sym (held_read o hash read s sub i of_row held).2 ∙ ap (λ (x : Option ℕ). is_some x) (change.idle i gone).1))
      | inr stays ↦
          let at : n + (i - n) ≡ i = omega (arith, stays) in
          subst (λ (k : ℕ). holder_at s sub k ≡ Some consumer) at
          (sym (change.holder (i - n)) ∙ all (i - n) (holds_later n o (i - n) ∙ ap (holds_there o) at ∙ held))
    ]

    pub row_later : IsRowOf (later n o) hash (read - n) t new
    row_later = record {
      places = λ i placed. omega (arith, of_row.places (n + i) (sym (placed_later n o i) ∙ placed));
      waits = λ i.
          waits_later n o i ∙ of_row.waits (n + i)
          ∙ ap (λ (b : Bool). b && waits_at s sub (n + i)) (sym (read_later hash read i))
          ∙ ap (λ (b : Bool). is_read t hash (read - n) i && b) (sym (change.waits i));
      holds = λ i.
          holds_later n o i ∙ of_row.holds (n + i)
          ∙ ap (λ (b : Bool). b && is_some (holder_at s sub (n + i))) (sym (read_later hash read i))
          ∙ ap (λ (x : Option ℕ). is_read t hash (read - n) i && is_some x) (sym (change.holder i));
      keeper = λ consumer is. held_later consumer (of_row.keeper consumer (sym (keeper_later n o) ∙ is));
    }

    -- the first one stays, at its index less n
    next_later : (k : ℕ) → IsNext (waits_there o) 0 k → IsNext (waits_there (later n o)) 0 (k - n)
    next_later k next = record {
      after = omega arith;
      is_in = waits_later n o (k - n) ∙ ap (waits_there o) at ∙ next.is_in;
      least = λ i _ waits. omega (arith, next.least (n + i) (omega arith) (sym (waits_later n o i) ∙ waits));
    }
      where
        at : n + (k - n) ≡ k
        at = elim (cases_lt k n) [
          | inl gone ↦ absurd (true≢false (sym (waiting_read o hash read s sub k of_row next.is_in).2 ∙ (change.idle k gone).0))
          | inr stays ↦ omega (arith, stays)
        ]

    first_later : (first owner : Option ℕ) → IsFirstOf o first owner s sub → IsFirstOf (later n o) (option_map (λ k. k - n) first) owner t new
    first_later None owner is = record {
      some = λ k never. absurd (none-some k never);
      none = λ _ free i _. waits_later n o i ∙ is.none refl (free.0, free.1, held_before free.0 free.2) (n + i) (omega arith);
    }
    first_later (Some k) owner is = record {
      some = λ j at.
          let was = is.some k refl in
          (subst (λ (x : ℕ). IsNext (waits_there (later n o)) 0 x) (same_Some (k - n) j at) (next_later k was.0), (was.1.0, was.1.1, held_later was.1.0 was.1.2));
      none = λ never. absurd (none-some (k - n) (sym never));
    }

  pub knows_later : (o : Found) (first : Option ℕ) (hash read : ℕ) → Knows o first hash read s sub → Knows (later n o) (option_map (λ k. k - n) first) hash (read - n) t new
  knows_later o first hash read known = record {
    row = row_later o hash read known.row;
    first = subst (λ shares. IsFirstOf (later n o) (option_map (λ k. k - n) first) (owner_of shares hash) t new) (sym change.shares) (first_later o hash read known.row first (owner_of sub.shares hash) known.first);
  }
