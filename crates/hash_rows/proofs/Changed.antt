-- What is known of a hash after a change of one of its messages.
use Rattle.std.proofs.Common.{◌≡◌, ◌≢◌, ℕ, zero, suc, ◌+◌, ◌<◌, ◌≤◌, Bool, true, false, cond, Option, Some, None, inl, inr, refl, sym, ap, ◌∙◌, subst, arith, true≢false, ◌⊎◌}
use Rattle.std.specs.Prelude.{◌==◌, ◌&&◌, ◌||◌, nat_lt, is_some}
use Rattle.std.specs.Option.{option_map_or}
use Rattle.std.proofs.lemmas.Bool.{cases_eq, cases_lt, ne_eqb, eq-eqb, lt-ltb, le-ltb, and_parts, false_from_ne_true}
use Rattle.delivery_machine.specs.State.{State, Subscription}
use Rattle.dispatch_core.specs.Log.{waits_at, holder_at}
use Rattle.dispatch_core.specs.Changes.{StaysAt, OnlyChangesAt}
use Rattle.hash_rows.specs.Hashes.{hash_at}
use Rattle.hash_rows.specs.declared.row.Row.{Row}
use Rattle.hash_rows.specs.Rows.{is_in, waits_in, holds_in}
use Rattle.hash_rows.specs.Standing.{Found, is_placed, waits_there, holds_there, keeper_of, AllPlacedBefore, SameKnowledge, Stands, Added}
use Rattle.hash_rows.specs.Knowing.{Knows, IsRowOf, is_read}
use Rattle.hash_rows.proofs.Moving.{hash_of_log}

-- ---- as much as before

pub knows_same : (o p : Found) (first : Option ℕ) (hash read : ℕ) (s : State) (sub : Subscription) → SameKnowledge o p → Knows o first hash read s sub → Knows p first hash read s sub
knows_same o p first hash read s sub same known = record {
  row = record {
    places = λ i is. known.row.places i (sym (same.places i) ∙ is);
    waits = λ i. same.waits i ∙ known.row.waits i;
    holds = λ i. same.holds i ∙ known.row.holds i;
    keeper = λ c is i held. known.row.keeper c (same.keeper c is) i (sym (same.holds i) ∙ held);
  };
  first = record {
    some = λ n is.
        let was = known.first.some n is in (
          record {
            after = was.0.after;
            is_in = same.waits n ∙ was.0.is_in;
            least = λ k after waits. was.0.least k after (sym (same.waits k) ∙ waits);
          },
          (was.1.0, was.1.1, λ i held. was.1.2 i (sym (same.holds i) ∙ held)),
        );
    none = λ is free k after.
        same.waits k ∙ known.first.none is (free.0, free.1, λ i held. free.2 i (same.holds i ∙ held)) k after;
  };
}

-- ---- what is marked was put in

placed_if : (o : Option Row) (p : ℕ) (marked : Row → ℕ → Bool) → ((r : Row) → marked r p ≡ true → is_in r p ≡ true) → option_map_or (λ r. marked r p) o false ≡ true → option_map_or (λ r. is_in r p) o false ≡ true
placed_if None p marked inside is = is
placed_if (Some r) p marked inside is = inside r is

waiting_in : (r : Row) (p : ℕ) → waits_in r p ≡ true → is_in r p ≡ true
unfolding waits_in
waiting_in r p waits = lt-ltb _ _ (r.waiting_ranks _ waits)

held_in : (r : Row) (p : ℕ) → holds_in r p ≡ true → is_in r p ≡ true
unfolding holds_in
held_in r p held = lt-ltb _ _ (r.held_ranks _ held)

pub waits_placed : (known : Found) (i : ℕ) → waits_there known i ≡ true → is_placed known i ≡ true
unfolding waits_there is_placed
waits_placed known i waits = placed_if known.row (known.base + i) waits_in (λ r is. waiting_in r (known.base + i) is) waits

pub holds_placed : (known : Found) (i : ℕ) → holds_there known i ≡ true → is_placed known i ≡ true
unfolding holds_there is_placed
holds_placed known i held = placed_if known.row (known.base + i) holds_in (λ r is. held_in r (known.base + i) is) held

-- ---- a change at one index

kept_if : (b x : Bool) → (x ≡ true → b ≡ true) → (b && x) ≡ x
kept_if true x all = refl
kept_if false true all = all refl
kept_if false false all = refl

there_is : (o : Option ℕ) → is_some o ≡ true → (x : ℕ) × (o ≡ Some x)
there_is (Some x) is = (x, refl)
there_is None is = absurd (true≢false (sym is))

module _ (o p : Found) (hash read end index : ℕ) (placed wait : Bool) (holder : Option ℕ) (s : State) (sub : Subscription) (t : State) (new : Subscription) (of_row : IsRowOf o hash read s sub) where
  pub row_changed :
      AllPlacedBefore p end →
      ((i : ℕ) → i ≢ index → waits_there p i ≡ waits_there o i) →
      ((i : ℕ) → i ≢ index → holds_there p i ≡ holds_there o i) →
      waits_there p index ≡ (placed && wait) →
      holds_there p index ≡ (placed && is_some holder) →
      ((c : ℕ) → keeper_of p ≡ Some c → ((i : ℕ) → i ≢ index → holds_there o i ≡ true → keeper_of o ≡ Some c) × (placed ≡ true → (h : ℕ) → holder ≡ Some h → h ≡ c)) →
      ((i : ℕ) → i ≢ index → is_read t hash end i ≡ is_read s hash read i) →
      ((i : ℕ) → i ≢ index → StaysAt i s sub t new) →
      holder_at t new index ≡ holder →
      (placed && wait) ≡ (is_read t hash end index && waits_at t new index) →
      (placed && is_some holder) ≡ (is_read t hash end index && is_some (holder_at t new index)) →
      IsRowOf p hash end t new
  row_changed places others_wait others_hold here_waits here_holds keeper reads stays holder_is there_waits there_holds = record {
    places = places;
    waits = λ i. elim (cases_eq i index) [
      | inl is ↦ subst (λ (k : ℕ). waits_there p k ≡ (is_read t hash end k && waits_at t new k)) (sym is) (here_waits ∙ there_waits)
      | inr other ↦
          others_wait i other ∙ of_row.waits i
          ∙ ap (λ (b : Bool). b && waits_at s sub i) (sym (reads i other))
          ∙ ap (λ (b : Bool). is_read t hash end i && b) (sym (stays i other).waits)
    ];
    holds = λ i. elim (cases_eq i index) [
      | inl is ↦ subst (λ (k : ℕ). holds_there p k ≡ (is_read t hash end k && is_some (holder_at t new k))) (sym is) (here_holds ∙ there_holds)
      | inr other ↦
          others_hold i other ∙ of_row.holds i
          ∙ ap (λ (b : Bool). b && is_some (holder_at s sub i)) (sym (reads i other))
          ∙ ap (λ (x : Option ℕ). is_read t hash end i && is_some x) (sym (stays i other).holder)
    ];
    keeper = λ c is i held. elim (cases_eq i index) [
      | inl same ↦
          let both = and_parts placed (is_some holder) (sym here_holds ∙ ap (holds_there p) (sym same) ∙ held) in
          let at = there_is holder both.1 in
          ap (holder_at t new) same ∙ holder_is ∙ at.1 ∙ ap Some ((keeper c is).1 both.0 at.0 at.1)
      | inr other ↦
          let was : holds_there o i ≡ true = sym (others_hold i other) ∙ held in
          (stays i other).holder ∙ of_row.keeper c ((keeper c is).0 i other was) i was
    ];
  }

-- ---- a message that was read

module _ (o p : Found) (hash read index : ℕ) (wait : Bool) (holder : Option ℕ) (s : State) (sub : Subscription) (t : State) (new : Subscription) (of_row : IsRowOf o hash read s sub) (stands : Stands index wait holder o p) (is : hash_at s index ≡ hash) (change : OnlyChangesAt index s sub t new) (waits_is : waits_at t new index ≡ wait) (holder_is : holder_at t new index ≡ holder) (was : (wait || is_some holder) ≡ true → (waits_at s sub index || is_some (holder_at s sub index)) ≡ true) where
  read_there : index < read → is_read s hash read index ≡ true
  read_there below =
      ap (λ (b : Bool). b && hash_at s index == hash) (lt-ltb index read below) ∙ eq-eqb (hash_at s index) hash is

  placed_there : index < read → (wait || is_some holder) ≡ true → is_placed o index ≡ true
  placed_there below news = by (waits_at s sub index) refl (was news)
    where
      by : (b : Bool) → waits_at s sub index ≡ b → (b || is_some (holder_at s sub index)) ≡ true → is_placed o index ≡ true
      by true waits _ = waits_placed o index (of_row.waits index ∙ ap (λ (b : Bool). b && waits_at s sub index) (read_there below) ∙ waits)
      by false _ held = holds_placed o index (of_row.holds index ∙ ap (λ (b : Bool). b && is_some (holder_at s sub index)) (read_there below) ∙ held)

  same_reads : (i : ℕ) → is_read t hash read i ≡ is_read s hash read i
  same_reads i = ap (λ (h : ℕ). nat_lt i read && h == hash) (hash_of_log s t i change.log.log)

  there : (x y : Bool) → y ≡ x → (x ≡ true → (wait || is_some holder) ≡ true) → (is_placed o index && x) ≡ (is_read t hash read index && y)
  there x y same news = elim (cases_lt index read) [
    | inl below ↦
        kept_if (is_placed o index) x (λ is_true. placed_there below (news is_true)) ∙ sym same
        ∙ sym (ap (λ (b : Bool). b && y) (same_reads index ∙ read_there below))
    | inr past ↦
        let away : is_placed o index ≡ false = false_from_ne_true _ (λ placed. omega (arith, past, of_row.places index placed)) in
        ap (λ (b : Bool). b && x) away
        ∙ sym (ap (λ (b : Bool). (b && hash_at t index == hash) && y) (le-ltb index read past))
  ]

  pub row_stands : IsRowOf p hash read t new
  row_stands =
      row_changed o p hash read read index (is_placed o index) wait holder s sub t new of_row
      (λ i placed. of_row.places i (sym (stands.places i) ∙ placed))
      (λ i other. stands.waits i ∙ ap (λ (b : Bool). cond b (is_placed o i && wait) (waits_there o i)) (ne_eqb i index other))
      (λ i other. stands.holds i ∙ ap (λ (b : Bool). cond b (is_placed o i && is_some holder) (holds_there o i)) (ne_eqb i index other))
      (stands.waits index ∙ ap (λ (b : Bool). cond b (is_placed o index && wait) (waits_there o index)) (eq-eqb index index refl))
      (stands.holds index ∙ ap (λ (b : Bool). cond b (is_placed o index && is_some holder) (holds_there o index)) (eq-eqb index index refl))
      (λ c keeps. (λ i _ held. (stands.keeper c keeps).0 i held, λ _. (stands.keeper c keeps).1))
      (λ i _. same_reads i)
      (λ i other. change.others i other)
      holder_is
      (there wait (waits_at t new index) waits_is (λ is_true. ap (λ (b : Bool). b || is_some holder) is_true))
      (there (is_some holder) (is_some (holder_at t new index)) (ap (λ (x : Option ℕ). is_some x) holder_is) (λ is_true. ap (λ (b : Bool). wait || b) is_true ∙ or_true wait))
    where
      or_true : (b : Bool) → (b || true) ≡ true
      or_true true = refl
      or_true false = refl

-- ---- a message that is read

below_next : (i read : ℕ) → i ≢ read → nat_lt i (read + 1) ≡ nat_lt i read
below_next i read other = elim (cases_lt i read) [
  | inl below ↦ lt-ltb i (read + 1) (omega (arith, below)) ∙ sym (lt-ltb i read below)
  | inr past ↦ le-ltb i (read + 1) (omega (arith, past, other)) ∙ sym (le-ltb i read past)
]

stays_itself : (i : ℕ) (s : State) (sub : Subscription) → StaysAt i s sub s sub
stays_itself i s sub = record { waits = refl; holder = refl }

reads_next : (s : State) (hash read i : ℕ) → i ≢ read → is_read s hash (read + 1) i ≡ is_read s hash read i
reads_next s hash read i other = ap (λ (b : Bool). b && hash_at s i == hash) (below_next i read other)

-- it has another hash, or is neither waiting nor pending
module _ (o : Found) (first : Option ℕ) (hash read : ℕ) (s : State) (sub : Subscription) (known : Knows o first hash read s sub) where
  not_yet : (x : Bool) → (is_read s hash read read && x) ≡ false
  not_yet x = ap (λ (b : Bool). (b && hash_at s read == hash) && x) (le-ltb read read (omega arith))

  aside_from : (x : Bool) → ((waits_at s sub read ≡ false) × (holder_at s sub read ≡ None) → x ≡ false) → (hash_at s read ≢ hash) ⊎ ((waits_at s sub read ≡ false) × (holder_at s sub read ≡ None)) → (is_read s hash (read + 1) read && x) ≡ false
  aside_from x is_false (inl other) =
      ap (λ (b : Bool). (nat_lt read (read + 1) && b) && x) (ne_eqb (hash_at s read) hash other)
      ∙ ap (λ (b : Bool). (b && false) && x) (lt-ltb read (read + 1) (omega arith))
  aside_from x is_false (inr neither) =
      ap (λ (b : Bool). is_read s hash (read + 1) read && b) (is_false neither) ∙ and_false (is_read s hash (read + 1) read)
    where
      and_false : (b : Bool) → (b && false) ≡ false
      and_false true = refl
      and_false false = refl

  pub knows_past : (hash_at s read ≢ hash) ⊎ ((waits_at s sub read ≡ false) × (holder_at s sub read ≡ None)) → Knows o first hash (read + 1) s sub
  knows_past aside = record {
    row =
        row_changed o o hash read (read + 1) read false false (holder_at s sub read) s sub s sub known.row
        (λ i placed. omega (arith, known.row.places i placed))
        (λ _ _. refl)
        (λ _ _. refl)
        (known.row.waits read ∙ not_yet (waits_at s sub read))
        (known.row.holds read ∙ not_yet (is_some (holder_at s sub read)))
        (λ c keeps. (λ _ _ _. keeps, λ never. absurd (true≢false (sym never))))
        (λ i other. reads_next s hash read i other)
        (λ i _. stays_itself i s sub)
        refl
        (sym (aside_from (waits_at s sub read) (λ neither. neither.0) aside))
        (sym (aside_from (is_some (holder_at s sub read)) (λ neither. ap (λ (x : Option ℕ). is_some x) neither.1) aside));
    first = known.first;
  }

module _ (o q p : Found) (hash read : ℕ) (wait : Bool) (holder : Option ℕ) (s : State) (sub : Subscription) (of_row : IsRowOf o hash read s sub) (added : Added read o q) (stands : Stands read wait holder q p) (is : hash_at s read ≡ hash) (waits_is : wait ≡ waits_at s sub read) (holder_is : holder ≡ holder_at s sub read) where
  pub row_read : IsRowOf p hash (read + 1) s sub
  row_read =
      row_changed o p hash read (read + 1) read true wait holder s sub s sub of_row
      (λ i in_row. before i (sym (added.places i) ∙ sym (stands.places i) ∙ in_row))
      (λ i other. stands.waits i ∙ ap (λ (b : Bool). cond b (is_placed q i && wait) (waits_there q i)) (ne_eqb i read other) ∙ added.waits i ∙ ap (λ (b : Bool). b || waits_there o i) (ne_eqb i read other))
      (λ i other. stands.holds i ∙ ap (λ (b : Bool). cond b (is_placed q i && is_some holder) (holds_there q i)) (ne_eqb i read other) ∙ added.holds i)
      (stands.waits read ∙ ap (λ (b : Bool). cond b (is_placed q read && wait) (waits_there q read)) (eq-eqb read read refl) ∙ ap (λ (b : Bool). b && wait) placed)
      (stands.holds read ∙ ap (λ (b : Bool). cond b (is_placed q read && is_some holder) (holds_there q read)) (eq-eqb read read refl) ∙ ap (λ (b : Bool). b && is_some holder) placed)
      (λ c keeps. (λ i _ held. sym added.keeper ∙ (stands.keeper c keeps).0 i (added.holds i ∙ held), λ _. (stands.keeper c keeps).1))
      (λ i other. reads_next s hash read i other)
      (λ i _. stays_itself i s sub)
      (sym holder_is)
      (waits_is ∙ sym (ap (λ (b : Bool). b && waits_at s sub read) now_read))
      (ap (λ (x : Option ℕ). is_some x) holder_is ∙ sym (ap (λ (b : Bool). b && is_some (holder_at s sub read)) now_read))
    where
      before : (i : ℕ) → (i == read || is_placed o i) ≡ true → i < read + 1
      before i in_row = elim (cases_eq i read) [
        | inl same ↦ omega (arith, same)
        | inr other ↦ omega (arith, of_row.places i (sym (ap (λ (b : Bool). b || is_placed o i) (ne_eqb i read other)) ∙ in_row))
      ]

      placed : is_placed q read ≡ true
      placed = added.places read ∙ ap (λ (b : Bool). b || is_placed o read) (eq-eqb read read refl)

      now_read : is_read s hash (read + 1) read ≡ true
      now_read = ap (λ (b : Bool). b && hash_at s read == hash) (lt-ltb read (read + 1) (omega arith)) ∙ eq-eqb (hash_at s read) hash is

-- so many messages were neither waiting nor pending
pub knows_past_all : (o : Found) (first : Option ℕ) (hash read n : ℕ) (s : State) (sub : Subscription) → Knows o first hash read s sub → ((k : ℕ) → read ≤ k → k < read + n → (waits_at s sub k ≡ false) × (holder_at s sub k ≡ None)) → Knows o first hash (read + n) s sub
knows_past_all o first hash read zero s sub known aside = subst (λ (k : ℕ). Knows o first hash k s sub) (omega arith) known
knows_past_all o first hash read (suc n) s sub known aside =
    subst (λ (k : ℕ). Knows o first hash k s sub) (omega arith)
    (knows_past o first hash (read + n) s sub (knows_past_all o first hash read n s sub known (λ k after below. aside k after (omega (arith, below))))
    (inr (aside (read + n) (omega arith) (omega arith))))
