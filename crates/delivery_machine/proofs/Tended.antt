-- What is pending in a subscription: it is in the log, at members, and in Key_Shared each hash at one member.
use Rattle.std.proofs.Common.{◌≡◌, ℕ, List, [], ◌∷◌, ◌++◌, Some, Option, Bool, true, false, cond, refl, ap, ◌∙◌, sym, subst, ◌⊎◌, inl, inr, arith, Contains}
use Rattle.std.specs.Prelude.{◌&&◌, not, ◌==◌}
use Rattle.std.specs.List.{list_any}
use Rattle.std.specs.Cmp.{Equal-is, tied_itself}
use Rattle.std.specs.FinMap as map_of
use Rattle.std.proofs.lemmas.Bool.Decides.{nat_tests}
use Rattle.std.proofs.lemmas.List.Elements.{Contains-push_cases}
use Rattle.std.proofs.lemmas.List.Folds.{Any-from_list_any}
use Rattle.position_core.specs.declared.position.Position.{Position}
use Rattle.position_core.specs.declared.message.Entry.{Entry}
use Rattle.position_core.specs.declared.held.Held.{Held}
use Rattle.position_core.specs.declared.kind.Kind.{Kind}
use Rattle.position_core.specs.declared.kind.Kind.TheVariants.{KeyShared}
use Rattle.position_core.specs.Position.{position_cmp, same_position, positions_total, exact_positions}
use Rattle.delivery_machine.specs.State.{Member}
use Rattle.delivery_machine.specs.Words.{is_at, is_member, has_position, hash_of, is_held_beside}
use Rattle.delivery_machine.proofs.Firsts.{any_pushed, any_contained, none_contained}

-- the member of the number is at the subscription of the name
abbrev pub is_seat : List ℕ → ℕ → Member → Bool
is_seat name number m = is_at name m && is_member number m

abbrev pub is_seated : List Member → List ℕ → ℕ → Bool
is_seated members name number = list_any (is_seat name number) members

abbrev pub OneHash : List Entry → map_of.FinMap position_cmp Held → Type 0
OneHash log pending =
    (x y : Entry) → Contains log x → Contains log y → hash_of x ≡ hash_of y
    → (h k : Held) → map_of.get pending x.position ≡ Some h → map_of.get pending y.position ≡ Some k → h.consumer ≡ k.consumer

pub record IsTended (log : List Entry) (members : List Member) (name : List ℕ) (kind : Kind) (pending : map_of.FinMap position_cmp Held) : Type 0 where
  pub at_members : (p : Position) (h : Held) → map_of.get pending p ≡ Some h → is_seated members name h.consumer ≡ true
  pub in_log : (p : Position) (h : Held) → map_of.get pending p ≡ Some h → list_any (has_position p) log ≡ true
  pub one_hash : kind ≡ KeyShared → OneHash log pending

-- each pending message was pending before, at the same consumer
abbrev pub IsPartOf : map_of.FinMap position_cmp Held → map_of.FinMap position_cmp Held → Type 0
IsPartOf new old = (p : Position) (h : Held) → map_of.get new p ≡ Some h → (k : Held) × (map_of.get old p ≡ Some k) × (k.consumer ≡ h.consumer)

-- every member that is at a subscription stays there
abbrev pub KeepsSeats : List Member → List Member → Type 0
KeepsSeats before after = (name : List ℕ) (number : ℕ) → is_seated before name number ≡ true → is_seated after name number ≡ true

pub some_is : {A : Type 0} (o : Option A) (x y : A) → o ≡ Some x → o ≡ Some y → x ≡ y
some_is o x y a b = cc

pub position_is : (p q : Position) → same_position p q ≡ true → p ≡ q
position_is p q e = exact_positions p q ((Equal-is (position_cmp p q)).0 e)

-- ---- what is kept

-- where nothing is pending
pub tended_empty : (log : List Entry) (members : List Member) (name : List ℕ) (kind : Kind) (pending : map_of.FinMap position_cmp Held) → ((p : Position) (h : Held) → map_of.get pending p ≡ Some h → ⊥) → IsTended log members name kind pending
tended_empty log members name kind pending none = record {
  at_members = λ p h e. absurd (none p h e);
  in_log = λ p h e. absurd (none p h e);
  one_hash = λ is x y at bt same h k e f. absurd (none x.position h e);
}

-- where messages are taken away, or fall due at another moment
pub tended_part : (log : List Entry) (members : List Member) (name : List ℕ) (kind : Kind) (old new : map_of.FinMap position_cmp Held) → IsPartOf new old → IsTended log members name kind old → IsTended log members name kind new
tended_part log members name kind old new part tended = record {
  at_members = λ p h e.
      let was = part p h e in
      subst (λ (n : ℕ). is_seated members name n ≡ true) was.2 (tended.at_members p was.0 was.1);
  in_log = λ p h e. let was = part p h e in tended.in_log p was.0 was.1;
  one_hash = λ is x y at bt same h k e f.
      let a = part x.position h e in
      let b = part y.position k f in
      sym a.2 ∙ tended.one_hash is x y at bt same a.0 b.0 a.1 b.1 ∙ b.2;
}

-- where the members whose messages are pending stay
pub tended_members : (log : List Entry) (before after : List Member) (name : List ℕ) (kind : Kind) (pending : map_of.FinMap position_cmp Held) → ((p : Position) (h : Held) → map_of.get pending p ≡ Some h → is_seated before name h.consumer ≡ true → is_seated after name h.consumer ≡ true) → IsTended log before name kind pending → IsTended log after name kind pending
tended_members log before after name kind pending stay tended = record {
  at_members = λ p h e. stay p h e (tended.at_members p h e);
  in_log = tended.in_log;
  one_hash = tended.one_hash;
}

pub tended_seats : (log : List Entry) (before after : List Member) (name : List ℕ) (kind : Kind) (pending : map_of.FinMap position_cmp Held) → KeepsSeats before after → IsTended log before name kind pending → IsTended log after name kind pending
tended_seats log before after name kind pending stay tended = tended_members log before after name kind pending (λ p h e. stay name h.consumer) tended

-- no position of the log is the one
pub absent : (log : List Entry) (p : Position) → ((x : Entry) → Contains log x → x.position ≡ p → ⊥) → list_any (has_position p) log ≡ true → ⊥
absent log p new any =
    let there = Any-from_list_any (has_position p) log any in
    new there.1 (there.0, there.2, there.3) (position_is there.1.position p there.4)

-- where a message of a new position is appended
pub tended_push : (log : List Entry) (e : Entry) (members : List Member) (name : List ℕ) (kind : Kind) (pending : map_of.FinMap position_cmp Held) → ((x : Entry) → Contains log x → x.position ≡ e.position → ⊥) → IsTended log members name kind pending → IsTended (log ++ e ∷ []) members name kind pending
tended_push log e members name kind pending new tended = record {
  at_members = tended.at_members;
  in_log = λ p h f. any_pushed (has_position p) log e (tended.in_log p h f);
  one_hash = λ is x y at bt same h k f g. tended.one_hash is x y (before x at h f) (before y bt k g) same h k f g;
}
  where
    before : (x : Entry) → Contains (log ++ e ∷ []) x → (h : Held) → map_of.get pending x.position ≡ Some h → Contains log x
    before x at h f = elim (Contains-push_cases log e x at) [
      | inl a ↦ a
      | inr b ↦ absurd (absent log e.position new (tended.in_log e.position h (subst (λ (z : Entry). map_of.get pending z.position ≡ Some h) (sym b) f)))
    ]

-- ---- sending

-- no message of the hash is pending at another consumer
abbrev pub NoneBeside : List Entry → map_of.FinMap position_cmp Held → ℕ → ℕ → Type 0
NoneBeside log pending hash consumer = list_any (λ x. hash_of x == hash && is_held_beside consumer (map_of.get pending x.position)) log ≡ false

beside_nobody : (log : List Entry) (pending : map_of.FinMap position_cmp Held) (hash consumer : ℕ) (y : Entry) (k : Held) → NoneBeside log pending hash consumer → Contains log y → hash_of y ≡ hash → map_of.get pending y.position ≡ Some k → k.consumer ≡ consumer
beside_nobody log pending hash consumer y k none at same is =
    told (hash_of y) hash (k.consumer) consumer same
    (sym (ap (λ o. hash_of y == hash && is_held_beside consumer o) is)
    ∙ none_contained (λ x. hash_of x == hash && is_held_beside consumer (map_of.get pending x.position)) log y none at)
  where
    told : (a b m n : ℕ) → a ≡ b → (a == b && not (m == n)) ≡ false → m ≡ n
    told a b m n e f = grind (arith, nat_tests)

-- what is pending once a message more is
pub got_inserted : {X : Type 0} (pending : map_of.FinMap position_cmp X) (p : Position) (held : X) (q : Position) (h : X) → map_of.get (map_of.insert pending p held) q ≡ Some h → ((q ≡ p) × (h ≡ held)) ⊎ (map_of.get pending q ≡ Some h)
got_inserted {X} pending p held q h is = by (same_position q p) refl (sym (map_of.get-insert positions_total pending p held q) ∙ is)
  where
    by : (b : Bool) → same_position q p ≡ b → cond b (Some held) (map_of.get pending q) ≡ Some h → ((q ≡ p) × (h ≡ held)) ⊎ (map_of.get pending q ≡ Some h)
    by true t e = let same : h ≡ held = cc in inl (position_is q p t, same)
    by false f e = inr e

-- where a message is sent: to a member, and in Key_Shared to one beside whom its hash is at nobody
pub tended_sent : (log : List Entry) (members : List Member) (name : List ℕ) (kind : Kind) (pending : map_of.FinMap position_cmp Held) (e : Entry) (held : Held)
    → ((x y : Entry) → Contains log x → Contains log y → x.position ≡ y.position → x ≡ y)
    → Contains log e → is_seated members name held.consumer ≡ true → (kind ≡ KeyShared → NoneBeside log pending (hash_of e) held.consumer)
    → IsTended log members name kind pending → IsTended log members name kind (map_of.insert pending e.position held)
tended_sent log members name kind pending e held one there seated beside tended = record {
  at_members = λ p h f. elim (got_inserted pending e.position held p h f) [
    | inl new ↦ subst (λ (k : Held). is_seated members name k.consumer ≡ true) (sym new.1) seated
    | inr old ↦ tended.at_members p h old
  ];
  in_log = λ p h f. elim (got_inserted pending e.position held p h f) [
    | inl new ↦ subst (λ (q : Position). list_any (has_position q) log ≡ true) (sym new.0)
        (any_contained (has_position e.position) log e there ((Equal-is (position_cmp e.position e.position)).1 (tied_itself positions_total e.position)))
    | inr old ↦ tended.in_log p h old
  ];
  one_hash = λ is x y at bt same h k f g. elim (got_inserted pending e.position held x.position h f) [
    | inl new ↦ elim (got_inserted pending e.position held y.position k g) [
      | inl too ↦ ap (λ (z : Held). z.consumer) new.1 ∙ sym (ap (λ (z : Held). z.consumer) too.1)
      | inr old ↦ ap (λ (z : Held). z.consumer) new.1
          ∙ sym (beside_nobody log pending (hash_of e) held.consumer y k (beside is) bt (sym same ∙ ap hash_of (one x e at there new.0)) old)
    ]
    | inr old ↦ elim (got_inserted pending e.position held y.position k g) [
      | inl new ↦ beside_nobody log pending (hash_of e) held.consumer x h (beside is) at (same ∙ ap hash_of (one y e bt there new.0)) old
          ∙ sym (ap (λ (z : Held). z.consumer) new.1)
      | inr too ↦ tended.one_hash is x y at bt same h k old too
    ]
  ];
}
