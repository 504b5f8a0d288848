-- What a step, a view and a store make of the letters that are safe, and of those that are kept.
use Rattle.std.proofs.Common.{◌≡◌, ℕ, ◌+◌, ◌≤◌, List, [], ◌∷◌, false, refl, ap, sym, subst, ◌∙◌, arith, ◌⊎◌, inl, inr, Contains, true≢false}
use Rattle.std.specs.Prelude.{All}
use Rattle.std.proofs.lemmas.List.Elements.{All-head, All-contains, All-contains_itself, All-weaker}
use Rattle.delivery_machine.specs.State.{State, DeadLetter, fresh}
use Rattle.delivery_machine.specs.Snapshot.{Snapshot, snapshot_of, restarted}
use Rattle.delivery_machine.specs.Places.{KeptTopic, snapshot_in}
use Rattle.delivery_machine.specs.Laws.{IsReached}
use Rattle.delivery_machine.specs.Run.{Step, Answers}
use Rattle.delivery_machine.specs.Journals.{is_storing}
use Rattle.delivery_machine.specs.declared.event.Event.{Event}
use Rattle.delivery_machine.specs.declared.event.Event.TheVariants.{Stored, StoredTo}
use Rattle.delivery_machine.specs.declared.reply.Reply.{Reply}
use Rattle.delivery_machine.specs.declared.reply.Reply.TheVariants.{Refused}
use Rattle.machine_laws.proofs.ReachedOn.{reached_step}
use Rattle.dead_letters.specs.Letters.{dead_of, safe_of, dead_in, SaysStored}
use Rattle.dead_letters.proofs.DeadLetters.{dead_kept, safe_restarted, safe_among, ordinals_rise}
use Rattle.dead_letters.proofs.SafeByStores.{only_stores_make_safe}
use Rattle.stored_cell.specs.Held.{KeepsSafe, KeepsLetters, HasNoneStored}

-- a refusal leaves the state as it was, and any other step is an answer
split : (s : State) (e : Event) (r : Reply) (t : State) → Step s e r t → (t ≡ s) ⊎ Answers s e r t
split s e (Refused fault) t h = inl h.1
split s e r t h = inr h

pub reached_on : (s : State) (e : Event) (r : Reply) (t : State) → Step s e r t → IsReached s → IsReached t
reached_on s e r t step at = elim (split s e r t step) [
  | inl same ↦ subst IsReached (sym same) at
  | inr answers ↦ reached_step s e r t answers at
]

-- ---- a step

-- it was safe, or was there and is told of
abbrev IsTold : State → Event → List ℕ → DeadLetter → Type 0
IsTold s e name d = Contains (safe_of s name) d ⊎ (Contains (dead_of s name) d × SaysStored e d)

all_told : (s : State) (e : Event) (r : Reply) (t : State) (name : List ℕ) → Step s e r t → IsReached s → All (IsTold s e name) (safe_of t name)
all_told s e r t name step at = elim (split s e r t step) [
  | inl same ↦ subst (λ (u : State). All (IsTold s e name) (safe_of u name)) (sym same)
      (All-weaker (Contains (safe_of s name)) (IsTold s e name) (λ d safe. inl safe) (safe_of s name) (All-contains_itself (safe_of s name)))
  | inr answers ↦ only_stores_make_safe s e r t name at answers
]

-- where what was safe and what is told of is kept
told_kept : (s : State) (e : Event) (r : Reply) (t : State) (kept : KeptTopic) → Step s e r t → IsReached s → KeepsSafe s kept
    → ((name : List ℕ) (d : DeadLetter) → Contains (dead_of s name) d → SaysStored e d → Contains (dead_in (snapshot_in kept) name) d) → KeepsSafe t kept
told_kept s e r t kept step at safe told name =
    All-weaker (IsTold s e name) (Contains (dead_in (snapshot_in kept) name)) (λ d either. elim either [
      | inl was ↦ All-contains (Contains (dead_in (snapshot_in kept) name)) (safe_of s name) d (safe name) was
      | inr is ↦ told name d is.0 is.1
    ]) (safe_of t name) (all_told s e r t name step at)

-- an event that is no store's tells of none
silent : (e : Event) (d : DeadLetter) → is_storing e ≡ false → SaysStored e d → ⊥
silent Stored d quiet told = true≢false quiet
silent (StoredTo count ordinal) d quiet told = true≢false quiet
silent e d quiet told = told

pub safe_on : (s : State) (e : Event) (r : Reply) (t : State) (kept : KeptTopic) → Step s e r t → IsReached s → is_storing e ≡ false → KeepsSafe s kept → KeepsSafe t kept
safe_on s e r t kept step at quiet safe = told_kept s e r t kept step at safe (λ name d there told. absurd (silent e d quiet told))

none_in : {A : Type 0} (xs : List A) → All (Contains []) xs → xs ≡ []
none_in [] all = refl
none_in (x ∷ xs) all = let low = (All-head (Contains []) x xs all).1 in absurd (omega arith)

pub none_on : (s : State) (e : Event) (r : Reply) (t : State) → Step s e r t → IsReached s → is_storing e ≡ false → ((name : List ℕ) → safe_of s name ≡ []) → (name : List ℕ) → safe_of t name ≡ []
none_on s e r t step at quiet none name = none_in (safe_of t name)
    (All-weaker (IsTold s e name) (Contains []) (λ d either. elim either [
      | inl was ↦ subst (λ (ds : List DeadLetter). Contains ds d) (none name) was
      | inr told ↦ absurd (silent e d quiet told.1)
    ]) (safe_of t name) (all_told s e r t name step at))

pub letters_on : (s : State) (e : Event) (r : Reply) (t : State) (kept : KeptTopic) → Step s e r t → IsReached s → KeepsLetters s kept → KeepsLetters t kept
letters_on s e r t kept step at keeps = elim (split s e r t step) [
  | inl same ↦ subst (λ (u : State). KeepsLetters u kept) (sym same) keeps
  | inr answers ↦ answered answers
]
  where
    answered : Answers s e r t → KeepsLetters t kept
    answered answers = record {
      next = let low = keeps.next in let on = (ordinals_rise s e r t [] at answers).next in omega arith;
      letters = λ name.
          All-weaker (λ d. Contains (dead_of s name) d ⊎ s.next_ordinal ≤ d.ordinal) (λ d. Contains (dead_in (snapshot_in kept) name) d ⊎ kept.next_ordinal ≤ d.ordinal) (λ d either. elim either [
            | inl was ↦ All-contains (λ d. Contains (dead_in (snapshot_in kept) name) d ⊎ kept.next_ordinal ≤ d.ordinal) (dead_of s name) d (keeps.letters name) was
            | inr late ↦ inr (let low = keeps.next in omega arith)
          ]) (dead_of t name) (ordinals_rise s e r t name at answers).later;
    }

-- ---- a view

kept_as : (s : State) (kept : KeptTopic) (name : List ℕ) → snapshot_in kept ≡ snapshot_of s → dead_in (snapshot_in kept) name ≡ dead_of s name
kept_as s kept name same = ap (λ (k : Snapshot). dead_in k name) same ∙ dead_kept s name

pub safe_viewed : (s : State) (kept : KeptTopic) → snapshot_in kept ≡ snapshot_of s → KeepsSafe s kept
safe_viewed s kept same name = subst (λ (ds : List DeadLetter). All (Contains ds) (safe_of s name)) (sym (kept_as s kept name same)) (safe_among s name)

pub letters_viewed : (s : State) (kept : KeptTopic) → snapshot_in kept ≡ snapshot_of s → KeepsLetters s kept
letters_viewed s kept same = record {
  next = let next : kept.next_ordinal ≡ s.next_ordinal = ap (λ (k : Snapshot). k.next_ordinal) same in omega arith;
  letters = λ name.
      All-weaker (Contains (dead_of s name)) (λ d. Contains (dead_in (snapshot_in kept) name) d ⊎ kept.next_ordinal ≤ d.ordinal)
      (λ d there. inl (subst (λ (ds : List DeadLetter). Contains ds d) (sym (kept_as s kept name same)) there)) (dead_of s name) (All-contains_itself (dead_of s name));
}

-- ---- a store

-- of what was viewed before
pub safe_confirmed : (s : State) (count : ℕ) (r : Reply) (t : State) (kept : KeptTopic) → Step s (StoredTo count kept.next_ordinal) r t → IsReached s → KeepsLetters s kept → KeepsSafe s kept → KeepsSafe t kept
safe_confirmed s count r t kept step at keeps safe = told_kept s (StoredTo count kept.next_ordinal) r t kept step at safe (λ name d there told.
    elim (All-contains (λ d. Contains (dead_in (snapshot_in kept) name) d ⊎ kept.next_ordinal ≤ d.ordinal) (dead_of s name) d (keeps.letters name) there) [
      | inl is ↦ is
      | inr late ↦ absurd (omega arith)
    ])

-- of all that there is
pub safe_all : (s : State) (r : Reply) (t : State) (kept : KeptTopic) → Step s Stored r t → IsReached s → snapshot_in kept ≡ snapshot_of s → KeepsSafe t kept
safe_all s r t kept step at same = told_kept s Stored r t kept step at (safe_viewed s kept same)
    (λ name d there told. subst (λ (ds : List DeadLetter). Contains ds d) (sym (kept_as s kept name same)) there)

-- ---- where a topic opens

pub safe_opened : (s : State) (kept : KeptTopic) → s ≡ restarted (snapshot_in kept) → KeepsSafe s kept
safe_opened s kept is name =
    subst (All (Contains (dead_in (snapshot_in kept) name))) (sym (ap (λ (u : State). safe_of u name) is ∙ safe_restarted (snapshot_in kept) name))
    (All-contains_itself (dead_in (snapshot_in kept) name))

pub none_fresh : (s : State) → s ≡ fresh s.name s.ledger_size → HasNoneStored s
none_fresh s is = record { durable = ap (λ (u : State). u.gone + u.durable) is; safe = λ name. ap (λ (u : State). safe_of u name) is }
