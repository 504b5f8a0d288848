-- What a letter and its copy have in common: the sequence number and the body.
use Rattle.std.proofs.Common.{◌≡◌, ℕ, ◌<◌, List, [], ◌∷◌, ◌++◌, map, Some, Option, Bool, true, false, cond, refl, ap, ap₂, ◌∙◌, sym, subst}
use Rattle.std.specs.Prelude.{ℤ, ⊤, ◌||◌}
use Rattle.std.specs.List.{AllByRecursion, find, list_any}
use Rattle.std.specs.Option.{option_map}
use mathlib.Core.List.{IsPrefix}
use Rattle.position_core.specs.declared.body.Content.{Content}
use Rattle.position_core.specs.declared.message.Entry.{Entry}
use Rattle.delivery_machine.specs.State.{DeadLetter}
use Rattle.delivery_machine.specs.Words.{has_position}
use Rattle.delivery_machine.specs.WellFormed.{has_message}
use Rattle.dead_letters.specs.Moving.{sequence_of}
use Rattle.dead_letters.proofs.Fronts.{all_front, all_back, all_append}
use Rattle.dead_letters.proofs.TargetSteps.{found_before}

abbrev pub Tag : Type 0
Tag = ℤ × Option Content

-- of a letter whose message is there
abbrev pub letter_tag : List Entry → DeadLetter → Tag
letter_tag log d = (sequence_of d.ordinal, option_map (λ e. e.body) (find (has_position d.position) log))

abbrev pub copy_tag : Entry → Tag
copy_tag e = (e.sequence, Some e.body)

abbrev pub letter_tags : List Entry → List DeadLetter → List Tag
letter_tags log dead = map (letter_tag log) dead

abbrev pub copy_tags : List Entry → List Tag
copy_tags log = map copy_tag log

-- the messages of the letters are there
abbrev pub AreKnown : List Entry → List DeadLetter → Type 0
AreKnown log dead = AllByRecursion (λ d. has_message log d.position ≡ true) dead

pub there_found : {A : Type 0} (p : A → Bool) (xs : List A) → list_any p xs ≡ true → (x : A) × (find p xs ≡ Some x)
there_found p [] any = cc
there_found {A} p (x ∷ xs) any = by (p x) any (there_found p xs)
  where
    by : (b : Bool) → (b || list_any p xs) ≡ true → (list_any p xs ≡ true → (y : A) × (find p xs ≡ Some y)) → (y : A) × (cond b (Some x) (find p xs) ≡ Some y)
    by true any rest = (x, refl)
    by false any rest = rest any

-- where the messages go on, the letters are the same, and known still
pub tags_grown : (log more : List Entry) (dead : List DeadLetter) → AreKnown log dead → letter_tags (log ++ more) dead ≡ letter_tags log dead
tags_grown log more [] known = refl
tags_grown log more (d ∷ dead) known =
    let at = there_found (has_position d.position) log known.0 in
    let same : find (has_position d.position) (log ++ more) ≡ find (has_position d.position) log = found_before (has_position d.position) log more at.0 at.1 ∙ sym at.1 in
    ap₂ (λ (t : Tag) (ts : List Tag). t ∷ ts) (ap (λ o. (sequence_of d.ordinal, option_map (λ (e : Entry). e.body) o)) same) (tags_grown log more dead known.1)

pub tags_kept : (log later : List Entry) (dead : List DeadLetter) → IsPrefix log later → AreKnown log dead → letter_tags later dead ≡ letter_tags log dead
tags_kept log later dead front known = subst (λ (l : List Entry). letter_tags l dead ≡ letter_tags log dead) front.1 (tags_grown log front.0 dead known)

any_before : {A : Type 0} (p : A → Bool) (xs ys : List A) → list_any p xs ≡ true → list_any p (xs ++ ys) ≡ true
any_before p [] ys any = cc
any_before p (x ∷ xs) ys any = by (p x) any (any_before p xs ys)
  where
    by : (b : Bool) → (b || list_any p xs) ≡ true → (list_any p xs ≡ true → list_any p (xs ++ ys) ≡ true) → (b || list_any p (xs ++ ys)) ≡ true
    by true any rest = refl
    by false any rest = rest any

pub known_grown : (log more : List Entry) (dead : List DeadLetter) → AreKnown log dead → AreKnown (log ++ more) dead
known_grown log more [] known = tt
known_grown log more (d ∷ dead) known = (any_before (has_position d.position) log more known.0, known_grown log more dead known.1)

pub known_kept : (log later : List Entry) (dead : List DeadLetter) → IsPrefix log later → AreKnown log dead → AreKnown later dead
known_kept log later dead front known = subst (λ (l : List Entry). AreKnown l dead) front.1 (known_grown log front.0 dead known)

-- ---- ordinals that rise

abbrev pub AreBelow : ℕ → List DeadLetter → Type 0
AreBelow next dead = AllByRecursion (λ d. d.ordinal < next) dead

abbrev pub Rise : List DeadLetter → Type 0
Rise [] = ⊤
Rise (d ∷ dead) = AllByRecursion (λ e. d.ordinal < e.ordinal) dead × Rise dead

pub rise_pushed : (dead : List DeadLetter) (d : DeadLetter) → AreBelow d.ordinal dead → Rise dead → Rise (dead ++ d ∷ [])
rise_pushed [] d below rise = (tt, tt)
rise_pushed (e ∷ dead) d below rise = (all_append (λ (f : DeadLetter). e.ordinal < f.ordinal) dead (d ∷ []) rise.0 (below.0, tt), rise_pushed dead d below.1 rise.1)

pub rise_front : (dead more : List DeadLetter) → Rise (dead ++ more) → Rise dead
rise_front [] more rise = tt
rise_front (d ∷ dead) more rise = (all_front (λ (f : DeadLetter). d.ordinal < f.ordinal) dead more rise.0, rise_front dead more rise.1)

-- those before one are below it
pub rise_before : (dead : List DeadLetter) (d : DeadLetter) (more : List DeadLetter) → Rise (dead ++ d ∷ more) → AreBelow d.ordinal dead
rise_before [] d more rise = tt
rise_before (e ∷ dead) d more rise = ((all_back (λ (f : DeadLetter). e.ordinal < f.ordinal) dead (d ∷ more) rise.0).0, rise_before dead d more rise.1)
