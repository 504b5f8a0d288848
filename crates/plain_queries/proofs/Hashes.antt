-- No message may go by its hash, as far as the messages were gone through.
use Rattle.std.proofs.Common.{◌≡◌, ℕ, ◌+◌, ◌<◌, ◌≤◌, ◌∙◌, List, Bool, true, false, Some, get_or, length, refl, sym, ap, subst, arith}
use Rattle.std.specs.Prelude.{nat_lt, IsTrue}
use Rattle.std.specs.List.{find}
use Rattle.std.proofs.lemmas.Bool.Decides.{nat_tests}
use Rattle.std.proofs.lemmas.List.{get_or_default}
use Rattle.position_core.specs.declared.message.Entry.{Entry}
use Rattle.delivery_machine.specs.State.{Member, Subscription}
use Rattle.delivery_machine.specs.Words.{hash_of, has_room_in, is_draining_in, is_waiting, owner_in, waits_with_hash}
use Rattle.plain_queries.specs.Keyed.{GoesByHash, NoneGoesByHash, NoneGoesOfHash}
use Rattle.delivery_machine.proofs.Firsts.{found_somewhere}
use Rattle.delivery_machine.proofs.Deciding.{and_first, and_second, number_is}

-- of the hashes of the first messages that wait, none may go
abbrev pub NoneSoFar : List Entry → List Entry → List Member → Subscription → ℕ → Type 0
NoneSoFar log visible members sub i =
    (k : ℕ) (d : Entry) → k < i → k < length visible → is_waiting sub (get_or visible k d) ≡ true → NoneGoesOfHash log visible members sub (hash_of (get_or visible k d))

-- one message more
pub none_more : (log visible : List Entry) (members : List Member) (sub : Subscription) (i : ℕ) (x : Entry) → x ≡ get_or visible i x → (is_waiting sub x ≡ true → NoneGoesOfHash log visible members sub (hash_of x)) → NoneSoFar log visible members sub i → NoneSoFar log visible members sub (i + 1)
none_more log visible members sub i x there here before k d below within waits = by_case (nat_lt k i) refl
  where
    by_case : (b : Bool) → nat_lt k i ≡ b → NoneGoesOfHash log visible members sub (hash_of (get_or visible k d))
    by_case true is = before k d (grind (arith, nat_tests)) within waits
    by_case false is =
        let last : k ≡ i = grind (arith, nat_tests) in
        let same : x ≡ get_or visible k d = there ∙ get_or_default visible i x d (omega (arith, last, within)) ∙ ap (λ j. get_or visible j d) (sym last) in
        subst (λ (y : Entry). NoneGoesOfHash log visible members sub (hash_of y)) same (here (ap (is_waiting sub) same ∙ waits))

-- all messages were gone through
pub none_by_hash : (log visible : List Entry) (members : List Member) (sub : Subscription) (i : ℕ) → length visible ≤ i → NoneSoFar log visible members sub i → NoneGoesByHash log visible members sub
none_by_hash log visible members sub i all none e m goes =
    let at = found_somewhere (waits_with_hash sub (hash_of e)) visible e goes.1.0 in
    let waits : is_waiting sub e ≡ true = and_first _ _ at.3 in
    subst (λ (y : Entry). NoneGoesOfHash log visible members sub (hash_of y)) at.2
    (none at.0 e (omega (arith, at.1, all)) at.1 (ap (is_waiting sub) at.2 ∙ waits))
    e m refl goes

-- the first that waits of a hash, which its owner has room for, goes as the next of its own
pub goes_by_its_hash : (log visible : List Entry) (members : List Member) (sub : Subscription) (hash : ℕ) (e : Entry) (m : Member) → find (waits_with_hash sub hash) visible ≡ Some e → owner_in members sub hash ≡ Some m → IsTrue (has_room_in log sub m) → is_draining_in log sub hash m.number ≡ false → GoesByHash log visible members sub e m
goes_by_its_hash log visible members sub hash e m first owner room still =
    let at = found_somewhere (waits_with_hash sub hash) visible e first in
    let has : hash_of e ≡ hash = number_is (hash_of e) hash (and_second _ _ at.3) in
    let P : ℕ → Type 0 = λ h. (find (waits_with_hash sub h) visible ≡ Some e) × (owner_in members sub h ≡ Some m) × (is_draining_in log sub h m.number ≡ false) in
    (room, subst P (sym has) (first, owner, still))
