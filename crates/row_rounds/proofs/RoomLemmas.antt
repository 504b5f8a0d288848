-- How much room the properties of messages take.
use Rattle.std.proofs.Common.{◌≡◌, ◌≤◌, ◌<◌, ◌+◌, ◌-◌, max, ℕ, List, [], ◌∷◌, All, IfSome, slice_get, get_or, take, drop, length, length-drop, sym, ap, subst, ◌∙◌, arith}
use Rattle.std.proofs.lemmas.List.{get_or-drop, take_all}
use Rattle.std.proofs.lemmas.List.Elements.{All-more, All-weaker}
use Rattle.std.proofs.lemmas.Option.{slice_get-get_or}
use Rattle.position_core.specs.declared.message.Entry.{Entry}
use Rattle.row_rounds.specs.declared.saving.Write.{Write}
use Rattle.row_rounds.specs.Rounds.{HasRoomFor, HasRoom}

pub more_room : (low high : ℕ) (log : List Entry) → low ≤ high → HasRoom low log → HasRoom high log
more_room low high log up = All-weaker (HasRoomFor low) (HasRoomFor high) (λ e fits. omega (arith, fits, up)) log

-- a place more, from the first on
pub room_next : (log : List Entry) (from place most one : ℕ) → from ≤ place → place < length log → IfSome (slice_get log place) (HasRoomFor one) → HasRoom most (take (place - from) (drop from log))
    → HasRoom (max one most) (take (place + 1 - from) (drop from log))
room_next log from place most one after low here before =
    let i = place - from in
    let within : i < length (drop from log) = omega (arith, length-drop from log, after, low) in
    let up : i + 1 ≡ place + 1 - from = omega (arith, after) in
    let at : from + i ≡ place = omega (arith, after) in
    subst (λ n. HasRoom (max one most) (take n (drop from log))) up
    (one_more (drop from log) i within (more_room most (max one most) (take i (drop from log)) (omega arith) before) (λ d. subst (HasRoomFor (max one most)) (sym (get_or-drop from log i d ∙ ap (λ n. get_or log n d) at)) (found d)))
  where
    found : (d : Entry) → HasRoomFor (max one most) (get_or log place d)
    found d = let fits = subst (λ o. IfSome o (HasRoomFor one)) (slice_get-get_or log place d low) here in omega (arith, fits)

    one_more : (xs : List Entry) (i : ℕ) → i < length xs → HasRoom (max one most) (take i xs) → ((d : Entry) → HasRoomFor (max one most) (get_or xs i d)) → HasRoom (max one most) (take (i + 1) xs)
    one_more [] i within h p = absurd (omega (arith, within))
    one_more (x ∷ xs) i within h p = All-more (HasRoomFor (max one most)) (x ∷ xs) i x within h (p x)

pub room_ends : (log : List Entry) (from place most : ℕ) → length log ≤ place → HasRoom most (take (place - from) (drop from log)) → HasRoom most (drop from log)
room_ends log from place most past h = subst (HasRoom most) (take_all (place - from) (drop from log) (omega (arith, length-drop from log, past))) h

abbrev pub WriteHasRoom : ℕ → Write → Type 0
WriteHasRoom room w = HasRoom room (drop w.change.from w.snapshot.log)

-- a write more
pub write_next : (writes : List Write) (i most one : ℕ) (w : Write) → i < length writes → w ≡ get_or writes i w → WriteHasRoom one w → All (WriteHasRoom most) (take i writes) → All (WriteHasRoom (max one most)) (take (i + 1) writes)
write_next writes i most one w low is here before =
    All-more (WriteHasRoom (max one most)) writes i w low
    (All-weaker (WriteHasRoom most) (WriteHasRoom (max one most)) (λ v. more_room most (max one most) (drop v.change.from v.snapshot.log) (omega arith)) (take i writes) before)
    (subst (WriteHasRoom (max one most)) is (more_room one (max one most) (drop w.change.from w.snapshot.log) (omega arith) here))
