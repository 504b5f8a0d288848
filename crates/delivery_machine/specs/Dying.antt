-- Dead letters: a message that was redelivered too often dies, and is moved to another topic once its death is stored.
use Rattle.std.specs.Prelude.{◌≡◌, ℕ, ◌+◌, ◌-◌, ◌^◌, ◌==◌, nat_lt, nat_le, Bool, false, true, not, ◌&&◌, List, [], ◌∷◌, ◌++◌, map, drop, Option, Some, None, IsSomeAnd, slice_get, if◌then◌else◌}
use Rattle.std.specs.List.{find}
use Rattle.std.specs.Option.{option_map, option_map_or, option_and_then}
use Rattle.std.specs.FinMap as map_of
use Rattle.position_core.specs.declared.position.Position.{Position}
use Rattle.position_core.specs.declared.message.Entry.{Entry}
use Rattle.position_core.specs.Numbers.{Ordinal}
use Rattle.delivery_machine.specs.State.{State, Subscription, Member}
use Rattle.delivery_machine.specs.State as state
use Rattle.delivery_machine.specs.Words.{changed, is_member, is_named, has_position, count_of}
use Rattle.delivery_machine.specs.Acknowledging.{is_one_of, acknowledging, forgetting}
use Rattle.delivery_machine.specs.declared.reply.Reply.{Reply}
use Rattle.delivery_machine.specs.declared.reply.Reply.TheVariants.{Done, Dead, NoDead}

-- ---- dying

-- the member redelivers messages so often and no more, which the message was, and an ordinal is left
abbrev pub is_to_die : Ordinal → Subscription → Position → Member → Bool
is_to_die ordinal sub position m = nat_lt 0 m.max_redeliver && nat_le m.max_redeliver (count_of sub position) && nat_lt ordinal (2 ^ 62)

-- the member at which the message is pending, where it is not to be redelivered again
abbrev pub dying_in : List Member → Ordinal → Subscription → Position → Option Member
dying_in members ordinal sub position =
    option_and_then (λ h. option_and_then (λ m. if is_to_die ordinal sub position m then Some m else None) (find (is_member h.consumer) members))
    (map_of.get sub.pending position)

abbrev pub dying_at : State → Subscription → Position → Option Member
dying_at s sub position = dying_in s.members s.next_ordinal sub position

-- a dead message is neither pending nor counted
abbrev pub burying : state.DeadLetter → Subscription → Subscription
burying letter sub = record sub {
  pending = map_of.retain_keys sub.pending (λ p. not (is_one_of (letter.position ∷ []) p));
  counts = map_of.retain_keys sub.counts (λ p. not (is_one_of (letter.position ∷ []) p));
  dead = sub.dead ++ letter ∷ [];
}

abbrev pub letter_of : State → Position → Member → state.DeadLetter
letter_of s position m = record { position = position; target = m.dead_topic; ordinal = s.next_ordinal }

-- the message is the last dead letter, under the topic's next ordinal
abbrev pub died : State → List ℕ → Position → Member → State
died s name position m = record s {
  subscriptions = changed (is_named name) (burying (letter_of s position m)) s.subscriptions;
  members = map (forgetting name (position ∷ [])) s.members;
  next_ordinal = s.next_ordinal + 1;
}

-- ---- moving

-- what is stored of the dead letters is safe to be moved
abbrev pub first_safe : Subscription → Option state.DeadLetter
first_safe sub = if nat_lt 0 sub.safe then slice_get sub.dead 0 else None

-- the first letter that is safe, with its message
abbrev pub next_letter : State → Subscription → Option (state.DeadLetter × Entry)
next_letter s sub = option_and_then (λ d. option_map (λ e. (d, e)) (find (has_position d.position) s.log)) (first_safe sub)

-- whether a reply shows a letter
abbrev pub is_letter : Reply → Bool
is_letter (Dead message target ordinal) = true
is_letter reply = false

abbrev pub ShowsLetter : State → Subscription → Reply → State → Type 0
ShowsLetter s sub reply t = (reply ≡ option_map_or (λ p. Dead p.1 p.0.target p.0.ordinal) (next_letter s sub) NoDead) × (t ≡ s)

-- the first letter that is safe has the ordinal
abbrev pub is_next_letter : Ordinal → Subscription → Bool
is_next_letter ordinal sub = option_map_or (λ d. d.ordinal == ordinal) (first_safe sub) false

-- the first letter is gone, and its message acknowledged
abbrev pub moving : state.DeadLetter → Subscription → Subscription
moving letter sub = record (acknowledging (letter.position ∷ []) sub) { dead = drop 1 sub.dead; safe = sub.safe - 1 }

abbrev pub moved : State → List ℕ → state.DeadLetter → State
moved s name letter = record s {
  subscriptions = changed (is_named name) (moving letter) s.subscriptions;
  members = map (forgetting name (letter.position ∷ [])) s.members;
}

abbrev pub MovesLetter : State → List ℕ → Subscription → Reply → State → Type 0
MovesLetter s name sub reply t = (reply ≡ Done) × IsSomeAnd (first_safe sub) (λ d. t ≡ moved s name d)
