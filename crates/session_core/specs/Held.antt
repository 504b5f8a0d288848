-- What a session holds that is to be sent.
use Rattle.std.specs.Prelude.{ℕ, List, [], ◌∷◌, ◌++◌, length, drop, map, Bool, false, nat_le, nat_lt, ◌&&◌, ◌||◌, ◌==◌}
use Rattle.session_texts.specs.declared.answer.Answer.{Answer}
use Rattle.session_texts.specs.Unsent.{Unsent, collected, answering, least_durable}
use Rattle.session_core.specs.declared.session.Session.{Session}

-- the messages that were collected and not sent, and then the answers that wait
abbrev pub unsent_of : Session → List Unsent
unsent_of s = map collected (drop s.copies_sent s.copies) ++ map answering s.waiting.items

-- it holds as many answers as it may
abbrev pub holds_full : Session → Bool
holds_full s = nat_le 1000 (length s.waiting.items)

-- it holds nothing to be sent
abbrev pub holds_nothing : Session → Bool
holds_nothing s = (length s.waiting.items == 0) && nat_le (length s.copies) s.copies_sent

-- there is a message that was collected and not sent
abbrev pub has_copies : Session → Bool
has_copies s = nat_lt s.copies_sent (length s.copies)

-- the first of the answers may be sent
abbrev pub first_ready : ℕ → List Answer → Bool
first_ready durable [] = false
first_ready durable (answer ∷ more) = nat_le (least_durable answer) durable

abbrev pub is_ready : Session → Bool
is_ready s = first_ready s.durable s.waiting.items

-- there is something that may be sent
abbrev pub can_send : Session → Bool
can_send s = has_copies s || is_ready s
