-- What a session waits for between its turns, beside a text.
use Rattle.std.specs.Prelude.{◌≡◌, ◌<◌, ℕ, List, [], ◌∷◌, Bool, true, false, not, nat_lt, ◌&&◌, ◌||◌, Option, Some, None, IfSome, is_some, if◌then◌else◌}
use Rattle.session_texts.specs.declared.answer.Answer.{Answer}
use Rattle.session_texts.specs.declared.party.Party.{Party}
use Rattle.session_texts.specs.declared.party.Party.TheVariants.{Consumer}
use Rattle.session_texts.specs.Unsent.{least_durable}
use Rattle.session_core.specs.declared.session.Session.{Session}
use Rattle.session_core.specs.Turns.{Turn}
use Rattle.session_core.specs.Asking.{copies_of}
use Rattle.session_core.specs.Runs.{IsSession, IsTurn, durable_of}
use Rattle.session_core.specs.Held.{can_send, holds_full, holds_nothing}

-- it takes texts: it is not full
abbrev pub takes_texts : Session → Bool
takes_texts s = not (holds_full s)

-- how much is to be stored before the first answer may be sent, where as much was not seen to be
abbrev pub first_need : ℕ → List Answer → Option ℕ
first_need durable [] = None
first_need durable (answer ∷ more) = if nat_lt durable (least_durable answer) then Some (least_durable answer) else None

abbrev pub need_of : Session → Option ℕ
need_of s = first_need s.durable s.waiting.items

abbrev pub is_consumers : Party → Bool
is_consumers (Consumer consumer subscription) = true
is_consumers party = false

-- a consumer that was sent all may be sent more
abbrev pub is_idle : Session → Bool
is_idle s = is_consumers s.party && holds_nothing s

-- more may be dispatched to it: it is idle, and its connection had room when the last turn ended
abbrev pub awaits_messages : Session → Bool
awaits_messages s = is_idle s && s.had_room

-- its connection is to have room: something may be sent, or it is idle, and there was no room
abbrev pub awaits_room : Session → Bool
awaits_room s = can_send s || (is_idle s && not s.had_room)

-- the moment from which on a tick may release something, unless an answer waits for what is to be stored
abbrev pub awaits_moment : Session → Option ℕ
awaits_moment s = if is_some (need_of s) then None else s.dues.first

-- Nothing came in a turn of what the session waited for: no text, not as much was stored as it needs, and no message was collected.
-- It did not wait for room.
pub record NothingCame (s : Session) (before : List Turn) (t : Turn) : Type 0 where
  pub texts : t.taken ≡ []
  pub durable : IfSome (need_of s) (λ need. durable_of s.party (t ∷ before) < need)
  pub messages : copies_of s.party t.asked.last ≡ []
  pub room : awaits_room s ≡ false

-- a turn in which nothing came sends nothing
abbrev pub WaitsQuietly : Type 0
WaitsQuietly = (s : Session) → (before : List Turn) → IsSession s before → (t : Turn) → IsTurn s.party before t → NothingCame s before t → t.sent ≡ []
