-- What came of a request.
use Rattle.std.proofs.Common.{◌≡◌, ◌≤◌, ◌+◌, ◌++◌, ◌∙◌, [], ◌∷◌, ℕ, List, length, take, drop, Option, None, Some, inl, inr, refl, sym, ap, subst, append_assoc, arith, zero-add, add-zero, suc-add}
use Rattle.std.proofs.lemmas.List.{take-take, take-append-le, append-nil}
use Rattle.std.specs.Io.KnownBytes.{Consumes, Keeps}
use Rattle.std.proofs.KnownBytes.{Consumes-nil, Consumes-trans}
use Rattle.socket_conn.specs.Heads.{IsUpgrade, MayCome}
use Rattle.socket_conn.specs.Shakes.{Begins, HasHeard, HasLooked, IsHeld, IsLimited, Judges, Shakes}
use Rattle.socket_conn.specs.State.{begun}
use Rattle.socket_conn.specs.declared.conn.SocketConn.{SocketConn}
use Rattle.socket_conn.specs.declared.head.Upgrade.{Upgrade}
use Rattle.socket_conn.specs.declared.held.Held.{Held}
use Rattle.socket_conn.specs.declared.shaking.Shaken.{Shaken}
use Rattle.socket_conn.specs.declared.shaking.Shaken.TheVariants.{Open, Plain, Waits, Failed}
use Rattle.socket_conn.specs.declared.shaking.Shaking.{Shaking}
use Rattle.tungstenite.proofs.SocketLemmas.{take-nil}
use Rattle.tungstenite.specs.Socket.{Socket, IsFresh}
use Rattle.websocket.specs.declared.protocol.config.Role.TheVariants.{Server}
use Rattle.websocket.specs.declared.protocol.config.WebSocketConfig.{WebSocketConfig}

-- behind what was kept, the rest is what follows it
behind : (old more : List ℕ) (n : ℕ) → take (length old + n) (old ++ more) ≡ old ++ take n more
behind [] more n = ap (λ k. take k more) (zero-add n)
behind (x ∷ old) more n = ap (λ k. take k (x ∷ (old ++ more))) (suc-add (length old) n) ∙ ap (λ l. x ∷ l) (behind old more n)

front : (old more : List ℕ) → take (length old) (old ++ more) ≡ old
front [] more = refl
front (x ∷ old) more = ap (λ l. x ∷ l) (front old more)

whole : (old : List ℕ) (k : ℕ) → take (length old + k) old ≡ old
whole [] k = take-nil (0 + k)
whole (x ∷ old) k = ap (λ m. take m (x ∷ old)) (suc-add (length old) k) ∙ ap (λ l. x ∷ l) (whole old k)

-- the room behind the head leaves it in front
pub in_front : (old z zeros : List ℕ) (len k : ℕ) → len ≡ length old → z ≡ take (len + k) old ++ zeros → take len z ≡ old
in_front old z zeros len k long is = rw (is, long, whole old k) (front old zeros)

-- what was read into the room behind the head, and cut to its end
pub grown : (old kept buf post rest items : List ℕ) (len m n : ℕ) → len ≡ length old → kept ≡ old → n ≤ length buf → len + n ≤ m
    → items ≡ take (len + n) (take m ((kept ++ (buf ++ post)) ++ rest)) → items ≡ old ++ take n buf
grown old kept buf post rest items len m n long front within fits is =
    is ∙ take-take (len + n) m _ fits
    ∙ rw (front, long, append_assoc old (buf ++ post) rest, append_assoc buf post rest) (behind old (buf ++ (post ++ rest)) n)
    ∙ ap (λ l. old ++ l) (take-append-le n buf (post ++ rest) within)

-- the same where nothing was read
pub kept_head : (old kept buf post rest items : List ℕ) (len m : ℕ) → len ≡ length old → kept ≡ old → len ≤ m
    → items ≡ take len (take m ((kept ++ (buf ++ post)) ++ rest)) → items ≡ old
kept_head old kept buf post rest items len m long front fits is =
    grown old kept buf post rest items len m 0 long front (omega arith) (omega arith) (is ∙ ap (λ k. take k (take m ((kept ++ (buf ++ post)) ++ rest))) (sym (add-zero len))) ∙ append-nil old

-- what is told of nothing more
pub nothing_more : (a b : Option (List ℕ)) → Keeps a b → Consumes a b []
nothing_more None b h = tt
nothing_more (Some x) None h = absurd h
nothing_more (Some x) (Some y) h = sym h

-- the limits of a socket are those that it was given
pub limited : (given config : WebSocketConfig) → config ≡ given → IsLimited given → IsLimited config
limited given config same limits = rw same limits

module _ {S : Type 0} where
  pub begins : (u : Upgrade) (stream : S) (rest : List ℕ) (socket : Socket (Held S)) (conn : SocketConn (Held S)) → conn ≡ begun socket
      → IsHeld stream u.answer.items socket.stream → socket.input ≡ rest → IsFresh (record socket { input = [] }) socket.stream Server → IsLimited socket.conn.config → Begins u stream rest conn
  begins u stream rest socket conn is held left fresh limits = rw is record { begun = refl; answer = held; rest = left; fresh = fresh; limits = limits }

  pub opens : (old : Shaking S) (u : Upgrade) (stream : S) (rest : List ℕ) (shaken : Shaken S) → IsUpgrade old.head.items u → stream ≡ old.stream.inner → rest ≡ drop u.len old.head.items
      → ((conn : SocketConn (Held S)) × (shaken ≡ Open conn u.asked) × Begins u stream rest conn) → Judges old shaken
  opens old u stream rest shaken asks inner left (conn, is, begins) = rw is (u, asks, refl, rw (← left, ← inner) begins)

  -- nothing was read yet
  pub heard_nothing : (remaining : S → Option (List ℕ)) (s : Shaking S) → HasHeard remaining s s
  heard_nothing remaining s = ([], Consumes-nil (remaining s.stream.inner), sym (append-nil s.head.items))

  pub heard_more : (remaining : S → Option (List ℕ)) (old mid new : Shaking S) → HasHeard remaining old mid → HasHeard remaining mid new → HasHeard remaining old new
  heard_more remaining old mid new (got, consumes, is) (more, then, so) =
      (got ++ more, Consumes-trans (remaining old.stream.inner) (remaining mid.stream.inner) (remaining new.stream.inner) got more consumes then, so ∙ ap (λ l. l ++ more) is ∙ append_assoc old.head.items got more)

  -- the same where nothing more came
  pub heard_no_more : (remaining : S → Option (List ℕ)) (old mid new : Shaking S) → HasHeard remaining old mid → Keeps (remaining mid.stream.inner) (remaining new.stream.inner)
      → new.head.items ≡ mid.head.items → HasHeard remaining old new
  heard_no_more remaining old mid new heard keeps is =
      heard_more remaining old mid new heard ([], nothing_more _ _ keeps, is ∙ sym (append-nil mid.head.items))

  pub looked_on : (old mid new : Shaking S) → HasLooked old mid → new.head.items ≡ mid.head.items → HasLooked old new
  looked_on old mid new (inl same) is = inl (is ∙ same)
  looked_on old mid new (inr may) is = inr (subst MayCome (sym is) may)

  -- what the last look came to, where more is not waited for
  pub looked : (remaining : S → Option (List ℕ)) (old last : Shaking S) (shaken : Shaken S) → HasHeard remaining old last → Judges last shaken
      → ((new : Shaking S) → ¬ (shaken ≡ Waits new)) → Shakes remaining old shaken
  looked remaining old last (Open conn asked) heard judged other = (last, heard, judged)
  looked remaining old last (Plain stream request) heard judged other = (last, heard, judged.0, judged.1)
  looked remaining old last (Waits new) heard judged other = absurd (other new refl)
  looked remaining old last Failed heard judged other = tt
