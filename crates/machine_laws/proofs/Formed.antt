-- What each subscription of a reached state has, whatever becomes of it: messages of the log, of which live ones are pending, and counted.
use Rattle.std.proofs.Common.{◌≡◌, ℕ, ◌-◌, ◌<◌, ◌≤◌, List, [], ◌∷◌, ◌++◌, map, length, take, drop, Some, Option, Bool, true, false, refl, ap, ◌∙◌, sym, subst, arith, inl, inr, ◌⊎◌, Contains, true≢false, length-append}
use Rattle.std.specs.Prelude.{◌||◌, not}
use Rattle.std.specs.List.{All, AllByRecursion, list_any}
use Rattle.std.specs.Option.{unwrap_or}
use Rattle.std.specs.FinSet as set
use Rattle.std.specs.FinMap as map_of
use Rattle.std.proofs.lemmas.List.Elements.{All-head}
use Rattle.std.proofs.lemmas.Bool.Decides.{nat_tests}
use Rattle.position_core.specs.declared.position.Position.{Position}
use Rattle.position_core.specs.declared.message.Entry.{Entry}
use Rattle.position_core.specs.declared.held.Held.{Held}
use Rattle.position_core.specs.declared.kind.Kind.{Kind}
use Rattle.position_core.specs.Position.{position_cmp, same_position, positions_total}
use Rattle.position_core.specs.declared.ranges.HashRange.{HashRange}
use Rattle.delivery_machine.specs.Shares.{Shares}
use Rattle.delivery_machine.specs.State.{Subscription, DeadLetter}
use Rattle.delivery_machine.specs.Words.{is_dead, is_held_by}
use Rattle.delivery_machine.specs.Joining.{new_subscription, releasing_all, leaving}
use Rattle.delivery_machine.specs.Acknowledging.{acknowledging, is_one_of}
use Rattle.delivery_machine.specs.Delivering.{holding}
use Rattle.delivery_machine.specs.Ticking.{redelivering, recounted, counted_again, most_count}
use Rattle.delivery_machine.specs.Seeking.{seeking}
use Rattle.delivery_machine.specs.Dying.{burying, moving, first_safe}
use Rattle.delivery_machine.specs.WellFormed.{has_message, AreMessagesOf, AreDeadLettersOf, AreCountsOf}
use Rattle.delivery_machine.specs.declared.event.Initial.{Initial}
use Rattle.delivery_machine.specs.declared.event.Initial.TheVariants.{Earliest, Latest}
use Rattle.delivery_machine.proofs.Deciding.{turned, or_false, or_second}
use Rattle.delivery_machine.proofs.Tended.{got_inserted}
use Rattle.delivery_machine.proofs.Tending.{got_retained, none_pending}
use Rattle.delivery_machine.proofs.Messages.{either_way, position_itself, message_taken, one_listed, one_of_itself}
use Rattle.machine_laws.proofs.Letters.{none_dead, dead_in_more, dead_pushed, dead_dropped}
use Rattle.machine_laws.proofs.Taking.{first_letter}

-- neither acknowledged nor dead
abbrev pub IsLiveAt : Subscription → Position → Type 0
IsLiveAt sub p = (set.contains sub.acknowledged p ≡ false) × (is_dead sub p ≡ false)

pub record IsFormed (log : List Entry) (durable : ℕ) (sub : Subscription) : Type 0 where
  pub acknowledged : AreMessagesOf log sub.acknowledged
  pub visible : (p : Position) (h : Held) → map_of.get sub.pending p ≡ Some h → has_message (take durable log) p ≡ true
  pub live : (p : Position) (h : Held) → map_of.get sub.pending p ≡ Some h → IsLiveAt sub p
  pub counted : AreCountsOf log sub.acknowledged sub.dead sub.counts
  pub dead : AreDeadLettersOf log sub.dead
  pub safe : sub.safe ≤ length sub.dead

-- each of the positions is pending
abbrev pub ArePending : Subscription → List Position → Type 0
ArePending sub positions = (p : Position) → is_one_of positions p ≡ true → (h : Held) × (map_of.get sub.pending p ≡ Some h)

-- what is pending is in the log
pub held_logged : (log : List Entry) (durable : ℕ) (sub : Subscription) → IsFormed log durable sub → (p : Position) (h : Held) → map_of.get sub.pending p ≡ Some h → has_message log p ≡ true
held_logged log durable sub formed p h is = message_taken durable log p (formed.visible p h is)

-- where the log has more messages, or more of them are stored
pub formed_in_more : (log more : List Entry) (durable longer : ℕ) (sub : Subscription) → ((p : Position) → has_message log p ≡ true → has_message more p ≡ true)
    → ((p : Position) → has_message (take durable log) p ≡ true → has_message (take longer more) p ≡ true) → IsFormed log durable sub → IsFormed more longer sub
formed_in_more log more durable longer sub grows shows formed = record {
  acknowledged = λ p is. grows p (formed.acknowledged p is);
  visible = λ p h is. shows p (formed.visible p h is);
  live = formed.live;
  counted = λ p n is. let one = formed.counted p n is in record { message = grows p one.message; waits = one.waits; lives = one.lives; redelivered = one.redelivered; most = one.most };
  dead = dead_in_more log more sub.dead grows formed.dead;
  safe = formed.safe;
}

module _ (log : List Entry) (durable : ℕ) where
  -- where only its kind, its shares and how many deaths are stored change
  pub formed_with : (kind : Kind) (shares : Shares) (safe : ℕ) (sub : Subscription) → safe ≤ length sub.dead → IsFormed log durable sub → IsFormed log durable (record sub { kind = kind; shares = shares; safe = safe })
  formed_with kind shares safe sub low formed = record {
    acknowledged = formed.acknowledged;
    visible = formed.visible;
    live = formed.live;
    counted = formed.counted;
    dead = formed.dead;
    safe = low;
  }

  -- where what is pending is some of what was
  fewer_pending : (sub : Subscription) (keeps : Position → Bool) → IsFormed log durable sub → IsFormed log durable (record sub { pending = map_of.retain_keys sub.pending keeps })
  fewer_pending sub keeps formed = record {
    acknowledged = formed.acknowledged;
    visible = λ p h is. formed.visible p h (got_retained sub.pending keeps p h is).1;
    live = λ p h is. formed.live p h (got_retained sub.pending keeps p h is).1;
    counted = formed.counted;
    dead = formed.dead;
    safe = formed.safe;
  }

  pub formed_leaving : (consumer : ℕ) (sub : Subscription) → IsFormed log durable sub → IsFormed log durable (leaving consumer sub)
  formed_leaving consumer sub formed =
      let fewer = fewer_pending sub (λ p. not (is_held_by consumer (map_of.get sub.pending p))) formed in
      record { acknowledged = fewer.acknowledged; visible = fewer.visible; live = fewer.live; counted = fewer.counted; dead = fewer.dead; safe = fewer.safe }

  pub formed_released : (sub : Subscription) → IsFormed log durable sub → IsFormed log durable (releasing_all sub)
  formed_released sub formed = record {
    acknowledged = formed.acknowledged;
    visible = λ p h is. absurd (none_pending p h is);
    live = λ p h is. absurd (none_pending p h is);
    counted = formed.counted;
    dead = formed.dead;
    safe = formed.safe;
  }

  -- a live message that is visible is pending
  pub formed_holding : (p : Position) (held : Held) (sub : Subscription) → has_message (take durable log) p ≡ true → IsLiveAt sub p → IsFormed log durable sub → IsFormed log durable (holding p held sub)
  formed_holding p held sub there lives formed = record {
    acknowledged = formed.acknowledged;
    visible = λ q h is. elim (got_inserted sub.pending p held q h is) [
      | inl new ↦ subst (λ (r : Position). has_message (take durable log) r ≡ true) (sym new.0) there
      | inr old ↦ formed.visible q h old
    ];
    live = λ q h is. elim (got_inserted sub.pending p held q h is) [
      | inl new ↦ subst (IsLiveAt sub) (sym new.0) lives
      | inr old ↦ formed.live q h old
    ];
    counted = formed.counted;
    dead = formed.dead;
    safe = formed.safe;
  }

  -- ---- acknowledged

  also_acknowledged : (sub : Subscription) (positions : List Position) (p : Position) → set.contains (acknowledging positions sub).acknowledged p ≡ (set.contains sub.acknowledged p || is_one_of positions p)
  also_acknowledged sub positions p =
      set.contains-union positions_total sub.acknowledged (set.from_list positions) p
      ∙ ap (λ b. set.contains sub.acknowledged p || b) (set.contains-from_list positions_total positions p)

  pub formed_acknowledging : (positions : List Position) (sub : Subscription) → ((p : Position) → is_one_of positions p ≡ true → has_message log p ≡ true) → IsFormed log durable sub → IsFormed log durable (acknowledging positions sub)
  formed_acknowledging positions sub there formed = record {
    acknowledged = λ p is. by p (set.contains sub.acknowledged p) refl (sym (also_acknowledged sub positions p) ∙ is);
    visible = λ p h is. formed.visible p h (got_retained sub.pending keeps p h is).1;
    live = λ p h is.
        let was = got_retained sub.pending keeps p h is in
        let lives = formed.live p h was.1 in
        (still p lives.0 was.0, lives.1);
    counted = λ p n is.
        let was = got_retained sub.counts keeps p n is in
        let one = formed.counted p n was.1 in
        record { message = one.message; waits = still p one.waits was.0; lives = one.lives; redelivered = one.redelivered; most = one.most };
    dead = formed.dead;
    safe = formed.safe;
  }
    where
      keeps : Position → Bool
      keeps p = not (is_one_of positions p)

      by : (p : Position) (b : Bool) → set.contains sub.acknowledged p ≡ b → (b || is_one_of positions p) ≡ true → has_message log p ≡ true
      by p true is any = formed.acknowledged p is
      by p false is any = there p any

      neither : (a b : Bool) → a ≡ false → not b ≡ true → (a || b) ≡ false
      neither a b e f = grind (arith, nat_tests)

      still : (p : Position) → set.contains sub.acknowledged p ≡ false → keeps p ≡ true → set.contains (acknowledging positions sub).acknowledged p ≡ false
      still p waits stays = also_acknowledged sub positions p ∙ neither (set.contains sub.acknowledged p) (is_one_of positions p) waits stays

  -- ---- redelivered

  -- a message that is counted is one of those, or was counted so before
  one_counted : (positions : List Position) (counts : map_of.FinMap position_cmp ℕ) (p : Position) (n : ℕ) → map_of.get (recounted positions counts) p ≡ Some n
      → ((is_one_of positions p ≡ true) × (0 < n) × (n ≤ most_count)) ⊎ (map_of.get counts p ≡ Some n)
  one_counted [] counts p n is = inr is
  one_counted (q ∷ positions) counts p n is =
      elim (got_inserted (recounted positions counts) q (counted_again (unwrap_or (map_of.get counts q) 0)) p n is) [
        | inl new ↦ inl (any_of p q positions new.0, risen _ n new.1, at_most _ n new.1)
        | inr old ↦ elim (one_counted positions counts p n old) [
          | inl one ↦ inl (or_second (same_position p q) (is_one_of positions p) one.0, one.1, one.2)
          | inr before ↦ inr before
        ]
      ]
    where
      any_of : (p q : Position) (positions : List Position) → p ≡ q → is_one_of (q ∷ positions) p ≡ true
      any_of p q positions same = ap (λ b. b || is_one_of positions p) (ap (λ (r : Position). same_position p r) (sym same) ∙ position_itself p)

      risen : (m n : ℕ) → n ≡ counted_again m → 0 < n
      risen m n is = omega arith

      at_most : (m n : ℕ) → n ≡ counted_again m → n ≤ most_count
      at_most m n is = omega arith

  -- what is redelivered is pending
  pub formed_redelivering : (positions : List Position) (sub : Subscription) → ArePending sub positions → IsFormed log durable sub → IsFormed log durable (redelivering positions sub)
  formed_redelivering positions sub there formed =
      let fewer = fewer_pending sub (λ p. not (is_one_of positions p)) formed in
      record {
        acknowledged = fewer.acknowledged;
        visible = fewer.visible;
        live = fewer.live;
        counted = λ p n is. elim (one_counted positions sub.counts p n is) [
          | inl one ↦
              let held = there p one.0 in
              let lives = formed.live p held.0 held.1 in
              record { message = held_logged log durable sub formed p held.0 held.1; waits = lives.0; lives = lives.1; redelivered = one.1; most = one.2 }
          | inr old ↦ formed.counted p n old
        ];
        dead = fewer.dead;
        safe = fewer.safe;
      }

  -- ---- sought

  -- where nothing is pending
  pub formed_begun : (name : List ℕ) (kind : Kind) (acknowledged : set.FinSet position_cmp) (counts : map_of.FinMap position_cmp ℕ) (shares : Shares) (dead : List DeadLetter) (safe : ℕ)
      → AreMessagesOf log acknowledged → AreCountsOf log acknowledged dead counts → AreDeadLettersOf log dead → safe ≤ length dead
      → IsFormed log durable (record { name = name; kind = kind; acknowledged = acknowledged; pending = map_of.empty; counts = counts; shares = shares; dead = dead; safe = safe })
  formed_begun name kind acknowledged counts shares dead safe there counted letters low = record {
    acknowledged = there;
    visible = λ p h is. absurd (none_pending p h is);
    live = λ p h is. absurd (none_pending p h is);
    counted = counted;
    dead = letters;
    safe = low;
  }

  none_counted : (acknowledged : set.FinSet position_cmp) (dead : List DeadLetter) → AreCountsOf log acknowledged dead map_of.empty
  none_counted acknowledged dead p n is = absurd (none_pending p n is)

  -- the positions of messages of the log are acknowledged
  acknowledged_first : (before : List Entry) → ((e : Entry) → Contains before e → Contains log e) → AreMessagesOf log (set.from_list (map (λ (e : Entry). e.position) before))
  acknowledged_first before among p is = one_listed before log p among (sym (set.contains-from_list positions_total (map (λ (e : Entry). e.position) before) p) ∙ is)

  pub formed_seeking : (before : List Entry) (sub : Subscription) → ((e : Entry) → Contains before e → Contains log e) → IsFormed log durable sub → IsFormed log durable (seeking before sub)
  formed_seeking before sub among formed = formed_begun sub.name sub.kind _ map_of.empty sub.shares sub.dead sub.safe (acknowledged_first before among) (none_counted _ sub.dead) formed.dead formed.safe

  pub formed_new : (name : List ℕ) (kind : Kind) (ranges : Option (List HashRange)) (consumer : ℕ) (initial : Initial) → IsFormed log durable (new_subscription name kind ranges consumer initial log)
  formed_new name kind ranges consumer Earliest = formed_begun name kind _ map_of.empty _ [] 0 (λ p is. absurd (true≢false (sym is ∙ set.contains-empty position_cmp p))) (none_counted _ []) (none_dead log) (omega arith)
  formed_new name kind ranges consumer Latest = formed_begun name kind _ map_of.empty _ [] 0 (acknowledged_first log (λ e at. at)) (none_counted _ []) (none_dead log) (omega arith)

  -- ---- dead

  pub formed_burying : (letter : DeadLetter) (h : Held) (sub : Subscription) → map_of.get sub.pending letter.position ≡ Some h → AllByRecursion (λ (d : DeadLetter). d.ordinal < letter.ordinal) sub.dead → IsFormed log durable sub → IsFormed log durable (burying letter sub)
  formed_burying letter held sub there below formed = record {
    acknowledged = formed.acknowledged;
    visible = λ p h is. formed.visible p h (got_retained sub.pending keeps p h is).1;
    live = λ p h is.
        let was = got_retained sub.pending keeps p h is in
        let lives = formed.live p h was.1 in
        (lives.0, last sub.dead p lives.1 (other p was.0));
    counted = λ p n is.
        let was = got_retained sub.counts keeps p n is in
        let one = formed.counted p n was.1 in
        record { message = one.message; waits = one.waits; lives = last sub.dead p one.lives (other p was.0); redelivered = one.redelivered; most = one.most };
    dead = dead_pushed log sub.dead letter (held_logged log durable sub formed letter.position held there) (formed.live letter.position held there).1 below formed.dead;
    safe = let low = formed.safe in let longer = length-append sub.dead (letter ∷ []) in omega arith;
  }
    where
      keeps : Position → Bool
      keeps p = not (is_one_of (letter.position ∷ []) p)

      other : (p : Position) → not (is_one_of (letter.position ∷ []) p) ≡ true → same_position letter.position p ≡ false
      other p differs = either_way letter.position p ∙ (or_false (same_position p letter.position) false (turned (same_position p letter.position || false) differs)).0

      last : (ds : List DeadLetter) (p : Position) → list_any (λ d. same_position d.position p) ds ≡ false → same_position letter.position p ≡ false → list_any (λ d. same_position d.position p) (ds ++ letter ∷ []) ≡ false
      last [] p none new = ap (λ b. b || false) new
      last (d ∷ ds) p none new =
          let both = or_false (same_position d.position p) (list_any (λ d. same_position d.position p) ds) none in
          ap (λ b. b || list_any (λ d. same_position d.position p) (ds ++ letter ∷ [])) both.0 ∙ last ds p both.1 new

  pub formed_moving : (letter : DeadLetter) (sub : Subscription) → first_safe sub ≡ Some letter → IsFormed log durable sub → IsFormed log durable (moving letter sub)
  formed_moving letter sub first formed =
      let done = formed_acknowledging (letter.position ∷ []) sub in_log formed in
      record {
        acknowledged = done.acknowledged;
        visible = done.visible;
        live = λ p h is. let lives = done.live p h is in (lives.0, later sub.dead p lives.1);
        counted = λ p n is.
            let one = done.counted p n is in
            record { message = one.message; waits = one.waits; lives = later sub.dead p one.lives; redelivered = one.redelivered; most = one.most };
        dead = dead_dropped log sub.dead formed.dead;
        safe = fewer sub.dead sub.safe formed.safe;
      }
    where
      rest : (rest : List DeadLetter) × (sub.dead ≡ letter ∷ rest)
      rest = first_letter sub letter first

      in_log : (p : Position) → is_one_of (letter.position ∷ []) p ≡ true → has_message log p ≡ true
      in_log p one =
          subst (λ (q : Position). has_message log q ≡ true) (one_of_itself letter.position p one)
          (All-head (λ (d : DeadLetter). has_message log d.position ≡ true) letter rest.0 (subst (λ (ds : List DeadLetter). All (λ (d : DeadLetter). has_message log d.position ≡ true) ds) rest.1 formed.dead.messages))

      later : (ds : List DeadLetter) (p : Position) → list_any (λ (d : DeadLetter). same_position d.position p) ds ≡ false → list_any (λ (d : DeadLetter). same_position d.position p) (drop 1 ds) ≡ false
      later [] p none = refl
      later (d ∷ ds) p none = (or_false (same_position d.position p) (list_any (λ (d : DeadLetter). same_position d.position p) ds) none).1

      fewer : (ds : List DeadLetter) (safe : ℕ) → safe ≤ length ds → safe - 1 ≤ length (drop 1 ds)
      fewer [] safe low = omega arith
      fewer (d ∷ ds) safe low = omega arith
