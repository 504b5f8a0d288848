-- A run of three messages in Key_Shared: two of one body, and one whose hash is in the other half; two consumers join, and each is sent what is in its half.
use Rattle.std.proofs.Common.{◌≡◌, ◌≢◌, ℕ, ◌<◌, List, [], ◌∷◌, Some, None, refl, ap, sym, pos, Bool, true, false, arith, ◌∙◌}
use Rattle.std.specs.Prelude.{codes, not, cond, nat_lt, nat_le, ◌&&◌, Option}
use Rattle.std.specs.List.{find}
use Rattle.std.specs.Option.{option_and_then}
use Rattle.std.specs.FinMap as map_of
use Rattle.std.proofs.lemmas.Bool.{ne_eqb}
use Rattle.std.proofs.lemmas.Bool.Decides.{nat_tests}
use Rattle.position_core.specs.declared.topic_name.TopicName.{TopicName}
use Rattle.position_core.specs.declared.body.Content.{Content}
use Rattle.position_core.specs.declared.flow.Flow.TheVariants.{Window}
use Rattle.position_core.specs.declared.kind.Kind.TheVariants.{KeyShared}
use Rattle.position_core.specs.Position.{positions_total}
use Rattle.murmur_core.specs.Murmur.{murmur3, with_bytes}
use Rattle.murmur_core.specs.Sticky.{sticky_hash}
use Rattle.murmur_core.proofs.Keys.{sticky_hash-lt, sticky_hash-empty}
use Rattle.delivery_machine.specs.State.{State, Subscription, Member, fresh}
use Rattle.delivery_machine.specs.Shares.{Shares, owner_of, lower_half, upper_half, all_hashes}
use Rattle.delivery_machine.specs.Words.{count_of, is_at, is_member, IsEligible}
use Rattle.delivery_machine.specs.Producing.{with_message}
use Rattle.delivery_machine.specs.Joining.{with_member}
use Rattle.delivery_machine.specs.Delivering.{sent, given}
use Rattle.delivery_machine.specs.Run.{Run}
use Rattle.delivery_machine.specs.declared.event.Event.{Event}
use Rattle.delivery_machine.specs.declared.event.Event.TheVariants.{AddProducer, Publish, Stored, Subscribe}
use Rattle.delivery_machine.specs.declared.event.Initial.TheVariants.{Earliest}
use Rattle.delivery_machine.specs.declared.reply.Reply.{Reply}
use Rattle.delivery_machine.specs.declared.reply.Reply.TheVariants.{ProducerAdded, Published, Durable, Subscribed, Sent}
use Rattle.delivery_machine.proofs.Deciding.{itself}
use Rattle.machine_laws.proofs.TwoMessages.{Pending, position_at, held_by, dispatch, one_held, two_held, none-held, first-of-one, second-of-one, first-of-two, second-of-two, message, subscription, waits, uncounted, member, connected, two_published}

-- ---- halves

-- whose half the hashes below 32,768 are, and whose the others
abbrev pub owner : Bool → ℕ
owner low = cond low 2 1

abbrev shares : Shares
shares = record { blocks = lower_half 2 (all_hashes 1) ∷ upper_half (all_hashes 1) ∷ []; sticky = false }

owned : (low : Bool) (hash : ℕ) → hash < 65536 → nat_lt hash 32768 ≡ low → owner_of shares hash ≡ Some (owner low)
owned true hash within half =
    let from : nat_le 0 hash ≡ true = grind (arith, nat_tests) in
    rw (from, half) refl
owned false hash within half =
    let any : nat_le 0 hash ≡ true = grind (arith, nat_tests) in
    let from : nat_le 32768 hash ≡ true = grind (arith, nat_tests) in
    let to : nat_lt hash 65536 ≡ true = grind (arith, nat_tests) in
    rw (any, half, from, to) refl

pub differ : (low : Bool) → owner low ≢ owner (not low)
differ true = omega arith
differ false = omega arith

halves_apart : (low : Bool) (x z : ℕ) → nat_lt x 32768 ≡ low → nat_lt z 32768 ≡ not low → x ≢ z
halves_apart true x z below above = grind (arith, nat_tests)
halves_apart false x z above below = grind (arith, nat_tests)

-- a key whose hash is in the other half
abbrev key_beside : Bool → Option (List ℕ)
key_beside low = cond low (Some (codes "test")) (Some [])

hash-test : sticky_hash (Some (codes "test")) ≡ 53779
unfolding sticky_hash murmur3 with_bytes
hash-test = refl

beside : (low : Bool) → nat_lt (sticky_hash (key_beside low)) 32768 ≡ not low
beside true = ap (λ h. nat_lt h 32768) hash-test
beside false = ap (λ h. nat_lt h 32768) sticky_hash-empty

-- ---- what is pending

abbrev pub three_held : Bool → Pending
three_held low = map_of.insert (two_held (owner low)) (position_at 2) (held_by (owner (not low)))

third-of-one : (consumer : ℕ) → map_of.get (one_held consumer) (position_at 2) ≡ None
third-of-one consumer = map_of.get-insert positions_total map_of.empty (position_at 0) (held_by consumer) (position_at 2) ∙ none-held 2

third-of-two : (consumer : ℕ) → map_of.get (two_held consumer) (position_at 2) ≡ None
third-of-two consumer = map_of.get-insert positions_total (one_held consumer) (position_at 1) (held_by consumer) (position_at 2) ∙ third-of-one consumer

pub first-of-three : (low : Bool) → map_of.get (three_held low) (position_at 0) ≡ Some (held_by (owner low))
first-of-three low = map_of.get-insert positions_total (two_held (owner low)) (position_at 2) (held_by (owner (not low))) (position_at 0) ∙ first-of-two (owner low)

pub second-of-three : (low : Bool) → map_of.get (three_held low) (position_at 1) ≡ Some (held_by (owner low))
second-of-three low = map_of.get-insert positions_total (two_held (owner low)) (position_at 2) (held_by (owner (not low))) (position_at 1) ∙ second-of-two (owner low)

pub third-of-three : (low : Bool) → map_of.get (three_held low) (position_at 2) ≡ Some (held_by (owner (not low)))
third-of-three low = map_of.get-insert positions_total (two_held (owner low)) (position_at 2) (held_by (owner (not low))) (position_at 2)

abbrev pub keyed : Pending → Subscription
keyed pending = subscription KeyShared shares pending

-- a producer of the name `p` and a subscription of the name `s`; the body's hash is in the lower half, or not
module _ (name : TopicName) (body : Content) (low : Bool) where
  -- what the third message holds
  abbrev pub other : Content
  other = record body { key = key_beside low }

  abbrev three_published : State
  three_published = with_message (two_published name body) (message other 2)

  abbrev one_joined : State
  one_joined = with_member (record three_published { durable = 3 }) KeyShared None Earliest (member name body 1)

  abbrev joined : State
  joined = with_member one_joined KeyShared None Earliest (member name body 2)

  abbrev once_given : Member
  once_given = given (record { message = message body 0; count = count_of (keyed map_of.empty) (position_at 0) }) (member name body (owner low))

  abbrev first_sent : State
  first_sent = sent joined (codes "s") (keyed map_of.empty) (message body 0) (member name body (owner low)) 0

  abbrev second_sent : State
  second_sent = sent first_sent (codes "s") (keyed (one_held (owner low))) (message body 1) once_given 0

  abbrev pub done : State
  done = sent second_sent (codes "s") (keyed (two_held (owner low))) (message other 2) (member name body (owner (not low))) 0

  abbrev pub events_by_hash : List Event
  events_by_hash =
      AddProducer (Some (codes "p")) (pos 0) ∷ Publish 1 (pos 1) body 0 ∷ Publish 1 (pos 2) body 0 ∷ Publish 1 (pos 3) other 0 ∷ Stored
      ∷ Subscribe (codes "s") KeyShared 0 (Window 2) 0 0 0 name Earliest None ∷ Subscribe (codes "s") KeyShared 0 (Window 2) 0 0 0 name Earliest None
      ∷ dispatch ∷ dispatch ∷ dispatch ∷ []

  abbrev pub replies_by_hash : List Reply
  replies_by_hash =
      ProducerAdded 1 None (pos 0) ∷ Published (position_at 0) 1 ∷ Published (position_at 1) 2 ∷ Published (position_at 2) 3 ∷ Durable 3 ∷ Subscribed 1 ∷ Subscribed 2
      ∷ Sent (owner low) (position_at 0) 0 ∷ Sent (owner low) (position_at 1) 0 ∷ Sent (owner (not low)) (position_at 2) 0 ∷ []

-- the member of a half, before it is sent anything and after
abbrev is_numbered : ℕ → Member → Bool
is_numbered number m = is_at (codes "s") m && is_member number m

first_taker : (name : TopicName) (body : Content) (low : Bool) → find (is_numbered (owner low)) (joined name body low).members ≡ Some (member name body (owner low))
first_taker name body true = refl
first_taker name body false = refl

second_taker : (name : TopicName) (body : Content) (low : Bool) → find (is_numbered (owner low)) (first_sent name body low).members ≡ Some (once_given name body low)
second_taker name body true = refl
second_taker name body false = refl

third_taker : (name : TopicName) (body : Content) (low : Bool) → find (is_numbered (owner (not low))) (second_sent name body low).members ≡ Some (member name body (owner (not low)))
third_taker name body true = refl
third_taker name body false = refl

module _ (name : TopicName) (body : Content) (low : Bool) (half : nat_lt (sticky_hash body.key) 32768 ≡ low) where
  owns : owner_of shares (sticky_hash body.key) ≡ Some (owner low)
  owns = owned low (sticky_hash body.key) (sticky_hash-lt body.key) half

  owns_other : owner_of shares (sticky_hash (key_beside low)) ≡ Some (owner (not low))
  owns_other = owned (not low) (sticky_hash (key_beside low)) (sticky_hash-lt (key_beside low)) (beside low)

  pub apart : sticky_hash body.key ≢ sticky_hash (key_beside low)
  apart = halves_apart low (sticky_hash body.key) (sticky_hash (key_beside low)) half (beside low)

  first_may : IsEligible (joined name body low) (keyed map_of.empty) (message body 0) (member name body (owner low))
  first_may = (
    rw (none-held 0, none-held 1, none-held 2) refl,
    (
      rw (waits KeyShared shares map_of.empty body 0 (none-held 0), itself (sticky_hash body.key)) refl,
      ap (λ o. option_and_then (λ number. find (is_numbered number) (joined name body low).members) o) owns ∙ first_taker name body low,
      rw (none-held 0, none-held 1, none-held 2, itself (sticky_hash body.key), ne_eqb (sticky_hash (key_beside low)) (sticky_hash body.key) (λ e. apart (sym e))) refl,
    ),
  )

  second_may : IsEligible (first_sent name body low) (keyed (one_held (owner low))) (message body 1) (once_given name body low)
  second_may = (
    rw (first-of-one (owner low), second-of-one (owner low), third-of-one (owner low), itself (owner low)) refl,
    (
      rw (waits KeyShared shares (one_held (owner low)) body 0 (first-of-one (owner low)), waits KeyShared shares (one_held (owner low)) body 1 (second-of-one (owner low)), itself (sticky_hash body.key)) refl,
      ap (λ o. option_and_then (λ number. find (is_numbered number) (first_sent name body low).members) o) owns ∙ second_taker name body low,
      rw (first-of-one (owner low), second-of-one (owner low), third-of-one (owner low), itself (owner low), itself (sticky_hash body.key), ne_eqb (sticky_hash (key_beside low)) (sticky_hash body.key) (λ e. apart (sym e))) refl,
    ),
  )

  third_may : IsEligible (second_sent name body low) (keyed (two_held (owner low))) (message (other name body low) 2) (member name body (owner (not low)))
  third_may = (
    rw (first-of-two (owner low), second-of-two (owner low), third-of-two (owner low), ne_eqb (owner low) (owner (not low)) (differ low)) refl,
    (
      rw (
        waits KeyShared shares (two_held (owner low)) body 0 (first-of-two (owner low)),
        waits KeyShared shares (two_held (owner low)) body 1 (second-of-two (owner low)),
        waits KeyShared shares (two_held (owner low)) (other name body low) 2 (third-of-two (owner low)),
        itself (sticky_hash (key_beside low)),
      ) refl,
      ap (λ o. option_and_then (λ number. find (is_numbered number) (second_sent name body low).members) o) owns_other ∙ third_taker name body low,
      rw (first-of-two (owner low), second-of-two (owner low), third-of-two (owner low), ne_eqb (sticky_hash body.key) (sticky_hash (key_beside low)) apart, itself (sticky_hash (key_beside low))) refl,
    ),
  )

  -- ---- the run

  dispatches : Run (joined name body low) (dispatch ∷ dispatch ∷ dispatch ∷ []) (Sent (owner low) (position_at 0) 0 ∷ Sent (owner low) (position_at 1) 0 ∷ Sent (owner (not low)) (position_at 2) 0 ∷ []) (done name body low)
  dispatches = (
    first_sent name body low,
    (refl, (message body 0, member name body (owner low), first_may, refl, refl, uncounted KeyShared shares map_of.empty 0, refl)),
    (
      second_sent name body low,
      (refl, (message body 1, once_given name body low, second_may, refl, refl, uncounted KeyShared shares (one_held (owner low)) 1, refl)),
      (
        done name body low,
        (refl, (message (other name body low) 2, member name body (owner (not low)), third_may, refl, refl, uncounted KeyShared shares (two_held (owner low)) 2, refl)),
        refl,
      ),
    ),
  )

  pub run_by_hash : Run (fresh name 1) (events_by_hash name body low) (replies_by_hash name body low) (done name body low)
  run_by_hash = (
    connected name body,
    (refl, (codes "p", None, (refl, refl), (refl, refl))),
    (
      with_message (connected name body) (message body 0),
      (refl, (refl, refl)),
      (
        two_published name body,
        (refl, (refl, refl)),
        (
          three_published name body low,
          (refl, (refl, refl)),
          (
            record (three_published name body low) { durable = 3 },
            (refl, (refl, refl)),
            (one_joined name body low, (refl, (refl, refl, tt)), (joined name body low, (refl, (refl, refl, tt)), dispatches)),
          ),
        ),
      ),
    ),
  )
