-- A short event gets a short reply.
use Rattle.std.proofs.Common.{◌≡◌, ℕ, List, Bool, true, false, refl, ap, ◌∙◌, true≢false}
use Rattle.std.specs.Prelude.{◌+◌, length, if◌then◌else◌}
use Rattle.std.specs.List.{find}
use Rattle.position_core.specs.declared.position.Position.{Position}
use Rattle.delivery_machine.specs.State.{State, Subscription}
use Rattle.delivery_machine.specs.Words.{is_producer, is_named}
use Rattle.delivery_machine.specs.Refusals.{is_duplicate}
use Rattle.delivery_machine.specs.Words.{next_position}
use Rattle.delivery_machine.specs.Producing.{had}
use Rattle.delivery_machine.specs.Delivering.{Dispatches}
use Rattle.delivery_machine.specs.Ticking.{Ticks}
use Rattle.delivery_machine.specs.Trimming.{Trims}
use Rattle.delivery_machine.specs.Run.{Step, Takes}
use Rattle.delivery_machine.specs.declared.event.Event.{Event}
use Rattle.delivery_machine.specs.declared.event.Event.TheVariants as event
use Rattle.delivery_machine.specs.declared.reply.Reply.{Reply}
use Rattle.delivery_machine.specs.declared.reply.Reply.TheVariants.{Published, Duplicate, Sent, Idle, Quiet, Rewound, Released, Died, Trimmed, Untrimmed, Refused}
use Rattle.delivery_machine.proofs.Firsts.{some_elim}
use Rattle.topic_shared.specs.Short.{is_long, is_long_reply}

is_short : (r q : Reply) → r ≡ q → is_long_reply q ≡ false → is_long_reply r ≡ false
is_short r q same short = ap is_long_reply same ∙ short

published : (at : Position) (length : ℕ) (r : Reply) (duplicate : Bool) → r ≡ (if duplicate then Duplicate length else Published at (length + 1)) → is_long_reply r ≡ false
published at length r true same = is_short r _ same refl
published at length r false same = is_short r _ same refl

ticked : (s : State) (name : List ℕ) (now : ℕ) (sub : Subscription) (r : Reply) (t : State) → Ticks s name now sub r t → is_long_reply r ≡ false
ticked s name now sub Quiet t h = refl
ticked s name now sub (Rewound count) t h = refl
ticked s name now sub (Released position) t h = refl
ticked s name now sub (Died position ordinal) t h = refl
ticked s name now sub reply t h = absurd h

dispatched : (s : State) (name : List ℕ) (now : ℕ) (sub : Subscription) (r : Reply) (t : State) → Dispatches s name now sub r t → is_long_reply r ≡ false
dispatched s name now sub (Sent consumer position count) t h = refl
dispatched s name now sub Idle t h = refl
dispatched s name now sub reply t h = absurd h

trimmed : (s : State) (keep before most : ℕ) (r : Reply) (t : State) → Trims s keep before most r t → is_long_reply r ≡ false
trimmed s keep before most (Trimmed gone) t h = refl
trimmed s keep before most Untrimmed t h = refl
trimmed s keep before most reply t h = absurd h

taken : (s : State) (e : Event) (r : Reply) (t : State) → Takes s e r t → is_long e ≡ false → is_long_reply r ≡ false
taken s (event.AddProducer name base) r t h short = absurd (true≢false short)
taken s (event.DropProducer producer) r t h short = is_short r _ h.0 refl
taken s (event.Publish producer sequence body now) r t h short = some_elim (find (is_producer producer) s.producers) _ _ h (λ p found h. published (next_position s) (had s) r (is_duplicate s p sequence) h.0)
taken s event.Stored r t h short = is_short r _ h.0 refl
taken s (event.StoredTo count ordinal) r t h short = is_short r _ h.0 refl
taken s event.Progress r t h short = is_short r _ h.0 refl
taken s (event.Subscribe subscription kind level flow ack_timeout nack_delay max_redeliver dead_topic initial ranges) r t h short = absurd (true≢false short)
taken s (event.Leave consumer) r t h short = is_short r _ h.0 refl
taken s (event.Permit consumer permits) r t h short = is_short r _ h.0 refl
taken s (event.Ack consumer position) r t h short = is_short r _ h.0 refl
taken s (event.AckUpTo consumer position) r t h short = is_short r _ h.0 refl
taken s (event.Nack consumer position now) r t h short = is_short r _ h.0 refl
taken s (event.Tick subscription now) r t h short = some_elim (find (is_named subscription) s.subscriptions) _ _ h (λ sub found h. ticked s subscription now sub r t h)
taken s (event.Seek subscription target) r t h short = absurd (true≢false short)
taken s (event.SeekTime subscription time) r t h short = absurd (true≢false short)
taken s (event.Skip subscription count) r t h short = absurd (true≢false short)
taken s (event.DropSubscription subscription) r t h short = absurd (true≢false short)
taken s (event.Stats subscription) r t h short = absurd (true≢false short)
taken s (event.Trim keep before most) r t h short = trimmed s keep before most r t h
taken s (event.SetRetention retention) r t h short = absurd (true≢false short)
taken s (event.Dispatch subscription now) r t h short = some_elim (find (is_named subscription) s.subscriptions) _ _ h (λ sub found h. dispatched s subscription now sub r t h)
taken s (event.Collect consumer) r t h short = is_short r _ h.0 refl
taken s (event.DeadNext subscription) r t h short = absurd (true≢false short)
taken s (event.DeadDone subscription ordinal) r t h short = absurd (true≢false short)

pub long_replies : (s : State) (e : Event) (r : Reply) (t : State) → Step s e r t → is_long e ≡ false → is_long_reply r ≡ false
long_replies s e (Refused fault) t h short = refl
long_replies s e reply t h short = taken s e reply t h.1 short
