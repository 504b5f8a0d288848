-- A line stands for at most one thing.
use Rattle.std.proofs.Common.{◌≡◌, ℕ, List, Option, Some, refl, sym, ap, ◌∙◌, subst, arith}
use Rattle.std.specs.List.{find}
use Rattle.std.specs.Str.{bytes_eq}
use Rattle.position_core.specs.declared.topic_name.TopicName.{TopicName}
use Rattle.position_core.specs.declared.position.Position.{Position}
use Rattle.value_texts.proofs.Ids.{one_id}
use Rattle.delivery_machine.specs.declared.event.Event.{Event}
use Rattle.delivery_machine.specs.declared.event.Event.TheVariants.{DropProducer, Leave, Ack, AckUpTo, Nack, DropSubscription, Stats, Collect, DeadNext}
use Rattle.delivery_machine.specs.declared.event.Target.{Target}
use Rattle.replay_lines.specs.declared.command.Command.{Command}
use Rattle.replay_lines.specs.declared.command.Command.TheVariants as commands
use Rattle.replay_lines.specs.declared.command.TheConstants.{ALL}
use Rattle.replay_lines.specs.declared.reading.Line.{Line}
use Rattle.replay_lines.specs.declared.reading.Line.TheVariants as lines
use Rattle.replay_lines.specs.Grammar.{command_text, IsById, IsLineOf, EachLineIsOne, seek_line}
use Rattle.value_texts.specs.Decimals.{IsNumber}
use Rattle.replay_lines.specs.Numbers.{IsSequence, IsBase, IsMoment, IsBetween}
use Rattle.replay_lines.specs.Names.{IsNameWord, IsProducerWord}
use Rattle.replay_lines.specs.Grammar.{IsBody, IsKind, IsFlow, IsInitial, IsTarget, IsDeath}
use Rattle.value_texts.proofs.LastDigits.{one_number}
use Rattle.replay_lines.proofs.LastWords.{one_last, one_said}
use Rattle.replay_lines.proofs.OneWord.{one_moment, one_between, one_sequence, one_base, one_name, one_producer, one_body, one_kind, one_flow, one_initial, one_target, one_death}

-- ---- commands

command_of : List ℕ → Option Command
command_of word = find (λ command. bytes_eq (command_text command) word) ALL

found_by_text : (command : Command) → command_of (command_text command) ≡ Some command
unfolding command_of
found_by_text commands.Producer = refl
found_by_text commands.DropProducer = refl
found_by_text commands.Publish = refl
found_by_text commands.Stored = refl
found_by_text commands.Progress = refl
found_by_text commands.Subscribe = refl
found_by_text commands.Leave = refl
found_by_text commands.Permit = refl
found_by_text commands.Ack = refl
found_by_text commands.AckUpTo = refl
found_by_text commands.Nack = refl
found_by_text commands.Tick = refl
found_by_text commands.Seek = refl
found_by_text commands.SeekTime = refl
found_by_text commands.Skip = refl
found_by_text commands.DropSubscription = refl
found_by_text commands.Stats = refl
found_by_text commands.Dispatch = refl
found_by_text commands.Collect = refl
found_by_text commands.DeadNext = refl
found_by_text commands.DeadDone = refl
found_by_text commands.Trim = refl
found_by_text commands.Restart = refl

one_command : (c d : Command) → command_text c ≡ command_text d → c ≡ d
one_command c d same = let both = sym (found_by_text c) ∙ ap command_of same ∙ found_by_text d in cc both

-- ---- words at the same places

-- values of a word, which stands at one place of two lists
at_place : {A : Type 0} (P : List ℕ → A → Type 0) → ((w : List ℕ) (x y : A) → P w x → P w y → x ≡ y) → (v w : List ℕ) → v ≡ w → (x y : A) → P v x → P w y → x ≡ y
at_place P one v w same x y is_x is_y = one w x y (subst (λ (z : List ℕ). P z x) same is_x) is_y

one_number_at : (word : List ℕ) (m n : ℕ) → IsNumber word m → IsNumber word n → m ≡ n
one_number_at word m n is_m is_n = one_number word m n is_m.0 is_n.0 is_m.1 is_n.1

by_one_id : (event_at : Position → Event) (id : List ℕ) (a b : Line) → IsById event_at id a → IsById event_at id b → a ≡ b
by_one_id event_at id (lines.Event e) (lines.Event f) is_a is_b =
    ap lines.Event (is_a.2 ∙ ap event_at (one_id id is_a.0 is_b.0 is_a.1 is_b.1) ∙ sym is_b.2)
by_one_id event_at id (lines.Event e) lines.Restart is_a is_b = absurd is_b
by_one_id event_at id lines.Restart b is_a is_b = absurd is_a
by_one_id event_at id (lines.Event e) lines.BadId is_a is_b = absurd (is_b is_a.0 is_a.1)
by_one_id event_at id lines.BadId (lines.Event f) is_a is_b = absurd (is_a is_b.0 is_b.1)
by_one_id event_at id lines.BadId lines.Restart is_a is_b = absurd is_b
by_one_id event_at id lines.BadId lines.BadId is_a is_b = refl

-- where the events of the positions are the same
by_id_at : (f g : Position → Event) → f ≡ g → (v w : List ℕ) → v ≡ w → (a b : Line) → IsById f v a → IsById g w b → a ≡ b
by_id_at f g events v w same a b is_a is_b =
    by_one_id g w a b (subst (λ (z : List ℕ). IsById g z a) same (subst (λ (h : Position → Event). IsById h v a) events is_a)) is_b

abbrev ack : ℕ → Position → Event
ack consumer position = Ack consumer position

abbrev ack_up_to : ℕ → Position → Event
ack_up_to consumer position = AckUpTo consumer position

abbrev nack : ℕ → ℕ → Position → Event
nack consumer now position = Nack consumer position now

-- ---- each command

one_line_of : (this : TopicName) (command : Command) (words : List (List ℕ)) (a b : Line) → IsLineOf this command words a → IsLineOf this command words b → a ≡ b
one_line_of this commands.Producer words a b h k =
    let n : h.0 ≡ k.0 = cc (h.4, k.4) in
    let w : h.1 ≡ k.1 = cc (h.4, k.4) in
    let name = at_place IsProducerWord one_producer h.0 k.0 n h.2 k.2 h.5 k.5 in
    let base = at_place IsBase one_base h.1 k.1 w h.3 k.3 h.6 k.6 in
    cc (h.7, k.7, name, base)
one_line_of this commands.DropProducer words a b h k =
    let w : h.0 ≡ k.0 = cc (h.2, k.2) in
    h.4 ∙ ap (λ n. lines.Event (DropProducer n)) (at_place IsNumber one_number_at h.0 k.0 w h.1 k.1 h.3 k.3) ∙ sym k.4
one_line_of this commands.Publish words a b h k =
    let p : h.0 ≡ k.0 = cc (h.9, k.9) in
    let s : h.1 ≡ k.1 = cc (h.9, k.9) in
    let x : h.2 ≡ k.2 = cc (h.9, k.9) in
    let y : h.3 ≡ k.3 = cc (h.9, k.9) in
    let n : h.4 ≡ k.4 = cc (h.9, k.9) in
    let producer = at_place IsNumber one_number_at h.0 k.0 p h.5 k.5 h.10 k.10 in
    let sequence = at_place IsSequence one_sequence h.1 k.1 s h.6 k.6 h.11 k.11 in
    let body = at_place (IsBody k.2) (one_body k.2) h.3 k.3 y h.7 k.7 (subst (λ (z : List ℕ). IsBody z h.3 h.7) x h.12) k.12 in
    let now = at_place IsMoment one_moment h.4 k.4 n h.8 k.8 h.13 k.13 in
    cc (h.14, k.14, producer, sequence, body, now)
one_line_of this commands.Stored words a b h k = h.1 ∙ sym k.1
one_line_of this commands.Progress words a b h k = h.1 ∙ sym k.1
one_line_of this commands.Subscribe words a b h k =
    let s : h.0 ≡ k.0 = cc (h.20, k.20) in
    let x : h.1 ≡ k.1 = cc (h.20, k.20) in
    let l : h.2 ≡ k.2 = cc (h.20, k.20) in
    let f : h.3 ≡ k.3 = cc (h.20, k.20) in
    let t : h.4 ≡ k.4 = cc (h.20, k.20) in
    let n : h.5 ≡ k.5 = cc (h.20, k.20) in
    let m : h.6 ≡ k.6 = cc (h.20, k.20) in
    let d : h.7 ≡ k.7 = cc (h.20, k.20) in
    let i : h.8 ≡ k.8 = cc (h.20, k.20) in
    let z : h.9 ≡ k.9 = one_last h.9 k.9 (cc (h.20, k.20)) in
    let name = at_place IsNameWord one_name h.0 k.0 s h.10 k.10 h.21 k.21 in
    let kind = at_place IsKind one_kind h.1 k.1 x h.11 k.11 h.22 k.22 in
    let level = at_place (IsBetween 0 2147483647) (λ w y z. one_between 0 2147483647 w y z (omega arith)) h.2 k.2 l h.12 k.12 h.23 k.23 in
    let flow = at_place IsFlow one_flow h.3 k.3 f h.13 k.13 h.24 k.24 in
    let timeout = at_place (IsBetween 0 2147483647) (λ w y z. one_between 0 2147483647 w y z (omega arith)) h.4 k.4 t h.14 k.14 h.25 k.25 in
    let delay = at_place (IsBetween 0 2147483647) (λ w y z. one_between 0 2147483647 w y z (omega arith)) h.5 k.5 n h.15 k.15 h.26 k.26 in
    let death = one_death this k.10 k.6 k.7 (h.16, h.17) (k.16, k.17)
    (subst (λ (z : List ℕ). IsDeath this z k.6 k.7 (h.16, h.17)) name
    (subst (λ (z : List ℕ). IsDeath this h.10 z k.7 (h.16, h.17)) m
    (subst (λ (z : List ℕ). IsDeath this h.10 h.6 z (h.16, h.17)) d h.27))) k.27 in
    let limit : h.16 ≡ k.16 = death.0 in
    let target : h.17 ≡ k.17 = death.1 in
    let initial = at_place IsInitial one_initial h.8 k.8 i h.18 k.18 h.28 k.28 in
    let ranges : h.19 ≡ k.19 = one_said h.11 k.11 h.9 k.9 h.19 k.19 kind z h.29 k.29 in
    cc (h.30, k.30, name, kind, level, flow, timeout, delay, limit, target, initial, ranges)
one_line_of this commands.Leave words a b h k =
    let w : h.0 ≡ k.0 = cc (h.2, k.2) in
    h.4 ∙ ap (λ n. lines.Event (Leave n)) (at_place IsNumber one_number_at h.0 k.0 w h.1 k.1 h.3 k.3) ∙ sym k.4
one_line_of this commands.Permit words a b h k =
    let v : h.0 ≡ k.0 = cc (h.4, k.4) in
    let w : h.1 ≡ k.1 = cc (h.4, k.4) in
    let consumer = at_place IsNumber one_number_at h.0 k.0 v h.2 k.2 h.5 k.5 in
    let permits = at_place (IsBetween 1 2147483647) (λ w y z. one_between 1 2147483647 w y z (omega arith)) h.1 k.1 w h.3 k.3 h.6 k.6 in
    cc (h.7, k.7, consumer, permits)
one_line_of this commands.Ack words a b h k =
    let v : h.0 ≡ k.0 = cc (h.3, k.3) in
    let w : h.1 ≡ k.1 = cc (h.3, k.3) in
    let consumer = at_place IsNumber one_number_at h.0 k.0 v h.2 k.2 h.4 k.4 in
    by_id_at (ack h.2) (ack k.2) (ap ack consumer) h.1 k.1 w a b h.5 k.5
one_line_of this commands.AckUpTo words a b h k =
    let v : h.0 ≡ k.0 = cc (h.3, k.3) in
    let w : h.1 ≡ k.1 = cc (h.3, k.3) in
    let consumer = at_place IsNumber one_number_at h.0 k.0 v h.2 k.2 h.4 k.4 in
    by_id_at (ack_up_to h.2) (ack_up_to k.2) (ap ack_up_to consumer) h.1 k.1 w a b h.5 k.5
one_line_of this commands.Nack words a b h k =
    let v : h.0 ≡ k.0 = cc (h.5, k.5) in
    let w : h.1 ≡ k.1 = cc (h.5, k.5) in
    let n : h.2 ≡ k.2 = cc (h.5, k.5) in
    let consumer = at_place IsNumber one_number_at h.0 k.0 v h.3 k.3 h.6 k.6 in
    let now = at_place IsMoment one_moment h.2 k.2 n h.4 k.4 h.7 k.7 in
    by_id_at (nack h.3 h.4) (nack k.3 k.4) (ap (λ (c : ℕ). nack c h.4) consumer ∙ ap (nack k.3) now) h.1 k.1 w a b h.8 k.8
one_line_of this commands.Tick words a b h k =
    let v : h.0 ≡ k.0 = cc (h.4, k.4) in
    let w : h.1 ≡ k.1 = cc (h.4, k.4) in
    let name = at_place IsNameWord one_name h.0 k.0 v h.2 k.2 h.5 k.5 in
    let now = at_place IsMoment one_moment h.1 k.1 w h.3 k.3 h.6 k.6 in
    cc (h.7, k.7, name, now)
one_line_of this commands.Seek words a b h k =
    let v : h.0 ≡ k.0 = cc (h.4, k.4) in
    let w : h.1 ≡ k.1 = cc (h.4, k.4) in
    let name = at_place IsNameWord one_name h.0 k.0 v h.2 k.2 h.5 k.5 in
    let target = at_place IsTarget one_target h.1 k.1 w h.3 k.3 h.6 k.6 in
    h.7 ∙ ap (λ (z : List ℕ). seek_line z h.3) name ∙ ap (λ (t : Option Target). seek_line k.2 t) target ∙ sym k.7
one_line_of this commands.SeekTime words a b h k =
    let v : h.0 ≡ k.0 = cc (h.4, k.4) in
    let w : h.1 ≡ k.1 = cc (h.4, k.4) in
    let name = at_place IsNameWord one_name h.0 k.0 v h.2 k.2 h.5 k.5 in
    let time = at_place IsMoment one_moment h.1 k.1 w h.3 k.3 h.6 k.6 in
    cc (h.7, k.7, name, time)
one_line_of this commands.Skip words a b h k =
    let v : h.0 ≡ k.0 = cc (h.4, k.4) in
    let w : h.1 ≡ k.1 = cc (h.4, k.4) in
    let name = at_place IsNameWord one_name h.0 k.0 v h.2 k.2 h.5 k.5 in
    let count = at_place (IsBetween 0 2147483647) (λ w y z. one_between 0 2147483647 w y z (omega arith)) h.1 k.1 w h.3 k.3 h.6 k.6 in
    cc (h.7, k.7, name, count)
one_line_of this commands.DropSubscription words a b h k =
    let w : h.0 ≡ k.0 = cc (h.2, k.2) in
    h.4 ∙ ap (λ (z : List ℕ). lines.Event (DropSubscription z)) (at_place IsNameWord one_name h.0 k.0 w h.1 k.1 h.3 k.3) ∙ sym k.4
one_line_of this commands.Stats words a b h k =
    let w : h.0 ≡ k.0 = cc (h.2, k.2) in
    h.4 ∙ ap (λ (z : List ℕ). lines.Event (Stats z)) (at_place IsNameWord one_name h.0 k.0 w h.1 k.1 h.3 k.3) ∙ sym k.4
one_line_of this commands.Dispatch words a b h k =
    let v : h.0 ≡ k.0 = cc (h.4, k.4) in
    let w : h.1 ≡ k.1 = cc (h.4, k.4) in
    let name = at_place IsNameWord one_name h.0 k.0 v h.2 k.2 h.5 k.5 in
    let now = at_place IsMoment one_moment h.1 k.1 w h.3 k.3 h.6 k.6 in
    cc (h.7, k.7, name, now)
one_line_of this commands.Collect words a b h k =
    let w : h.0 ≡ k.0 = cc (h.2, k.2) in
    h.4 ∙ ap (λ n. lines.Event (Collect n)) (at_place IsNumber one_number_at h.0 k.0 w h.1 k.1 h.3 k.3) ∙ sym k.4
one_line_of this commands.DeadNext words a b h k =
    let w : h.0 ≡ k.0 = cc (h.2, k.2) in
    h.4 ∙ ap (λ (z : List ℕ). lines.Event (DeadNext z)) (at_place IsNameWord one_name h.0 k.0 w h.1 k.1 h.3 k.3) ∙ sym k.4
one_line_of this commands.DeadDone words a b h k =
    let v : h.0 ≡ k.0 = cc (h.4, k.4) in
    let w : h.1 ≡ k.1 = cc (h.4, k.4) in
    let name = at_place IsNameWord one_name h.0 k.0 v h.2 k.2 h.5 k.5 in
    let ordinal = at_place IsNumber one_number_at h.1 k.1 w h.3 k.3 h.6 k.6 in
    cc (h.7, k.7, name, ordinal)
one_line_of this commands.Trim words a b h k =
    let v : h.0 ≡ k.0 = cc (h.6, k.6) in
    let w : h.1 ≡ k.1 = cc (h.6, k.6) in
    let x : h.2 ≡ k.2 = cc (h.6, k.6) in
    let keep = at_place IsNumber one_number_at h.0 k.0 v h.3 k.3 h.7 k.7 in
    let before = at_place IsMoment one_moment h.1 k.1 w h.4 k.4 h.8 k.8 in
    let most = at_place IsNumber one_number_at h.2 k.2 x h.5 k.5 h.9 k.9 in
    cc (h.10, k.10, keep, before, most)
one_line_of this commands.Restart words a b h k = h.1 ∙ sym k.1

-- ---- the whole line

pub each_line_is_one : EachLineIsOne
each_line_is_one this line a b h k =
    let first : command_text h.1.0 ≡ command_text k.1.0 = cc (h.1.2, k.1.2) in
    let rest : h.1.1 ≡ k.1.1 = cc (h.1.2, k.1.2) in
    let command : h.1.0 ≡ k.1.0 = one_command h.1.0 k.1.0 first in
    one_line_of this k.1.0 k.1.1 a b
    (subst (λ (z : List (List ℕ)). IsLineOf this k.1.0 z a) rest (subst (λ (c : Command). IsLineOf this c h.1.1 a) command h.1.3.1)) k.1.3.1
