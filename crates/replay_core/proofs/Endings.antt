-- How a replay ends.
use Rattle.std.proofs.Common.{◌≡◌, ℕ, ◌+◌, ◌≤◌, List, [], ◌∷◌, ◌++◌, true, false, length, drop, Option, Some, None, refl, sym, ap, ◌∙◌, subst, append_assoc, append-nil, arith, ◌⊎◌, inl, inr}
use Rattle.std.specs.declared.result.Result.{Result}
use Rattle.std.specs.declared.result.Result.TheVariants.{Ok, Err}
use Rattle.std.specs.Io.KnownBytes.{Appends, Consumes, IsAtEnd}
use Rattle.std.proofs.KnownBytes.{Appends-trans, Appends-nil, Consumes-nil}
use Rattle.position_core.specs.declared.topic_name.TopicName.{TopicName}
use Rattle.replay_lines.specs.Grammar.{IsBadLine}
use Rattle.replay_core.specs.Lines.{lines_of, ends_in}
use Rattle.topic_restart.specs.Standing.{Standing}
use Rattle.replay_core.specs.Replay.{Answer, AreAnswered, IsAnswered, BeginsWith, IsTooLong, HaveEnded, IsNext, IsBadNext, IsLost, IsWritten, IsReplay, Ends, Sides, sides, lines_after, texts, bad_line_text, last_words}
use Rattle.replay_core.specs.Output.{WritesFront}
use Rattle.replay_core.specs.Outcomes.{bad_line_in, failed_writing}
use Rattle.replay_core.specs.Progress.{Progress, Start, Moment, Stopped, Because, LeavesBefore, Ended, AreApart, BeginsWithLine, has_end, joined, moment, with_gathered}
use Rattle.replay_core.specs.declared.engine.Replay.{Replay}
use Rattle.replay_core.specs.declared.stop.Stop.{Stop}
use Rattle.replay_core.specs.declared.stop.Stop.TheVariants.{BadLine, Read, Write, Memory}
use Rattle.replay_core.proofs.Taking.{TakesFrom}
use Rattle.replay_core.proofs.LinesLemmas.{ends_in-joined, ends_in-none, ends_in-begins, begins_line, begins_long, lines_of-joined, lines_of-line, lines_of-last, lines_left, AreAnswered-append}

lines_here : (whole : List (List ℕ)) (tail input : List ℕ) → input ≡ joined whole ++ tail → AreApart whole → lines_of input ≡ whole ++ lines_of tail
lines_here whole tail input split apart = ap lines_of split ∙ lines_of-joined whole tail apart

-- the first lines are answered
answered_here : (this : TopicName) (whole : List (List ℕ)) (tail input : List ℕ) (answers : List Answer) → lines_of input ≡ whole ++ lines_of tail → AreAnswered this whole answers → AreAnswered this (lines_of input) answers
answered_here this whole tail input answers lines h = subst (λ (ls : List (List ℕ)). AreAnswered this ls answers) (sym lines) (AreAnswered-append this whole (lines_of tail) answers h)

-- the lines after the answered ones are those of the tail
after_here : (whole : List (List ℕ)) (tail input : List ℕ) (answers : List Answer) → lines_of input ≡ whole ++ lines_of tail → length whole ≡ length answers → lines_after input answers ≡ lines_of tail
after_here whole tail input answers lines all = ap (drop (length answers)) lines ∙ lines_left whole (lines_of tail) (length answers) all

-- as many lines have ended as the other input has ends
abbrev pub EndsIn : List ℕ → Option (List ℕ) → List ℕ → Type 0
EndsIn input left other = (count : ℕ) → count ≤ ends_in other → HaveEnded input left count

next_here : (P : List ℕ → Type 0) (input : List ℕ) (left : Option (List ℕ)) (tail other : List ℕ) (answers : List Answer) → lines_after input answers ≡ lines_of tail → EndsIn input left other → length answers + ends_in tail ≤ ends_in other → BeginsWithLine P tail → IsNext input left answers P
next_here P input left tail other answers lines ended most h =
    (ended (length answers + 1) (omega (arith, most, ends_in-begins P tail h)), subst (BeginsWith P) (sym lines) (begins_line P tail h))

ends_because : (this : TopicName) (input : List ℕ) (left : Option (List ℕ)) (tail other : List ℕ) (answers : List Answer) (stop : Stop) → lines_after input answers ≡ lines_of tail → EndsIn input left other → length answers + ends_in tail ≤ ends_in other → Because this (length answers) tail stop → Ends this input left answers (Err stop)
ends_because this input left tail other answers (BadLine n) lines ended most why =
    (why.0, elim why.1 as (λ w. IsBadNext this input left answers) [ inl h ↦ inl (next_here (IsBadLine this) input left tail other answers lines ended most h) | inr h ↦ inr (subst (BeginsWith IsTooLong) (sym lines) (begins_long tail h)) ])
ends_because this input left tail other answers Read lines ended most why = absurd why
ends_because this input left tail other answers Write lines ended most why = tt
ends_because this input left tail other answers Memory lines ended most why = tt

-- the state that was left
abbrev pub LeavesAfter : TopicName → List ℕ → Option (List ℕ) → List Answer → Standing → Result (Unit {0}) Stop → Standing → Type 0
LeavesAfter this input left answers last outcome state = (state ≡ last) ⊎ ((outcome ≡ Err Memory) × IsLost this input left answers last state)

leaves_here : (this : TopicName) (input : List ℕ) (left : Option (List ℕ)) (tail other : List ℕ) (answers : List Answer) (last : Standing) (stop : Stop) (state : Standing) → lines_after input answers ≡ lines_of tail → EndsIn input left other → length answers + ends_in tail ≤ ends_in other → LeavesBefore this tail last stop state → LeavesAfter this input left answers last (Err stop) state
leaves_here this input left tail other answers last stop state lines ended most (inl same) = inl same
leaves_here this input left tail other answers last stop state lines ended most (inr lost) =
    inr (ap (λ (x : Stop). Err x) lost.0, (lost.1, next_here (λ line. IsAnswered this line lost.1) input left tail other answers lines ended most lost.2, lost.3))

with_words : (text : List ℕ) (answers : List Answer) (outcome : Result (Unit {0}) Stop) → IsWritten (texts answers) outcome text → IsWritten (texts answers ++ []) outcome text
with_words text answers outcome h = subst (λ (x : List ℕ). IsWritten x outcome text) (sym (append-nil (texts answers))) h

-- a replay that stopped has ended, also where the other input has the same lines
pub Ended-stopped : (s : Start) (input other : List ℕ) (left : Option (List ℕ)) (m : Moment) (stop : Stop) → Stopped s other m stop → lines_of input ≡ lines_of other → EndsIn input left other → Ended s input left m (Err stop) []
Ended-stopped s input other left m stop h same ended =
    let lines = same ∙ lines_here h.whole h.tail other h.split h.apart in
    let after = after_here h.whole h.tail input h.answers lines h.all in
    let ends : ends_in other ≡ length h.whole + ends_in h.tail = ap ends_in h.split ∙ ends_in-joined h.whole h.tail h.apart in
    let most : length h.answers + ends_in h.tail ≤ ends_in other = omega (arith, ends, h.all) in
    record {
      name = h.name;
      answers = h.answers;
      last = h.last;
      text = h.text;
      answered = answered_here s.name h.whole h.tail input h.answers lines h.answered;
      ended = ended (length h.answers) (omega (arith, most));
      run = h.run;
      ends = ends_because s.name input left h.tail other h.answers stop after ended most h.because;
      appended = h.appended;
      written = with_words (with_gathered h.text m) h.answers (Err stop) h.written;
      leaves = leaves_here s.name input left h.tail other h.answers h.last stop m.topic after ended most h.leaves;
    }

-- at the end of the input, where no line is begun
pub Ended-whole : (s : Start) (input other : List ℕ) (left : Option (List ℕ)) (m : Moment) → IsAtEnd left → Progress s other m → lines_of input ≡ lines_of other → m.replay.begun.items ≡ [] → Ended s input left m (Ok tt) []
Ended-whole s input other left m at_end p same none =
    let lines : lines_of input ≡ p.whole ++ [] = same ∙ lines_here p.whole m.replay.begun.items other p.split p.apart ∙ ap (λ (x : List ℕ). p.whole ++ lines_of x) none in
    record {
      name = p.name;
      answers = p.answers;
      last = m.topic;
      text = p.text;
      answered = answered_here s.name p.whole [] input p.answers lines p.answered;
      ended = inr at_end;
      run = p.run;
      ends = (omega (arith, p.all, ap length (lines ∙ append-nil p.whole)), at_end);
      appended = p.appended;
      written = with_words (with_gathered p.text m) p.answers (Ok tt) (inl p.written);
      leaves = inl refl;
    }

-- at a fault of the reader, wherever it is
pub Ended-fault : (s : Start) (input : List ℕ) (left : Option (List ℕ)) (m : Moment) → Progress s input m → Ended s input left m (Err Read) []
Ended-fault s input left m p =
    let lines = lines_here p.whole m.replay.begun.items input p.split p.apart in
    let ends : ends_in input ≡ length p.whole + ends_in m.replay.begun.items = ap ends_in p.split ∙ ends_in-joined p.whole m.replay.begun.items p.apart in
    let count : length p.answers ≡ ends_in input = omega (arith, p.all, ends, ends_in-none m.replay.begun.items p.begun) in
    record {
      name = p.name;
      answers = p.answers;
      last = m.topic;
      text = p.text;
      answered = answered_here s.name p.whole m.replay.begun.items input p.answers lines p.answered;
      ended = inl (omega (arith, count));
      run = p.run;
      ends = count;
      appended = p.appended;
      written = with_words (with_gathered p.text m) p.answers (Err Read) (inl p.written);
      leaves = inl refl;
    }

-- the lines of an input are the same with the end of the last
same_lines : (whole : List (List ℕ)) (b : ℕ) (begun : List ℕ) → AreApart whole → has_end (b ∷ begun) ≡ false → lines_of (joined whole ++ (b ∷ begun ++ 10 ∷ [])) ≡ lines_of (joined whole ++ b ∷ begun)
same_lines whole b begun apart e =
    lines_of-joined whole (b ∷ begun ++ 10 ∷ []) apart
    ∙ ap (λ (ls : List (List ℕ)). whole ++ ls) (lines_of-line (b ∷ begun) [] e ∙ sym (lines_of-last b begun e))
    ∙ sym (lines_of-joined whole (b ∷ begun) apart)

line_end_alike : (s : Start) (input begun : List ℕ) (m : Moment) → (p : Progress s input m) → begun ≡ m.replay.begun.items → (length begun ≡ 0 → ⊥) → lines_of input ≡ lines_of (input ++ 10 ∷ [])
line_end_alike s input [] m p is some = absurd (some refl)
line_end_alike s input (b ∷ begun) m p is some =
    let split : input ≡ joined p.whole ++ b ∷ begun = p.split ∙ ap (λ (x : List ℕ). joined p.whole ++ x) (sym is) in
    sym (
    ap (λ (x : List ℕ). lines_of (x ++ 10 ∷ [])) split
    ∙ ap lines_of (append_assoc (joined p.whole) (b ∷ begun) (10 ∷ []))
    ∙ same_lines p.whole b begun p.apart (ap has_end is ∙ p.begun)
    ∙ ap lines_of (sym split)
    )

-- the last line is answered though it lacks its end
pub Ended-last : (s : Start) (input : List ℕ) (left : Option (List ℕ)) (m n : Moment) (outcome : Result (Unit {0}) Stop)
    → IsAtEnd left → Progress s input m → (length m.replay.begun.items ≡ 0 → ⊥) → n.replay.begun.items ≡ [] → TakesFrom s (input ++ 10 ∷ []) outcome n
    → Ended s input left n outcome []
Ended-last s input left m n (Ok done) at_end p some none h =
    Ended-whole s input (input ++ 10 ∷ []) left n at_end h (line_end_alike s input m.replay.begun.items m p refl some) none
Ended-last s input left m n (Err stop) at_end p some none h =
    Ended-stopped s input (input ++ 10 ∷ []) left n stop h (line_end_alike s input m.replay.begun.items m p refl some) (λ count most. inr at_end)

-- ---- by how it ended

pub no_bad_line : (outcome : Result (Unit {0}) Stop) → None ≡ bad_line_in outcome → (n : ℕ) → outcome ≡ Err (BadLine n) → ⊥
no_bad_line (Ok done) none n e = cc
no_bad_line (Err (BadLine m)) none n e = cc
no_bad_line (Err Read) none n e = cc
no_bad_line (Err Write) none n e = cc
no_bad_line (Err Memory) none n e = cc

pub its_bad_line : (outcome : Result (Unit {0}) Stop) (n : ℕ) → Some n ≡ bad_line_in outcome → outcome ≡ Err (BadLine n)
its_bad_line (Ok done) n some = cc
its_bad_line (Err (BadLine m)) n some = cc
its_bad_line (Err Read) n some = cc
its_bad_line (Err Write) n some = cc
its_bad_line (Err Memory) n some = cc

pub not_writing : (outcome : Result (Unit {0}) Stop) → failed_writing outcome ≡ false → outcome ≡ Err Write → ⊥
not_writing (Ok done) e w = cc
not_writing (Err (BadLine m)) e w = cc
not_writing (Err Read) e w = cc
not_writing (Err Write) e w = cc
not_writing (Err Memory) e w = cc

pub is_writing : (outcome : Result (Unit {0}) Stop) → failed_writing outcome ≡ true → outcome ≡ Err Write
is_writing (Ok done) e = cc
is_writing (Err (BadLine m)) e = cc
is_writing (Err Read) e = cc
is_writing (Err Write) e = refl
is_writing (Err Memory) e = cc

-- ---- the last words

-- the text was written but for its end, which is gathered now
more_written : (answers : List Answer) (text gathered words : List ℕ) (n : ℕ) → IsWritten (texts answers ++ []) (Err (BadLine n)) (text ++ gathered) → text ++ (gathered ++ words) ≡ texts answers ++ words
more_written answers text gathered words n (inl all) =
    sym (append_assoc text gathered words) ∙ ap (λ (x : List ℕ). x ++ words) (all ∙ append-nil (texts answers))
more_written answers text gathered words n (inr failed) = cc

still_there : (this : TopicName) (input : List ℕ) (left : Option (List ℕ)) (answers : List Answer) (last : Standing) (n : ℕ) (state : Standing) → LeavesAfter this input left answers last (Err (BadLine n)) state → state ≡ last
still_there this input left answers last n state (inl same) = same
still_there this input left answers last n state (inr lost) = cc

-- the text of the bad line is gathered
pub Ended-bad : (s : Start) (input : List ℕ) (left : Option (List ℕ)) (m : Moment) (q : Replay) (n : ℕ)
    → Ended s input left m (Err (BadLine n)) [] → q.name ≡ m.replay.name → q.output.text.items ≡ m.replay.output.text.items ++ bad_line_text n
    → Ended s input left (moment q m.written m.topic) (Err (BadLine n)) (bad_line_text n)
Ended-bad s input left m q n h name text =
    record {
      name = name ∙ h.name;
      answers = h.answers;
      last = h.last;
      text = h.text;
      answered = h.answered;
      ended = h.ended;
      run = h.run;
      ends = h.ends;
      appended = h.appended;
      written = inl (ap (λ (x : List ℕ). h.text ++ x) text ∙ more_written h.answers h.text m.replay.output.text.items (bad_line_text n) n h.written);
      leaves = inl (still_there s.name input left h.answers h.last n m.topic h.leaves);
    }

-- there is no memory for it
pub Ended-lost : (s : Start) (input : List ℕ) (left : Option (List ℕ)) (m : Moment) (q : Replay) (n : ℕ)
    → Ended s input left m (Err (BadLine n)) [] → q.name ≡ m.replay.name → q.output.text.items ≡ m.replay.output.text.items
    → Ended s input left (moment q m.written m.topic) (Err Memory) []
Ended-lost s input left m q n h name text =
    record {
      name = name ∙ h.name;
      answers = h.answers;
      last = h.last;
      text = h.text;
      answered = h.answered;
      ended = h.ended;
      run = h.run;
      ends = tt;
      appended = h.appended;
      written = inl (ap (λ (x : List ℕ). h.text ++ x) (text ∙ sym (append-nil m.replay.output.text.items)) ∙ more_written h.answers h.text m.replay.output.text.items [] n h.written);
      leaves = inl (still_there s.name input left h.answers h.last n m.topic h.leaves);
    }

no_words : (outcome : Result (Unit {0}) Stop) → ((n : ℕ) → outcome ≡ Err (BadLine n) → ⊥) → last_words outcome ≡ []
no_words (Ok done) other = refl
no_words (Err (BadLine n)) other = absurd (other n refl)
no_words (Err Read) other = refl
no_words (Err Write) other = refl
no_words (Err Memory) other = refl

-- nothing is to be said of a line
pub Ended-silent : (s : Start) (input : List ℕ) (left : Option (List ℕ)) (m : Moment) (outcome : Result (Unit {0}) Stop) → ((n : ℕ) → outcome ≡ Err (BadLine n) → ⊥) → Ended s input left m outcome [] → Ended s input left m outcome (last_words outcome)
Ended-silent s input left m outcome other h = subst (Ended s input left m outcome) (sym (no_words outcome other)) h

-- ---- the whole replay

all_written : (text gathered whole : List ℕ) (outcome : Result (Unit {0}) Stop) → (outcome ≡ Err Write → ⊥) → IsWritten whole outcome (text ++ gathered) → text ++ gathered ≡ whole
all_written text gathered whole outcome other (inl all) = all
all_written text gathered whole outcome other (inr failed) = absurd (other failed.0)

-- all that was gathered was written too
pub Replayed-all : (s : Start) (input : List ℕ) (before left : Option (List ℕ)) (m : Moment) (after : Option (List ℕ)) (outcome : Result (Unit {0}) Stop)
    → Consumes before left input → Ended s input left m outcome (last_words outcome) → (outcome ≡ Err Write → ⊥) → Appends m.written after m.replay.output.text.items
    → IsReplay s.name (sides before s.written s.topic) outcome (sides left after m.topic)
Replayed-all s input before left m after outcome consumed h other more =
    let gathered : List ℕ = m.replay.output.text.items in
    record {
      read = input;
      consumed = consumed;
      answers = h.answers;
      answered = h.answered;
      ended = h.ended;
      last = h.last;
      run = h.run;
      cause = outcome;
      same = inl refl;
      ends = h.ends;
      written = h.text ++ gathered;
      appended = Appends-trans s.written m.written after h.text gathered h.appended more;
      text = inl (all_written h.text gathered (texts h.answers ++ last_words outcome) outcome other h.written);
      leaves = h.leaves;
    }

-- a front of it
pub Replayed-front : (s : Start) (input : List ℕ) (before left : Option (List ℕ)) (m : Moment) (after : Option (List ℕ)) (outcome : Result (Unit {0}) Stop)
    → Consumes before left input → Ended s input left m outcome (last_words outcome) → (outcome ≡ Err Write → ⊥) → WritesFront m.written after m.replay.output.text.items
    → IsReplay s.name (sides before s.written s.topic) (Err Write) (sides left after m.topic)
Replayed-front s input before left m after outcome consumed h other front =
    let gathered : List ℕ = m.replay.output.text.items in
    let split : (h.text ++ front.0) ++ front.1 ≡ h.text ++ gathered = append_assoc h.text front.0 front.1 ∙ ap (λ (x : List ℕ). h.text ++ x) (sym front.2) in
    record {
      read = input;
      consumed = consumed;
      answers = h.answers;
      answered = h.answered;
      ended = h.ended;
      last = h.last;
      run = h.run;
      cause = outcome;
      same = inr refl;
      ends = h.ends;
      written = h.text ++ front.0;
      appended = Appends-trans s.written m.written after h.text front.0 h.appended front.3;
      text = inr (refl, front.1, split ∙ all_written h.text gathered (texts h.answers ++ last_words outcome) outcome other h.written);
      leaves = h.leaves;
    }

front_only : (text gathered whole : List ℕ) → IsWritten whole (Err Write) (text ++ gathered) → IsWritten whole (Err Write) text
front_only text gathered whole (inl all) = inr (refl, gathered, all)
front_only text gathered whole (inr failed) = inr (refl, gathered ++ failed.1, sym (append_assoc text gathered failed.1) ∙ failed.2)

-- nothing, where writing had failed
pub Replayed-before : (s : Start) (input : List ℕ) (before left : Option (List ℕ)) (m : Moment) (outcome : Result (Unit {0}) Stop)
    → Consumes before left input → outcome ≡ Err Write → Ended s input left m outcome (last_words outcome)
    → IsReplay s.name (sides before s.written s.topic) outcome (sides left m.written m.topic)
Replayed-before s input before left m outcome consumed is ended =
    let h : Ended s input left m (Err Write) [] = subst (λ (o : Result (Unit {0}) Stop). Ended s input left m o (last_words o)) is ended in
    subst (λ (o : Result (Unit {0}) Stop). IsReplay s.name (sides before s.written s.topic) o (sides left m.written m.topic)) (sym is) (record {
      read = input;
      consumed = consumed;
      answers = h.answers;
      answered = h.answered;
      ended = h.ended;
      last = h.last;
      run = h.run;
      cause = Err Write;
      same = inl refl;
      ends = h.ends;
      written = h.text;
      appended = h.appended;
      text = front_only h.text m.replay.output.text.items (texts h.answers ++ []) h.written;
      leaves = h.leaves;
    })

-- a replay that had no memory to begin
pub no_replay : (this : TopicName) (old : Sides) → IsReplay this old (Err Memory) old
no_replay this old =
    record {
      read = [];
      consumed = Consumes-nil old.left;
      answers = [];
      answered = tt;
      ended = inl (omega arith);
      last = old.topic;
      run = refl;
      cause = Err Memory;
      same = inl refl;
      ends = tt;
      written = [];
      appended = Appends-nil old.written;
      text = inl refl;
      leaves = inl refl;
    }

pub Replayed-as : (this : TopicName) (old new : Sides) (outcome other : Result (Unit {0}) Stop) → other ≡ outcome → IsReplay this old outcome new → IsReplay this old other new
Replayed-as this old new outcome other is h = subst (λ (o : Result (Unit {0}) Stop). IsReplay this old o new) (sym is) h

abbrev the_name : List ℕ → List ℕ → List ℕ → TopicName
the_name tenant namespace topic = record { tenant = tenant; namespace = namespace; topic = topic }

-- names of the same parts are one
pub same_parts : (a b : TopicName) → (a.tenant ≡ b.tenant) × (a.namespace ≡ b.namespace) × (a.topic ≡ b.topic) → a ≡ b
same_parts a b same =
    ap (λ (x : List ℕ). the_name x a.namespace a.topic) same.0
    ∙ ap (λ (x : List ℕ). the_name b.tenant x a.topic) same.1
    ∙ ap (λ (x : List ℕ). the_name b.tenant b.namespace x) same.2

-- ---- the loop over the reads

pub Progress-same : (s : Start) (input : List ℕ) (m : Moment) → Progress s (input ++ []) m → Progress s input m
Progress-same s input m p = subst (λ (x : List ℕ). Progress s x m) (append-nil input) p

pub Stopped-same : (s : Start) (input : List ℕ) (m : Moment) (stop : Stop) → Stopped s (input ++ []) m stop → Stopped s input m stop
Stopped-same s input m stop h = subst (λ (x : List ℕ). Stopped s x m stop) (append-nil input) h

pub Ended-failed : (s : Start) (input : List ℕ) (left : Option (List ℕ)) (m : Moment) (outcome : Result (Unit {0}) Stop) (stop : Stop) → Stopped s input m stop → outcome ≡ Err stop → Ended s input left m outcome []
Ended-failed s input left m outcome stop h is = subst (λ (o : Result (Unit {0}) Stop). Ended s input left m o []) (sym is) (Ended-stopped s input input left m stop h refl (λ count most. inl most))

-- before the first read
pub Progress-first : (t : Standing) (w : Option (List ℕ)) (r : Replay) → r.lines ≡ 0 → r.begun.items ≡ [] → r.output.text.items ≡ [] → Progress (record { name = r.name; written = w; topic = t }) [] (moment r w t)
Progress-first t w r lines begun text =
    record {
      name = refl;
      whole = [];
      answers = [];
      text = [];
      split = sym begun;
      apart = refl;
      begun = ap has_end begun;
      all = refl;
      answered = tt;
      run = refl;
      count = lines;
      appended = Appends-nil w;
      written = text;
    }
