-- The steps of a replay.
use Rattle.std.proofs.Common.{◌≡◌, ℕ, ◌+◌, ◌==◌, List, [], ◌∷◌, ◌++◌, Bool, true, false, length, Option, sym, ap, ◌∙◌, subst, inl, inr, refl, append_assoc, append-nil, length-append, arith}
use Rattle.std.specs.Prelude.{◌&&◌, ◌⊎◌, not}
use Rattle.std.specs.Io.KnownBytes.{Appends}
use Rattle.std.proofs.KnownBytes.{Appends-trans}
use Rattle.std.proofs.lemmas.Grind.{flat_map-append}
use Rattle.std.proofs.lemmas.List.Folds.{list_any-append, list_all-append}
use Rattle.position_core.specs.declared.topic_name.TopicName.{TopicName}
use Rattle.replay_lines.specs.Grammar.{IsBadLine}
use Rattle.topic_restart.specs.Standing.{Standing}
use Rattle.replay_core.specs.Replay.{Answer, answer_text, texts, IsRun, IsAnswered, IsStepOf}
use Rattle.replay_core.specs.Progress.{Progress, Start, Moment, Stopped, Because, LeavesBefore, BeginsWithLine, BeginsTooLong, has_end, joined, moment}
use Rattle.replay_core.specs.declared.engine.Replay.{Replay}
use Rattle.replay_core.specs.declared.stop.Stop.{Stop}
use Rattle.replay_core.specs.declared.stop.Stop.TheVariants.{BadLine, Read, Write, Memory}
use Rattle.replay_core.proofs.LinesLemmas.{AreAnswered-push, joined-push, begins_line-more, begins_long-more}
use Rattle.delivery_machine.proofs.Deciding.{both_false}

-- ---- runs

run_step : (s : Standing) (answers : List Answer) (t : Standing) (answer : Answer) (u : Standing) → IsRun s answers t → IsStepOf t answer u → IsRun s (answers ++ answer ∷ []) u
run_step s [] t answer u run step = (u, subst (λ (x : Standing). IsStepOf x answer u) run step, refl)
run_step s (first ∷ answers) t answer u run step = (run.0, run.1, run_step run.0 answers t answer u run.2 step)

texts-push : (answers : List Answer) (answer : Answer) → texts (answers ++ answer ∷ []) ≡ texts answers ++ answer_text answer
texts-push answers answer = flat_map-append answer_text answers (answer ∷ []) ∙ ap (λ (x : List ℕ). texts answers ++ x) (append-nil (answer_text answer))

both_all : (a b : Bool) → a ≡ true → b ≡ false → (a && (not b && true)) ≡ true
both_all true b p q = ap (λ t. not t && true) q
both_all false b p q = cc

pub no_end : (begun part : List ℕ) → has_end begun ≡ false → has_end part ≡ false → has_end (begun ++ part) ≡ false
no_end begun part p q = list_any-append (λ byte. byte == 10) begun part ∙ both_false _ _ p q

-- ---- progress

-- more of the next line has come
pub Progress-part : (s : Start) (input : List ℕ) (m : Moment) (q : Replay) (part : List ℕ)
    → Progress s input m → has_end part ≡ false → q.begun.items ≡ m.replay.begun.items ++ part → q.name ≡ m.replay.name → q.lines ≡ m.replay.lines → q.output.text.items ≡ m.replay.output.text.items
    → Progress s (input ++ part) (moment q m.written m.topic)
Progress-part s input m q part p e begun name lines text =
    record {
      name = name ∙ p.name;
      whole = p.whole;
      answers = p.answers;
      text = p.text;
      split = ap (λ (x : List ℕ). x ++ part) p.split ∙ append_assoc (joined p.whole) m.replay.begun.items part ∙ ap (λ (x : List ℕ). joined p.whole ++ x) (sym begun);
      apart = p.apart;
      begun = ap has_end begun ∙ no_end m.replay.begun.items part p.begun e;
      all = p.all;
      answered = p.answered;
      run = p.run;
      count = lines ∙ p.count;
      appended = p.appended;
      written = ap (λ (x : List ℕ). p.text ++ x) text ∙ p.written;
    }

-- the next line has its end, and is answered
pub Progress-line : (s : Start) (input : List ℕ) (m : Moment) (q : Replay) (u : Standing) (part : List ℕ) (answer : Answer)
    → Progress s input m → has_end part ≡ false → IsAnswered m.replay.name (m.replay.begun.items ++ part) answer → IsStepOf m.topic answer u
    → q.begun.items ≡ [] → q.name ≡ m.replay.name → q.lines ≡ m.replay.lines + 1 → q.output.text.items ≡ m.replay.output.text.items ++ answer_text answer
    → Progress s (input ++ (part ++ 10 ∷ [])) (moment q m.written u)
Progress-line s input m q u part answer p e stands step begun name lines text =
    let was : List ℕ = m.replay.begun.items in
    let line : List ℕ = was ++ part in
    record {
      name = name ∙ p.name;
      whole = p.whole ++ line ∷ [];
      answers = p.answers ++ answer ∷ [];
      text = p.text;
      split =
          ap (λ (x : List ℕ). x ++ (part ++ 10 ∷ [])) p.split
          ∙ append_assoc (joined p.whole) was (part ++ 10 ∷ [])
          ∙ ap (λ (x : List ℕ). joined p.whole ++ x) (sym (append_assoc was part (10 ∷ [])))
          ∙ sym (joined-push p.whole line)
          ∙ sym (append-nil (joined (p.whole ++ line ∷ [])))
          ∙ ap (λ (x : List ℕ). joined (p.whole ++ line ∷ []) ++ x) (sym begun);
      apart = list_all-append (λ l. not (has_end l)) p.whole (line ∷ []) ∙ both_all _ _ p.apart (no_end was part p.begun e);
      begun = ap has_end begun;
      all = omega (arith, p.all, length-append p.whole (line ∷ []), length-append p.answers (answer ∷ []));
      answered = AreAnswered-push s.name p.whole line p.answers answer p.all p.answered (subst (λ name. IsAnswered name line answer) p.name stands);
      run = run_step s.topic p.answers m.topic answer u p.run step;
      count = omega (arith, lines, p.count, length-append p.answers (answer ∷ []));
      appended = p.appended;
      written =
          ap (λ (x : List ℕ). p.text ++ x) text
          ∙ sym (append_assoc p.text m.replay.output.text.items (answer_text answer))
          ∙ ap (λ (x : List ℕ). x ++ answer_text answer) p.written
          ∙ sym (texts-push p.answers answer);
    }

-- the gathered answers are written
pub Progress-written : (s : Start) (input : List ℕ) (m : Moment) (q : Replay) (after : Option (List ℕ))
    → Progress s input m → Appends m.written after m.replay.output.text.items
    → q.begun.items ≡ m.replay.begun.items → q.name ≡ m.replay.name → q.lines ≡ m.replay.lines → q.output.text.items ≡ []
    → Progress s input (moment q after m.topic)
Progress-written s input m q after p more begun name lines text =
    let gathered : List ℕ = m.replay.output.text.items in
    record {
      name = name ∙ p.name;
      whole = p.whole;
      answers = p.answers;
      text = p.text ++ gathered;
      split = p.split ∙ ap (λ (x : List ℕ). joined p.whole ++ x) (sym begun);
      apart = p.apart;
      begun = ap has_end begun ∙ p.begun;
      all = p.all;
      answered = p.answered;
      run = p.run;
      count = lines ∙ p.count;
      appended = Appends-trans s.written m.written after p.text gathered p.appended more;
      written = ap (λ (x : List ℕ). (p.text ++ gathered) ++ x) text ∙ append-nil (p.text ++ gathered) ∙ p.written;
    }

-- ---- stops before the end of the input

-- between two lines
pub Stopped-at : (s : Start) (input : List ℕ) (m : Moment) (q : Replay) (u : Standing) (part : List ℕ) (stop : Stop)
    → Progress s input m → q.name ≡ m.replay.name → q.output.text.items ≡ m.replay.output.text.items
    → Because m.replay.name m.replay.lines (m.replay.begun.items ++ part) stop → LeavesBefore m.replay.name (m.replay.begun.items ++ part) m.topic stop u
    → Stopped s (input ++ part) (moment q m.written u) stop
Stopped-at s input m q u part stop p name text why leaves =
    let tail : List ℕ = m.replay.begun.items ++ part in
    record {
      name = name ∙ p.name;
      whole = p.whole;
      tail = tail;
      answers = p.answers;
      last = m.topic;
      text = p.text;
      split = ap (λ (x : List ℕ). x ++ part) p.split ∙ append_assoc (joined p.whole) m.replay.begun.items part;
      apart = p.apart;
      all = p.all;
      answered = p.answered;
      run = p.run;
      because = subst (λ (n : ℕ). Because s.name n tail stop) p.count (subst (λ name. Because name m.replay.lines tail stop) p.name why);
      appended = p.appended;
      written = inl (ap (λ (x : List ℕ). p.text ++ x) text ∙ p.written);
      leaves = subst (λ name. LeavesBefore name tail m.topic stop u) p.name leaves;
    }

-- where a front of the gathered answers was written
pub Stopped-writing : (s : Start) (input : List ℕ) (m : Moment) (q : Replay) (after : Option (List ℕ)) (front rest : List ℕ)
    → Progress s input m → q.name ≡ m.replay.name → m.replay.output.text.items ≡ front ++ rest → Appends m.written after front → q.output.text.items ≡ []
    → Stopped s input (moment q after m.topic) Write
Stopped-writing s input m q after front rest p name split more none =
    let text : List ℕ = p.text ++ front in
    let all : text ++ rest ≡ texts p.answers = append_assoc p.text front rest ∙ ap (λ (x : List ℕ). p.text ++ x) (sym split) ∙ p.written in
    record {
      name = name ∙ p.name;
      whole = p.whole;
      tail = m.replay.begun.items;
      answers = p.answers;
      last = m.topic;
      text = text;
      split = p.split;
      apart = p.apart;
      all = p.all;
      answered = p.answered;
      run = p.run;
      because = tt;
      appended = Appends-trans s.written m.written after p.text front p.appended more;
      written = inr (refl, rest, ap (λ (x : List ℕ). (text ++ x) ++ rest) none ∙ ap (λ (x : List ℕ). x ++ rest) (append-nil text) ∙ all);
      leaves = inl refl;
    }

still_because : (this : TopicName) (count : ℕ) (tail more : List ℕ) (stop : Stop) → Because this count tail stop → Because this count (tail ++ more) stop
still_because this count tail more (BadLine n) why =
    (why.0, elim why.1 as (λ w. BeginsWithLine (IsBadLine this) (tail ++ more) ⊎ BeginsTooLong (tail ++ more)) [ inl h ↦ inl (begins_line-more (IsBadLine this) tail more h) | inr h ↦ inr (begins_long-more tail more h) ])
still_because this count tail more Read why = why
still_because this count tail more Write why = why
still_because this count tail more Memory why = why

still_leaves : (this : TopicName) (tail more : List ℕ) (last : Standing) (stop : Stop) (state : Standing) → LeavesBefore this tail last stop state → LeavesBefore this (tail ++ more) last stop state
still_leaves this tail more last stop state (inl same) = inl same
still_leaves this tail more last stop state (inr lost) = inr (lost.0, lost.1, begins_line-more (λ line. IsAnswered this line lost.1) tail more lost.2, lost.3)

-- whatever the input has beside, it changes nothing
pub Stopped-more : (s : Start) (input : List ℕ) (m : Moment) (stop : Stop) (more : List ℕ) → Stopped s input m stop → Stopped s (input ++ more) m stop
Stopped-more s input m stop more h =
    record {
      name = h.name;
      whole = h.whole;
      tail = h.tail ++ more;
      answers = h.answers;
      last = h.last;
      text = h.text;
      split = ap (λ (x : List ℕ). x ++ more) h.split ∙ append_assoc (joined h.whole) h.tail more;
      apart = h.apart;
      all = h.all;
      answered = h.answered;
      run = h.run;
      because = still_because s.name (length h.answers) h.tail more stop h.because;
      appended = h.appended;
      written = h.written;
      leaves = still_leaves s.name h.tail more h.last stop m.topic h.leaves;
    }
