-- What each call of a replay does to its progress.
use Rattle.std.proofs.Common.{◌≡◌, ℕ, ◌+◌, ◌≤◌, List, [], ◌∷◌, ◌++◌, false, length, Option, inl, inr, refl, sym, ap, ◌∙◌, subst, append_assoc, append-nil, length-append, arith}
use Rattle.std.specs.Prelude.{OnOk, OnErr, IfErr, IsErrAnd, MatchResult}
use Rattle.std.specs.declared.result.Result.{Result}
use Rattle.std.specs.declared.result.Result.TheVariants.{Ok, Err}
use Rattle.std.specs.Io.KnownBytes.{Appends}
use Rattle.position_core.specs.declared.topic_name.TopicName.{TopicName}
use Rattle.replay_lines.specs.Grammar.{IsBadLine}
use Rattle.topic_restart.specs.Standing.{Standing}
use Rattle.replay_core.specs.Replay.{Answer, IsAnswered, answer_text}
use Rattle.replay_core.specs.Answering.{IsAnsweredBy, MayBeLost, StopsAt}
use Rattle.replay_core.specs.Output.{WritesFront}
use Rattle.replay_core.specs.Progress.{Progress, Start, Moment, Stopped, Takes, Because, LeavesBefore, BeginsWithLine, has_end, moment}
use Rattle.replay_core.specs.declared.engine.Replay.{Replay}
use Rattle.replay_core.specs.declared.stop.Stop.{Stop}
use Rattle.replay_core.specs.declared.stop.Stop.TheVariants.{BadLine, Read, Write, Memory}
use Rattle.replay_core.proofs.Steps.{Progress-line, Progress-written, Stopped-at, Stopped-writing, Stopped-more, no_end}

-- a call takes the part, from a progress
abbrev pub TakesFrom : Start → List ℕ → Result (Unit {0}) Stop → Moment → Type 0
TakesFrom s input outcome m = MatchResult outcome (λ done. Progress s input m) (λ stop. Stopped s input m stop)

-- the whole line stands before the rest of the text
whole_line : (P : List ℕ → Type 0) (line text : List ℕ) → text ≡ line ++ 10 ∷ [] → has_end line ≡ false → P line → BeginsWithLine P text
whole_line P line text is e p = (line, [], is, e, p)

because : (this : TopicName) (line text : List ℕ) (count : ℕ) (t : Standing) (stop : Stop) (u : Standing) → text ≡ line ++ 10 ∷ [] → has_end line ≡ false → StopsAt this line (count + 1) t stop u → Because this count text stop
because this line text count t (BadLine n) u is e at = (at.1, inl (whole_line (IsBadLine this) line text is e at.0))
because this line text count t Read u is e at = absurd at
because this line text count t Write u is e at = absurd at
because this line text count t Memory u is e at = tt

lost_before : (this : TopicName) (line text : List ℕ) (t u : Standing) → text ≡ line ++ 10 ∷ [] → has_end line ≡ false → MayBeLost this line t u → LeavesBefore this text t Memory u
lost_before this line text t u is e (inl same) = inl same
lost_before this line text t u is e (inr lost) = inr (refl, lost.0, whole_line (λ l. IsAnswered this l lost.0) line text is e lost.1.0, lost.1.1)

leaves_before : (this : TopicName) (line text : List ℕ) (count : ℕ) (t : Standing) (stop : Stop) (u : Standing) → text ≡ line ++ 10 ∷ [] → has_end line ≡ false → StopsAt this line (count + 1) t stop u → LeavesBefore this text t stop u
leaves_before this line text count t (BadLine n) u is e at = inl at.2
leaves_before this line text count t Read u is e at = absurd at
leaves_before this line text count t Write u is e at = absurd at
leaves_before this line text count t Memory u is e at = lost_before this line text t u is e at

-- the line that has its end was answered, or was not
pub line_taken : (s : Start) (input : List ℕ) (m : Moment) (q : Replay) (u : Standing) (part line : List ℕ) (outcome : Result (Unit {0}) Stop)
    → Progress s input m → has_end part ≡ false → line ≡ m.replay.begun.items ++ part
    → OnOk outcome ((answer : Answer) × IsAnsweredBy m.replay.name line m.topic answer u × (q.output.text.items ≡ m.replay.output.text.items ++ answer_text answer))
    → OnErr outcome (q.output.text.items ≡ m.replay.output.text.items) → IfErr outcome (λ stop. StopsAt m.replay.name line (m.replay.lines + 1) m.topic stop u) → OnOk outcome (q.lines ≡ m.replay.lines + 1)
    → q.begun.items ≡ [] → q.name ≡ m.replay.name
    → TakesFrom s (input ++ (part ++ 10 ∷ [])) outcome (moment q m.written u)
line_taken s input m q u part line (Ok done) p e is answered same why count begun name =
    let by = answered.1 in
    Progress-line s input m q u part answered.0 p e (subst (λ (x : List ℕ). IsAnswered m.replay.name x answered.0) is by.0) by.1 begun name count answered.2
line_taken s input m q u part line (Err stop) p e is answered same why count begun name =
    let text : m.replay.begun.items ++ (part ++ 10 ∷ []) ≡ line ++ 10 ∷ [] = sym (append_assoc m.replay.begun.items part (10 ∷ [])) ∙ ap (λ (x : List ℕ). x ++ 10 ∷ []) (sym is) in
    let none : has_end line ≡ false = ap has_end is ∙ no_end m.replay.begun.items part p.begun e in
    Stopped-at s input m q u (part ++ 10 ∷ []) stop p name same
    (because m.replay.name line _ m.replay.lines m.topic stop u text none why)
    (leaves_before m.replay.name line _ m.replay.lines m.topic stop u text none why)

-- the gathered answers are written, or a front of them
pub answers_written : (s : Start) (input : List ℕ) (m : Moment) (q : Replay) (after : Option (List ℕ)) (outcome : Result (Unit {0}) Stop)
    → Progress s input m → OnOk outcome (Appends m.written after m.replay.output.text.items) → IfErr outcome (λ stop. stop ≡ Write) → OnErr outcome (WritesFront m.written after m.replay.output.text.items)
    → q.begun.items ≡ m.replay.begun.items → q.name ≡ m.replay.name → q.lines ≡ m.replay.lines → q.output.text.items ≡ []
    → TakesFrom s (input ++ []) outcome (moment q after m.topic)
answers_written s input m q after (Ok done) p ok err front begun name lines text =
    subst (λ (x : List ℕ). Progress s x (moment q after m.topic)) (sym (append-nil input)) (Progress-written s input m q after p ok begun name lines text)
answers_written s input m q after (Err stop) p ok err front begun name lines text =
    subst (λ (x : List ℕ). Stopped s x (moment q after m.topic) stop) (sym (append-nil input))
    (subst (Stopped s input (moment q after m.topic)) (sym err) (Stopped-writing s input m q after front.0 front.1 p name front.2 front.3 text))

-- one call after another
pub Takes-then : (part more all : List ℕ) (a b c : Moment) (first outcome : Result (Unit {0}) Stop)
    → Takes part a first b → first ≡ Ok tt → Takes more b outcome c → all ≡ part ++ more → Takes all a outcome c
Takes-then part more all a b c first outcome one ok two is s input p =
    let middle : Progress s (input ++ part) b = subst (λ (o : Result (Unit {0}) Stop). TakesFrom s (input ++ part) o b) ok (one s input p) in
    subst (λ (i : List ℕ). TakesFrom s i outcome c) (append_assoc input part more ∙ ap (λ (z : List ℕ). input ++ z) (sym is)) (two s (input ++ part) middle)

-- a call that fails ends the whole
pub Takes-failed : (part more all : List ℕ) (a b : Moment) (first outcome : Result (Unit {0}) Stop) (stop : Stop)
    → Takes part a first b → first ≡ Err stop → outcome ≡ Err stop → all ≡ part ++ more → Takes all a outcome b
Takes-failed part more all a b first outcome stop one failed same is s input p =
    let ended : Stopped s (input ++ part) b stop = subst (λ (o : Result (Unit {0}) Stop). TakesFrom s (input ++ part) o b) failed (one s input p) in
    let longer : Stopped s (input ++ all) b stop = subst (λ (i : List ℕ). Stopped s i b stop) (append_assoc input part more ∙ ap (λ (z : List ℕ). input ++ z) (sym is)) (Stopped-more s (input ++ part) b stop more ended) in
    subst (λ (o : Result (Unit {0}) Stop). TakesFrom s (input ++ all) o b) (sym same) longer

pub nil_of : (begun : List ℕ) → length begun ≡ 0 → begun ≡ []
nil_of [] e = refl
nil_of (b ∷ begun) e = absurd (omega (arith, e))

-- an error that `?` hands on
pub err_is : (outcome : Result (Unit {0}) Stop) (stop : Stop) → IsErrAnd outcome (λ e. e ≡ stop) → outcome ≡ Err stop
err_is (Ok done) stop h = absurd h
err_is (Err e) stop h = ap (λ (x : Stop). Err x) h

-- the part of a text up to the end of a line, and what is after
pub parts_join : (done part after rest piece : List ℕ) → piece ≡ done ++ rest → rest ≡ part ++ 10 ∷ after → piece ≡ (done ++ (part ++ 10 ∷ [])) ++ after
parts_join done part after rest piece whole split =
    whole
    ∙ ap (λ (x : List ℕ). done ++ x) (split ∙ sym (append_assoc part (10 ∷ []) after))
    ∙ sym (append_assoc done (part ++ 10 ∷ []) after)

-- one more line of the piece
pub lines_more : (done part : List ℕ) (first now new : ℕ) → now ≤ first + length done → new ≤ now + 1 → new ≤ first + length (done ++ (part ++ 10 ∷ []))
lines_more done part first now new before more = omega (arith, length-append done (part ++ 10 ∷ []), length-append part (10 ∷ []))
