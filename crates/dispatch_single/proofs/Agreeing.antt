-- The tables agree with the topic where another table tells what waits, and where the line changed.
use Rattle.std.proofs.Common.{◌≡◌, ℕ, ◌+◌, ◌<◌, ◌≤◌, List, [], ◌∷◌, ◌++◌, map, Option, None, sym, ap, subst, ◌∙◌, length, arith}
use Rattle.std.proofs.lemmas.List.{length-append}
use Rattle.position_core.specs.Kind.{is_in_order}
use Rattle.delivery_machine.specs.State.{State, Subscription}
use Rattle.delivery_machine.specs.Words.{members_of}
use Rattle.dispatch_core.specs.Log.{line_of}
use Rattle.dispatch_core.specs.Changes.{Joined}
use Rattle.dispatch_core.specs.Waiting.{Waiting, Tells}
use Rattle.dispatch_core.proofs.Telling.{tells-line}
use Rattle.dispatch_single.specs.InOrder.{Serving, Agrees, IsActive, IsActiveIn, NumbersDiffer, TellsLine, without}
use Rattle.dispatch_single.specs.declared.active.Active.{Active}
use Rattle.dispatch_single.specs.declared.line.Line.{Line}
use Rattle.dispatch_single.proofs.Joining.{active-append, differ-joined}
use Rattle.dispatch_single.proofs.Leaving.{differ-without, length-without}

pub agrees-with : (d : Serving) (s : State) (sub : Subscription) → Agrees d s sub → (t : State) (new : Subscription) (w : Waiting) → new.kind ≡ sub.kind → line_of t new ≡ line_of s sub → Tells w t new → Agrees (record { waiting = w; line = d.line }) t new
agrees-with d s sub agreed t new w kind line tells = record {
  kind = ap is_in_order kind ∙ agreed.kind;
  waiting = tells;
  line = subst (TellsLine d.line) (sym line) agreed.line;
}

-- the line changed, and what is kept of it with it
pub agrees-joined : (d : Serving) (s : State) (sub : Subscription) → Agrees d s sub → (consumer : ℕ) (t : State) (new : Subscription) → Joined None consumer s sub t new → (line : Line) → ((l : List (ℕ × ℕ)) (m : ℕ × ℕ) → line_of t new ≡ l ++ m ∷ [] → NumbersDiffer (l ++ m ∷ []) → length l < 64 → TellsLine d.line l → TellsLine line (l ++ m ∷ [])) → Agrees (record { waiting = d.waiting; line = line }) t new
agrees-joined d s sub agreed consumer t new change line joins = record {
  kind = ap is_in_order change.stays.log.kind ∙ agreed.kind;
  waiting = tells-line d.waiting s sub t new agreed.waiting change.stays;
  line =
      subst (TellsLine line) (sym change.line)
      (joins (line_of s sub) (consumer, change.level) change.line
      (differ-joined (line_of s sub) consumer change.level agreed.line.differ change.absent) change.few agreed.line);
}

-- ---- what is kept of the line

module _ (kept : Line) (line now : List (ℕ × ℕ)) (was : TellsLine kept line) (active : Option Active) (many : ℕ) where
  -- the one who joined was compared with the one who was active
  pub tells-joined : (member : ℕ × ℕ) → now ≡ line ++ member ∷ [] → NumbersDiffer (line ++ member ∷ []) → (kept.many < length now → IsActiveIn now kept.many kept.active → IsActiveIn now (kept.many + 1) active) → many ≡ kept.many + 1 → TellsLine (record { many = many; active = active }) (line ++ member ∷ [])
  tells-joined member is differ compared more =
      let joined = line ++ member ∷ [] in
      let long : length joined ≡ kept.many + 1 = omega (arith, length-append line (member ∷ []), was.many) in
      let before : IsActiveIn joined kept.many kept.active =
      subst (λ (n : ℕ). IsActiveIn joined n kept.active) (sym was.many) (active-append line (member ∷ []) (length line) kept.active (omega arith) was.active) in
      record {
        many = more ∙ sym long;
        differ = differ;
        active =
            subst (λ (n : ℕ). IsActiveIn joined n active) (sym long)
            (subst (λ (l : List (ℕ × ℕ)). IsActiveIn l (kept.many + 1) active) is
            (compared (omega (arith, ap length is, long)) (subst (λ (l : List (ℕ × ℕ)). IsActiveIn l kept.many kept.active) (sym is) before)));
      }

  pub tells-left : (left : ℕ) → now ≡ without left line → IsActive (without left line) active → (length now ≤ kept.many → kept.many ≤ length now + 1 → many ≡ length now) → TellsLine (record { many = many; active = active }) (without left line)
  tells-left left is still counted =
      let fewer = length-without left line was.differ in
      record {
        many = counted (omega (arith, ap length is, fewer.0, was.many)) (omega (arith, ap length is, fewer.1, was.many)) ∙ ap length is;
        differ = differ-without left line was.differ;
        active = still;
      }

pub nobody_in_line : (s : State) (sub : Subscription) → members_of s sub.name ≡ [] → line_of s sub ≡ []
unfolding line_of
nobody_in_line s sub nobody = ap (map (λ m. (m.number, m.level))) nobody
