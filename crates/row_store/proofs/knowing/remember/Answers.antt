use Rattle.std.proofs.Common.{arith, rules, length, length-append, List, append_assoc, ◌≡◌, sym, ap, ◌∙◌, Some, ◌++◌, ◌∷◌, [], map}
use Rattle.std.specs.Prelude.{reverse}
use Rattle.std.proofs.lemmas.List.{map-append, reverse-append}
use Rattle.std.proofs.lemmas.List.Elements.{All-pop}
use Rattle.delivery_machine.specs.Places.{KeptTopic}
use Rattle.stored_cell.specs.Noted.{Noted}
use Rattle.row_rounds.specs.declared.saving.Write.{Write}
use Rattle.row_rounds.specs.Rounds.{IsNamed}
use Rattle.row_store.proofs.Lists.{append_end}
use Rattle.row_store.proofs.knowing.remember.Goals as goal

pub loop-write-preserved : goal.loop-write-preserved
loop-write-preserved g c =
    let write = c.in-Some.write in
    let items : c.loop-write.writes.items ≡ c.pop.new.self.items ++ write ∷ [] = search rules in
    let marks : c.loop-write.marks.items ≡ c.pop-in-Some.new.self.items ++ c.in-Some-pop.mark ∷ [] = search rules in
    let pushed : c.push_reserved.new.self.items ≡ c.loop-write.known.items ++ write.snapshot ∷ [] = search rules in
    let more = ap length pushed ∙ length-append c.loop-write.known.items (write.snapshot ∷ []) in
    let less = ap length items ∙ length-append c.pop.new.self.items (write ∷ []) in
    let rest : List KeptTopic = map (λ (w : Write). w.snapshot) c.pop.new.self.items in
    let taken : map (λ (w : Write). w.snapshot) c.loop-write.writes.items ≡ rest ++ write.snapshot ∷ [] = ap (map (λ (w : Write). w.snapshot)) items ∙ map-append (λ (w : Write). w.snapshot) c.pop.new.self.items (write ∷ []) in
    record {
      named = (All-pop IsNamed c.loop-write.writes.items c.pop.new.self.items (Some write) items c.loop-write.invariant.named).0;
      marked = (append_end _ _ _ _ (sym (map-append (λ (n : Noted). n.kept) c.pop-in-Some.new.self.items (c.in-Some-pop.mark ∷ [])) ∙ (sym (ap (map (λ (n : Noted). n.kept)) marks) ∙ (c.loop-write.invariant.marked ∙ taken)))).0;
      room = omega (arith, more, less, c.loop-write.invariant.room, c.push_reserved.ensures.capacity);
      whole = ap (λ l. l ++ reverse rest) pushed ∙ (append_assoc c.loop-write.known.items (write.snapshot ∷ []) (reverse rest) ∙ (ap (λ l. c.loop-write.known.items ++ l) (sym (reverse-append rest (write.snapshot ∷ [])) ∙ sym (ap reverse taken)) ∙ c.loop-write.invariant.whole));
    }

pub new-requires-clause-topic : goal.new-requires-clause-topic
new-requires-clause-topic g c =
    let write = c.in-Some.write in
    let items : c.loop-write.writes.items ≡ c.pop.new.self.items ++ write ∷ [] = search rules in
    (All-pop IsNamed c.loop-write.writes.items c.pop.new.self.items (Some write) items c.loop-write.invariant.named).1
