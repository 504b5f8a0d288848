use Rattle.std.proofs.Common.{◌≡◌, ◌+◌, ◌<◌, ◌≤◌, ◌∷◌, ◌++◌, [], List, ap, sym, subst, refl, rules, ℕ, true, ◌∙◌}
use Rattle.sqlite.specs.declared.types.Value.TheVariants.{Text as Words}
use Rattle.sqlite.specs.Order.{column}
use Rattle.std.specs.List.{All}
use Rattle.std.specs.FinSet as set
use Rattle.std.proofs.lemmas.List.Elements.{All-nil, All-push}
use Rattle.position_core.specs.declared.topic_name.TopicName.{TopicName}
use Rattle.row_reading.specs.Places.{seen}
use Rattle.delivery_machine.specs.State.{DeadLetter}
use Rattle.delivery_machine.specs.WellFormed.{AreDeadLettersOf}
use Rattle.machine_laws.proofs.Letters.{none_dead}
use Rattle.row_forms.specs.Forms.{index_in}
use Rattle.row_reading.specs.Reading.{IsLetterOf, OrdinalsCame}
use Rattle.row_reading.proofs.Letters.{HasLeast, HasNoOthers, HavePlaces, came_more, came_none, dead_at, dead_more, least_below_more, least_more, letters_more, no_least, no_others, no_others_more, places_more}
use Rattle.row_reading.proofs.NextLetters.{next_letter}
use Rattle.row_reading.proofs.dead_rows.put_letters.Goals as goal
use Rattle.row_forms.specs.Forms.{Span}

pub letters-init : goal.letters-init
letters-init c =
    let span : Span = seen c.args.deaths.kept in
    let own : TopicName = c.args.deaths.topic.now in
    let next = c.args.deaths.next_ordinal in
    let none : c.args.letters.now.items ≡ [] = c.requires.empty in
    record {
      rows = λ topic. rw none refl;
      dead = subst (λ ds. AreDeadLettersOf span.log ds) (sym none) (none_dead span.log);
      letters = subst (λ ds. All (IsLetterOf own next) ds) (sym none) (All-nil (IsLetterOf own next));
      least = subst (λ (ds : List DeadLetter). All (λ d. d.ordinal < 0) ds) (sym none) (All-nil _);
      indexes = subst (λ ds. HavePlaces span.log c.args.indexes.now ds) (sym none) (All-nil (λ d. set.contains c.args.indexes.now (index_in span.log d.position) ≡ true));
      least_below = subst (λ ds. HasLeast 0 ds) (sym none) (no_least);
      no_other_places = subst (λ s. HasNoOthers span.log s c.args.letters.now.items) (sym c.requires.no_indexes) (subst (λ ds. HasNoOthers span.log set.empty ds) (sym none) (no_others span.log));
      ordinals = subst (λ ds. OrdinalsCame ds c.args.ordinals.now c.args.ordinals.now) (sym none) (came_none c.args.ordinals.now);
    }

pub letters-preserved : goal.letters-preserved
letters-preserved c =
    let h = c.letters.invariant in
    let own : TopicName = c.args.deaths.topic.now in
    let next = c.args.deaths.next_ordinal in
    let span : Span = seen c.args.deaths.kept in
    let was : List DeadLetter = c.letters.letters.items in
    let d : DeadLetter = c.in-Some-2.letter in
    let place : ℕ = index_in span.log d.position in
    let came = c.in_ok-letter.ensures in
    let shown = rw c.in-Some-2.is at came.shown in
    let there = rw c.in-Some-2.is at came.message in
    let letter : IsLetterOf own next d = rw c.in-Some-2.is at came.letter in
    let above : c.letters.least ≤ d.ordinal = rw c.in-Some-2.is at came.least in
    let new_place = rw c.in-Some-2.is at came.new_index in
    let with_place : c.next_letter.new.indexes ≡ set.insert c.letters.indexes place = rw c.in-Some-2.is at came.index in
    let new_ordinal = rw c.in-Some-2.is at came.new_ordinal in
    let with_ordinal : c.next_letter.new.ordinals ≡ set.insert c.letters.ordinals d.ordinal = rw c.in-Some-2.is at came.ordinal in
    let ordinal : c.letter.inside.ordinal ≡ d.ordinal = ap (λ (x : DeadLetter). x.ordinal) c.letter.view_is in
    let pushed : c.push.new.self.items ≡ was ++ d ∷ [] = c.in_ok-push-in-Some-2.ensures.items in
    let split : c.letters.rest.now ≡ c.in-Some.row.now ∷ c.in-Some.after.now = search rules in
    record {
      rows = λ topic. rw pushed (letters_more c.args.name.now span was d c.args.rows.now c.letters.rest.now c.in-Some.after.now c.in-Some.row.now h.rows split shown topic);
      dead = subst (λ ds. AreDeadLettersOf span.log ds) (sym pushed) (dead_more span.log c.letters.indexes was d place c.letters.least h.dead h.indexes h.least there new_place refl above);
      letters = subst (λ ds. All (IsLetterOf own next) ds) (sym pushed) (All-push (IsLetterOf own next) was d h.letters letter);
      least = subst (λ n. All (λ x. x.ordinal < n + 1) c.push.new.self.items) (sym ordinal) (subst (λ (ds : List DeadLetter). All (λ x. x.ordinal < d.ordinal + 1) ds) (sym pushed) (least_more was d c.letters.least h.least above));
      indexes = subst (λ ds. HavePlaces span.log c.next_letter.new.indexes ds) (sym pushed) (places_more span.log c.letters.indexes c.next_letter.new.indexes was d place h.indexes with_place refl);
      least_below = subst (λ n. HasLeast (n + 1) c.push.new.self.items) (sym ordinal) (subst (λ ds. HasLeast (d.ordinal + 1) ds) (sym pushed) (least_below_more was d));
      no_other_places = subst (λ ds. HasNoOthers span.log c.next_letter.new.indexes ds) (sym pushed) (no_others_more span.log c.letters.indexes c.next_letter.new.indexes was d h.no_other_places with_place);
      ordinals = subst (λ ds. OrdinalsCame ds c.args.ordinals.now c.next_letter.new.ordinals) (sym pushed) (came_more was d c.args.ordinals.now c.letters.ordinals c.next_letter.new.ordinals h.ordinals new_ordinal with_ordinal);
    }

pub returns-then-not-is_text-clause-indexes : goal.returns-then-not-is_text-clause-indexes
returns-then-not-is_text-clause-indexes c =
    let h = c.letters.invariant in
    dead_at (seen c.args.deaths.kept).log c.letters.letters.items c.letters.indexes h.dead h.indexes h.no_other_places

pub returns-clause-indexes : goal.returns-clause-indexes
returns-clause-indexes c =
    let h = c.letters.invariant in
    dead_at (seen c.args.deaths.kept).log c.letters.letters.items c.letters.indexes h.dead h.indexes h.no_other_places

pub returns-in-None-clause-all_read : goal.returns-in-None-clause-all_read
returns-in-None-clause-all_read c =
    λ ds others read whole none.
    let h = c.letters.invariant in
    let split : c.letters.rest.now ≡ c.in-Some.row.now ∷ c.in-Some.after.now = search rules in
    let named : column c.in-Some.row.now 0 ≡ Words c.args.name.now = c.is_text.ensures.shown (search rules) ∙ ap Words c.as_str.ensures.value in
    let n = next_letter c.args.deaths.topic.now c.args.name.now (seen c.args.deaths.kept) c.args.deaths.next_ordinal c.letters.least c.letters.indexes c.args.ordinals.now c.letters.ordinals c.letters.letters.items ds c.args.rows.now c.letters.rest.now
    c.in-Some.after.now others c.in-Some.row.now h.dead h.letters h.least_below h.no_other_places h.ordinals h.rows split named read whole none in
    let come = rw c.in-None.is at c.in_ok-letter.ensures.all_come in
    come n.0 n.1.readable n.1.shown n.1.above n.1.new_place n.1.new_ordinal
