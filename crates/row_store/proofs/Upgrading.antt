-- A database that became one of a later version has the topics that it had.
use Rattle.std.proofs.Common.{◌≡◌, ◌↔◌, inl, inr, ℕ, pos, List, [], ◌∷◌, sym, subst, ◌∙◌}
use Rattle.std.specs.Prelude.{IsPermutation}
use Rattle.std.proofs.lemmas.List.{nil_from_length}
use Rattle.std.proofs.lemmas.List.Sorted.{IsPermutation-refl, length_permutation}
use Rattle.sqlite.specs.declared.types.Value.TheVariants.{Int}
use Rattle.sqlite.specs.Order.{Row}
use Rattle.sqlite.specs.Tree.{Trees}
use Rattle.sqlite.specs.Effect.{Database}
use Rattle.position_core.specs.TopicName.{topic_text}
use Rattle.delivery_machine.specs.Places.{KeptTopic}
use Rattle.row_forms.specs.Cells.{REDELIVERY, AUTHOR, RETENTION, bodies, of_topic}
use Rattle.row_forms.specs.Standing.{HasIn, Stands}
use Rattle.row_tables.specs.Ready.{BecomesVersion2, BecomesVersion3, IsMarked, IsReady, IsVersion1, IsVersion2}
use Rattle.row_store.specs.Keeping.{StandsInAny, StandsInVersion1, StandsInVersion2, UpgradesKeepTopics}

-- ---- tables

-- the same rows in the table
moved : (tree : ℕ) (topic : List ℕ) (rows : List Row) (a b : Trees) → b tree ≡ a tree → HasIn tree topic rows a → HasIn tree topic rows b
moved tree topic rows a b same has = subst (λ (l : List Row). IsPermutation rows (of_topic topic (bodies tree l))) (sym same) has

none_there : (tree : ℕ) (topic : List ℕ) (rows : List Row) (db : Trees) → db tree ≡ [] → rows ≡ [] → HasIn tree topic rows db
none_there tree topic rows db empty none =
    subst (λ (l : List Row). IsPermutation rows (of_topic topic (bodies tree l))) (sym empty) (subst (λ (l : List Row). IsPermutation l []) (sym none) (IsPermutation-refl []))

none_had : (tree : ℕ) (topic : List ℕ) (rows : List Row) (db : Trees) → db tree ≡ [] → HasIn tree topic rows db → rows ≡ []
none_had tree topic rows db empty has =
    nil_from_length rows (sym (length_permutation rows [] (subst (λ (l : List Row). IsPermutation rows (of_topic topic (bodies tree l))) empty has)))

-- ---- steps

module _ (kept : KeptTopic) (old new : Database) where
  to_version_2 : BecomesVersion2 old new → StandsInVersion1 kept old.trees ↔ StandsInVersion2 kept new.trees
  to_version_2 becomes = (
    λ (rows, are, has). (
      rows,
      are,
      record {
        topics = moved _ (topic_text kept.name) rows.topics old.trees new.trees becomes.topics has.topics;
        entries = moved _ (topic_text kept.name) rows.entries old.trees new.trees becomes.entries has.entries;
        subs = moved _ (topic_text kept.name) rows.subs old.trees new.trees becomes.subs has.subs;
        acks = moved _ (topic_text kept.name) rows.acks old.trees new.trees becomes.acks has.acks;
        deads = moved _ (topic_text kept.name) rows.deads old.trees new.trees becomes.deads has.deads;
        counts = none_there REDELIVERY (topic_text kept.name) rows.counts new.trees becomes.counts has.counts;
        authors = has.authors;
        retentions = has.retentions;
      },
    ),
    λ (rows, are, has). (
      rows,
      are,
      record {
        topics = moved _ (topic_text kept.name) rows.topics new.trees old.trees (sym becomes.topics) has.topics;
        entries = moved _ (topic_text kept.name) rows.entries new.trees old.trees (sym becomes.entries) has.entries;
        subs = moved _ (topic_text kept.name) rows.subs new.trees old.trees (sym becomes.subs) has.subs;
        acks = moved _ (topic_text kept.name) rows.acks new.trees old.trees (sym becomes.acks) has.acks;
        deads = moved _ (topic_text kept.name) rows.deads new.trees old.trees (sym becomes.deads) has.deads;
        counts = none_had REDELIVERY (topic_text kept.name) rows.counts new.trees becomes.counts has.counts;
        authors = has.authors;
        retentions = has.retentions;
      },
    ),
  )

  to_version_3 : BecomesVersion3 old new → StandsInVersion2 kept old.trees ↔ Stands kept new.trees
  to_version_3 becomes = (
    λ (rows, are, has). (
      rows,
      are,
      record {
        topics = moved _ (topic_text kept.name) rows.topics old.trees new.trees becomes.topics has.topics;
        entries = moved _ (topic_text kept.name) rows.entries old.trees new.trees becomes.entries has.entries;
        subs = moved _ (topic_text kept.name) rows.subs old.trees new.trees becomes.subs has.subs;
        acks = moved _ (topic_text kept.name) rows.acks old.trees new.trees becomes.acks has.acks;
        deads = moved _ (topic_text kept.name) rows.deads old.trees new.trees becomes.deads has.deads;
        counts = moved _ (topic_text kept.name) rows.counts old.trees new.trees becomes.counts has.counts;
        authors = none_there AUTHOR (topic_text kept.name) rows.authors new.trees becomes.authors has.authors;
        retentions = none_there RETENTION (topic_text kept.name) rows.retentions new.trees becomes.retentions has.retentions;
      },
    ),
    λ (rows, are, has). (
      rows,
      are,
      record {
        topics = moved _ (topic_text kept.name) rows.topics new.trees old.trees (sym becomes.topics) has.topics;
        entries = moved _ (topic_text kept.name) rows.entries new.trees old.trees (sym becomes.entries) has.entries;
        subs = moved _ (topic_text kept.name) rows.subs new.trees old.trees (sym becomes.subs) has.subs;
        acks = moved _ (topic_text kept.name) rows.acks new.trees old.trees (sym becomes.acks) has.acks;
        deads = moved _ (topic_text kept.name) rows.deads new.trees old.trees (sym becomes.deads) has.deads;
        counts = moved _ (topic_text kept.name) rows.counts new.trees old.trees (sym becomes.counts) has.counts;
        authors = none_had AUTHOR (topic_text kept.name) rows.authors new.trees becomes.authors has.authors;
        retentions = none_had RETENTION (topic_text kept.name) rows.retentions new.trees becomes.retentions has.retentions;
      },
    ),
  )

-- ---- a database is of one version

other_mark : (n m : ℕ) → (n ≡ m → ⊥) → (Int (pos 1) ∷ Int (pos n) ∷ []) ∷ [] ≡ (Int (pos 1) ∷ Int (pos m) ∷ []) ∷ [] → ⊥
other_mark n m apart e = let same : n ≡ m = cc in apart same

one_version : (n m : ℕ) (db : Trees) → (n ≡ m → ⊥) → IsMarked n db → IsMarked m db → ⊥
one_version n m db apart is too = other_mark n m apart (sym is ∙ too)

module _ (kept : KeptTopic) (db : Database) where
  in_version_1 : IsVersion1 db → StandsInAny kept db → StandsInVersion1 kept db.trees
  in_version_1 one (inl stands) = stands.1
  in_version_1 one (inr (inl (two, stands))) = absurd (one_version 1 2 db.trees (λ e. cc) one.version_is two.version_is)
  in_version_1 one (inr (inr (last, stands))) = absurd (one_version 1 3 db.trees (λ e. cc) one.version_is last.version_is)

  in_version_2 : IsVersion2 db → StandsInAny kept db → StandsInVersion2 kept db.trees
  in_version_2 two (inl (one, stands)) = absurd (one_version 1 2 db.trees (λ e. cc) one.version_is two.version_is)
  in_version_2 two (inr (inl stands)) = stands.1
  in_version_2 two (inr (inr (last, stands))) = absurd (one_version 2 3 db.trees (λ e. cc) two.version_is last.version_is)

  in_the_last : IsReady db → StandsInAny kept db → Stands kept db.trees
  in_the_last ready (inl (one, stands)) = absurd (one_version 1 3 db.trees (λ e. cc) one.version_is ready.version_is)
  in_the_last ready (inr (inl (two, stands))) = absurd (one_version 2 3 db.trees (λ e. cc) two.version_is ready.version_is)
  in_the_last ready (inr (inr stands)) = stands.1

-- ---- so all that stood stands

first_step : (kept : KeptTopic) (old new : Database) → BecomesVersion2 old new → StandsInAny kept old ↔ StandsInAny kept new
first_step kept old new becomes =
    let step = to_version_2 kept old new becomes in (
      λ stood. inr (inl (becomes.is, step.0 (in_version_1 kept old becomes.was stood))),
      λ stands. inl (becomes.was, step.1 (in_version_2 kept new becomes.is stands)),
    )

second_step : (kept : KeptTopic) (old new : Database) → BecomesVersion3 old new → StandsInAny kept old ↔ StandsInAny kept new
second_step kept old new becomes =
    let step = to_version_3 kept old new becomes in (
      λ stood. inr (inr (becomes.is, step.0 (in_version_2 kept old becomes.was stood))),
      λ stands. inr (inl (becomes.was, step.1 (in_the_last kept new becomes.is stands))),
    )

pub upgrades_keep : UpgradesKeepTopics
upgrades_keep kept old new (inl becomes) = first_step kept old new becomes
upgrades_keep kept old new (inr (inl becomes)) = second_step kept old new becomes
upgrades_keep kept old new (inr (inr (mid, before, after))) =
    let one = first_step kept old mid before in
    let two = second_step kept mid new after in
    (λ stood. two.0 (one.0 stood), λ stands. one.1 (two.1 stands))
