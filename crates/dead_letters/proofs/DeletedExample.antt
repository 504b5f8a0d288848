-- Two topics that are deleted and made again: a message dies and is moved, its producer and its consumer leave, and both topics are
-- deleted; then another message dies, and is moved.
use Rattle.std.proofs.Common.{◌≡◌, List, [], ◌∷◌, ◌++◌, pos, refl, arith}
use Rattle.std.specs.Prelude.{◌^◌, ◌≤◌}
use Rattle.std.proofs.lemmas.List.Elements.{All-nil, All-cons}
use Rattle.position_core.specs.declared.body.Content.{Content}
use Rattle.delivery_machine.specs.State.{State, Author, Subscription}
use Rattle.delivery_machine.specs.Joining.{without_member}
use Rattle.delivery_machine.specs.declared.event.Event.TheVariants.{DropProducer, Leave}
use Rattle.delivery_machine.specs.declared.reply.Reply.TheVariants.{Done}
use Rattle.topic_lives.specs.Deleting.{IsDeletable}
use Rattle.dead_letters.specs.Worlds.{World, Act, at_source, delete_source, delete_target, AllHappen, opened, begun_again}
use Rattle.dead_letters.specs.Laws.{MayGoOn}
use Rattle.dead_letters.proofs.DyingExample.{a, b, name, way, letter, copy, s10, t4}
use Rattle.dead_letters.proofs.Example.{acts_of, all_happen, last_world, deaths, moves, ends, goes_on, goes_round}

-- who moved the first copy is remembered
abbrev authors : List Author
authors = record { name = way.name; sequence = pos 0; index = 0 } ∷ []

module _ (body : Content) where
  abbrev s11 : State
  s11 = record (s10 body 0) { producers = [] }

  abbrev s12 : State
  s12 = without_member s11 1 name

  abbrev in_source : State → World
  in_source s = record (last_world body) { source = record { state = s; past = [] } }

  abbrev left : World
  left = in_source s12

  abbrev leaving : List Act
  leaving = at_source (DropProducer 1) Done ∷ at_source (Leave 1) Done ∷ []

  all_leave : AllHappen way b (last_world body) leaving left
  all_leave = (in_source s11, (refl, refl, (s11, (refl, (refl, refl)), refl)), (left, (refl, refl, (s12, (refl, (refl, refl)), refl)), refl))

  one_had : 1 ≤ 2 ^ 62
  one_had = omega arith

  source_deletable : IsDeletable s12
  source_deletable = record { deserted = (refl, refl); letters = All-cons (λ (sub : Subscription). sub.dead ≡ []) _ [] refl (All-nil (λ (sub : Subscription). sub.dead ≡ [])); count = one_had }

  target_deletable : IsDeletable (t4 body 0 [])
  target_deletable = record { deserted = (refl, refl); letters = All-nil (λ (sub : Subscription). sub.dead ≡ []); count = one_had }

  abbrev without_source : World
  without_source = record left {
    source = begun_again left.source;
    source_viewed = begun_again left.source;
    source_stored = begun_again left.source;
    moved_viewed = left.moved;
    moved_stored = left.moved;
  }

  abbrev deleted : World
  deleted = record without_source { target = begun_again left.target; target_viewed = begun_again left.target; target_stored = begun_again left.target }

  are_deleted : AllHappen way b left (delete_source ∷ delete_target ∷ []) deleted
  are_deleted = (without_source, (source_deletable, refl), (deleted, (target_deletable, refl), refl))

pub may_go_on : MayGoOn
may_go_on body = (
  way,
  refl,
  b,
  acts_of body ++ leaving body,
  left body,
  goes_on way b (opened a b 1) (acts_of body) (last_world body) (leaving body) (left body) (all_happen body) (all_leave body),
  deleted body,
  are_deleted body,
  deaths body 1 ++ moves body 1 authors,
  ends body 1 authors (deleted body),
  goes_round body 1 authors (deleted body) (omega arith) refl refl,
  letter body 0,
  letter body 1,
  copy body 0,
  copy body 1,
  refl,
  refl,
  refl,
  refl,
  refl,
  refl,
  refl,
  refl,
)
