use Rattle.std.proofs.Common.{◌∙◌, ℕ, List, ap, map, rules, subst, subst₂, sym}
use Rattle.delivery_machine.specs.State.{State, Author}
use Rattle.delivery_machine.specs.WellFormed.{AreAuthors}
use Rattle.delivery_machine.specs.Laws.{IsReached}
use Rattle.delivery_machine.specs.Places.{KeptPlaces, snapshot_in}
use Rattle.machine_laws.proofs.ReachedOn.{reached_restarted}
use Rattle.topic_core.proofs.Goes.{goes_on, over, sound_over}
use Rattle.topic_core.proofs.restoring.parts_of.Goals as goal

pub subscriptions_over-requires : goal.subscriptions_over-requires
subscriptions_over-requires c = sound_over c.args.snapshot.now c.in-Ok-restored.log.log.log c.subscriptions.result.now c.log.ensures.restarts (search rules) c.subscriptions.ensures

pub restored-requires-clause-remembered : goal.restored-requires-clause-remembered
restored-requires-clause-remembered c =
    subst₂ (λ (gone : ℕ) (authors : List Author). AreAuthors gone authors) (sym c.gone.ensures) (sym (c.in_ok-authors.ensures.items_if_clones_equal (λ x y same. same) ∙ c.authors.ensures)) c.log.ensures.restarts.sound.authors

pub returns-in-Ok-subscriptions_over-clause-state : goal.returns-in-Ok-subscriptions_over-clause-state
returns-in-Ok-subscriptions_over-clause-state c =
    goes_on c.args.snapshot.now (record { alloc = c.args.alloc; name = c.in_ok-name.name; next_ordinal = c.next_ordinal.result; log = c.in-Ok-restored.log; members = c.new.result; subscriptions = c.in-Ok-subscriptions_over.subscriptions }) (search rules) (search rules) (search rules) (search rules) (search rules) (c.in-Ok-restored.ensures.authors ∙ c.in_ok-authors.ensures.items_if_clones_equal (λ x y same. same) ∙ c.authors.ensures) (search rules) (search rules) (search rules) (search rules) (search rules) (search rules) (search rules) (c.in-Ok-subscriptions_over.ensures.state ∙ ap (λ (ks : List KeptPlaces). map (over c.in-Ok-restored.log.log.log) ks) c.subscriptions.ensures)

pub returns-in-Ok-subscriptions_over-clause-reached : goal.returns-in-Ok-subscriptions_over-clause-reached
returns-in-Ok-subscriptions_over-clause-reached c =
    subst (λ (s : State). IsReached s) (sym (returns-in-Ok-subscriptions_over-clause-state c)) (reached_restarted (snapshot_in c.args.snapshot.now) c.log.ensures.restarts.sound)
