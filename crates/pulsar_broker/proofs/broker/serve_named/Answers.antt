use mir.Syntax.{of_param}
use denote.Exit.{yes}
use denote.Param.{param}
use denote.Param.Send.{Quiet-if}
use denote.Param.SendFields.{declared_send, declared_sync}
use Rattle.topic_core.specs.contracts.topic.TopicCore as Core
use Rattle.topic_core.specs.contracts.topic.TopicCoreTopic.TheImpl as TopicCore
use Rattle.topic_core.specs.contracts.topic.TopicCoreSaved.TheImpl as Saved
use Rattle.topic_core.proofs.topic.TopicCore.TheSendSync.{the_send as core_send}
use Rattle.worker_loops.specs.contracts.post.Doorbell as Doorbell
use Rattle.worker_loops.proofs.post.Doorbell.TheSendSync.{the_send as doorbell_send, the_sync as doorbell_sync}
use Rattle.broker_dir.specs.contracts.attached.Attached as Attached
use Rattle.broker_dir.specs.contracts.directory.Directory as Directory
use Rattle.broker_dir.specs.contracts.why.Why as Why
use Rattle.broker_dir.proofs.Crosses.{Directory-send, Directory-sync}
use Rattle.worker_pool.proofs.place.Place.TheSendSync.{the_send as place_send, the_sync as place_sync}
use Rattle.pulsar_broker.specs.contracts.server.Server as Server
use Rattle.pulsar_broker.proofs.broker.serve_named.Goals as goal

-- nothing is left behind in any field
pub serve-ended-requires-send-X : goal.serve-ended-requires-send-X
serve-ended-requires-send-X g c κs within =
    let S = param 1 g.row.S in
    let J = param 2 g.row.J in
    let directory = Directory-send Core.the_row S J Doorbell.the_row TopicCore.ghosts Saved.ghosts g.S.Store g.J.Naming core_send c.type_bounds.send-S doorbell_send doorbell_sync in
    let place = place_send (Directory.the_row Core.the_row S J Doorbell.the_row TopicCore.ghosts Saved.ghosts g.J.Naming g.S.Store)
    (Attached.the_row Core.the_row J Doorbell.the_row TopicCore.ghosts Saved.ghosts g.J.Naming) Why.the_row directory in
    let server = declared_send (Server.the_type S J g.J.Naming g.S.Store) (place, tt) in
    record {
      owned = server.owned;
      leaving = λ k. Quiet-if (k (of_param 1)) _ _ (server.leaving yes) (λ x w. tt);
    }

pub serve-ended-requires-sync-X : goal.serve-ended-requires-sync-X
serve-ended-requires-sync-X g c κs within =
    let S = param 1 g.row.S in
    let J = param 2 g.row.J in
    let directory = Directory-sync Core.the_row S J Doorbell.the_row TopicCore.ghosts Saved.ghosts g.S.Store g.J.Naming core_send c.type_bounds.send-S doorbell_send doorbell_sync in
    let place = place_sync (Directory.the_row Core.the_row S J Doorbell.the_row TopicCore.ghosts Saved.ghosts g.J.Naming g.S.Store)
    (Attached.the_row Core.the_row J Doorbell.the_row TopicCore.ghosts Saved.ghosts g.J.Naming) Why.the_row directory in
    let server = declared_sync (Server.the_type S J g.J.Naming g.S.Store) (place, tt) in
    record { shared = server.shared }
