use denote.Param.{param}
use denote.Param.Send.{IsSend, sendable}
use Rattle.std.proofs.Crossing.{crosses}
use Rattle.topic_core.specs.contracts.topic.TopicCore as Core
use Rattle.topic_core.specs.contracts.topic.TopicCoreTopic.TheImpl as TopicCore
use Rattle.topic_core.proofs.topic.TopicCore.TheSendSync.{the_send as core_send}
use Rattle.topic_shared.proofs.Crosses.{Shared-sync}
use Rattle.topic_tests.proofs.tests.shared_topic.receipts.run.Goals as goal

pub by_all-requires-sync-X : goal.by_all-requires-sync-X
by_all-requires-sync-X g c κs within =
    let s = Shared-sync Core.the_row (param 0 g.row.L) TopicCore.ghosts g.L.Opening g.L.Ledger core_send in
    search (sendable, crosses, s) depth 20
