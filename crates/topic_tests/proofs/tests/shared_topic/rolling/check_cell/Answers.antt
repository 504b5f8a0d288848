use denote.Param.Send.{IsSend, IsSync, sendable}
use Rattle.std.proofs.Crossing.{crosses}
use Rattle.topic_core.specs.contracts.topic.TopicCore as Core
use Rattle.topic_core.specs.contracts.topic.TopicCoreTopic.TheImpl as TopicCore
use Rattle.topic_core.proofs.topic.TopicCore.TheSendSync.{the_send as core_send}
use Rattle.topic_shared.proofs.Crosses.{Cell-send}
use Rattle.topic_tests.proofs.tests.shared_topic.rolling.check_cell.Goals as goal

pub by_four-requires-sync-X : goal.by_four-requires-sync-X
by_four-requires-sync-X g c =
    let s = Cell-send Core.the_row TopicCore.ghosts core_send in
    search (sendable, crosses, s) depth 20
