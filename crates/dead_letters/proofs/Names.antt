-- A courier's name is one that a producer may have.
use Rattle.std.proofs.Common.{rules, tests, arith, ℕ, ◌≤◌, List, length, length-append, IsTrue}
use Rattle.position_core.specs.declared.topic_name.TopicName.{TopicName}
use Rattle.position_core.specs.Name.{is_name}
use Rattle.dead_letters.specs.Moving.{courier_name}

short : (name : List ℕ) → IsTrue (is_name name) → length name ≤ 255
short name h = search (rules, tests)

pub courier_short : (source : TopicName) (subscription : List ℕ) → IsTrue (is_name source.tenant) → IsTrue (is_name source.namespace) → IsTrue (is_name source.topic) → IsTrue (is_name subscription)
    → length (courier_name source subscription) ≤ 1280
courier_short source subscription tenant namespace topic name =
    let a = short source.tenant tenant in
    let b = short source.namespace namespace in
    let c = short source.topic topic in
    let d = short subscription name in
    simp length-append (omega arith)
