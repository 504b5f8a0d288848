use Rattle.std.proofs.Common.{◌≡◌, length, refl, arith}
use Rattle.std.proofs.lemmas.Bool.Decides.{nat_tests}
use Rattle.replay_core.specs.Progress.{moment}
use Rattle.replay_core.proofs.Taking.{nil_of}
use Rattle.replay_core.proofs.Endings.{Ended-whole, Ended-last}
use Rattle.replay_core.proofs.engine.Replay.end_input.Goals as goal

pub returns-then-is_empty : goal.returns-then-is_empty
returns-then-is_empty g c = λ s input left w at_end p.
    let gone : length c.args.self.now.begun.items ≡ 0 = grind (arith, nat_tests, c.args.self.now.begun.ok) in
    Ended-whole s input input left (moment c.args.self.now w c.args.topic.now) at_end p refl (nil_of c.args.self.now.begun.items gone)

pub returns : goal.returns
returns g c = λ s input left w at_end p.
    Ended-last s input left (moment c.args.self.now w c.args.topic.now) (moment c.answer_begun.new.self w c.answer_begun.new.topic) c.answer_begun.result at_end p (λ e. grind (arith, nat_tests, c.args.self.now.begun.ok, e)) c.answer_begun.ensures.begun (c.answer_begun.ensures.takes w s input p)
