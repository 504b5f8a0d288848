use Rattle.replay_core.specs.Progress.{Start}
use Rattle.replay_core.proofs.engine.replay_by.Goals as goal

pub returns : goal.returns
returns g c =
    let ran = c.run-outcome.ensures in
    let left = g.R.Read.remaining c.run-outcome.new.reader in
    let t = c.run-outcome.new.topic in
    let start : Start = record { name = c.args.name; written = g.W.Write.contents c.args.writer.now; topic = c.args.topic.now } in
    let ended = c.name_bad_line-outcome.ensures start ran.0 left (g.W.Write.contents c.run-outcome.new.writer) t ran.2 in
    c.write_rest.ensures start ran.0 (g.R.Read.remaining c.args.reader.now) left t ran.1 ended
