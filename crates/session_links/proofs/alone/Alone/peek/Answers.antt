use Rattle.session_links.proofs.Looked.{shows, shows_none}
use Rattle.session_links.proofs.alone.Alone.peek.Goals as goal

pub returns-in-Ok-clause-shows : goal.returns-in-Ok-clause-shows
returns-in-Ok-clause-shows g c =
    shows (g.T.Topic.state c.args.self.now.topic) c.in-Ok.look.snapshot c.in-Ok.look.stored c.args.name.now c.args.count c.next_of-shown.result c.in-Ok.ensures.kept c.in-Ok.ensures.stored c.next_of-shown.ensures.ok c.next_of-shown.ensures.err

pub returns-in-Err-clause-shows : goal.returns-in-Err-clause-shows
returns-in-Err-clause-shows g c = shows_none (g.T.Topic.state c.args.self.now.topic) c.args.name.now c.args.count c.in-Err.fault c.in-Err.ensures.err
