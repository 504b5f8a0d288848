use Rattle.endpoint_core.proofs.Places.{place_is}
use Rattle.endpoint_core.proofs.hosts.place_of.Goals as goal

pub returns : goal.returns
returns c = rw (c.unwrap_or.ensures, c.mark_in.ensures) (place_is c.args.mark c.args.text.now)
