use Rattle.endpoint_core.proofs.Authorities.{authority_is}
use Rattle.endpoint_core.proofs.admitted.authority_of.Goals as goal

pub returns-in-Some : goal.returns-in-Some
returns-in-Some c = rw c.in-Some.is at (authority_is c.args.origin.now c.split_once.result c.split_once.ensures.cases)

pub returns-in-None : goal.returns-in-None
returns-in-None c = rw c.in-None.is at (authority_is c.args.origin.now c.split_once.result c.split_once.ensures.cases)
