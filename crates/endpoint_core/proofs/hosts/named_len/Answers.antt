use Rattle.std.proofs.Common.{◌≡◌, lit<}
use Rattle.endpoint_core.proofs.Places.{place, before_mark}
use Rattle.endpoint_core.proofs.hosts.named_len.Goals as goal

pub returns-clause-boundary : goal.returns-clause-boundary
returns-clause-boundary c =
    let is : c.place_of.result ≡ place 58 c.args.text.now = rw c.as_bytes.ensures.value at c.place_of.ensures in
    rw is (before_mark 58 c.args.text.now (lit< tt))
