use Rattle.std.proofs.Common.{◌≡◌, lit<}
use Rattle.endpoint_core.proofs.Places.{place, before_mark, after_mark, no_mark_len}
use Rattle.endpoint_core.proofs.hosts.bracketed_len.Goals as goal

pub returns-then-end-text-clause-boundary : goal.returns-then-end-text-clause-boundary
returns-then-end-text-clause-boundary c =
    let is : c.place_of-end.result ≡ place 93 c.args.text.now = rw c.as_bytes.ensures.value at c.place_of-end.ensures in
    rw is (after_mark 93 c.args.text.now (lit< tt) c.utf8.text (rw is at c.if-end-text.true))

pub returns-else-end-text-clause-value : goal.returns-else-end-text-clause-value
returns-else-end-text-clause-value c =
    let is : c.place_of-end.result ≡ place 93 c.args.text.now = rw c.as_bytes.ensures.value at c.place_of-end.ensures in
    rw is (no_mark_len 93 c.args.text.now (rw is at c.if-end-text.false))

pub returns-else-end-text-clause-boundary : goal.returns-else-end-text-clause-boundary
returns-else-end-text-clause-boundary c =
    let is : c.place_of-end.result ≡ place 93 c.args.text.now = rw c.as_bytes.ensures.value at c.place_of-end.ensures in
    rw is (before_mark 93 c.args.text.now (lit< tt))
