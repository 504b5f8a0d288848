use Rattle.std.specs.Prelude.{codes}
use Rattle.worker_pool.proofs.Said.{said}
use Rattle.worker_pool.proofs.pages.html.Goals as goal

pub returns : goal.returns
returns c = said c.response.result (λ bytes. bytes.items) (codes "text/html; charset=utf-8") c.args.policy.now c.as_bytes.result.now c.response.ensures
