use Rattle.std.proofs.Common.{inl}
use Rattle.machine_laws.proofs.Acknowledged.{never_sent}
use Rattle.machine_laws.proofs.ReachedKept.{reached_kept}
use Rattle.machine_laws.proofs.laws.l1.Goals as goal

pub returns : goal.returns
returns c s events replies t at run name position there unreset =
    never_sent name position s events replies t run (reached_kept at.0 at.1 at.2 s at.3 at.4) (inl there) unreset
