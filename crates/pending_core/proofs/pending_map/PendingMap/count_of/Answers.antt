use Rattle.std.proofs.Common.{ap, sym, subst, arith}
use Rattle.std.specs.Option.{unwrap_or, is_some}
use Rattle.std.proofs.Common.{IsTrue}
use Rattle.std.proofs.lemmas.Bool.{false≢true}
use Rattle.pending_core.proofs.Found.{count_seen, counted_seen, count_unseen}
use Rattle.pending_core.proofs.pending_map.PendingMap.count_of.Goals as goal

pub returns-in-Some-clause-value : goal.returns-in-Some-clause-value
returns-in-Some-clause-value c = rw (← c.self.view_is) (sym (count_seen c.self.inside.kept.entries c.args.position c.in-Some.kept (sym c.in-Some.ensures)))

pub returns-in-Some-clause-counted : goal.returns-in-Some-clause-counted
returns-in-Some-clause-counted c = rw (← c.self.view_is) (counted_seen c.self.inside.kept.entries c.args.position c.in-Some.kept (sym c.in-Some.ensures))

pub returns-in-None-clause-value : goal.returns-in-None-clause-value
returns-in-None-clause-value c = rw (← c.self.view_is) (sym (ap (λ o. unwrap_or o 0) (count_unseen c.self.inside.kept.entries c.args.position (sym c.in-None.ensures))))

pub returns-in-None-clause-counted : goal.returns-in-None-clause-counted
returns-in-None-clause-counted c =
    rw (← c.self.view_is)
    (λ h. absurd (false≢true (subst (λ o. IsTrue (is_some o)) (count_unseen c.self.inside.kept.entries c.args.position (sym c.in-None.ensures)) h)), λ h. absurd (omega arith))
