use Rattle.std.proofs.Common.{inr, sym, ap, ◌∙◌}
use Rattle.socket_conn.specs.declared.shaking.Shaking.{Shaking}
use Rattle.socket_conn.proofs.ShakesLemmas.{heard_more, heard_no_more, looked, looked_on}
use Rattle.socket_conn.proofs.shaking.Shaking.advance.Goals as goal

pub returns-in_default : goal.returns-in_default
returns-in_default g c =
    let remaining = g.S.Read.remaining in
    let more = rw c.in-Ok-More.field-0-is at c.in-Ok-More.ensures in
    let heard = heard_more remaining c.args.self c.loop.shaking c.read.new.self c.loop.invariant.heard more.0 in
    looked remaining c.args.self c.read.new.self c.judge.result heard c.judge.ensures c.in_default.not-Waits

pub returns-in-Ok-Nothing : goal.returns-in-Ok-Nothing
returns-in-Ok-Nothing g c =
    let nothing = rw c.in-Ok-Nothing.field-0-is at c.in-Ok-Nothing.ensures in (
      heard_no_more g.S.Read.remaining c.args.self c.loop.shaking c.read.new.self c.loop.invariant.heard nothing.0 nothing.1,
      λ e. nothing.2 (e ∙ sym c.loop.invariant.same),
      looked_on c.args.self c.loop.shaking c.read.new.self c.loop.invariant.looked nothing.1,
    )

pub loop-preserved : goal.loop-preserved
loop-preserved g c =
    let remaining = g.S.Read.remaining in
    let more = rw c.in-Ok-More.field-0-is at c.in-Ok-More.ensures in
    record {
      heard = rw c.in-Waits.ensures.0 (heard_more remaining c.args.self c.loop.shaking c.read.new.self c.loop.invariant.heard more.0);
      same = ap (λ (k : Shaking _). k.stream.dry) c.in-Waits.ensures.0 ∙ more.1 ∙ c.loop.invariant.same;
      looked = rw c.in-Waits.ensures.0 (inr c.in-Waits.ensures.1);
    }
