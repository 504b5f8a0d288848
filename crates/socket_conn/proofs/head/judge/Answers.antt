use Rattle.std.proofs.Common.{◌≡◌, ◌∙◌, true, refl, sym, arith}
use Rattle.std.proofs.lemmas.Bool.Decides.{nat_tests}
use Rattle.socket_conn.proofs.HeadsLemmas.{upgrade}
use Rattle.socket_conn.proofs.head.judge.Goals as goal

pub returns-in_ok-upgrade-in-Ok : goal.returns-in_ok-upgrade-in-Ok
returns-in_ok-upgrade-in-Ok c =
    let is : c.is_sound.result ≡ true = grind (arith, nat_tests) in
    upgrade c.args.bytes.now c.args.spans.now c.args.found.now c.of-path.result.now c.in-Ok.accept _ c.in_ok-asked-in-Ok.asked c.in_ok-upgrade-in-Ok.upgrade
    c.requires.is_head c.of-path.ensures refl (sym c.is_sound.ensures ∙ is) c.in-Ok.ensures c.in_ok-asked-in-Ok.ensures c.in_ok-upgrade-in-Ok.ensures
