use Rattle.std.proofs.Common.{◌≡◌, ◌-◌, ◌^◌, inl, inr, sym, ◌∙◌, subst, arith}
use Rattle.std.specs.FinMap as map_of
use Rattle.std.proofs.lemmas.Bool.{cases_lt}
use Rattle.delivery_machine.specs.Shares.{owner_of}
use Rattle.hash_rows.specs.Knowing.{KeeperIsRight, WaitBefore, IsFirstOf}
use Rattle.dispatch_keyed.specs.Tables.{row_at}
use Rattle.dispatch_keyed.proofs.Firsts.{rowless}
use Rattle.dispatch_keyed.proofs.keyed.Keyed.renew_between.Goals as goal

pub loop-hash-preserved : goal.loop-hash-preserved
loop-hash-preserved g c =
    let s = g.V.View.state c.args.view.now in
    let sub = g.V.View.subscription c.args.view.now in
    let d = c.loop-hash.self in
    let inv = c.loop-hash.invariant in
    let next = c.in-Some.ensures.some in
    let others = c.renew.ensures.others in
    record {
      rest = record { owners = inv.rest.owners; read = inv.rest.read; sent = inv.rest.sent; rows = inv.rest.rows };
      start = omega (arith, inv.start, next.0, c.from-next.ensures);
      behind = λ h after. others h (λ same. omega (arith, after, same, c.from-next.ensures)) ∙ inv.behind h (omega (arith, after, next.0, c.from-next.ensures));
      others = λ h out. others h (λ same. out (omega (arith, same, next.0, inv.start)) (omega (arith, same, next.1))) ∙ inv.others h out;
      first = λ h start below right before absent. elim (cases_lt h c.in-Some.hash) [
        | inl sooner ↦
            let row = row_at d.rows h in
            subst (λ o. IsFirstOf row o (owner_of d.owners.shares h) s sub) (sym (others h (λ is. omega (arith, is, sooner))))
            (elim (cases_lt h c.loop-hash.next) [
              | inl earlier ↦ inv.first h start earlier right before absent
              | inr later ↦
                  let none = next.3 h later sooner in
                  subst (λ o. IsFirstOf row o (owner_of d.owners.shares h) s sub) (sym (inv.behind h later ∙ absent none)) (rowless row (owner_of d.owners.shares h) s sub none)
            ])
        | inr here ↦
            let same : h ≡ c.in-Some.hash = omega (arith, here, below, c.from-next.ensures) in
            subst (λ k. KeeperIsRight (row_at d.rows k) s sub → WaitBefore (row_at d.rows k) (2 ^ 32 - 1) → IsFirstOf (row_at d.rows k) (map_of.get c.renew.new.firsts.numbers k) (owner_of d.owners.shares k) s sub) (sym same) c.renew.ensures.first right before
      ];
    }

pub returns-clause-first : goal.returns-clause-first
returns-clause-first g c h start below within right before absent =
    let s = g.V.View.state c.args.view.now in
    let sub = g.V.View.subscription c.args.view.now in
    let d = c.loop-hash.self in
    let inv = c.loop-hash.invariant in
    elim (cases_lt h c.loop-hash.next) [
      | inl earlier ↦ inv.first h start earlier right before absent
      | inr later ↦
          let row = row_at d.rows h in
          let none = c.in_default.ensures.none h later below within in
          subst (λ o. IsFirstOf row o (owner_of d.owners.shares h) s sub) (sym (inv.behind h later ∙ absent none)) (rowless row (owner_of d.owners.shares h) s sub none)
    ]
