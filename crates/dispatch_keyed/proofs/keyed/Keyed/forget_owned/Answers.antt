use Rattle.std.proofs.Common.{◌≡◌, Some, inl, inr, sym, ap, ◌∙◌, arith, subst}
use Rattle.std.proofs.lemmas.Bool.{cases_lt, eqb-true, eq-eqb}
use Rattle.std.proofs.lemmas.Option.{same_Some, none-some}
use Rattle.delivery_machine.specs.Shares.{Shares, owner_of}
use Rattle.delivery_machine.specs.ShareSets.{AreApart}
use Rattle.hash_ranges.proofs.Apart.{next_from, free_from}
use Rattle.dispatch_keyed.proofs.Owning.{shares_in}
use Rattle.dispatch_keyed.proofs.keyed.Keyed.forget_owned.Goals as goal

pub overflow_add-end : goal.overflow_add-end
overflow_add-end c =
    let next = next_from c.loop-block.from c.loop-block.self.owners.shares.blocks c.in-Some.block c.in-Some.ensures.apart c.in-Some.ensures.value in
    omega (arith, next.end)

pub loop-block-smaller : goal.loop-block-smaller
loop-block-smaller c =
    let next = next_from c.loop-block.from c.loop-block.self.owners.shares.blocks c.in-Some.block c.in-Some.ensures.apart c.in-Some.ensures.value in
    omega (arith, next.end, next.behind)

pub loop-block-preserved : goal.loop-block-preserved
loop-block-preserved c =
    let d = c.loop-block.self in
    let block = c.in-Some.block in
    let next = next_from c.loop-block.from d.owners.shares.blocks block c.in-Some.ensures.apart c.in-Some.ensures.value in
    let inv = c.loop-block.invariant in
    let call = c.forget_if.ensures in
    record {
      rest = record { owners = inv.rest.owners; read = inv.rest.read; sent = inv.rest.sent; rows = inv.rest.rows };
      within = next.end;
      others = λ h not.
          call.others h (λ theirs start below.
          not (ap (λ shares. owner_of shares h) (sym (shares_in inv.rest.owners)) ∙ next.owned h start below ∙ ap Some (eqb-true block.consumer c.args.consumer theirs)))
          ∙ inv.others h not;
      gone = λ h below owned. elim (cases_lt h c.loop-block.from) [
        | inl earlier ↦ call.kept h (inv.gone h earlier owned)
        | inr later ↦
            let owned_now = ap (λ shares. owner_of shares h) (shares_in inv.rest.owners) ∙ owned in
            elim (cases_lt h block.from) [
              | inl before ↦ absurd (none-some c.args.consumer (sym (next.free h later before) ∙ owned_now))
              | inr inside ↦
                  let same : block.consumer ≡ c.args.consumer = same_Some _ _ (sym (next.owned h inside below) ∙ owned_now) in
                  call.gone (eq-eqb block.consumer c.args.consumer same) h inside below
            ]
      ];
    }

pub returns-clause-gone : goal.returns-clause-gone
returns-clause-gone c h owned = elim (cases_lt h c.loop-block.from) [
  | inl earlier ↦ c.loop-block.invariant.gone h earlier owned
  | inr later ↦
      absurd (none-some c.args.consumer (sym (free_from c.loop-block.from c.loop-block.self.owners.shares.blocks c.in_default.ensures.value h later) ∙ ap (λ shares. owner_of shares h) (shares_in c.loop-block.invariant.rest.owners) ∙ owned))
]

pub returns-clause-apart : goal.returns-clause-apart
returns-clause-apart c = subst (λ (shares : Shares). AreApart 0 shares.blocks) (shares_in c.loop-block.invariant.rest.owners) c.in_default.ensures.apart
