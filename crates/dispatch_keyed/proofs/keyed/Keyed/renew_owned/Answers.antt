use Rattle.std.proofs.Common.{◌≡◌, Some, inl, inr, sym, ap, ◌∙◌, arith}
use Rattle.std.proofs.lemmas.Bool.{cases_lt, eqb-true, eq-eqb}
use Rattle.std.proofs.lemmas.Option.{same_Some, none-some}
use Rattle.delivery_machine.specs.Shares.{owner_of}
use Rattle.hash_ranges.proofs.Apart.{next_from, free_from}
use Rattle.dispatch_keyed.proofs.Owning.{shares_in}
use Rattle.dispatch_keyed.proofs.Renewed.{rest_on, renewed_on, renewed_since}
use Rattle.dispatch_keyed.proofs.keyed.Keyed.renew_owned.Goals as goal

pub overflow_add-end : goal.overflow_add-end
overflow_add-end g c =
    let next = next_from c.loop-block.from c.loop-block.self.owners.shares.blocks c.in-Some.block c.in-Some.ensures.apart c.in-Some.ensures.value in
    omega (arith, next.end)

pub loop-block-smaller : goal.loop-block-smaller
loop-block-smaller g c =
    let next = next_from c.loop-block.from c.loop-block.self.owners.shares.blocks c.in-Some.block c.in-Some.ensures.apart c.in-Some.ensures.value in
    omega (arith, next.end, next.behind)

pub loop-block-preserved : goal.loop-block-preserved
loop-block-preserved g c =
    let s = g.V.View.state c.args.view.now in
    let sub = g.V.View.subscription c.args.view.now in
    let begun = c.args.self.now in
    let d = c.loop-block.self in
    let block = c.in-Some.block in
    let next = next_from c.loop-block.from d.owners.shares.blocks block c.in-Some.ensures.apart c.in-Some.ensures.value in
    let inv = c.loop-block.invariant in
    let e = c.renew_if.new.self in
    let call = c.renew_if.ensures in
    record {
      rest = rest_on begun d e inv.rest call.rest;
      within = next.end;
      others = λ h not.
          call.others h (λ theirs start below.
          not below (ap (λ shares. owner_of shares h) (sym (shares_in inv.rest.owners)) ∙ next.owned h (omega (arith, start, c.max.ensures)) below ∙ ap Some (eqb-true block.consumer c.args.consumer theirs)))
          ∙ inv.others h (λ before. not (omega (arith, before, next.behind)));
      first = λ h below owned. elim (cases_lt h c.loop-block.from) [
        | inl earlier ↦
            renewed_on begun d e h s sub call.rest (call.others h (λ _ start _. omega (arith, start, c.max.ensures, earlier))) (inv.first h earlier owned)
        | inr later ↦
            let owned_now = ap (λ shares. owner_of shares h) (shares_in inv.rest.owners) ∙ owned in
            elim (cases_lt h block.from) [
              | inl before ↦ absurd (none-some c.args.consumer (sym (next.free h later before) ∙ owned_now))
              | inr inside ↦
                  let same : block.consumer ≡ c.args.consumer = same_Some _ _ (sym (next.owned h inside below) ∙ owned_now) in
                  renewed_since begun d e h s sub (inv.others h (λ before _. omega (arith, before, later)))
                  (call.first (eq-eqb block.consumer c.args.consumer same) h (omega (arith, c.max.ensures, inside, later)) below (omega (arith, below, next.end)))
            ]
      ];
    }

pub returns-clause-first : goal.returns-clause-first
returns-clause-first g c h within owned = elim (cases_lt h c.loop-block.from) [
  | inl earlier ↦ c.loop-block.invariant.first h earlier owned
  | inr later ↦
      absurd (none-some c.args.consumer (sym (free_from c.loop-block.from c.loop-block.self.owners.shares.blocks c.in_default.ensures.value h later) ∙ ap (λ shares. owner_of shares h) (shares_in c.loop-block.invariant.rest.owners) ∙ owned))
]
