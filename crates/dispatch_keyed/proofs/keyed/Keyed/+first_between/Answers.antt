use Rattle.std.proofs.Common.{◌≡◌, inl, inr, subst, arith}
use Rattle.std.proofs.lemmas.Bool.{cases_lt}
use Rattle.delivery_machine.specs.Shares.{Shares, owner_of}
use Rattle.dispatch_keyed.proofs.Agreed.{first_is_good}
use Rattle.dispatch_keyed.proofs.Blocks.{as_none, where_none}
use Rattle.dispatch_keyed.proofs.Owners.{full_alike}
use Rattle.dispatch_keyed.proofs.Owning.{shares_in}
use Rattle.dispatch_keyed.proofs.keyed.Keyed.+first_between.Goals as goal

pub returns-in-Some-clause-some : goal.returns-in-Some-clause-some
returns-in-Some-clause-some g t c agreed =
    let least = c.in_ok-index.ensures.some in
    first_is_good c.args.self.now (g.V.View.state c.args.view.now) (g.V.View.subscription c.args.view.now) agreed c.requires.read c.in_ok-index.hash c.in_ok-index.index c.in-Some.consumer (omega (arith, least.1, c.requires.within)) least.2 (c.in-Some.ensures.some agreed.owners)

pub returns-clause-none : goal.returns-clause-none
returns-clause-none g t c agreed =
    let s = g.V.View.state c.args.view.now in
    let sub = g.V.View.subscription c.args.view.now in
    let d = c.args.self.now in
    let hash = c.in_ok-index.hash in
    let around = c.hashes_around-start.ensures in
    where_none c.sooner-3.result (λ none h from below.
    let both = as_none c.sooner-3.result none c.sooner-3.ensures.none in
    let lower = as_none c.sooner.result both.0 c.sooner.ensures.none in
    let upper = as_none c.sooner-2.result both.1 c.sooner-2.ensures.none in
    elim (cases_lt h c.max-below.result) [
      | inl before ↦ elim (cases_lt h c.min-lower.result) [
        | inl first ↦ as_none c.first_between-first.result lower.0 (c.first_between-first.ensures.none agreed) h from first
        | inr second ↦ as_none c.first_between-second.result lower.1 (c.first_between-second.ensures.none agreed) h second before
      ]
      | inr behind ↦ elim (cases_lt h c.min-above.result) [
        | inl inside ↦ λ n is.
            full_alike s sub hash h
            (subst (λ (shares : Shares). owner_of shares h ≡ owner_of shares hash) (shares_in agreed.owners) (around.owner h (omega (arith, behind, c.max-below.ensures)) (omega (arith, inside, c.min-above.ensures))))
            (c.in_default.ensures.none agreed.owners)
        | inr past ↦ elim (cases_lt h c.max-upper.result) [
          | inl third ↦ as_none c.first_between-third.result upper.0 (c.first_between-third.ensures.none agreed) h past third
          | inr fourth ↦ as_none c.first_between-fourth.result upper.1 (c.first_between-fourth.ensures.none agreed) h fourth below
        ]
      ]
    ])
