use Rattle.std.proofs.Common.{◌≡◌, Bool, true, false, ap, ap₂, refl}
use Rattle.std.specs.Prelude.{◌&&◌, nat_eq}
use Rattle.std.specs.Bool.{Decides}
use Rattle.std.specs.Cmp.Lexicographic.{pointwise_decides}
use Rattle.std.proofs.lemmas.Bool.Decides.{Decides-at, Decides-eqb}
use Rattle.position_core.specs.declared.ranges.HashRange.{HashRange}
use Rattle.position_core.proofs.ranges.Ranges.is.Goals as goal

both : (r s : HashRange) (x y : Bool) → Decides x (r.first ≡ s.first) → Decides y (r.last ≡ s.last) → Decides (x && y) (r ≡ s)
both r s true true first second = ((λ _. ap₂ (λ first last. record { first = first; last = last }) (first.0 refl) (second.0 refl)), λ _. refl)
both r s true false first second = ((λ e. cc), λ same. second.1 (ap (λ (r : HashRange). r.last) same))
both r s false y first second = ((λ e. cc), λ same. first.1 (ap (λ (r : HashRange). r.first) same))

ranges_decide : (r s : HashRange) → Decides (nat_eq r.first s.first && nat_eq r.last s.last) (r ≡ s)
ranges_decide r s = both r s _ _ (Decides-eqb r.first s.first) (Decides-eqb r.last s.last)

pub returns : goal.returns
returns c = rw (← c.self.view_is, ← c.other.view_is) (Decides-at c.eq.result _ c.eq.ensures (pointwise_decides ranges_decide c.self.inside.ranges.items c.other.inside.ranges.items))
