-- One position that is taken out of a map.
use Rattle.std.proofs.Common.{◌≡◌, Bool, true, false, cond, Option, None, refl, sym, ap, ◌∙◌}
use Rattle.std.specs.Prelude.{not, ◌||◌, [], ◌∷◌}
use Rattle.std.specs.FinMap as map_of
use Rattle.position_core.specs.declared.position.Position.{Position}
use Rattle.position_core.specs.Position.{position_cmp, positions_total, exact_positions, same_position}
use Rattle.delivery_machine.specs.Acknowledging.{is_one_of}

-- to take one out is to keep the others
pub removed_one : {X : Type 0} (m : map_of.FinMap position_cmp X) (p : Position) → map_of.remove m p ≡ map_of.retain_keys m (λ q. not (is_one_of (p ∷ []) q))
removed_one {X} m p =
    map_of.same_map positions_total exact_positions (map_of.remove m p) (map_of.retain_keys m keeps)
    (λ q. map_of.get-remove positions_total m p q ∙ turned (same_position q p) (map_of.get m q) ∙ sym (map_of.get-retain_keys m keeps q (λ x t. ap keeps (sym (exact_positions q x t)))))
  where
    keeps : Position → Bool
    keeps q = not (is_one_of (p ∷ []) q)

    turned : (b : Bool) (o : Option X) → cond b None o ≡ cond (not (b || false)) o None
    turned true o = refl
    turned false o = refl
