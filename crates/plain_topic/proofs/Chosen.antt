-- The pair that is chosen is eligible.
use Rattle.std.proofs.Common.{◌≡◌, ℕ, true, Some, None, refl, sym, ap, ◌∙◌, subst, arith}
use Rattle.std.specs.Prelude.{◌&&◌}
use Rattle.std.specs.List.{position}
use Rattle.std.proofs.lemmas.Bool.Decides.{nat_tests}
use Rattle.position_core.specs.declared.message.Entry.{Entry}
use Rattle.position_core.specs.declared.kind.Kind.{Kind}
use Rattle.position_core.specs.declared.kind.Kind.TheVariants.{Shared}
use Rattle.delivery_machine.specs.State.{State, Member, Subscription}
use Rattle.delivery_machine.specs.Words.{IsEligible, ChoosesBy, first_waiting, has_room, is_at, is_member, with_room}
use Rattle.machine_laws.proofs.Chosen.{chosen_member}
use Rattle.delivery_machine.proofs.Places.{fails_everywhere}
use Rattle.delivery_machine.proofs.Passes.{passes}
use Rattle.plain_queries.specs.Turn.{IsBestLevel}
use Rattle.delivery_machine.proofs.Deciding.{and_second}

pub shared_pair : (s : State) (sub : Subscription) (e : Entry) (m : Member) → sub.kind ≡ Shared → first_waiting s sub ≡ Some e → IsBestLevel (with_room s sub) (Some m) → IsEligible s sub e m
shared_pair s sub e m kind first best =
    (and_second (is_at sub.name m) (has_room s sub m) (passes (λ n. is_at sub.name n && has_room s sub n) s.members m best.0), subst (λ (k : Kind). ChoosesBy k s sub e m) (sym kind) (first, best.0, best.1))

itself : (n : ℕ) (m : Member) → m.number ≡ n → is_member n m ≡ true
itself n m is = grind (arith, nat_tests)

-- who is chosen has a place among the members
pub has_a_place : (s : State) (sub : Subscription) (e : Entry) (m : Member) → IsEligible s sub e m → None ≡ position (is_member m.number) s.members → ⊥
has_a_place s sub e m eligible nowhere =
    let there = (chosen_member sub.kind s sub e m eligible.1).0 in
    let fails = fails_everywhere (is_member m.number) s.members (sym nowhere) there.0 m there.1 in
    let passes_there = ap (is_member m.number) there.2 ∙ itself m.number m refl in
    cc
