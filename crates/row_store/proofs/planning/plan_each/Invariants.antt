use Rattle.std.proofs.Common.{◌≡◌, All, map}
use Rattle.sqlite.specs.Tree.{Trees}
use Rattle.delivery_machine.specs.Places.{KeptTopic}
use Rattle.row_forms.specs.Standing.{Stands}
use Rattle.row_rounds.specs.declared.saving.Write.{Write}
use Rattle.row_rounds.specs.Rounds.{IsNamed, Fits}
use Rattle.row_store.specs.Keeping.{GoesForward, kepts}
use Rattle.row_store.proofs.planning.plan_each.Given as goal

abbrev pub invariant-loop-part : goal.invariant-loop-part
invariant-loop-part g l = record {
  next : (goal.iterator-loop-part g).can_next l.part-iterator;
  finite : (goal.iterator-loop-part g).is_finite l.part-iterator;
  snapshots : map (λ (w : Write). w.snapshot) l.writes.items ≡ kepts l.yielded;
  forward : All (GoesForward l.known) l.yielded;
  named : All IsNamed l.writes.items;
  fits : (db : Trees) → All (λ (kept : KeptTopic). Stands kept db) l.known → All (Fits db) l.writes.items;
}
