use Rattle.std.proofs.Common.{◌≡◌, IfSome, Some, subst, arith, ◌∙◌, ap}
use Rattle.sqlite.specs.State.{State, HasCleanDisk}
use Rattle.sqlite.specs.Held.{state}
use Rattle.row_tables.specs.Ready.{IsMarked, IsVersion1}
use Rattle.row_schema.specs.declared.version.Version.TheVariants.{One}
use Rattle.row_schema.specs.Versions.{schema_of, number_of}
use Rattle.row_schema.proofs.CrashLemmas.{crash_looked}
use Rattle.row_schema.proofs.upgrading.upgrade.Goals as goal

pub returns-in_ok-from_version_1-in-Some-One-clause-crash : goal.returns-in_ok-from_version_1-in-Some-One-clause-crash
returns-in_ok-from_version_1-in-Some-One-clause-crash g c =
    let old : State = state g.S.Store c.args.conn.now in
    let mid : State = state g.S.Store c.version_of.new.conn in
    let looked = c.version_of.ensures.crash in
    let found : c.in_ok-version_of.field-0 ≡ Some One = c.in-Some-One.is ∙ ap Some c.in-Some-One.field-0-is in
    crash_looked IsVersion1 old mid (state g.S.Store c.from_version_1.new.conn) looked c.version_of.ensures.kept
    (λ early now.
    let was = c.version_of.ensures.was_open early now in
    let before : HasCleanDisk old = omega (arith, looked.clean) in (
      was,
      record {
        schema_is = subst (λ v. IfSome v (λ version. old.now.schema ≡ schema_of version)) found (c.in_ok-version_of.ensures.schema early);
        keyed = c.requires.keyed before was;
        version_is = subst (λ v. IfSome v (λ version. IsMarked (number_of version) old.now.trees)) found (c.in_ok-version_of.ensures.mark early);
      },
    ))
    c.from_version_1.ensures.crash
