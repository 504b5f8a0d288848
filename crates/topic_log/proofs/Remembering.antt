-- Producers are remembered one message at a time.
use Rattle.std.proofs.Common.{◌≡◌, ℕ, List, map, take, sym, subst}
use Rattle.std.specs.List.{IsDistinct}
use Rattle.std.specs.Str.{bytes_eq}
use Rattle.position_core.specs.declared.message.Entry.{Entry}
use Rattle.delivery_machine.specs.State.{Author}
use Rattle.delivery_machine.specs.Trimming.{with_authors}
use Rattle.delivery_machine.specs.WellFormed.{AreAuthors}
use Rattle.delivery_machine.proofs.Remembered.{name_of, authors_more}

pub distinct_so_far : (gone : ℕ) (log : List Entry) (i : ℕ) (authors xs : List Author) → AreAuthors gone authors → xs ≡ with_authors gone (take i log) authors → IsDistinct bytes_eq (map name_of xs)
distinct_so_far gone log i authors xs are is = subst (λ (ys : List Author). IsDistinct bytes_eq (map name_of ys)) (sym is) (authors_more gone (take i log) authors are).names
