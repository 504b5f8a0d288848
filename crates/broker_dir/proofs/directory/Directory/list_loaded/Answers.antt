use Rattle.std.proofs.Common.{length, subst, sym}
use Rattle.broker_dir.specs.Listing.{HasRoom}
use Rattle.broker_dir.proofs.directory.Directory.list_loaded.Goals as goal

pub open_with-requires-clause-room : goal.open_with-requires-clause-room
open_with-requires-clause-room g c = subst (λ l. HasRoom c.in-Some.room (length l)) (sym c.in-Some.ensures.same) c.in-Some.ensures.room
