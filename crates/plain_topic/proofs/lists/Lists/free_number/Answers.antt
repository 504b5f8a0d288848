use Rattle.std.proofs.Common.{ℕ, List, subst}
use Rattle.std.proofs.lemmas.Result.{IfOk-weaker}
use Rattle.delivery_machine.specs.Producing.{IsLeastFree}
use Rattle.plain_lists.specs.Auto.{IsLeastFreeIn}
use Rattle.plain_topic.specs.StateOf.{state_of}
use Rattle.plain_topic.proofs.Used.{least_of_used}
use Rattle.plain_topic.proofs.lists.Lists.free_number.Goals as goal

pub returns : goal.returns
returns c =
    let s = state_of c.args.self.now in
    IfOk-weaker c.least_free.result (IsLeastFreeIn c.in_ok-names_used.field-0.items) (IsLeastFree s) (λ n least. least_of_used s n (subst (λ (names : List (List ℕ)). IsLeastFreeIn names n) c.in_ok-names_used.ensures least)) c.least_free.ensures
