-- A response is a page of its kind, whatever its policy and its body are.
use Rattle.std.proofs.Common.{◌≡◌, ℕ, List, Result, Ok, Err, IfOk}
use Rattle.worker_pool.specs.declared.pages.Status.TheVariants.{Fine}
use Rattle.worker_pool.specs.Pages.{Says, response_of}

pub said : {A E : Type 0} (r : Result A E) (items : A → List ℕ) (kind policy body : List ℕ) → IfOk r (λ bytes. items bytes ≡ response_of Fine kind policy body) → IfOk r (λ bytes. (policy : List ℕ) × Says kind policy (items bytes))
said (Ok bytes) items kind policy body is = (policy, (body, is))
said (Err fault) items kind policy body is = tt
