-- The code of shares, as models want it.
use Rattle.std.specs.Prelude.{ℕ, Bool, List}
use Rattle.std.proofs.Common.{refl}
use Rattle.std.specs.Coded.{Coded, code_by, coded×, coded_ℕ, coded_bool, coded_list}
use Rattle.position_core.specs.declared.block.Block.{Block}
use Rattle.delivery_machine.specs.Shares.{Shares}

abbrev pub coded_block : Coded Block
coded_block = code_by ((ℕ × ℕ) × ℕ) (coded× (coded× coded_ℕ coded_ℕ) coded_ℕ) (λ b. ((b.from, b.size), b.consumer)) (λ p. record { from = p.0.0; size = p.0.1; consumer = p.1 }) (λ _. refl)

abbrev pub coded_blocks : Coded (List Block)
coded_blocks = coded_list coded_block

abbrev pub coded_shares : Coded Shares
coded_shares = code_by (List Block × Bool) (coded× coded_blocks coded_bool) (λ s. (s.blocks, s.sticky)) (λ p. record { blocks = p.0; sticky = p.1 }) (λ _. refl)
