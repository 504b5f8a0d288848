use Rattle.std.proofs.Common.{◌≡◌, ℕ, List, refl, ap, ◌∙◌, ◌%◌, ◌^◌}
use Rattle.std.specs.Prelude.{Option, Some, None, unwrap_or}
use Rattle.std.specs.Option.{option_copied}
use Rattle.std.specs.Borrow.{Bor}
use Rattle.murmur_core.specs.Murmur.{murmur3}
use Rattle.murmur_core.specs.Sticky.{sticky_hash}
use Rattle.murmur_core.proofs.sticky.sticky_hash.Goals as goal

now-unwrap_or : (key : Option (Bor (List ℕ))) (other : Bor (List ℕ)) → (unwrap_or key other).now ≡ unwrap_or (option_copied key) other.now
now-unwrap_or None other = refl
now-unwrap_or (Some text) other = refl

pub returns : goal.returns
unfolding sticky_hash
returns c =
    let bytes = c.as_bytes-bytes.ensures.value ∙ ap (λ r. r.now) c.unwrap_or.ensures ∙ now-unwrap_or c.args.key _ in
    ap (λ n. n % 2 ^ 16) (c.murmur3_32.ensures ∙ ap (λ bs. murmur3 bs 0) bytes)
