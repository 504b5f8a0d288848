use Rattle.std.proofs.Common.{◌≡◌, Bool, true, nat_eq, codes, sym, ◌∙◌, ap}
use Rattle.std.specs.Prelude.{◌&&◌}
use Rattle.std.specs.List.{starts_with, ends_with}
use Rattle.std.proofs.lemmas.Str.Pattern.{starts_text, ends_text}
use Rattle.endpoint_core.proofs.hosts.is_in_brackets.Goals as goal

pub returns-then-starts_with : goal.returns-then-starts_with
returns-then-starts_with c =
    let host = c.args.host.now in
    let starts : true ≡ starts_with nat_eq host (codes "[") = sym c.if-starts_with.true ∙ starts_text c.starts_with.result (codes "[") host c.starts_with.ensures.cases in
    let ends : c.ends_with.result ≡ ends_with nat_eq host (codes "]") = ends_text c.ends_with.result (codes "]") host c.ends_with.ensures.cases in
    ends ∙ ap (λ (b : Bool). b && ends_with nat_eq host (codes "]")) starts
