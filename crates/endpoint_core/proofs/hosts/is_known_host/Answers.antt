use Rattle.std.proofs.Common.{◌≡◌, ◌+◌, length, take, codes, nat_eq, refl}
use Rattle.std.specs.List.{starts_with}
use Rattle.endpoint_core.specs.Origins.{host_of, is_known_host}
use Rattle.endpoint_core.proofs.Places.{place, cut_at_host}
use Rattle.endpoint_core.proofs.hosts.is_known_host.Goals as goal

pub split_at-requires : goal.split_at-requires
split_at-requires c = c.host_len.ensures.boundary

pub returns : goal.returns
returns c =
    let text = c.args.text.now in
    let front : take (length (host_of text)) text ≡ host_of text = cut_at_host (starts_with nat_eq text (codes "[")) (place 93 text + 1) (place 58 text) text in
    rw (c.are_known.ensures, c.split_at.ensures.front, c.split_at.ensures.back, c.host_len.ensures.value, front) (refl {a = is_known_host c.args.admitted.now text})
