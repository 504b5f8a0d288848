-- Which connections of an address are counted, and as whose.
use Rattle.std.specs.Prelude.{◌≡◌, ℕ, [], ◌∷◌, ◌++◌, take, Option, Some, None, IsSome, Result, Ok, IfOk}
use Rattle.std.specs.Net.Addr.{IsCanonicalOf, IsLoopbackV4, IsLoopbackV6, IsV6And, MatchIp, ipv6_segments}
use Rattle.std.specs.declared.net.ip_addr.IpAddr.{IpAddr}
use Rattle.worker_loops.specs.declared.addresses.Visit.{Visit}
use Rattle.worker_loops.specs.declared.troubles.Trouble.{Trouble}

-- the machine's own
abbrev pub IsOwn : IpAddr → Type 0
IsOwn address = MatchIp address IsLoopbackV4 IsLoopbackV6

-- the address without the form that IPv6 gives to one of IPv4
abbrev pub IsPlainOf : IpAddr → IpAddr → Type 0
IsPlainOf address plain = MatchIp address (λ _. plain ≡ address) (λ ip. IsCanonicalOf ip plain)

-- one of IPv4 is counted as itself, and one of IPv6 as its network: the first four of its eight segments
abbrev pub IsCountedAs : IpAddr → IpAddr → Type 0
IsCountedAs address counted =
    MatchIp address (λ _. counted ≡ address)
    (λ ip. IsV6And counted (λ network. ipv6_segments network ≡ take 4 (ipv6_segments ip) ++ (0 ∷ 0 ∷ 0 ∷ 0 ∷ [])))

-- the machine's own is not counted
abbrev pub IsCounted : (plain : IpAddr) → Option IpAddr → Type 0
IsCounted plain None = IsOwn plain
IsCounted plain (Some counted) = ¬ (IsOwn plain) × IsCountedAs plain counted

-- whether a connection that may come is counted: where there is a limit, and it is not the machine's own
abbrev pub Comes : Option ℕ → IpAddr → Result (Option Visit) Trouble → Type 0
Comes None plain result = result ≡ Ok None
Comes (Some most) plain result = (IsOwn plain → result ≡ Ok None) × (¬ (IsOwn plain) → IfOk result IsSome)
