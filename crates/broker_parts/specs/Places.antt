-- Who is at the broker's own machine.
use Rattle.std.specs.Prelude.{◌⊎◌, ◌∷◌, [], Option, Some, None}
use Rattle.std.specs.declared.net.ip_addr.IpAddr.{IpAddr}
use Rattle.std.specs.declared.net.ipv6_addr.Ipv6Addr.{Ipv6Addr}
use Rattle.std.specs.Net.Addr.{HasPrefix, IsIpv4Mapped, IsLoopbackV4, IsLoopbackV6, MatchIp, ipv6_segments, low_octets}
use Rattle.std.specs.Net.Socket.{socket_ip}
use Rattle.broker_parts.specs.declared.whence.Whence.{Whence}
use Rattle.broker_parts.specs.declared.whence.Whence.TheVariants.{Peer, Forwarded}

-- one of 127.0.0.0/8, in the form that IPv6 gives to an address of IPv4
abbrev pub IsMappedLoopback : Ipv6Addr → Type 0
IsMappedLoopback ip = IsIpv4Mapped (ipv6_segments ip) × HasPrefix (low_octets ip) (127 ∷ [])

-- the address is a machine's own, in either form
abbrev pub IsOwn : IpAddr → Type 0
IsOwn address = MatchIp address IsLoopbackV4 (λ ip. IsLoopbackV6 ip ⊎ IsMappedLoopback ip)

-- its connection comes from there
abbrev pub ComesFromHere : Option Whence → Type 0
ComesFromHere None = ⊥
ComesFromHere (Some (Forwarded address)) = ⊥
ComesFromHere (Some (Peer address)) = IsOwn (socket_ip address)
