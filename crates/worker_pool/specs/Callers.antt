-- Where a client is, and how much the clients of one address may use.
use Rattle.std.specs.Prelude.{◌≡◌, Bool, nat_lt, ◌&&◌, ◌||◌, Option, Some, None}
use Rattle.std.specs.declared.net.ip_addr.IpAddr.{IpAddr}
use Rattle.std.specs.declared.net.socket_addr.SocketAddr.{SocketAddr}
use Rattle.worker_loops.specs.Addresses.{IsOwn}
use Rattle.broker_parts.specs.declared.whence.Whence.{Whence}
use Rattle.broker_parts.specs.declared.whence.Whence.TheVariants.{Peer, Forwarded}
use Rattle.worker_pool.specs.declared.callers.PerAddress.{PerAddress}
use Rattle.worker_pool.specs.declared.callers.Uses.{Uses}

-- a client is where a proxy says, if the proxy is at the machine's own address; else at the other end of its connection
abbrev pub IsPlace : SocketAddr → (plain : IpAddr) → Option IpAddr → Whence → Type 0
IsPlace peer plain None whence = whence ≡ Peer peer
IsPlace peer plain (Some said) whence = (IsOwn plain → whence ≡ Forwarded said) × (¬ (IsOwn plain) → whence ≡ Peer peer)

-- one more session may begin: there are fewer than may be, fewer began in this second, and it needs no topic more than may be used
abbrev pub has_room : PerAddress → Uses → Bool
has_room most uses =
    nat_lt uses.sessions most.sessions && (nat_lt uses.begun most.begun && (uses.are_there || nat_lt uses.topics most.topics))
