-- What is known of the replies of a server and of its clients' connections: `None` stands for what isn't known, as over sockets.
use Rattle.std.specs.Prelude.{◌+◌, ◌-◌, ◌^◌, ℕ, min, List, Option, Some, None}
use Rattle.ip_prefix.specs.declared.Transport.{Transport}
use Rattle.server_io.specs.declared.peer.Peer.{Peer}
use Rattle.server_io.specs.declared.replies.StreamEnd.{StreamEnd}

-- a reply that was sent
pub record PlainReply : Type 0 where
  pub peer : Peer
  pub transport : Transport
  pub bytes : List ℕ

-- a connection that has ended
pub record Ended (S K : Type 0) : Type 0 where
  pub source : S
  pub sink : K
  pub why : StreamEnd

-- how many connections were closed, in 64 bits, and the last of them
pub record Closings (S K : Type 0) : Type 0 where
  pub count : ℕ
  pub last : Option (Ended S K)

-- one more that was closed, where they are known
abbrev pub closed_more : {S K : Type 0} → Option (Closings S K) → Ended S K → Option (Closings S K)
closed_more None ended = None
closed_more (Some closings) ended =
    Some (record { count = min (closings.count + 1) (2 ^ 64 - 1); last = Some ended })
