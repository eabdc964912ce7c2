-- How far two captures go together, counted in their datagrams, strays and what answers them too.
use Rattle.std.specs.Prelude.{◌≡◌, ℕ, ◌<◌, ◌≤◌, true, List, length, take, reverse, slice_index_or}
use Rattle.law_model.specs.Rules.{route_of, is_of_transfer}
use Rattle.tftp_packet.specs.Hosts.{Datagram}
use Rattle.law_pair.specs.Captures.{Capture}
use Rattle.law_pair.specs.Messages.{IsBrought, AreMergedBy, passed_in}

-- the capture of the first n datagrams
abbrev pub begun : ℕ → Capture → Capture
begun n c = record { header = c.header; datagrams = take n c.datagrams }

-- the datagram after the first n
abbrev pub IsNextIn : Capture → ℕ → Datagram → Type 0
IsNextIn c n d = (n < length c.datagrams) × (slice_index_or c.datagrams n d ≡ d)

-- Where the datagram is one of the transfer, the other end has sent what it says, or it goes out.
abbrev pub IsOpenIn : Capture → ℕ → Datagram → List Datagram → Type 0
IsOpenIn own n d other = is_of_transfer (route_of own.header (reverse (take n own.datagrams)) d) ≡ true → IsBrought other d

-- the first i datagrams of the client's and the first j of the server's can be merged, and no more of either
pub record AreMatchedTo (client server : Capture) (i j : ℕ) : Type 0 where
  pub within_client : i ≤ length client.datagrams
  pub within_server : j ≤ length server.datagrams
  pub merged : AreMergedBy (passed_in (begun i client)) (passed_in (begun j server))
  pub greatest : (x y : ℕ) → x ≤ length client.datagrams → y ≤ length server.datagrams
      → AreMergedBy (passed_in (begun x client)) (passed_in (begun y server)) → (x ≤ i) × (y ≤ j)

-- the capture's next datagram waits for what the other end has not sent among its first j, or there is none
abbrev pub IsShut : Capture → ℕ → Capture → ℕ → Type 0
IsShut own i other j = (d : Datagram) → IsNextIn own i d → IsOpenIn own i d (passed_in (begun j other)) → ⊥
