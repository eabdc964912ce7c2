-- Two captures merged by what their datagrams say, whatever the transfer means (RFC 1350, section 2). Lists have the newest
-- first.
use Rattle.std.specs.Prelude.{◌≡◌, List, reverse}
use Rattle.tftp_packet.specs.{Message, Spells, Client, Server}
use Rattle.tftp_packet.specs.Hosts.{Datagram}
use Rattle.tftp_packet.specs.{In, Out}
use Rattle.law_model.specs.Rules.{transfer_of, Passed}
use Rattle.law_end.specs.{OneEnded}
use Rattle.law_pair.specs.Merged.{HaveOneOrder}
use Rattle.law_pair.specs.Captures.{Capture}

-- What comes in says the same as some datagram that the other end has sent.
abbrev pub IsBrought : List Datagram → Datagram → Type 0
IsBrought other d = d.dir ≡ In → (m : Message) × Spells d.payload m × Passed Out m other

-- the two lists can be put into one order in which nothing came that had not been sent
abbrev pub AreMergedBy : List Datagram → List Datagram → Type 0
AreMergedBy client server = HaveOneOrder IsBrought client server

-- what passed of the transfer, without strays and what answers them
abbrev pub passed_in : Capture → List Datagram
passed_in c = transfer_of c.header (reverse c.datagrams)

-- Each capture breaks no rule, and what passed of the two transfers is merged by what it says.
pub record AreLawfulAndMerged (client server : Capture) : Type 0 where
  pub at_client : client.header.named ≡ Client
  pub at_server : server.header.named ≡ Server
  pub same : client.header.rollover ≡ server.header.rollover
  pub client_lawful : OneEnded client.header (reverse client.datagrams)
  pub server_lawful : OneEnded server.header (reverse server.datagrams)
  pub merged : AreMergedBy (passed_in client) (passed_in server)
