-- Two captures of one transfer, taken at its two ends. Their ports and hosts need not agree: there may be a translation
-- of addresses between them.
use Rattle.std.specs.Prelude.{◌≡◌, ℕ, List, reverse}
use Rattle.tftp_packet.specs.{Client, Server}
use Rattle.law_model.specs.Model.{Meaning, History}
use Rattle.law_end.specs.{Fits, IsDressed, view_in, Accords, Divides, OneEnded}
use Rattle.law_pair.specs.Pair.{ArePair, AreMerged}
use Rattle.tftp_packet.specs.Hosts.{Datagram, Header}

-- What was captured at one end: its header, which names the end, and its datagrams, the oldest first.
pub record Capture : Type 0 where
  pub header : Header
  pub datagrams : List Datagram

-- One run of the meaning, over this wire, is seen so at both ends, as far as the captures go. After block 65535 the same comes at
-- both.
pub record AreSeenTogether (m : Meaning) (wire : List ℕ) (client server : Capture) : Type 0 where
  pub at_client : client.header.named ≡ Client
  pub at_server : server.header.named ≡ Server
  pub same : client.header.rollover ≡ server.header.rollover
  pub fits : Fits client.header.rollover m wire
  pub client_view : History
  pub server_view : History
  pub pair : ArePair m wire client_view server_view
  pub client_dressed : IsDressed client.header m wire client_view client.datagrams
  pub server_dressed : IsDressed server.header m wire server_view server.datagrams

-- some run has what both captures have
abbrev pub AreConsistent : Capture → Capture → Type 0
AreConsistent client server = (m : Meaning) × (wire : List ℕ) × AreSeenTogether m wire client server

-- The same by the rules: each capture breaks none, one meaning and one wire are in accord with both, and what they divide
-- into is merged. A capture that breaks no rule divides, and in one way.
pub record AreConsistentByRules (client server : Capture) (a : Divides client.header (reverse client.datagrams)) (b : Divides server.header (reverse server.datagrams)) : Type 0 where
  pub at_client : client.header.named ≡ Client
  pub at_server : server.header.named ≡ Server
  pub same : client.header.rollover ≡ server.header.rollover
  pub client_lawful : OneEnded client.header (reverse client.datagrams)
  pub server_lawful : OneEnded server.header (reverse server.datagrams)
  pub meaning : Meaning
  pub wire : List ℕ
  pub client_accords : Accords client.header meaning wire (reverse client.datagrams)
  pub server_accords : Accords server.header meaning wire (reverse server.datagrams)
  pub merged : AreMerged (view_in a.division) (view_in b.division)
