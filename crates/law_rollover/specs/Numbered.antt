-- Captures whose blocks and ACKs have numbers that begin again (RFC 1350, section 5).
use Rattle.std.specs.Prelude.{◌≡◌, ℕ, ◌<◌, List, reverse}
use Rattle.std.specs.List.{AllByRecursion}
use Rattle.tftp_packet.specs.{Message, Spells}
use Rattle.tftp_packet.specs.Hosts.{Datagram, Header}
use Rattle.law_model.specs.Model.{Meaning, History, IsView, IsComplete, message_of}
use Rattle.law_end.specs.{Division, Fits, HaveLabelsBy, Saying, TransferIds, datagrams_of, view_in}
use Rattle.tftp_packet.specs.{Rollover}
use Rattle.tftp_packet.specs.Rounds.{first_of, number_of}
use Rattle.law_rollover.specs.Histories.{AreNear}

-- the message with the number of its block
abbrev pub by_number : Rollover → Message → Message
by_number r (Message.Request asked) = Message.Request asked
by_number r (Message.Oack options) = Message.Oack options
by_number r (Message.Data k bytes) = Message.Data (number_of (first_of r) k) bytes
by_number r (Message.Ack j) = Message.Ack (number_of (first_of r) j)
by_number r (Message.Error code text) = Message.Error code text

-- as this meaning and wire say it, by numbers
abbrev pub says_by_number : Rollover → Meaning → List ℕ → Saying
says_by_number r m wire p payload = Spells payload (by_number r (message_of m wire p))

-- each payload is bytes
abbrev pub AreBytes : List Datagram → Type 0
AreBytes datagrams = AllByRecursion (λ (d : Datagram). AllByRecursion (λ b. b < 256) d.payload) datagrams

-- The datagrams, the oldest first, can be divided so that the main ones are the view, by numbers.
pub record IsDressedByNumber (r : Rollover) (header : Header) (m : Meaning) (wire : List ℕ) (view : History) (datagrams : List Datagram) : Type 0 where
  pub ids : TransferIds
  pub division : Division
  pub whole : datagrams_of division ≡ reverse datagrams
  pub main : view_in division ≡ view
  pub labels : HaveLabelsBy header (says_by_number r m wire) ids division

-- Some run of the meaning, over this wire, is seen so at the named end, as far as the capture goes, and no block and no ACK far
-- from the highest block there.
pub record IsSeenByNumber (r : Rollover) (header : Header) (m : Meaning) (wire : List ℕ) (datagrams : List Datagram) : Type 0 where
  pub fits : Fits header.rollover m wire
  pub view : History
  pub run : IsView m wire header.named view
  pub near : AreNear r view
  pub dressed : IsDressedByNumber r header m wire view datagrams

-- some run shows what the capture has
abbrev pub IsLawfulByNumber : Rollover → Header → List Datagram → Type 0
IsLawfulByNumber r header datagrams = (m : Meaning) × (wire : List ℕ) × IsSeenByNumber r header m wire datagrams

-- and it is whole at the named end
pub record ShowsByNumber (r : Rollover) (header : Header) (m : Meaning) (wire : List ℕ) (datagrams : List Datagram) : Type 0 where
  pub seen : IsSeenByNumber r header m wire datagrams
  pub complete : IsComplete m wire header.named seen.view
