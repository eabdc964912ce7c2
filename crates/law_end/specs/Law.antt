-- Which captures are lawful, and which show a whole transfer.
use Rattle.std.specs.Prelude.{ℕ, ◌+◌, ◌<◌, List, length, take}
use Rattle.law_model.specs.Model.{Meaning, History, IsView, IsComplete}
use Rattle.tftp_packet.specs.Hosts.{Datagram, Header}
use Rattle.law_end.specs.Fitting.{Fits, IsWritable}
use Rattle.law_end.specs.Dress.{IsDressed}

-- Some run of the meaning, over this wire, is seen so at the named end, as far as the capture goes.
pub record IsSeen (header : Header) (m : Meaning) (wire : List ℕ) (datagrams : List Datagram) : Type 0 where
  pub fits : Fits header.rollover m wire
  pub view : History
  pub run : IsView m wire header.named view
  pub dressed : IsDressed header m wire view datagrams

-- some run has what the capture has
abbrev pub IsLawful : Header → List Datagram → Type 0
IsLawful header datagrams = (m : Meaning) × (wire : List ℕ) × IsSeen header m wire datagrams

-- and it is whole at the named end
pub record ShowsBy (header : Header) (m : Meaning) (wire : List ℕ) (datagrams : List Datagram) : Type 0 where
  pub seen : IsSeen header m wire datagrams
  pub complete : IsComplete m wire header.named seen.view

pub record Shows (header : Header) (m : Meaning) (datagrams : List Datagram) : Type 0 where
  pub writable : IsWritable header.rollover m
  pub wire : List ℕ
  pub shown : ShowsBy header m wire datagrams

-- the first i datagrams are lawful, and with the next one they are not
pub record IsLawfulUpTo (header : Header) (datagrams : List Datagram) (i : ℕ) : Type 0 where
  pub within : i < length datagrams
  pub lawful : IsLawful header (take i datagrams)
  pub unlawful : IsLawful header (take (i + 1) datagrams) → ⊥
