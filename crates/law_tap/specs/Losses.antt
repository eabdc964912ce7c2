-- What is lawful at an end where the recorder may have missed datagrams: what is left of a lawful list once some of it is left
-- out. Histories and notes have the newest first, datagrams the oldest.
use Rattle.std.specs.Prelude.{◌≡◌, ℕ, ◌+◌, ◌<◌, List, [], ◌∷◌, Option, length, take}
use Rattle.tftp_packet.specs.{Dir, End, Spells}
use Rattle.tftp_packet.specs.Hosts.{Datagram, Header}
use Rattle.tftp_packet.specs.{Rollover}
use Rattle.law_model.specs.Model.{Meaning, Deed, History, IsView, message_of}
use Rattle.law_end.specs.{Fits, IsLawful, dir_of, packet_of}

-- the second list is the first one without some of it, in the same order
pub data Loses (X : Type 0) : List X → List X → Type 0 where
  nothing : Loses X [] []
  kept : (x : X) (all seen : List X) → Loses X all seen → Loses X (x ∷ all) (x ∷ seen)
  lost : (x : X) (all seen : List X) → Loses X all seen → Loses X (x ∷ all) seen

-- the end did this in some run, and perhaps more
pub record IsSeenOf (m : Meaning) (wire : List ℕ) (e : End) (seen : History) : Type 0 where
  pub all : History
  pub view : IsView m wire e all
  pub left : Loses Deed all seen

-- a payload that went out of this end or came in
pub record Noted : Type 0 where
  pub dir : Dir
  pub payload : List ℕ

-- each payload spells what the end did
abbrev pub AreNoted : Meaning → List ℕ → History → List Noted → Type 0
AreNoted m wire [] [] = Unit {0}
AreNoted m wire (d ∷ h) (n ∷ noted) = (n.dir ≡ dir_of d) × Spells n.payload (message_of m wire (packet_of d)) × AreNoted m wire h noted
AreNoted m wire _ _ = ⊥

-- Some run of this meaning, over this wire, has these payloads at the end, and perhaps more.
pub record IsNotedOf (rollover : Option Rollover) (m : Meaning) (wire : List ℕ) (e : End) (noted : List Noted) : Type 0 where
  pub fits : Fits rollover m wire
  pub seen : History
  pub run : IsSeenOf m wire e seen
  pub spelled : AreNoted m wire seen noted

-- Datagrams that were recorded at an end are lawful with losses if some lawful list has them in their order.
pub record IsLawfulWithLosses (header : Header) (datagrams : List Datagram) : Type 0 where
  pub all : List Datagram
  pub lawful : IsLawful header all
  pub left : Loses Datagram all datagrams

-- The list up to and with this datagram is not lawful with losses: whatever is missing, something in it is unlawful.
pub record IsCertain (header : Header) (datagrams : List Datagram) (i : ℕ) : Type 0 where
  pub within : i < length datagrams
  pub unlawful : IsLawfulWithLosses header (take (i + 1) datagrams) → ⊥

-- and the list before it is
pub record IsFirstCertain (header : Header) (datagrams : List Datagram) (i : ℕ) : Type 0 where
  pub certain : IsCertain header datagrams i
  pub lawful : IsLawfulWithLosses header (take i datagrams)
