-- Runs of the two ends over a network that loses, repeats and reorders (RFC 1350, section 2). Steps and histories
-- have the newest first.
use Rattle.std.specs.Prelude.{◌≡◌, ℕ, ◌≤◌, List, [], ◌∷◌, filter_map, Option, Some, None}
use Rattle.tftp_packet.specs.{End, Client, Server}
use Rattle.law_model.specs.Model.Meanings.{Meaning, blksize_of}
use Rattle.law_model.specs.Model.Blocks.{block_count}
use Rattle.law_model.specs.Model.Machines.{Deed, Sent, Took, MachinePacket, Data, Ack, History, HasSent, HasTaken, other_end, sender_of, receiver_of, MaySend}

pub record Step : Type 0 where
  pub actor : End
  pub deed : Deed

-- the deed, where it is that end's
abbrev pub deed_of : End → Step → Option Deed
deed_of e s = by e s.actor where
  by : End → End → Option Deed
  by Client Client = Some s.deed
  by Client Server = None
  by Server Client = None
  by Server Server = Some s.deed

-- all that an end did in these steps
abbrev pub view_of : End → List Step → History
view_of e steps = filter_map (deed_of e) steps

-- An end sends what it may after what it did before. It takes what the other end has sent before: never, once or
-- again, and in any order.
abbrev pub MayFollow : Meaning → List ℕ → List Step → End → Deed → Type 0
MayFollow m wire earlier e (Sent p) = MaySend m wire e (view_of e earlier) p
MayFollow m wire earlier e (Took p) = HasSent (view_of (other_end e) earlier) p

abbrev pub IsRun : Meaning → List ℕ → List Step → Type 0
IsRun m wire [] = Unit {0}
IsRun m wire (s ∷ earlier) = MayFollow m wire earlier s.actor s.deed × IsRun m wire earlier

-- so it is in each run of any transfer
abbrev pub InEachRun : (Meaning → List ℕ → List Step → Type 0) → Type 0
InEachRun P = (m : Meaning) (wire : List ℕ) (steps : List Step) → IsRun m wire steps → P m wire steps

-- what the end that has the file did in these steps, and the end that gets it
abbrev pub SenderSent : Meaning → List Step → MachinePacket → Type 0
SenderSent m steps p = HasSent (view_of (sender_of m.side) steps) p

abbrev pub SenderTook : Meaning → List Step → MachinePacket → Type 0
SenderTook m steps p = HasTaken (view_of (sender_of m.side) steps) p

abbrev pub ReceiverSent : Meaning → List Step → MachinePacket → Type 0
ReceiverSent m steps p = HasSent (view_of (receiver_of m.side) steps) p

abbrev pub ReceiverTook : Meaning → List Step → MachinePacket → Type 0
ReceiverTook m steps p = HasTaken (view_of (receiver_of m.side) steps) p

-- the history is what that end did in some run
abbrev pub IsView : Meaning → List ℕ → End → History → Type 0
IsView m wire e h = (steps : List Step) × IsRun m wire steps × (view_of e steps ≡ h)

-- The receiver took each block and has acknowledged the last one; the sender has that ACK (RFC 1350, section 6).
pub record IsComplete (m : Meaning) (wire : List ℕ) (e : End) (h : History) : Type 0 where
  pub took : e ≡ receiver_of m.side → (k : ℕ) → 1 ≤ k → k ≤ block_count (blksize_of m) wire → HasTaken h (Data k)
  pub acknowledged : e ≡ receiver_of m.side → HasSent h (Ack (block_count (blksize_of m) wire))
  pub was_told : e ≡ sender_of m.side → HasTaken h (Ack (block_count (blksize_of m) wire))
