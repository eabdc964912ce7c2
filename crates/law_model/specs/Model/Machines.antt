-- What an end may send, by all that it has sent and taken before (RFC 1350, section 2 and sections 4 to 7; RFC 2347;
-- RFC 7440, section 4).
use Rattle.std.specs.Prelude.{◌≡◌, ℕ, ◌+◌, ◌-◌, ◌<◌, ◌≤◌, ◌⊎◌, List, Contains}
use Rattle.tftp_packet.specs.{Message, Side, Get, Put, End, Client, Server}
use Rattle.law_model.specs.Model.Meanings.{Meaning, request_of, NothingAgreed, SomethingAgreed, blksize_of, windowsize_of}
use Rattle.law_model.specs.Model.Blocks.{block, block_count}
pub use Rattle.law_model.specs.Model.Roles.{sender_of, receiver_of, other_end}

-- A packet as its machine knows it: the meaning and the wire give the rest, but what an ERROR says its end chooses.
pub data MachinePacket : Type 0 where
  Req : MachinePacket
  Oack : MachinePacket
  Data : (block : ℕ) → MachinePacket
  Ack : (block : ℕ) → MachinePacket
  Error : (code : ℕ) (text : List ℕ) → MachinePacket

-- what such a packet says (RFC 1350, section 5; RFC 2347)
abbrev pub message_of : Meaning → List ℕ → MachinePacket → Message
message_of m wire Req = Message.Request (request_of m)
message_of m wire Oack = Message.Oack m.agreed
message_of m wire (Data k) = Message.Data k (block (blksize_of m) wire k)
message_of m wire (Ack j) = Message.Ack j
message_of m wire (Error code text) = Message.Error code text

pub data Deed : Type 0 where
  Sent : (packet : MachinePacket) → Deed
  Took : (packet : MachinePacket) → Deed

-- what one end did, the newest first
abbrev pub History : Type 0
History = List Deed

abbrev pub HasSent : History → MachinePacket → Type 0
HasSent h p = Contains h (Sent p)

abbrev pub HasTaken : History → MachinePacket → Type 0
HasTaken h p = Contains h (Took p)

-- An end that has sent an ERROR sends nothing else (RFC 1350, section 7).
abbrev pub NoErrorSent : History → Type 0
NoErrorSent h = (code : ℕ) (text : List ℕ) → HasSent h (Error code text) → ⊥

-- The client may repeat its request until it has sent anything else (RFC 1350, section 4).
pub record MaySendReq (e : End) (h : History) : Type 0 where
  pub client : e ≡ Client
  pub no_error : NoErrorSent h
  pub no_data : (k : ℕ) → HasSent h (Data k) → ⊥
  pub no_ack : (j : ℕ) → HasSent h (Ack j) → ⊥

-- The server answers the request by what it agrees to, on a read before it sends the file (RFC 2347).
pub record MaySendOack (m : Meaning) (e : End) (h : History) : Type 0 where
  pub server : e ≡ Server
  pub no_error : NoErrorSent h
  pub agreed : SomethingAgreed m
  pub asked : HasTaken h Req
  pub no_data : m.side ≡ Get → (k : ℕ) → HasSent h (Data k) → ⊥

-- What allows the first block: the request, or the ACK 0 or OACK that answers (RFC 1350, section 4; RFC 2347).
abbrev pub IsStartedOn : Side → Meaning → History → Type 0
IsStartedOn Get m h = (NothingAgreed m × HasTaken h Req) ⊎ (SomethingAgreed m × HasTaken h (Ack 0))
IsStartedOn Put m h = (NothingAgreed m × HasTaken h (Ack 0)) ⊎ (SomethingAgreed m × HasTaken h Oack)

abbrev pub IsStarted : Meaning → History → Type 0
IsStarted m h = IsStartedOn m.side m h

-- an acknowledged block, or 0 for the start
abbrev pub IsAcknowledged : History → ℕ → Type 0
IsAcknowledged h a = (a ≡ 0) ⊎ HasTaken h (Ack a)

-- The blocks go in order, a window of them after an acknowledged one, and may be repeated (RFC 1350, section 2;
-- RFC 7440, section 4). In lock step the sender never goes back.
pub record MaySendData (m : Meaning) (wire : List ℕ) (e : End) (h : History) (k : ℕ) : Type 0 where
  pub sender : e ≡ sender_of m.side
  pub no_error : NoErrorSent h
  pub from_one : 1 ≤ k
  pub in_wire : k ≤ block_count (blksize_of m) wire
  pub started : IsStarted m h
  pub in_order : (k ≡ 1) ⊎ HasSent h (Data (k - 1))
  pub in_window : (a : ℕ) × IsAcknowledged h a × (a < k) × (k ≤ a + windowsize_of m)
  pub in_step : windowsize_of m ≡ 1 → (higher : ℕ) → HasSent h (Data higher) → higher ≤ k

-- ACK 0 answers the OACK of a read. On a write it answers the request, or, where an OACK did, a block that came
-- (RFC 1350, section 4; RFC 2347).
abbrev pub MayAckZeroOn : Side → Meaning → History → Type 0
MayAckZeroOn Get m h = SomethingAgreed m × HasTaken h Oack
MayAckZeroOn Put m h = (NothingAgreed m × HasTaken h Req) ⊎ (SomethingAgreed m × (k : ℕ) × HasTaken h (Data k))

abbrev pub MayAckZero : Meaning → History → Type 0
MayAckZero m h = MayAckZeroOn m.side m h

-- An ACK says that this block and all before it have come (RFC 1350, section 2; RFC 7440, section 4).
pub record MaySendAck (m : Meaning) (e : End) (h : History) (j : ℕ) : Type 0 where
  pub receiver : e ≡ receiver_of m.side
  pub no_error : NoErrorSent h
  pub zero : j ≡ 0 → MayAckZero m h
  pub taken : (k : ℕ) → 1 ≤ k → k ≤ j → HasTaken h (Data k)

-- An end that knows of the transfer may end it by an ERROR, whatever has come, and may say so again (RFC 1350, sections 2
-- and 7).
pub record MaySendError (e : End) (h : History) (code : ℕ) (text : List ℕ) : Type 0 where
  pub asked : e ≡ Client → HasSent h Req
  pub was_asked : e ≡ Server → HasTaken h Req
  pub same : (c : ℕ) (t : List ℕ) → HasSent h (Error c t) → (c ≡ code) × (t ≡ text)

abbrev pub MaySend : Meaning → List ℕ → End → History → MachinePacket → Type 0
MaySend m wire e h Req = MaySendReq e h
MaySend m wire e h Oack = MaySendOack m e h
MaySend m wire e h (Data k) = MaySendData m wire e h k
MaySend m wire e h (Ack j) = MaySendAck m e h j
MaySend m wire e h (Error code text) = MaySendError e h code text
