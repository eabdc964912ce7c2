-- What one end alone can know of a run: what it may send, and what may come to it by what it has sent itself. Histories
-- have the newest first.
use Rattle.std.specs.Prelude.{◌≡◌, ◌⊎◌, ℕ, ◌+◌, ◌≤◌, Bool, true, false, List, [], ◌∷◌, if◌then◌else◌}
use Rattle.std.specs.List.{list_any}
use Rattle.tftp_packet.specs.{Side, Get, Put, End, Client, Server}
use Rattle.law_model.specs.Model.Meanings.{Meaning, NothingAgreed, SomethingAgreed, blksize_of, windowsize_of}
use Rattle.law_model.specs.Model.Blocks.{block_count}
use Rattle.law_model.specs.Model.Machines.{MachinePacket, Req, Oack, Data, Ack, Error, Deed, Sent, Took, History, HasSent, HasTaken, sender_of, receiver_of, MaySend}

abbrev pub is_error : MachinePacket → Bool
is_error (Error code text) = true
is_error _ = false

abbrev pub takes_error : Deed → Bool
takes_error (Took p) = is_error p
takes_error (Sent p) = false

-- What this end did before it first took an ERROR, which is all that the other one can have heard of: by then it had sent
-- all that it ever sends, but that ERROR again (RFC 1350, section 7).
abbrev pub heard : History → History
heard [] = []
heard (d ∷ h) = if list_any takes_error (d ∷ h) then heard h else d ∷ h

-- what this end has sent lets the other one begin with the blocks
abbrev pub LetsStartOn : Side → Meaning → History → Type 0
LetsStartOn Get m h = (NothingAgreed m × HasSent h Req) ⊎ (SomethingAgreed m × HasSent h (Ack 0))
LetsStartOn Put m h = (NothingAgreed m × HasSent h (Ack 0)) ⊎ (SomethingAgreed m × HasSent h Oack)

-- what this end has sent lets the other one send ACK 0
abbrev pub LetsAckZeroOn : Side → Meaning → History → Type 0
LetsAckZeroOn Get m h = SomethingAgreed m × HasSent h Oack
LetsAckZeroOn Put m h = (NothingAgreed m × HasSent h Req) ⊎ (SomethingAgreed m × (k : ℕ) × HasSent h (Data k))

pub record MayComeOack (m : Meaning) (e : End) (h : History) : Type 0 where
  pub client : e ≡ Client
  pub agreed : SomethingAgreed m
  pub asked : HasSent h Req

pub record MayComeData (m : Meaning) (wire : List ℕ) (e : End) (h : History) (k : ℕ) : Type 0 where
  pub receiver : e ≡ receiver_of m.side
  pub from_one : 1 ≤ k
  pub in_wire : k ≤ block_count (blksize_of m) wire
  pub started : LetsStartOn m.side m h
  pub in_window : (a : ℕ) × ((a ≡ 0) ⊎ HasSent h (Ack a)) × (k ≤ a + windowsize_of m)

pub record MayComeAck (m : Meaning) (e : End) (h : History) (j : ℕ) : Type 0 where
  pub sender : e ≡ sender_of m.side
  pub zero : j ≡ 0 → LetsAckZeroOn m.side m h
  pub sent : (k : ℕ) → 1 ≤ k → k ≤ j → HasSent h (Data k)

-- an ERROR comes after the request, and says what the first one that came said
pub record MayComeError (e : End) (h : History) (code : ℕ) (text : List ℕ) : Type 0 where
  pub asked : e ≡ Client → HasSent h Req
  pub same : (c : ℕ) (t : List ℕ) → HasTaken h (Error c t) → (c ≡ code) × (t ≡ text)

-- What comes after an ERROR was sent before it, and so it answers what was done before the ERROR came.
abbrev pub MayCome : Meaning → List ℕ → End → History → MachinePacket → Type 0
MayCome m wire e h Req = e ≡ Server
MayCome m wire e h Oack = MayComeOack m e h
MayCome m wire e h (Data k) = MayComeData m wire e (heard h) k
MayCome m wire e h (Ack j) = MayComeAck m e (heard h) j
MayCome m wire e h (Error code text) = MayComeError e h code text

-- each deed was one that this end might do after those before it
abbrev pub IsOneSided : Meaning → List ℕ → End → History → Type 0
IsOneSided m wire e [] = Unit {0}
IsOneSided m wire e (Sent p ∷ h) = MaySend m wire e h p × IsOneSided m wire e h
IsOneSided m wire e (Took p ∷ h) = MayCome m wire e h p × IsOneSided m wire e h
