-- What an end keeps of a transfer whose request has been answered, and for which datagrams that stands. The list `passed`
-- has the datagrams of the transfer that have passed at this end, the newest first.
use Rattle.std.specs.Prelude.{◌≡◌, ◌↔◌, ◌⊎◌, ℕ, ◌+◌, ◌/◌, ◌%◌, ◌≤◌, Bool, true, List, Some, None}
use Rattle.std.specs.List.{list_any}
use Rattle.std.specs.FinMap as map
use Rattle.tftp_packet.specs.{Message, Request, Data, Ack, Error, Oack, Spells}
use Rattle.tftp_packet.specs.Hosts.{Datagram}
use Rattle.tftp_packet.specs.{Dir, In, Out}
use Rattle.law_model.specs.Model.Roles.{sender_of, receiver_of}
use Rattle.law_model.specs.Rules.{author_of, Passed, HasPassed, brings_error, usable, IsTop, IsAnswered, IsAcked, IsFront, IsLast}
use Rattle.law_model.specs.{Reply, Terms}
use Rattle.tftp_ends.specs.Blocks.{Held}

-- an ERROR of the other end has come in
abbrev pub has_stopped : List Datagram → Bool
has_stopped passed = list_any brings_error passed

-- these blocks have passed, and no others
abbrev pub AreBlocks : List Datagram → Held → Type 0
AreBlocks passed held = (k : ℕ) (bytes : List ℕ) → HasPassed (Data k bytes) passed ↔ (map.get held k ≡ Some bytes)

-- ---- the sender

-- what it keeps
pub record Sender : Type 0 where
  pub terms : Terms
  pub held : Held  -- the blocks that went out
  pub answered : ℕ  -- the highest ACK that came in
  pub zero : Bool  -- an ACK 0 came in
  pub usable_top : ℕ  -- the highest block that went out before an ERROR came in
  pub stopped : Bool  -- an ERROR came in

-- The sender stands for these datagrams.
pub record IsSenderAfter (s : Sender) (passed : List Datagram) : Type 0 where
  pub blocks : AreBlocks passed s.held
  pub sends_blocks : (k : ℕ) (bytes : List ℕ) → Passed In (Data k bytes) passed → ⊥
  pub takes_acks : (j : ℕ) → Passed Out (Ack j) passed → ⊥
  pub answered : IsAnswered passed s.answered
  pub zero : (s.zero ≡ true) ↔ HasPassed (Ack 0) (usable passed)
  pub usable_top : IsTop (usable passed) s.usable_top
  pub stopped : has_stopped passed ≡ s.stopped

-- the same, when an ERROR comes in
abbrev pub stopped_sender : Sender → Sender
stopped_sender s = record { terms = s.terms; held = s.held; answered = s.answered; zero = s.zero; usable_top = s.usable_top; stopped = true }

-- ---- the receiver

-- what it keeps
pub record Receiver : Type 0 where
  pub terms : Terms
  pub held : Held  -- the blocks that came in
  pub acked : ℕ  -- the highest ACK that went out
  pub usable_acked : ℕ  -- the highest ACK that went out before an ERROR came in
  pub zero : Bool  -- an ACK 0 went out before an ERROR came in
  pub stopped : Bool  -- an ERROR came in

-- The receiver stands for these datagrams.
pub record IsReceiverAfter (r : Receiver) (passed : List Datagram) : Type 0 where
  pub blocks : AreBlocks passed r.held
  pub takes_blocks : (k : ℕ) (bytes : List ℕ) → Passed Out (Data k bytes) passed → ⊥
  pub sends_acks : (j : ℕ) → Passed In (Ack j) passed → ⊥
  pub acked : IsAcked passed r.acked
  pub usable_acked : IsAcked (usable passed) r.usable_acked
  pub zero : (r.zero ≡ true) ↔ HasPassed (Ack 0) (usable passed)
  pub stopped : has_stopped passed ≡ r.stopped

-- the same, when an ERROR comes in
abbrev pub stopped_receiver : Receiver → Receiver
stopped_receiver r = record { terms = r.terms; held = r.held; acked = r.acked; usable_acked = r.usable_acked; zero = r.zero; stopped = true }

-- ---- before the reply

-- the same terms, with this reply
abbrev pub replied : Reply → Terms → Terms
replied reply t = record { named = t.named; side = t.side; reply = reply; blksize = t.blksize; windowsize = t.windowsize; greatest = t.greatest; size = t.size }

-- ---- what passes

-- no block and no ACK has passed
pub record IsBeforeBlocks (passed : List Datagram) : Type 0 where
  pub no_block : (k : ℕ) (bytes : List ℕ) → HasPassed (Data k bytes) passed → ⊥
  pub no_ack : (j : ℕ) → HasPassed (Ack j) passed → ⊥

-- requests, what a server agrees to, and this end's own ERROR
abbrev pub IsAside : Dir → Message → Type 0
IsAside dir (Request parts) = Unit {0}
IsAside dir (Oack options) = Unit {0}
IsAside dir (Error code text) = dir ≡ Out
IsAside dir _ = ⊥

-- a datagram that goes this way and spells this
abbrev pub Says : Datagram → Dir → Message → Type 0
Says d dir m = (d.dir ≡ dir) × Spells d.payload m

-- A message that goes this way is sent by the end that has such: blocks by the sender, ACKs by the receiver (RFC 1350,
-- section 2).
abbrev pub IsOfItsAuthor : Terms → Dir → Message → Type 0
IsOfItsAuthor t dir (Data k bytes) = author_of t.named dir ≡ sender_of t.side
IsOfItsAuthor t dir (Ack j) = author_of t.named dir ≡ receiver_of t.side
IsOfItsAuthor t dir _ = Unit {0}

-- a block or an acknowledgement
abbrev pub IsBlockOrAck : Message → Type 0
IsBlockOrAck (Data k bytes) = Unit {0}
IsBlockOrAck (Ack j) = Unit {0}
IsBlockOrAck _ = ⊥

-- a block that is not held
abbrev pub IsNewBlock : Held → Message → Type 0
IsNewBlock held (Data k bytes) = map.get held k ≡ None
IsNewBlock held _ = ⊥

-- the last block is known, and its ACK has come (RFC 1350, section 6)
abbrev pub IsAllAnswered : Terms → List Datagram → Type 0
IsAllAnswered t passed = (last : ℕ) × IsLast t passed last × Passed In (Ack last) passed

-- the last block is known, all blocks up to it have come, and its ACK was sent (RFC 1350, section 6)
abbrev pub IsAllTaken : Terms → List Datagram → Type 0
IsAllTaken t passed = (last : ℕ) × IsLast t passed last × IsFront passed last × Passed Out (Ack last) passed

-- ---- blocks

-- the length that block k has in a wire of this size (RFC 1350, section 2; RFC 2349)
abbrev pub HasLengthBySize : ℕ → ℕ → ℕ → ℕ → Type 0
HasLengthBySize b size k long = ((k ≤ size / b) × (long ≡ b)) ⊎ ((k ≡ size / b + 1) × (long ≡ size % b))

-- the block is held
abbrev pub IsHeld : Held → ℕ → Type 0
IsHeld held k = (bytes : List ℕ) × (map.get held k ≡ Some bytes)
