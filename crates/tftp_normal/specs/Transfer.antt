-- A transfer that is to be written, by its parts in memory, and the DATA of its wire in turn (RFC 1350, section 2).
use Rattle.std.specs.Prelude.{◌≡◌, ℕ, ◌≤◌, List, length, take, Option, Some, None, option_map}
use Rattle.law_model.specs.Model.{Meaning}
use Rattle.law_end.specs.{meaning_from, blocks_of, CanBeNumbered}
use Rattle.tftp_judge.specs.{file_in, IsCanonical}
use Rattle.tftp_normal.specs.declared.transfer.Transfer.TheInside as transfer
use Rattle.tftp_normal.specs.declared.data_packets.DataPackets.TheInside as packets

abbrev pub meaning_in : transfer.Inside → Meaning
meaning_in t = meaning_from (t.request.now, (t.agreed.now, file_in t.request.now.mode t.file.now))

-- It can be written, whether numbers begin again or not, and has so many blocks; a wire is kept only where it is the one that is
-- written.
pub record IsToBeWritten (t : transfer.Inside) : Type 0 where
  pub can : CanBeNumbered (meaning_in t)
  pub counted : t.blocks ≡ blocks_of (meaning_in t)
  pub canonical : IsCanonical t.request.now.mode t.file.now

-- what contracts see of the DATA in turn: what is left of the wire, the size of a block, and the two parts of the packet
-- that it went to last
pub record DataState : Type 0 where
  pub left : List ℕ
  pub size : ℕ
  pub head : List ℕ
  pub block : List ℕ

-- a block lies in the file, or else at the front of the buffer
abbrev pub block_or : Option (List ℕ) → List ℕ → List ℕ
block_or (Some block) buffered = block
block_or None buffered = buffered

abbrev pub block_of : packets.Inside → List ℕ
block_of p = block_or (option_map (λ b. b.now) p.in_file) (take p.len p.buffer.items)

abbrev pub state_of : packets.Inside → DataState
state_of p = record { left = p.blocks; size = length p.buffer.items; head = p.head; block = block_of p }

-- a block goes into a datagram, with the opcode and its number
pub record HasRoom (p : packets.Inside) : Type 0 where
  pub short : length p.buffer.items ≤ 65464
  pub within : p.len ≤ length p.buffer.items
  pub few : length (block_of p) ≤ 65464
  pub head : length p.head ≡ 4
