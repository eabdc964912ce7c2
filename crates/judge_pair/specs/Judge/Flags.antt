-- The ACKs that an end has sent. Where numbers begin again after 65535 (RFC 1350, section 5), there is a flag for each block.
use Rattle.std.specs.Prelude.{◌≡◌, ◌<◌, ℕ, Bool, true, List, Option, Some, None, is_some}
use Rattle.tftp_judge.specs.{flags_of}

-- the words of the flags: of all numbers of two bytes, and of all blocks, where there is memory for these
pub record Acks : Type 0 where
  pub numbers : List ℕ
  pub blocks : Option (List ℕ)

abbrev pub flags_by : List ℕ → Option (List ℕ) → ℕ → Bool
flags_by numbers None = flags_of numbers
flags_by numbers (Some blocks) = flags_of blocks

abbrev pub flags_in : Acks → ℕ → Bool
flags_in a = flags_by a.numbers a.blocks

-- There is a flag for the block, where one was read: no block is above 8421375 that is near one of 8388607 or less.
abbrev pub HasRoom : Acks → Option ℕ → Type 0
HasRoom a None = Unit {0}
HasRoom a (Some block) = (is_some a.blocks ≡ true) × (block < 8421376)
