-- Several datagrams that were recorded as one: a host may hand those of one burst to its network card as one, and a network card those that it
-- receives to its host. No checksum is made of them yet.
use Rattle.std.specs.Prelude.{ℕ, ◌+◌, ◌%◌, ◌&&◌, ◌||◌, nat_le, Bool, true, false, List, [], ◌∷◌, ◌++◌, drop, is_some, length, take}
use Rattle.byteorder.specs.Endian.{big_bytes, big_number}
use Rattle.memchr.specs.Find.{first_of, matches}
use Rattle.net_udp.specs.declared.frames.checksum.Checksum.{Checksum}
use Rattle.net_udp.specs.declared.frames.checksum.Checksum.TheVariants.{Absent, Partial, Right, Wrong}

-- the checksum was left to be made
abbrev pub is_left : Checksum → Bool
is_left Absent = false
is_left Right = false
is_left Partial = true
is_left Wrong = false

-- these bytes stand somewhere among those
abbrev pub are_among : List ℕ → List ℕ → Bool
are_among some bytes = is_some (first_of (matches bytes some 0))

-- how a packet begins: its opcode, and the two bytes behind it, which of a block or an ACK are its number (RFC 1350, section 5)
abbrev pub head_of : List ℕ → List ℕ
head_of payload = take 4 payload

-- the same with the next number
abbrev pub next_head : List ℕ → List ℕ
next_head payload = take 2 payload ++ big_bytes 2 ((big_number 2 (drop 2 payload) + 1) % 65536)

-- It may be several packets: behind its head it begins again, as the same packet or as the one with the next number.
abbrev pub may_be_several : List ℕ → Bool
may_be_several payload = nat_le 4 (length payload) && (are_among (head_of payload) (drop 4 payload) || are_among (next_head payload) (drop 4 payload))

-- It may be several datagrams that were recorded as one.
abbrev pub is_joined : Checksum → List ℕ → Bool
is_joined checksum payload = is_left checksum && may_be_several payload

-- ---- worked

-- block 1 of two bytes, and block 2 or block 1 once more behind it; a block with 0, 3, 0 and 3 in it, but no next number; and an ACK twice
abbrev pub worked_next : List ℕ
worked_next = 0 ∷ 3 ∷ 0 ∷ 1 ∷ 8 ∷ 9 ∷ 0 ∷ 3 ∷ 0 ∷ 2 ∷ 7 ∷ []

abbrev pub worked_again : List ℕ
worked_again = 0 ∷ 3 ∷ 0 ∷ 1 ∷ 8 ∷ 9 ∷ 0 ∷ 3 ∷ 0 ∷ 1 ∷ 8 ∷ 9 ∷ []

abbrev pub worked_one : List ℕ
worked_one = 0 ∷ 3 ∷ 0 ∷ 1 ∷ 0 ∷ 3 ∷ 0 ∷ 3 ∷ []

abbrev pub worked_acks : List ℕ
worked_acks = 0 ∷ 4 ∷ 255 ∷ 255 ∷ 0 ∷ 4 ∷ 0 ∷ 0 ∷ []
