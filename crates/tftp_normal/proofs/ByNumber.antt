-- What a datagram says with the number of its block, and that what is numbered can be written.
use Rattle.std.proofs.Common.{◌≡◌, ℕ, zero, suc, ◌+◌, ◌-◌, ◌/◌, ◌%◌, ◌≤◌, List, Option, Some, None, refl, sym, subst, arith}
use Rattle.tftp_packet.specs.{Message, One, Rollover, Zero, Spells, canonical}
use Rattle.tftp_packet.specs.Rounds.{greatest_of}
use Rattle.tftp_packet.proofs.RoundsLemmas.Positions.{number_is_small}
use Rattle.tftp_packet.proofs.RoundsLemmas.Turns.{numbers_by_one, numbers_by_zero}
use Rattle.law_model.specs.Model.{Meaning, request_of, blksize_of}
use Rattle.law_end.specs.{CanBeNumbered, CanBeWritten, Fits, HasPayload, IsWritable, wire_of}
use Rattle.law_end.proofs.Written.EachOf.{Bytes}
use Rattle.tftp_normal.specs.{message_by, number_by}

-- ---- numbers

pub number_fits : (rollover : Option Rollover) (k : ℕ) → k ≤ greatest_of rollover → number_by rollover k ≤ 65535
number_fits None k low = low
number_fits (Some r) k low = number_is_small r k

-- in closed form
pub number_by_zero : (k : ℕ) → k % 65536 ≡ number_by (Some Zero) k
number_by_zero k = sym (numbers_by_zero k)

pub number_by_one : (k : ℕ) → 1 ≤ k → (k - 1) % 65535 + 1 ≡ number_by (Some One) k
number_by_one zero some = absurd (omega (arith, some))
number_by_one (suc k) some = let e = numbers_by_one k in omega (arith, e)

-- ---- messages

pub data_by : (rollover : Option Rollover) (k : ℕ) (bytes : List ℕ) → message_by rollover (Message.Data k bytes) ≡ Message.Data (number_by rollover k) bytes
data_by None k bytes = refl
data_by (Some r) k bytes = refl

pub ack_by : (rollover : Option Rollover) (j : ℕ) → message_by rollover (Message.Ack j) ≡ Message.Ack (number_by rollover j)
ack_by None j = refl
ack_by (Some r) j = refl

pub request_by : (rollover : Option Rollover) (m : Meaning) → message_by rollover (Message.Request (request_of m)) ≡ Message.Request (request_of m)
request_by None m = refl
request_by (Some r) m = refl

pub oack_by : (rollover : Option Rollover) (m : Meaning) → message_by rollover (Message.Oack m.agreed) ≡ Message.Oack m.agreed
oack_by None m = refl
oack_by (Some r) m = refl

-- ---- payloads

-- what is written for the message spells it
abbrev pub IsSpelled : Message → Type 0
IsSpelled message = Spells (canonical message) message

spelled_data : (n : ℕ) (bytes : List ℕ) → n ≤ 65535 → Bytes bytes → IsSpelled (Message.Data n bytes)
spelled_data n bytes low all = ((omega arith, (omega arith, (omega (arith, low), all))), (n / 256, n % 256, (omega (arith, low), omega arith), refl))

spelled_ack : (n : ℕ) → n ≤ 65535 → IsSpelled (Message.Ack n)
spelled_ack n low = ((omega arith, (omega arith, (omega (arith, low), tt))), (n / 256, n % 256, (omega (arith, low), omega arith), refl))

pub data_spelled : (rollover : Option Rollover) (k : ℕ) (bytes : List ℕ) → k ≤ greatest_of rollover → Bytes bytes
    → IsSpelled (message_by rollover (Message.Data k bytes))
data_spelled rollover k bytes low all = subst IsSpelled (sym (data_by rollover k bytes)) (spelled_data (number_by rollover k) bytes (number_fits rollover k low) all)

pub ack_spelled : (rollover : Option Rollover) (j : ℕ) → j ≤ greatest_of rollover → IsSpelled (message_by rollover (Message.Ack j))
ack_spelled rollover j low = subst IsSpelled (sym (ack_by rollover j)) (spelled_ack (number_by rollover j) (number_fits rollover j low))

pub data_bytes : (rollover : Option Rollover) (k : ℕ) (bytes : List ℕ) → k ≤ greatest_of rollover → Bytes bytes → Bytes (canonical (message_by rollover (Message.Data k bytes)))
data_bytes rollover k bytes low all =
    let small = number_fits rollover k low in
    subst (λ message. Bytes (canonical message)) (sym (data_by rollover k bytes)) (omega arith, (omega arith, (omega (arith, small), (omega arith, all))))

pub ack_bytes : (rollover : Option Rollover) (j : ℕ) → j ≤ greatest_of rollover → Bytes (canonical (message_by rollover (Message.Ack j)))
ack_bytes rollover j low =
    let small = number_fits rollover j low in
    subst (λ message. Bytes (canonical message)) (sym (ack_by rollover j)) (omega arith, (omega arith, (omega (arith, small), (omega arith, tt))))

pub request_bytes : (rollover : Option Rollover) (m : Meaning) → HasPayload (Message.Request (request_of m)) → Bytes (canonical (message_by rollover (Message.Request (request_of m))))
request_bytes rollover m has = subst (λ message. Bytes (canonical message)) (sym (request_by rollover m)) has.0.0

pub oack_bytes : (rollover : Option Rollover) (m : Meaning) → HasPayload (Message.Oack m.agreed) → Bytes (canonical (message_by rollover (Message.Oack m.agreed)))
oack_bytes rollover m has = subst (λ message. Bytes (canonical message)) (sym (oack_by rollover m)) has.0.0

pub request_payload : (rollover : Option Rollover) (m : Meaning) → HasPayload (Message.Request (request_of m)) → HasPayload (message_by rollover (Message.Request (request_of m)))
request_payload rollover m has = subst HasPayload (sym (request_by rollover m)) has

pub oack_payload : (rollover : Option Rollover) (m : Meaning) → HasPayload (Message.Oack m.agreed) → HasPayload (message_by rollover (Message.Oack m.agreed))
oack_payload rollover m has = subst HasPayload (sym (oack_by rollover m)) has

-- ---- what is numbered can be written

-- a size that is agreed is the length of the wire, so its blocks are as many
still_fits : (one other : Option Rollover) (m : Meaning) → CanBeWritten one m → IsWritable other m → Fits other m (wire_of m)
still_fits one other m can few = record {
  may_agree = record {
    asked = can.fits.may_agree.asked;
    size = λ octet size agreed. subst (λ n. n / blksize_of m + 1 ≤ greatest_of other) (can.fits.size octet size agreed) few;
  };
  reads = can.fits.reads;
  size = can.fits.size;
  numbered = few;
}

pub by_rollover : (rollover : Option Rollover) (m : Meaning) → CanBeNumbered m → IsWritable rollover m → CanBeWritten rollover m
by_rollover rollover m (other, can) few = record {
  fits = still_fits other rollover m can few;
  bytes = can.bytes;
  request = can.request;
  oack = can.oack;
  block_size = can.block_size;
  window_size = can.window_size;
}
