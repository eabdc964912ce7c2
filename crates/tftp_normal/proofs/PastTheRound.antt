-- What a read has about block 65536 and block 131072, computed from the closed forms of the numbers.
use Rattle.std.proofs.Common.{◌≡◌, ℕ, suc, ◌+◌, ◌/◌, ◌%◌, [], ◌∷◌, Some, map as each, ap₂, ◌∙◌, sym}
use Rattle.tftp_packet.specs.{Get, Message, One, Rollover, Zero, canonical}
use Rattle.tftp_packet.specs.Rounds.{first_of, number_of}
use Rattle.tftp_packet.proofs.RoundsLemmas.Turns.{numbers_by_one, numbers_by_zero}
use Rattle.law_model.specs.Model.{Meaning, Data, Ack, blksize_of, block}
use Rattle.law_model.specs.Model.Roles.{sender_of, receiver_of}
use Rattle.law_end.specs.{wire_of}
use Rattle.tftp_normal.specs.{came_as, normal_datagram_by, past_the_round, past_the_round_by_one, past_the_round_by_zero, sent_by}
use Rattle.tftp_normal.specs.Worked.{went}
use Rattle.tftp_normal.proofs.BlocksPut.{ack_datagram, data_datagram}

module _ (r : Rollover) (m : Meaning) (get : m.side ≡ Get) where
  data_is : (k n : ℕ) → number_of (first_of r) k ≡ n → normal_datagram_by (Some r) m (Data k) ≡ came_as m k (n / 256) (n % 256)
  data_is k n is =
      sym (data_datagram (Some r) m k) ∙ ap₂ (λ side number. sent_by (sender_of side) (canonical (Message.Data number (block (blksize_of m) (wire_of m) k)))) get is

  ack_is : (j n : ℕ) → number_of (first_of r) j ≡ n → normal_datagram_by (Some r) m (Ack j) ≡ went (0 ∷ 4 ∷ n / 256 ∷ n % 256 ∷ [])
  ack_is j n is = sym (ack_datagram (Some r) m j) ∙ ap₂ (λ side number. sent_by (receiver_of side) (canonical (Message.Ack number))) get is

pub by_zero : (m : Meaning) → m.side ≡ Get → each (normal_datagram_by (Some Zero) m) past_the_round ≡ past_the_round_by_zero m
by_zero m get =
    let block_row : (k : ℕ) → normal_datagram_by (Some Zero) m (Data k) ≡ came_as m k ((k % 65536) / 256) ((k % 65536) % 256) = λ k. data_is Zero m get k (k % 65536) (numbers_by_zero k) in
    let ack_row : (j : ℕ) → normal_datagram_by (Some Zero) m (Ack j) ≡ went (0 ∷ 4 ∷ (j % 65536) / 256 ∷ (j % 65536) % 256 ∷ []) = λ j. ack_is Zero m get j (j % 65536) (numbers_by_zero j) in
    λ i. block_row 65536 i ∷ ack_row 65536 i ∷ block_row 65537 i ∷ block_row 131071 i ∷ block_row 131072 i ∷ ack_row 131072 i ∷ []

-- block k + 1
pub by_one : (m : Meaning) → m.side ≡ Get → each (normal_datagram_by (Some One) m) past_the_round ≡ past_the_round_by_one m
by_one m get =
    let block_row : (k : ℕ) → normal_datagram_by (Some One) m (Data (suc k)) ≡ came_as m (suc k) ((k % 65535 + 1) / 256) ((k % 65535 + 1) % 256) = λ k. data_is One m get (suc k) (k % 65535 + 1) (numbers_by_one k) in
    let ack_row : (k : ℕ) → normal_datagram_by (Some One) m (Ack (suc k)) ≡ went (0 ∷ 4 ∷ (k % 65535 + 1) / 256 ∷ (k % 65535 + 1) % 256 ∷ []) = λ k. ack_is One m get (suc k) (k % 65535 + 1) (numbers_by_one k) in
    λ i. block_row 65535 i ∷ ack_row 65535 i ∷ block_row 65536 i ∷ block_row 131070 i ∷ block_row 131071 i ∷ ack_row 131071 i ∷ []
