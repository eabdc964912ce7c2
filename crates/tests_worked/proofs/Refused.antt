-- The worked blocks and acknowledgements that break a rule.
use Rattle.std.proofs.Common.{◌≡◌, ℕ, ◌≤◌, nat_le, Bool, true, false, List, [], ◌∷◌, reverse, codes, inl, inr, refl, arith}
use Rattle.std.proofs.lemmas.Bool.{leb-true, false≢true}
use Rattle.std.proofs.lemmas.Slice.Eq.{bytes_eq-Decides}
use Rattle.tftp_packet.specs.{Message}
use Rattle.tftp_packet.specs.Hosts.{Header}
use Rattle.tftp_packet.specs.{Dir, In, Out}
use Rattle.law_model.specs.Rules.{transfer_of, Passed, HasPassed, IsTop, IsAcked}
use Rattle.law_model.specs.{EndRule}
use Rattle.law_end.specs.{Rule, IsRefused}
use Rattle.tests_worked.specs.{at_client, before_overrun, block_seven, before_skip, block_two, before_going_back, goes_back, before_ack_zero, ack_zero, before_last_number, last_number, before_changed_block, changed_block, before_short_block, short_block, before_taking_offer, block_too_early}
use Rattle.tests_worked.proofs.Payloads.{datagrams, data_spells, ack_spells}
use Rattle.tests_worked.proofs.Passing.{main_of, every, every_is}
use Rattle.tests_worked.proofs.Chains.{Start, after, refused_end}
use Rattle.tests_worked.proofs.Exchanges.{went, came, acks, acked, ones, twos, four_news, back_news, changed_news}
use Rattle.tests_worked.proofs.Bases.{read_by_four, write_by_eight, write_by_two, write_by_four, read_by_most, read_of_ten}

-- the greatest, by computation
abbrev pub ack_up_to : ℕ → Dir → Message → Bool
ack_up_to n Out (Message.Ack j) = nat_le j n
ack_up_to n _ _ = true

abbrev block_up_to : ℕ → Dir → Message → Bool
block_up_to n Out (Message.Data k bytes) = nat_le k n
block_up_to n _ _ = true

most_acked : (h : Header) (b : Start h) (n : ℕ) → every (ack_up_to n) (main_of h b.es) ≡ true → (j : ℕ) → Passed Out (Message.Ack j) (transfer_of h (datagrams b.es)) → j ≤ n
most_acked h b n t j p = leb-true j n (every_is h b.es (ack_up_to n) Out (Message.Ack j) b.spelled t p)

most_sent : (h : Header) (b : Start h) (n : ℕ) → every (block_up_to n) (main_of h b.es) ≡ true → (k : ℕ) (bytes : List ℕ) → Passed Out (Message.Data k bytes) (transfer_of h (datagrams b.es)) → k ≤ n
most_sent h b n t k bytes p = leb-true k n (every_is h b.es (block_up_to n) Out (Message.Data k bytes) b.spelled t p)

-- ---- a block beyond the window

abbrev in_four : Start at_client
in_four = after at_client read_by_four four_news refl

in_four_acked : IsAcked (transfer_of at_client (datagrams in_four.es)) 2
in_four_acked = record { member = inr (inl (refl, ack_spells 2 refl)); most = most_acked at_client in_four 2 refl }

pub overrun_refused : IsRefused at_client (reverse before_overrun) block_seven (Rule.Block EndRule.WindowOverrun)
overrun_refused = refused_end at_client in_four (came 7 (codes "77777777")) EndRule.WindowOverrun refl (2, inr (refl, in_four_acked), omega arith)

-- ---- a block that was sent before a later one, in lock step

abbrev went_back : Start at_client
went_back = after at_client write_by_eight back_news refl

back_top : IsTop (transfer_of at_client (datagrams went_back.es)) 2
back_top = record {
  member = inr (codes "22", inl (refl, data_spells 2 (codes "22") refl));
  most = λ k block. most_sent at_client went_back 2 refl k block.0 block.1;
}

pub back_refused : IsRefused at_client (reverse before_going_back) goes_back (Rule.Block EndRule.GoneBack)
back_refused = refused_end at_client went_back (went 1 ones) EndRule.GoneBack refl (refl, refl, (2, back_top, omega arith))

-- ---- a block that was left out

skip_top : IsTop (transfer_of at_client (datagrams write_by_two.es)) 0
skip_top = record { member = inl refl; most = λ k block. most_sent at_client write_by_two 0 refl k block.0 block.1 }

pub skip_refused : IsRefused at_client (reverse before_skip) block_two (Rule.Block EndRule.BlockSkipped)
skip_refused = refused_end at_client write_by_two (went 2 twos) EndRule.BlockSkipped refl (refl, (0, skip_top, omega arith))

-- ---- ACK 0 before a block

no_block_yet : (k : ℕ) (bytes : List ℕ) → HasPassed (Message.Data k bytes) (transfer_of at_client (datagrams write_by_four.es)) → ⊥
no_block_yet k bytes p = elim p [
  | inl in_it ↦ false≢true (every_is at_client write_by_four.es no_block In (Message.Data k bytes) write_by_four.spelled refl in_it)
  | inr out_of_it ↦ false≢true (every_is at_client write_by_four.es no_block Out (Message.Data k bytes) write_by_four.spelled refl out_of_it)
]
  where
    no_block : Dir → Message → Bool
    no_block dir (Message.Data i b) = false
    no_block dir _ = true

pub zero_refused : IsRefused at_client (reverse before_ack_zero) ack_zero (Rule.Block EndRule.AckZero)
zero_refused = refused_end at_client write_by_four (acked 0) EndRule.AckZero refl (refl, no_block_yet)

-- ---- block 65535, as long as a block

pub last_refused : IsRefused at_client (reverse before_last_number) last_number (Rule.Block EndRule.BeyondBlock65535)
last_refused = refused_end at_client (after at_client read_by_most (acks 0 ∷ []) refl) (last_number, Message.Data 65535 ones) EndRule.BeyondBlock65535 refl (inr (refl, omega arith))

-- ---- ten bytes

other_bytes : ones ≡ codes "11111112" → ⊥
other_bytes e = let is : false ≡ true = (bytes_eq-Decides ones (codes "11111112")).1 e in false≢true is

pub changed_refused : IsRefused at_client (reverse before_changed_block) changed_block (Rule.Block EndRule.BlockChanged)
changed_refused = refused_end at_client (after at_client read_of_ten changed_news refl) (came 1 (codes "11111112")) EndRule.BlockChanged refl (ones, inl (inl (refl, data_spells 1 ones refl)), other_bytes)

pub short_refused : IsRefused at_client (reverse before_short_block) short_block (Rule.Block EndRule.BlockLength)
short_refused = refused_end at_client (after at_client read_of_ten (acks 1 ∷ changed_news) refl) (came 2 (codes "2")) EndRule.BlockLength refl
    (inr (inl (2, inr (10, refl, omega arith), inr (inr (inr (refl, 10, refl, (λ e. omega arith)))))))

-- ---- a block before ACK 0

no_zero_yet : HasPassed (Message.Ack 0) (transfer_of at_client (datagrams read_by_four.es)) → ⊥
no_zero_yet p = elim p [
  | inl in_it ↦ false≢true (every_is at_client read_by_four.es no_ack In (Message.Ack 0) read_by_four.spelled refl in_it)
  | inr out_of_it ↦ false≢true (every_is at_client read_by_four.es no_ack Out (Message.Ack 0) read_by_four.spelled refl out_of_it)
]
  where
    no_ack : Dir → Message → Bool
    no_ack dir (Message.Ack j) = false
    no_ack dir _ = true

pub early_refused : IsRefused at_client (reverse before_taking_offer) block_too_early (Rule.Block EndRule.NotStarted)
early_refused = refused_end at_client read_by_four (came 1 ones) EndRule.NotStarted refl no_zero_yet
