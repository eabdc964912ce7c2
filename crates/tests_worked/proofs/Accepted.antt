-- Worked captures that break no rule, and what they mean by the rules.
use Rattle.std.proofs.Common.{◌≡◌, ℕ, ◌==◌, Bool, true, List, [], ◌∷◌, reverse, Some, codes, inl, inr, refl, subst, arith}
use Rattle.std.proofs.lemmas.Bool.{false≢true}
use Rattle.tftp_packet.specs.{OptionMap, Message, Get}
use Rattle.tftp_packet.specs.{Dir, In}
use Rattle.law_model.specs.Model.{request_of, block as slice, two_bytes}
use Rattle.law_model.specs.Rules.{transfer_of, Passed, HasPassed, IsFront}
use Rattle.law_model.specs.{Plain}
use Rattle.law_end.specs.{Agrees, Begins, plain_terms, OneEnded, IsEnded, Meant}
use Rattle.tests_worked.specs.{at_client, asks_for_a, acknowledges_hi, one_block_read, at_service, window_out_of_order, window_at_server, block_sent_again, window_sent_again}
use Rattle.tests_worked.proofs.Spelled.{request_spelled, hi_spelled, ack_spelled}
use Rattle.tests_worked.proofs.Payloads.{datagrams}
use Rattle.tests_worked.proofs.Passing.{every_is, answered_is, answered_there}
use Rattle.tests_worked.proofs.Chains.{Start, after}
use Rattle.tests_worked.proofs.Exchanges.{six_news, served_news, again_news, window_news}
use Rattle.tests_worked.proofs.Bases.{plain_begun, read_by_four, served_by_four, write_by_eight, write_by_four}

-- ---- with options

pub six_passes : OneEnded at_client (reverse window_out_of_order)
six_passes = (after at_client read_by_four six_news refl).lawful

pub served_passes : OneEnded at_service (reverse window_at_server)
served_passes = (after at_service served_by_four served_news refl).lawful

pub again_passes : OneEnded at_client (reverse block_sent_again)
again_passes = (after at_client write_by_eight again_news refl).lawful

pub window_passes : OneEnded at_client (reverse window_sent_again)
window_passes = (after at_client write_by_four window_news refl).lawful

-- ---- without options

abbrev pub plain : Start at_client
plain = after at_client plain_begun ((acknowledges_hi, Message.Ack 1) ∷ []) refl

pub plain_passes : OneEnded at_client (reverse one_block_read)
plain_passes = plain.lawful

abbrev is_first : Dir → Message → Bool
is_first In (Message.Data k bytes) = k == 1
is_first _ _ = true

hi_came : HasPassed (Message.Data 1 (codes "hi")) (transfer_of at_client (datagrams plain.es))
hi_came = inl (inr (inl (refl, hi_spelled)))

plain_front : IsFront (transfer_of at_client (datagrams plain.es)) 1
plain_front = record {
  below = λ k low high. let is : 1 ≡ k = omega arith in subst (λ n. (bytes : List ℕ) × Passed In (Message.Data n bytes) (transfer_of at_client (datagrams plain.es))) is (codes "hi", inr (inl (refl, hi_spelled)));
  next = λ block_2. false≢true (every_is at_client plain.es is_first In (Message.Data 2 block_2.0) plain.spelled refl block_2.1);
}

plain_ended : IsEnded at_client (reverse one_block_read)
plain_ended = record {
  lawful = plain_passes;
  terms = plain_terms at_client Get Plain;
  known = (request_of two_bytes, (asks_for_a, refl, request_spelled), inr (Begins, answered_there at_client Get plain.es Begins plain.spelled refl, refl));
  last = 1;
  whole = record {
    known = inl (codes "hi", hi_came, omega arith);
    front = λ _. plain_front;
    acknowledged = λ _. inl (refl, ack_spelled);
    was_told = λ sends. absurd (cc);
  };
}

nothing_agreed : (options : OptionMap) → Some Begins ≡ Some (Agrees options) → ⊥
nothing_agreed options e = cc

pub plain_meant : Meant at_client (reverse one_block_read) two_bytes
unfolding plain_ended
plain_meant = record {
  ended = plain_ended;
  asked = (asks_for_a, refl, request_spelled);
  agreed = inr (refl, (λ options first. nothing_agreed options (answered_is at_client Get plain.es (Agrees options) plain.spelled first)));
  wire = codes "hi";
  joined = record {
    count = refl;
    blocks = λ k low high. let is : 1 ≡ k = omega arith in subst (λ n. HasPassed (Message.Data n (slice 512 (codes "hi") n)) (transfer_of at_client (datagrams plain.es))) is hi_came;
  };
  file = refl;
}
