-- More of the worked datagrams that break a rule: of ports, of requests and of OACKs.
use Rattle.std.proofs.Common.{◌≡◌, ◌+◌, ◌/◌, ◌<◌, [], ◌∷◌, reverse, Some, None, codes, inl, inr, refl, sym, ap, subst, ◌∙◌, arith, Bool, true, ◌==◌}
use Rattle.std.specs.FinMap as map
use Rattle.std.specs.Cmp.Lexicographic.{nat_list_cmp_total}
use Rattle.tftp_packet.specs.{Num, Message, RequestParts, Get}
use Rattle.law_model.specs.Model.{number_or, request_of, two_bytes, eight_a_block, eight_by_four}
use Rattle.law_model.specs.Rules.{IsFront, BlockPassed, transfer_of}
use Rattle.law_model.specs.{EndRule, PortRule}
use Rattle.law_model.proofs.ModelLemmas.Worked.{four_of_both}
use Rattle.tftp_nego.specs.{Holds, NegoFault}
use Rattle.law_end.specs.{Begins, Agrees, Broken, Rule, IsRefused}
use Rattle.tftp_packet.specs.{Dir, In}
use Rattle.std.proofs.lemmas.Bool.{false≢true}
use Rattle.tests_worked.specs.{at_client, brings_hi, acknowledges_two, read_without_its_ack, by_eight, at_service, comes_from_elsewhere, before_answering, acknowledges_stray, acknowledges_nobody, comes_to_another_port, asks_for_size, too_many_blocks, only_asked, ack_zero, block_zero, before_changed_reply, agrees_to_four, before_taking_offer, agrees_to_eight, before_late_oack, late_oack, sized}
use Rattle.tests_worked.proofs.Spelled.{hi_spelled}
use Rattle.tests_worked.proofs.Payloads.{Spelled, datagrams, oack_spells, data_spells, ack_spells, eight_is}
use Rattle.tests_worked.proofs.Passing.{unanswered_there, answered_there, every_is}
use Rattle.tests_worked.proofs.Kept.{none_below}
use Rattle.tests_worked.proofs.Options.{blksize, tsize, two_answer, not_empty, fine, found}
use Rattle.tests_worked.proofs.Chains.{Start, IsFixed, after, breaks_so, refused_next, refused_end, none_under, known_by, first_oack_keeps, later_oack_keeps, same_again}
use Rattle.tests_worked.proofs.Exchanges.{late_news}
use Rattle.tests_worked.proofs.Bases.{asks_for, eight_and_size, many_is, plain_hi, plain_asked, plain_begun, four_asked, read_by_four, served_by_four, size_asked}

-- ---- a read without options

abbrev pub asked : RequestParts
asked = request_of two_bytes

abbrev pub stray : Spelled
stray = (comes_from_elsewhere, Message.Data 1 (codes "hi"))

abbrev pub astray : Start at_client
astray = after at_client plain_begun (stray ∷ []) refl

pub stray_refused : IsRefused at_client (reverse before_answering) acknowledges_stray (Rule.Port PortRule.BadAnswer)
stray_refused = refused_next at_client astray (acknowledges_stray, Message.Ack 1) (Rule.Port PortRule.BadAnswer) (ack_spells 1 refl) refl (inl refl)

pub nobody_refused : IsRefused at_client (reverse before_answering) acknowledges_nobody (Rule.Port PortRule.Wrong)
nobody_refused = refused_next at_client astray (acknowledges_nobody, Message.Ack 1) (Rule.Port PortRule.Wrong) (ack_spells 1 refl) refl refl

pub foreign_refused : IsRefused at_client (reverse before_answering) comes_to_another_port (Rule.Port PortRule.Foreign)
foreign_refused = refused_next at_client astray (comes_to_another_port, Message.Data 1 (codes "hi")) (Rule.Port PortRule.Foreign) hi_spelled refl refl

pub unasked_refused : IsRefused at_client [] brings_hi Rule.NoRequest
unasked_refused = record {
  lawful = tt;
  broken = ((refl, refl), none_under 4 at_client None [] plain_hi tt hi_spelled refl refl refl);
}

pub kind_refused : IsRefused at_client (reverse only_asked) ack_zero Rule.WrongKind
kind_refused = refused_next at_client plain_asked (ack_zero, Message.Ack 0) Rule.WrongKind (ack_spells 0 refl) refl (breaks_so at_client plain_asked (ack_zero, Message.Ack 0) asked Rule.WrongKind (ack_spells 0 refl) refl refl (inl (refl, tt)))

pub zero_block_refused : IsRefused at_client (reverse only_asked) block_zero (Rule.Block EndRule.BlockZero)
zero_block_refused = refused_end at_client plain_asked (block_zero, Message.Data 0 []) EndRule.BlockZero refl refl

-- ---- an ACK of a block that has not come

abbrev is_first : Dir → Message → Bool
is_first In (Message.Data k bytes) = k == 1
is_first _ _ = true

begun_front : IsFront (transfer_of at_client (datagrams plain_begun.es)) 1
begun_front = record {
  below = λ k low high. let is : 1 ≡ k = omega arith in subst (λ n. BlockPassed In n (transfer_of at_client (datagrams plain_begun.es))) is (codes "hi", inl (refl, hi_spelled));
  next = λ later. false≢true (every_is at_client plain_begun.es is_first In (Message.Data 2 later.0) plain_begun.spelled refl later.1);
}

pub ahead_refused : IsRefused at_client (reverse read_without_its_ack) acknowledges_two (Rule.Block EndRule.AckAhead)
ahead_refused = refused_end at_client plain_begun (acknowledges_two, Message.Ack 2) EndRule.AckAhead refl (1, inr (refl, begun_front), omega arith)

-- ---- OACKs

too_many : Broken at_client (datagrams size_asked.es) too_many_blocks (Rule.Block EndRule.BeyondBlock65535)
too_many =
    let here = oack_spells (sized (codes "524280")) (eight_and_size 524280) refl many_is in
    let unanswered = unanswered_there at_client Get size_asked.es size_asked.spelled refl in
    let wrong : Holds None NegoFault.BeyondBlock65535 (asks_for Get (eight_and_size 0)) (eight_and_size 524280)
    = (524280, refl, found blksize tsize 8 524280 tsize, subst (λ b. 65535 < 524280 / b + 1) (sym (ap (number_or 512) (found blksize tsize 8 524280 blksize))) (omega arith)) in
    breaks_so at_client size_asked (too_many_blocks, Message.Oack (eight_and_size 524280)) (asks_for Get (eight_and_size 0)) (Rule.Block EndRule.BeyondBlock65535) here refl refl (inr (inr (unanswered, wrong)))

pub many_refused : IsRefused at_client (reverse (asks_for_size ∷ [])) too_many_blocks (Rule.Block EndRule.BeyondBlock65535)
many_refused =
    let offer : Spelled = (too_many_blocks, Message.Oack (eight_and_size 524280)) in
    let request : RequestParts = asks_for Get (eight_and_size 0) in
    let here = oack_spells (sized (codes "524280")) (eight_and_size 524280) refl many_is in
    let t = size_asked.known [] in
    let known = known_by at_client size_asked.es size_asked.spelled t refl in
    let keeps = first_oack_keeps at_client size_asked.es offer size_asked.spelled here t known 20 request (eight_and_size 524280) refl refl refl
    (fine None 20 request (eight_and_size 524280) (two_answer request blksize tsize 8 0 8 524280 refl (found blksize tsize 8 0 blksize) (found blksize tsize 8 0 tsize) (inl (refl, omega arith)) (inr (inr (inr (refl, λ put. absurd (cc))))))
    (not_empty (eight_and_size 524280) blksize 8 (found blksize tsize 8 524280 blksize)) (λ low. absurd (omega arith))) in
    record { lawful = size_asked.lawful; broken = (too_many, none_below 20 at_client t size_asked.es offer size_asked.spelled here known keeps refl) }

-- an OACK after a block
abbrev four_hi : Start at_client
four_hi = after at_client four_asked (plain_hi ∷ []) refl

pub reply_refused : IsRefused at_client (reverse before_changed_reply) agrees_to_four Rule.ReplyChanged
reply_refused =
    let offer : Spelled = (agrees_to_four, Message.Oack eight_by_four) in
    let request : RequestParts = asks_for Get eight_by_four in
    let here = read_by_four.spelled.0 in
    let known = known_by at_client four_hi.es four_hi.spelled (four_hi.known []) refl in
    let keeps = later_oack_keeps at_client four_hi.es offer four_hi.spelled here (four_hi.known []) known 10 request Begins (record { request = refl; answered = refl }) (λ low. absurd (omega arith)) in
    record {
      lawful = four_hi.lawful;
      broken = (
        breaks_so at_client four_hi offer request Rule.ReplyChanged here refl refl (inr (inr (answered_there at_client Get four_hi.es Begins four_hi.spelled refl))),
        none_below 10 at_client (four_hi.known []) four_hi.es offer four_hi.spelled here known keeps refl,
      );
    }

-- another OACK
other_options : eight_a_block ≡ eight_by_four → ⊥
other_options e =
    let none = map.get-from_entries nat_list_cmp_total ((codes "blksize", Num 8) ∷ []) (codes "windowsize") in
    let both : None ≡ Some (Num 4) = sym none ∙ ap (λ o. map.get o (codes "windowsize")) e ∙ four_of_both in
    absurd (cc)

pub oack_refused : IsRefused at_client (reverse before_taking_offer) agrees_to_eight Rule.OackChanged
oack_refused =
    let offer : Spelled = (agrees_to_eight, Message.Oack eight_a_block) in
    let request : RequestParts = asks_for Get eight_by_four in
    let b = read_by_four in
    let here = oack_spells by_eight eight_a_block refl eight_is in
    let known = known_by at_client b.es b.spelled (b.known []) (b.knows []) in
    let keeps = later_oack_keeps at_client b.es offer b.spelled here (b.known []) known 16 request (Agrees eight_by_four) (record { request = refl; answered = refl }) (λ low. absurd (omega arith)) in
    record {
      lawful = b.lawful;
      broken = (
        breaks_so at_client b offer request Rule.OackChanged here refl refl (inr (inr (eight_by_four, answered_there at_client Get b.es (Agrees eight_by_four) b.spelled refl, other_options))),
        none_below 16 at_client (b.known []) b.es offer b.spelled here known keeps refl,
      );
    }

-- the OACK again after a block, at the server
abbrev late : Start at_service
late = after at_service served_by_four late_news refl

pub late_refused : IsRefused at_service (reverse before_late_oack) late_oack Rule.OackAfterStart
late_refused =
    let offer : Spelled = (late_oack, Message.Oack eight_by_four) in
    let request : RequestParts = asks_for Get eight_by_four in
    let here = served_by_four.spelled.0 in
    let known = known_by at_service late.es late.spelled (late.known []) (late.knows []) in
    let fixed : IsFixed at_service late.es request (Agrees eight_by_four) = record { request = refl; answered = refl } in
    let keeps = later_oack_keeps at_service late.es offer late.spelled here (late.known []) known 17 request (Agrees eight_by_four) fixed (λ low. same_again at_service late.es offer late.spelled here request eight_by_four fixed refl) in
    record {
      lawful = late.lawful;
      broken = (
        breaks_so at_service late offer request Rule.OackAfterStart here refl refl (inr (inr (refl, refl, (1, codes "11111111", inl (refl, data_spells 1 (codes "11111111") refl))))),
        none_below 17 at_service (late.known []) late.es offer late.spelled here known keeps refl,
      );
    }
