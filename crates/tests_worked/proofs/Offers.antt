-- The worked requests and OACKs that break a rule.
use Rattle.std.proofs.Common.{◌≡◌, ◌≢◌, ℕ, ◌<◌, ◌≤◌, true, List, [], ◌∷◌, length, codes, reverse, Option, Some, None, inl, inr, refl, ap, ◌∙◌, arith}
use Rattle.std.proofs.lemmas.Bool.{false≢true}
use Rattle.std.proofs.lemmas.Slice.Eq.{bytes_eq-Decides}
use Rattle.std.specs.FinMap as map
use Rattle.tftp_packet.specs.{OptionMap, OptionValue, Num, Text, no_options, value_of, is_known_number, is_number, range_of, map_of, Message, RequestParts, Spells, Get, Octet}
use Rattle.tftp_nego.specs.{Holds, NegoFault, AgreementRule, agreement_number, AgreementBroken}
use Rattle.tftp_packet.specs.Hosts.{Datagram}
use Rattle.law_model.specs.Rules.{route_of, is_of_transfer, transfer_of}
use Rattle.law_model.specs.{Terms, NoReply}
use Rattle.law_model.specs.Model.{eight_a_block}
use Rattle.law_model.proofs.ModelLemmas.Worked.{eight_for_blksize}
use Rattle.law_end.specs.{number_of, plain_terms, NotAnswered, OackBreaks, MessageBreaks, Broken, OneEnded, IsRefused, Rule}
use Rattle.law_end.proofs.FirstBroken.OneMessage.{agreement_from, port_to, breaks_by, back}
use Rattle.tests_worked.specs.{at_client, asks_for_a, one_block_read, request, oack, by_eight, only_asked, asks_for_b, agrees_to_none, agrees_unasked, by_multicast, only_multicast_asked, agrees_to_multicast, by_foo, only_foo_asked, agrees_to_foo, only_512_asked, agrees_to_1024}
use Rattle.law_model.proofs.RulesLemmas.EndRules.{from_18}
use Rattle.tests_worked.proofs.Spelled.{request_spelled, ack_spelled}
use Rattle.tests_worked.proofs.Payloads.{Spelled, request_spells, request_for_spells, oack_spells, eight_is}
use Rattle.tests_worked.proofs.Passing.{asked_by, asked_back, asked_there, first_answer, first_asked, main_of, terms_of, unanswered_there}
use Rattle.tests_worked.proofs.RuleTests.{keeps_below}
use Rattle.tests_worked.proofs.Kept.{none_below}
use Rattle.tests_worked.proofs.Chains.{OackFine, first_oack_keeps, known_by, none_under, one_more, breaks_so, refused_next}
use Rattle.tests_worked.proofs.Options.{blksize}
use Rattle.tests_worked.proofs.Bases.{asks_for, plain_asks, plain_asked}
use Rattle.tests_worked.proofs.OneOption.{single, found_single, only_single, not_there, has_some}
use Rattle.tests_worked.proofs.Accepted.{plain}
use Rattle.tests_worked.proofs.RefusedMore.{asked}

-- ---- another request, and a request that comes late

abbrev asked_b : RequestParts
asked_b = record { side = Get; name = codes "b"; mode = Octet; options = no_options }

b_spelled : Spells asks_for_b.payload (Message.Request asked_b)
b_spelled = request_for_spells (codes "b") (codes "octet") Octet Get [] no_options refl refl refl

other_name : asked_b ≢ asked
other_name e = false≢true ((bytes_eq-Decides (codes "b") (codes "a")).1 (ap (λ (r : RequestParts). r.name) e))

pub changed_refused : IsRefused at_client (reverse only_asked) asks_for_b Rule.RequestChanged
changed_refused = refused_next at_client plain_asked (asks_for_b, Message.Request asked_b) Rule.RequestChanged b_spelled refl (breaks_so at_client plain_asked (asks_for_b, Message.Request asked_b) asked Rule.RequestChanged b_spelled refl refl (inr (inr other_name)))

-- it is the first request again
not_changed : Broken at_client (reverse one_block_read) asks_for_a Rule.RequestChanged → ⊥
not_changed b = none_by_kind (breaks_by at_client (reverse one_block_read) asks_for_a (Message.Request asked) asked refl request_spelled (asked_back at_client plain.es asked plain.spelled refl) Rule.RequestChanged b) where
  none_by_kind : MessageBreaks at_client asked (transfer_of at_client (reverse one_block_read)) asks_for_a.dir (Message.Request asked) Rule.RequestChanged → ⊥
  none_by_kind (inl (is, wrong)) = cc
  none_by_kind (inr (inl (is, goes))) = cc
  none_by_kind (inr (inr differs)) = differs refl

below_eight : (rule : Rule) → number_of rule < 8 → Broken at_client (reverse one_block_read) asks_for_a rule → ⊥
below_eight = none_under 8 at_client (plain.known []) plain.es plain_asks plain.spelled request_spelled refl refl refl

none_before_late : (rule : Rule) → number_of rule < 9 → Broken at_client (reverse one_block_read) asks_for_a rule → ⊥
none_before_late Rule.RequestChanged low b = not_changed b
none_before_late (Rule.Agreement broken) low b = omega (arith, low, agreement_from broken)
none_before_late (Rule.Block e) low b = omega (arith, low, from_18 e)
none_before_late (Rule.Port port) low b = below_eight (Rule.Port port) (omega (arith, port_to port)) b
none_before_late rule low b = below_eight rule (omega arith) b

pub late_request_refused : IsRefused at_client (reverse one_block_read) asks_for_a Rule.RequestAfterStart
late_request_refused = record {
  lawful = plain.lawful;
  broken = (
    breaks_so at_client plain plain_asks asked Rule.RequestAfterStart request_spelled refl refl (inr (inr (refl, inr (1, inl (refl, ack_spelled))))),
    none_before_late,
  );
}

-- ---- the first OACK

module _ (dq dr : Datagram) (r : RequestParts) (options : OptionMap) (asks_it : Spells dq.payload (Message.Request r)) (agrees : Spells dr.payload (Message.Oack options)) where
  abbrev es : List Spelled
  es = (dq, Message.Request r) ∷ []

  abbrev e : Spelled
  e = (dr, Message.Oack options)

  abbrev t : Option Terms
  t = Some (plain_terms at_client Get NoReply)

  -- it breaks a rule by a fault of its options, and none before it
  pub offer_refused : (rule : Rule) (fault : NegoFault) → (NotAnswered r.side (transfer_of at_client (dq ∷ [])) × Holds None fault r options → OackBreaks None r (transfer_of at_client (dq ∷ [])) dr.dir options rule) → OneEnded at_client (dq ∷ []) → t ≡ terms_of at_client es
      → asked_by (first_asked at_client es) ≡ Some (Message.Request r) → first_asked at_client es ≡ Some (dq, Message.Request r) → first_answer r.side (main_of at_client es) ≡ None
      → is_of_transfer (route_of at_client (dq ∷ []) dr) ≡ true → keeps_below (number_of rule) at_client t es e ≡ true → Holds None fault r options → OackFine None r options (number_of rule)
      → IsRefused at_client (dq ∷ []) dr rule
  offer_refused rule fault breaks lawful known asked_is first none routed keeps wrong fine = record {
    lawful = lawful;
    broken = (
      back at_client (dq ∷ []) dr (Message.Oack options) r routed agrees (asked_there at_client es (dq, Message.Request r) r first asks_it) rule
          (inr (inr (breaks (unanswered_there at_client r.side es (asks_it, tt) none, wrong)))),
      none_below (number_of rule) at_client t es e (asks_it, tt) agrees (known_by at_client es (asks_it, tt) t known)
          (first_oack_keeps at_client es e (asks_it, tt) agrees t (known_by at_client es (asks_it, tt) t known) (number_of rule) r options asked_is none refl fine) keeps,
    );
  }

-- without an option
nothing_spelled : Spells (oack []) (Message.Oack no_options)
nothing_spelled = oack_spells [] no_options refl refl

pub none_refused : IsRefused at_client (reverse only_asked) agrees_to_none (Rule.Agreement AgreementRule.OackEmpty)
none_refused = offer_refused asks_for_a agrees_to_none asked no_options request_spelled nothing_spelled (Rule.Agreement AgreementRule.OackEmpty) (NegoFault.Broken AgreementRule.OackEmpty) (λ f. f) plain_asked.lawful refl refl refl refl refl refl refl (record {
  agreement = λ broken low. absurd (omega (arith, low, agreement_from broken));
  beyond = λ low. absurd (omega arith);
})

-- with "multicast"
abbrev multicast : OptionMap
multicast = single (codes "multicast") (Text [])

multicast_is : multicast ≡ map_of by_multicast
unfolding value_of is_known_number is_number range_of
multicast_is = refl

multicast_asked : Spells (request 1 by_multicast) (Message.Request (asks_for Get multicast))
multicast_asked = request_spells Get by_multicast multicast refl multicast_is

multicast_agreed : Spells (oack by_multicast) (Message.Oack multicast)
multicast_agreed = oack_spells by_multicast multicast refl multicast_is

multicast_kept : (broken : AgreementRule) → agreement_number broken < 12 → AgreementBroken broken (asks_for Get multicast) multicast → ⊥
multicast_kept AgreementRule.OackEmpty low = has_some multicast (codes "multicast") (Text []) (found_single (codes "multicast") (Text []) (codes "multicast"))
multicast_kept _ low = absurd (omega arith)

pub multicast_refused : IsRefused at_client (reverse only_multicast_asked) agrees_to_multicast (Rule.Agreement AgreementRule.MulticastAgreed)
multicast_refused =
    let there = found_single (codes "multicast") (Text []) (codes "multicast") in
    offer_refused _ agrees_to_multicast (asks_for Get multicast) multicast multicast_asked multicast_agreed (Rule.Agreement AgreementRule.MulticastAgreed) (NegoFault.Broken AgreementRule.MulticastAgreed) (λ f. f)
    (one_more at_client None [] (_, Message.Request (asks_for Get multicast)) tt multicast_asked refl refl refl tt) refl refl refl refl refl refl (Text [], there) (record {
      agreement = multicast_kept;
      beyond = λ low. absurd (omega arith);
    })

-- with an option that was not asked for
eight_agreed : Spells (oack by_eight) (Message.Oack eight_a_block)
eight_agreed = oack_spells by_eight eight_a_block refl eight_is

eight_kept : (broken : AgreementRule) → agreement_number broken < 13 → AgreementBroken broken asked eight_a_block → ⊥
eight_kept AgreementRule.OackEmpty low = has_some eight_a_block blksize (Num 8) eight_for_blksize
eight_kept AgreementRule.MulticastAgreed low = not_there eight_a_block (codes "multicast") (found_single blksize (Num 8) (codes "multicast"))
eight_kept _ low = absurd (omega arith)

pub unasked_refused : IsRefused at_client (reverse only_asked) agrees_unasked (Rule.Agreement AgreementRule.OptionNotRequested)
unasked_refused =
    offer_refused asks_for_a agrees_unasked asked eight_a_block request_spelled eight_agreed (Rule.Agreement AgreementRule.OptionNotRequested) (NegoFault.Broken AgreementRule.OptionNotRequested) (λ f. f) plain_asked.lawful refl refl refl refl refl refl
    (blksize, (Num 8, eight_for_blksize), map.get-empty _ blksize) (record {
      agreement = eight_kept;
      beyond = λ low. absurd (omega arith);
    })

-- with an option that was asked for with some value
module _ (name : List ℕ) (a b : OptionValue) (r : RequestParts) (has : map.get r.options name ≡ Some a) where
  was_asked : AgreementBroken AgreementRule.OptionNotRequested r (single name b) → ⊥
  was_asked (other, (value, given), none) =
      let same = only_single name b other value given in
      not_there r.options other none (a, ap (map.get r.options) same.0 ∙ has)

  -- the rules before that of the value, of a name that is not "multicast"
  pub offer_fine : (n : ℕ) → n ≤ 15 → map.get (single name b) name ≡ Some b → map.get (single name b) (codes "multicast") ≡ None
      → (14 < n → AgreementBroken AgreementRule.OptionOutsideProfile r (single name b) → ⊥) → OackFine None r (single name b) n
  offer_fine n few there none inside = record {
    agreement = kept;
    beyond = λ low. absurd (omega arith);
  } where
    kept : (broken : AgreementRule) → agreement_number broken < n → AgreementBroken broken r (single name b) → ⊥
    kept AgreementRule.OackEmpty low = has_some (single name b) name b there
    kept AgreementRule.MulticastAgreed low = not_there (single name b) (codes "multicast") none
    kept AgreementRule.OptionNotRequested low = was_asked
    kept AgreementRule.OptionOutsideProfile low = inside low
    kept AgreementRule.OptionValue low = absurd (omega (arith, low, few))

-- with an option that nobody knows
abbrev foo : OptionMap
foo = single (codes "foo") (Text (codes "1"))

foo_is : foo ≡ map_of by_foo
unfolding value_of is_known_number is_number range_of
foo_is = refl

foo_asked : Spells (request 1 by_foo) (Message.Request (asks_for Get foo))
foo_asked = request_spells Get by_foo foo refl foo_is

foo_agreed : Spells (oack by_foo) (Message.Oack foo)
foo_agreed = oack_spells by_foo foo refl foo_is

foo_there : map.get foo (codes "foo") ≡ Some (Text (codes "1"))
foo_there = found_single (codes "foo") (Text (codes "1")) (codes "foo")

-- names of other lengths are other names
other_length : (one other : List ℕ) → length one ≢ length other → one ≢ other
other_length one other differ e = differ (ap length e)

pub foo_refused : IsRefused at_client (reverse only_foo_asked) agrees_to_foo (Rule.Agreement AgreementRule.OptionOutsideProfile)
foo_refused =
    offer_refused _ agrees_to_foo (asks_for Get foo) foo foo_asked foo_agreed (Rule.Agreement AgreementRule.OptionOutsideProfile) (NegoFault.Broken AgreementRule.OptionOutsideProfile) (λ f. f)
    (one_more at_client None [] (_, Message.Request (asks_for Get foo)) tt foo_asked refl refl refl tt) refl refl refl refl refl refl
    (codes "foo", (Text (codes "1"), foo_there), (other_length _ _ (λ e. omega (arith, e)), other_length _ _ (λ e. omega (arith, e)), other_length _ _ (λ e. omega (arith, e)), other_length _ _ (λ e. omega (arith, e))))
    (offer_fine (codes "foo") (Text (codes "1")) (Text (codes "1")) (asks_for Get foo) foo_there 14 (omega arith) foo_there (found_single (codes "foo") (Text (codes "1")) (codes "multicast")) (λ low. absurd (omega arith)))

-- with larger blocks than were asked for
abbrev of_512 : OptionMap
of_512 = single blksize (Num 512)

of_512_is : of_512 ≡ map_of ((codes "blksize", codes "512") ∷ [])
unfolding value_of is_known_number is_number range_of
of_512_is = refl

abbrev of_1024 : OptionMap
of_1024 = single blksize (Num 1024)

of_1024_is : of_1024 ≡ map_of ((codes "blksize", codes "1024") ∷ [])
unfolding value_of is_known_number is_number range_of
of_1024_is = refl

asked_512 : Spells (request 1 ((codes "blksize", codes "512") ∷ [])) (Message.Request (asks_for Get of_512))
asked_512 = request_spells Get ((codes "blksize", codes "512") ∷ []) of_512 refl of_512_is

agreed_1024 : Spells (oack ((codes "blksize", codes "1024") ∷ [])) (Message.Oack of_1024)
agreed_1024 = oack_spells ((codes "blksize", codes "1024") ∷ []) of_1024 refl of_1024_is

-- the block size is in the profile
blksize_inside : AgreementBroken AgreementRule.OptionOutsideProfile (asks_for Get of_512) of_1024 → ⊥
blksize_inside (name, (value, has), outside) = outside.0 (only_single blksize (Num 1024) name value has).0

pub larger_refused : IsRefused at_client (reverse only_512_asked) agrees_to_1024 (Rule.Agreement AgreementRule.OptionValue)
larger_refused =
    let asked_for = found_single blksize (Num 512) blksize in
    let given = found_single blksize (Num 1024) blksize in
    offer_refused _ agrees_to_1024 (asks_for Get of_512) of_1024 asked_512 agreed_1024 (Rule.Agreement AgreementRule.OptionValue) (NegoFault.Broken AgreementRule.OptionValue) (λ f. f)
    (one_more at_client None [] (_, Message.Request (asks_for Get of_512)) tt asked_512 refl refl refl tt) refl refl refl refl refl refl
    (blksize, Num 512, Num 1024, asked_for, given, inl (refl, omega arith))
    (offer_fine blksize (Num 512) (Num 1024) (asks_for Get of_512) asked_for 15 (omega arith) given (found_single blksize (Num 1024) (codes "multicast")) (λ low. blksize_inside))
