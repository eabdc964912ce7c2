-- How the worked captures begin: a request, and the OACK that answers it.
use Rattle.std.proofs.Common.{◌≡◌, ℕ, true, [], ◌∷◌, ◌++◌, Option, Some, None, codes, inl, inr, refl, ap, arith}
use Rattle.std.specs.FinMap as map
use Rattle.std.specs.Cmp.Lexicographic.{nat_list_cmp_total}
use Rattle.tftp_packet.specs.{OptionMap, OptionValue, Num, value_of, is_known_number, is_number, range_of, map_of, Message, RequestParts, Spells, Side, Get, Put, Octet}
use Rattle.tftp_packet.specs.Hosts.{Datagram, Header}
use Rattle.law_model.specs.Model.{number_or, eight_a_block, eight_by_four, request_of, two_bytes}
use Rattle.law_model.proofs.ModelLemmas.Worked.{eight_for_blksize}
use Rattle.tftp_nego.specs.{MayAnswer}
use Rattle.law_end.specs.{Agrees}
use Rattle.tests_worked.specs.{at_client, asks_for_a, brings_hi, request, oack, by_eight, by_four, by_two, asks, comes, answers, is_asked, at_service, by_most, sized}
use Rattle.tests_worked.proofs.Spelled.{request_spelled}
use Rattle.tests_worked.proofs.Payloads.{Spelled, request_spells, oack_spells, eight_is, four_is, two_is, eight_by_two}
use Rattle.tests_worked.proofs.Passing.{main_of, terms_of, first_asked, asked_by, first_answer}
use Rattle.tests_worked.proofs.RuleTests.{past_all}
use Rattle.tests_worked.proofs.Kept.{passes_by}
use Rattle.tests_worked.proofs.Chains.{Start, OackFine, IsFixed, request_alone, after, first_oack, fixed_all, fixed_terms}
use Rattle.tests_worked.proofs.Options.{blksize, windowsize, tsize, eight_may_be_agreed, two, two_answer, not_empty, fine, terms, terms_are, found, no_size, small_size}

abbrev pub asks_for : Side → OptionMap → RequestParts
asks_for side options = record { side = side; name = codes "a"; mode = Octet; options = options }

abbrev pub eight_by_most : OptionMap
eight_by_most = two blksize 8 windowsize 65535

abbrev pub eight_and_size : ℕ → OptionMap
eight_and_size size = two blksize 8 tsize size

pub most_is : eight_by_most ≡ map_of by_most
unfolding value_of is_known_number is_number range_of
most_is = refl

pub none_is : eight_and_size 0 ≡ map_of (sized (codes "0"))
unfolding value_of is_known_number is_number range_of
none_is = refl

pub ten_is : eight_and_size 10 ≡ map_of (sized (codes "10"))
unfolding value_of is_known_number is_number range_of
ten_is = refl

pub many_is : eight_and_size 524280 ≡ map_of (sized (codes "524280"))
unfolding value_of is_known_number is_number range_of
many_is = refl

-- ---- a read without options

abbrev pub plain_asks : Spelled
plain_asks = (asks_for_a, Message.Request (request_of two_bytes))

abbrev pub plain_hi : Spelled
plain_hi = (brings_hi, Message.Data 1 (codes "hi"))

abbrev pub plain_asked : Start at_client
plain_asked = request_alone at_client plain_asks request_spelled refl

abbrev pub plain_begun : Start at_client
plain_begun = after at_client plain_asked (plain_hi ∷ []) refl

-- ---- an OACK that comes first, and what is known after it

module _ (h : Header) (b : Start h) (asked : RequestParts) (oacks : Datagram) (given : OptionMap) (agrees : Spells oacks.payload (Message.Oack given)) where
  abbrev offer : Spelled
  offer = (oacks, Message.Oack given)

  abbrev pub answered : (size window length : Option OptionValue) → map.get given blksize ≡ size → map.get given windowsize ≡ window → map.get given tsize ≡ length → OackFine h.rollover asked given past_all
      → asked_by (first_asked h b.es) ≡ Some (Message.Request asked) → first_answer asked.side (main_of h b.es) ≡ None → passes_by h (terms_of h b.es) b.es offer ≡ true
      → IsFixed h (offer ∷ b.es) asked (Agrees given) → Start h
  answered size window length sized windowed long fine first none test fixed = record {
    es = offer ∷ b.es;
    spelled = (agrees, b.spelled);
    lawful = first_oack h (terms_of h b.es) b.es offer asked given b.spelled agrees refl first none refl fine test b.lawful;
    known = λ more. Some (terms h asked size window length);
    knows = λ more. fixed_terms h (more ++ offer ∷ b.es) asked (Agrees given) (terms h asked size window length) (fixed_all h more (offer ∷ b.es) asked (Agrees given) fixed) (terms_are h asked given size window length sized windowed long);
  }

module _ (h : Header) (b : Start h) (side : Side) (oacks : Datagram) where
  -- to blocks of eight in a window
  abbrev pub agreed_to : (w : ℕ) → MayAnswer side windowsize w w → Spells oacks.payload (Message.Oack (two blksize 8 windowsize w)) → asked_by (first_asked h b.es) ≡ Some (Message.Request (asks_for side (two blksize 8 windowsize w)))
      → first_answer side (main_of h b.es) ≡ None → passes_by h (terms_of h b.es) b.es (oacks, Message.Oack (two blksize 8 windowsize w)) ≡ true
      → IsFixed h ((oacks, Message.Oack (two blksize 8 windowsize w)) ∷ b.es) (asks_for side (two blksize 8 windowsize w)) (Agrees (two blksize 8 windowsize w)) → Start h
  agreed_to w may agrees =
      let options = two blksize 8 windowsize w in
      let asked = asks_for side options in
      let get = found blksize windowsize 8 w in
      answered h b asked oacks options agrees (Some (Num 8)) (Some (Num w)) None (get blksize) (get windowsize) (get tsize)
      (fine h.rollover past_all asked options (two_answer asked blksize windowsize 8 w 8 w refl (get blksize) (get windowsize) (inl (refl, omega arith)) may) (not_empty options blksize 8 (get blksize)) (λ _. no_size h.rollover asked options (get tsize)))

  -- to blocks of eight
  abbrev pub agreed_to_eight : Spells oacks.payload (Message.Oack eight_a_block) → asked_by (first_asked h b.es) ≡ Some (Message.Request (asks_for side eight_a_block)) → first_answer side (main_of h b.es) ≡ None
      → passes_by h (terms_of h b.es) b.es (oacks, Message.Oack eight_a_block) ≡ true → IsFixed h ((oacks, Message.Oack eight_a_block) ∷ b.es) (asks_for side eight_a_block) (Agrees eight_a_block) → Start h
  agreed_to_eight agrees =
      let asked = asks_for side eight_a_block in
      let get = map.get-from_entries nat_list_cmp_total ((blksize, Num 8) ∷ []) in
      answered h b asked oacks eight_a_block agrees (Some (Num 8)) None None (get blksize) (get windowsize) (get tsize)
      (fine h.rollover past_all asked eight_a_block (eight_may_be_agreed h.rollover asked refl).asked (not_empty eight_a_block blksize 8 eight_for_blksize) (λ _. no_size h.rollover asked eight_a_block (get tsize)))

-- ---- in blocks of eight, in windows of four, two and 65535

pub four_agreed : Spells (oack by_four) (Message.Oack eight_by_four)
four_agreed = oack_spells by_four eight_by_four refl four_is

abbrev pub four_asked : Start at_client
four_asked = request_alone at_client (asks (request 1 by_four), Message.Request (asks_for Get eight_by_four)) (request_spells Get by_four eight_by_four refl four_is) refl

abbrev pub read_by_four : Start at_client
read_by_four = agreed_to at_client four_asked Get (comes (oack by_four)) 4 (inr (inl (refl, omega arith))) four_agreed refl refl refl (record { request = refl; answered = refl })

abbrev pub served_by_four : Start at_service
served_by_four = agreed_to at_service (request_alone at_service (is_asked (request 1 by_four), Message.Request (asks_for Get eight_by_four)) (request_spells Get by_four eight_by_four refl four_is) refl) Get (answers (oack by_four)) 4
    (inr (inl (refl, omega arith))) four_agreed refl refl refl (record { request = refl; answered = refl })

abbrev pub write_by_four : Start at_client
write_by_four = agreed_to at_client (request_alone at_client (asks (request 2 by_four), Message.Request (asks_for Put eight_by_four)) (request_spells Put by_four eight_by_four refl four_is) refl) Put (comes (oack by_four)) 4
    (inr (inl (refl, omega arith))) four_agreed refl refl refl (record { request = refl; answered = refl })

abbrev pub write_by_two : Start at_client
write_by_two = agreed_to at_client (request_alone at_client (asks (request 2 by_two), Message.Request (asks_for Put eight_by_two)) (request_spells Put by_two eight_by_two refl two_is) refl) Put (comes (oack by_two)) 2
    (inr (inl (refl, omega arith))) (oack_spells by_two eight_by_two refl two_is) refl refl refl (record { request = refl; answered = refl })

abbrev pub read_by_most : Start at_client
read_by_most = agreed_to at_client (request_alone at_client (asks (request 1 by_most), Message.Request (asks_for Get eight_by_most)) (request_spells Get by_most eight_by_most refl most_is) refl) Get (comes (oack by_most)) 65535
    (inr (inl (refl, omega arith))) (oack_spells by_most eight_by_most refl most_is) refl refl refl (record { request = refl; answered = refl })

-- ---- in blocks of eight

abbrev pub write_by_eight : Start at_client
write_by_eight = agreed_to_eight at_client (request_alone at_client (asks (request 2 by_eight), Message.Request (asks_for Put eight_a_block)) (request_spells Put by_eight eight_a_block refl eight_is) refl) Put (comes (oack by_eight))
    (oack_spells by_eight eight_a_block refl eight_is) refl refl refl (record { request = refl; answered = refl })

abbrev pub read_by_eight : Start at_client
read_by_eight = agreed_to_eight at_client (request_alone at_client (asks (request 1 by_eight), Message.Request (asks_for Get eight_a_block)) (request_spells Get by_eight eight_a_block refl eight_is) refl) Get (comes (oack by_eight))
    (oack_spells by_eight eight_a_block refl eight_is) refl refl refl (record { request = refl; answered = refl })

-- ---- ten bytes, with their size

abbrev pub size_asked : Start at_client
size_asked = request_alone at_client (asks (request 1 (sized (codes "0"))), Message.Request (asks_for Get (eight_and_size 0))) (request_spells Get (sized (codes "0")) (eight_and_size 0) refl none_is) refl

abbrev pub size_answer : OptionMap
size_answer = eight_and_size 10

pub size_fine : OackFine None (asks_for Get (eight_and_size 0)) size_answer past_all
size_fine =
    let asked : RequestParts = asks_for Get (eight_and_size 0) in
    let get = found blksize tsize 8 10 in
    fine None past_all asked size_answer (two_answer asked blksize tsize 8 0 8 10 refl (found blksize tsize 8 0 blksize) (found blksize tsize 8 0 tsize) (inl (refl, omega arith)) (inr (inr (inr (refl, λ put. absurd (cc))))))
    (not_empty size_answer blksize 8 (get blksize)) (λ _. small_size None asked size_answer 10 8 (get tsize) (ap (number_or 512) (get blksize)) (omega arith))

abbrev pub read_of_ten : Start at_client
read_of_ten =
    let get = found blksize tsize 8 10 in
    answered at_client size_asked (asks_for Get (eight_and_size 0)) (comes (oack (sized (codes "10")))) size_answer (oack_spells (sized (codes "10")) size_answer refl ten_is) (Some (Num 8)) None (Some (Num 10)) (get blksize) (get windowsize) (get tsize)
    size_fine refl refl refl (record { request = refl; answered = refl })
