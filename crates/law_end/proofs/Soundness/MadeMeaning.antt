-- Datagrams that break no rule are in accord with some meaning and some wire.
use Rattle.std.proofs.Common.{◌≡◌, ◌⊎◌, ℕ, ◌+◌, ◌/◌, ◌<◌, ◌≤◌, Bool, true, false, List, [], ◌∷◌, Option, Some, None, codes, inl, inr, refl, sym, subst, ap, ◌∙◌, arith, nat_le, ◌&&◌}
use Rattle.std.specs.FinMap as map
use Rattle.std.specs.Ordering.{nat_cmp}
use Rattle.std.specs.Cmp.Lexicographic.{slice_cmp}
use Rattle.std.proofs.lemmas.Bool.{leb-true, and_parts}
use Rattle.tftp_packet.specs.{OptionMap, OptionValue, Num, Text, no_options, is_within, range_of, Message, RequestParts, Spells, Side, Get, Put, Mode, Octet, Netascii}
use Rattle.tftp_packet.specs.{Rollover}
use Rattle.tftp_packet.specs.Rounds.{greatest_of}
use Rattle.tftp_nego.specs.{number_or, option_or, MayAgree, AreInRange, Holds, NegoFault}
use Rattle.tftp_packet.specs.Hosts.{Datagram, Header}
use Rattle.law_model.specs.Model.{Meaning, request_of, block, block_count}
use Rattle.law_model.specs.Rules.{asks, first_of, or_this, route_of, is_of_transfer, transfer_of, HasPassed}
use Rattle.law_model.specs.{NoReply, Plain, Terms, EndRule}
use Rattle.tftp_nego.proofs.Numbers.{map_in_range}
use Rattle.tftp_netascii.proofs.DecoderLemmas.{Reads-exists}
use Rattle.law_end.specs.{ReadsAs, FirstAsked, Answer, Agrees, Begins, IsAnswer, Answers, NotAnswered, FirstAnswer, size_from, plain_terms, terms_after, OackBreaks, Rule, Passes, OneEnded, Accords, AreTermsAfter}
use Rattle.tftp_packet.proofs.RoundsLemmas.Greatest.{two_bytes_within}
use Rattle.law_end.proofs.Spelled.{spelled_once}
use Rattle.law_end.proofs.FirstBroken.Answering.{answer_of, answer_is, answer_there}
use Rattle.law_end.proofs.FirstBroken.FirstRequests.{first_asks, some_same, first_stays, asked_once, none_before}
use Rattle.law_end.proofs.FirstBroken.Agreed.{without_fault}
use Rattle.law_end.proofs.Accord.HighestNumbers.{AllSpelled, transfer_spelled}
use Rattle.law_end.proofs.FirstBroken.FirstAnswered.{or_new, main_none, main_some, first_one, not_both}
use Rattle.law_end.proofs.FirstBroken.OneMessage.{none_by}
use Rattle.law_end.proofs.Soundness.Settled.{settled}
use Rattle.law_end.proofs.Soundness.MadeWire.{carried}

-- ---- the first answer

answer_step : (side : Side) (d : Datagram) (ds : List Datagram) (m : Message) → Spells d.payload m → NotAnswered side ds → (o : Option Answer) → answer_of side m ≡ o
    → NotAnswered side (d ∷ ds) ⊎ ((a : Answer) × FirstAnswer side (d ∷ ds) a)
answer_step side d ds m s none (Some a) is = inr (a, inr (none, (m, s, answer_there side m a is)))
answer_step side d ds m s none None is =
    inl ((λ a answers. let same = spelled_once d.payload m answers.0 s answers.1 in let both : None ≡ Some a = sym is ∙ ap (answer_of side) same ∙ answer_is side answers.0 a answers.2 in cc), none)

pub answer_cases : (side : Side) (ds : List Datagram) → AllSpelled ds → NotAnswered side ds ⊎ ((a : Answer) × FirstAnswer side ds a)
answer_cases side [] all = inl tt
answer_cases side (d ∷ ds) all = elim (answer_cases side ds all.1) [
  | inl none ↦ answer_step side d ds all.0.0 all.0.1 none (answer_of side all.0.0) refl
  | inr some ↦ inr (some.0, inl some.1)
]

oack_answer : (side : Side) (m : Message) (options : OptionMap) → IsAnswer side m (Agrees options) → m ≡ Message.Oack options
oack_answer Get (Message.Oack given) options is = ap Message.Oack is
oack_answer Put (Message.Oack given) options is = ap Message.Oack is
oack_answer _ _ options is = absurd is

pub oack_spelled : (side : Side) (d : Datagram) (options : OptionMap) → Answers side d (Agrees options) → Spells d.payload (Message.Oack options)
oack_spelled side d options (m, s, is) = subst (Spells d.payload) (oack_answer side m options is) s

-- ---- the options of the first OACK may be agreed

module _ (h : Header) (earlier : List Datagram) (d : Datagram) (passes : Passes h earlier d) (asked : RequestParts) (options : OptionMap)
    (main : is_of_transfer (route_of h earlier d) ≡ true) (spells : Spells d.payload (Message.Oack options)) (first : FirstAsked h earlier asked) (none : NotAnswered asked.side (transfer_of h earlier)) where
  keeps : (rule : Rule) → OackBreaks h.rollover asked (transfer_of h earlier) d.dir options rule → ⊥
  keeps rule b = none_by h earlier d (Message.Oack options) asked main spells first passes.lawful rule (inr (inr b))

  no_fault : (fault : NegoFault) → Holds h.rollover fault asked options → ⊥
  no_fault (NegoFault.Broken broken) holds = keeps (Rule.Agreement broken) (none, holds)
  no_fault NegoFault.BeyondBlock65535 holds = keeps (Rule.Block EndRule.BeyondBlock65535) (none, holds)
  no_fault NegoFault.Memory holds = holds

module _ (h : Header) where
  same_first : (earlier : List Datagram) (d : Datagram) (asked : RequestParts) → (was : Datagram) → first_of (asks h) earlier ≡ Some was → FirstAsked h (d ∷ earlier) asked → FirstAsked h earlier asked
  same_first earlier d asked was is first =
      (was, is, subst (λ (x : Datagram). Spells x.payload (Message.Request asked)) (some_same first.0 was (sym first.1 ∙ first_stays (asks h) d was earlier is)) first.2)

  -- one datagram more
  may_step : (earlier : List Datagram) (d : Datagram) → Passes h earlier d → OneEnded h earlier → (asked : RequestParts) → FirstAsked h (d ∷ earlier) asked → (options : OptionMap)
      → (FirstAsked h earlier asked → FirstAnswer asked.side (transfer_of h earlier) (Agrees options) → MayAgree h.rollover asked options)
      → (o : Option Datagram) → first_of (asks h) earlier ≡ o → (b : Bool) → is_of_transfer (route_of h earlier d) ≡ b
      → FirstAnswer asked.side (transfer_of h (d ∷ earlier)) (Agrees options) → MayAgree h.rollover asked options
  may_step earlier d passes lawful asked first options before (Some was) is true main answer =
      let stays = same_first earlier d asked was is first in
      elim (subst (λ ds. FirstAnswer asked.side ds (Agrees options)) (main_some (is_of_transfer (route_of h earlier d)) d (transfer_of h earlier) main) answer) [
        | inl old ↦ before stays old
        | inr now ↦ without_fault h.rollover asked options (no_fault h earlier d passes asked options main (oack_spelled asked.side d options now.1) stays now.0)
      ]
  may_step earlier d passes lawful asked first options before (Some was) is false main answer =
      before (same_first earlier d asked was is first) (subst (λ ds. FirstAnswer asked.side ds (Agrees options)) (main_none (is_of_transfer (route_of h earlier d)) d (transfer_of h earlier) main) answer)
  may_step earlier d passes lawful asked first options before None is true main answer =
      let more = main_some (is_of_transfer (route_of h earlier d)) d (transfer_of h earlier) main ∙ ap (λ ds. d ∷ ds) (none_before h earlier is lawful) in
      let request : d ≡ first.0 = or_new (asks h d) d first.0 (sym (ap (λ o. or_this o (asks h d) d) is) ∙ first.1) in
      let s : Spells d.payload (Message.Request asked) = subst (λ (x : Datagram). Spells x.payload (Message.Request asked)) (sym request) first.2 in
      elim (subst (λ ds. FirstAnswer asked.side ds (Agrees options)) more answer) [
        | inl old ↦ absurd old
        | inr now ↦ let e : Message.Request asked ≡ Message.Oack options = spelled_once d.payload (Message.Request asked) (Message.Oack options) s (oack_spelled asked.side d options now.1) in absurd (cc)
      ]
  may_step earlier d passes lawful asked first options before None is false main answer =
      absurd (subst (λ ds. FirstAnswer asked.side ds (Agrees options)) (main_none (is_of_transfer (route_of h earlier d)) d (transfer_of h earlier) main ∙ none_before h earlier is lawful) answer)

  pub may_be_agreed : (earlier : List Datagram) → OneEnded h earlier → (asked : RequestParts) → FirstAsked h earlier asked → (options : OptionMap)
      → FirstAnswer asked.side (transfer_of h earlier) (Agrees options) → MayAgree h.rollover asked options
  may_be_agreed [] lawful asked first options answer = absurd answer
  may_be_agreed (d ∷ earlier) lawful asked first options answer =
      may_step earlier d lawful.0 lawful.1 asked first options (λ stays old. may_be_agreed earlier lawful.1 asked stays options old) (first_of (asks h) earlier) refl (is_of_transfer (route_of h earlier d)) refl answer

-- ---- where nothing is agreed

pub none_found : (name : List ℕ) → map.get no_options name ≡ None
none_found name = map.get-empty (slice_cmp nat_cmp) name

pub none_may_be_agreed : (rollover : Option Rollover) (asked : RequestParts) → MayAgree rollover asked no_options
none_may_be_agreed rollover asked = record {
  asked = λ name value get. let both : None ≡ Some value = sym (none_found name) ∙ get in absurd (cc);
  size = λ octet size get. let both : None ≡ Some (Num size) = sym (none_found (codes "tsize")) ∙ get in absurd (cc);
}

usual_size : option_or 512 no_options (codes "blksize") ≡ 512
usual_size = ap (number_or 512) (none_found (codes "blksize"))

-- ---- sizes

pub size_is : (mode : Mode) (o : Option OptionValue) (size : ℕ) → size_from mode o ≡ Some size → (mode ≡ Octet) × (o ≡ Some (Num size))
size_is Octet (Some (Num n)) size e = (refl, cc)
size_is Octet (Some (Text text)) size e = absurd (cc)
size_is Octet None size e = absurd (cc)
size_is Netascii o size e = absurd (cc)

is_size : (mode : Mode) (o : Option OptionValue) (size : ℕ) → mode ≡ Octet → o ≡ Some (Num size) → size_from mode o ≡ Some size
is_size Octet o size octet is = ap (size_from Octet) is
is_size Netascii o size octet is = absurd (cc)

within : (low high n : ℕ) → (nat_le low n && nat_le n high) ≡ true → low ≤ n
within low high n e = leb-true low n (and_parts (nat_le low n) (nat_le n high) e).0

eight_or_more : (n : ℕ) → is_within (range_of (codes "blksize")) n ≡ true → 8 ≤ n
unfolding range_of
eight_or_more n e = within 8 65464 n e

pub from_eight : (o : Option OptionValue) → ((n : ℕ) → o ≡ Some (Num n) → is_within (range_of (codes "blksize")) n ≡ true) → 8 ≤ number_or 512 o
from_eight (Some (Num n)) range = eight_or_more n (range n refl)
from_eight _ range = omega arith

pub answer_spelled : (side : Side) (passed : List Datagram) (options : OptionMap) → FirstAnswer side passed (Agrees options) → (d : Datagram) × Spells d.payload (Message.Oack options)
answer_spelled side [] options first = absurd first
answer_spelled side (d ∷ passed) options first = elim first [ inl before ↦ answer_spelled side passed options before | inr now ↦ (d, oack_spelled side d options now.1) ]

-- ---- the meaning

-- what is agreed, beside the terms that are known
record IsAgreedWith (h : Header) (earlier : List Datagram) (asked : RequestParts) (t : Terms) (agreed : OptionMap) : Type 0 where
  pub known : AreTermsAfter h asked (transfer_of h earlier) t
  pub may : MayAgree h.rollover asked agreed
  pub greatest : t.greatest ≡ greatest_of h.rollover
  pub some : 0 < t.blksize
  pub same : t.blksize ≡ option_or 512 agreed (codes "blksize")
  pub sized : asked.mode ≡ Octet → (size : ℕ) → map.get agreed (codes "tsize") ≡ Some (Num size) → t.size ≡ Some size
  pub back : (size : ℕ) → t.size ≡ Some size → (asked.mode ≡ Octet) × (map.get agreed (codes "tsize") ≡ Some (Num size))
  pub oacked : (options : OptionMap) → FirstAnswer asked.side (transfer_of h earlier) (Agrees options) → agreed ≡ options
  pub plain : FirstAnswer asked.side (transfer_of h earlier) Begins → agreed ≡ no_options

read_as : (mode : Mode) (wire : List ℕ) → (file : List ℕ) × ReadsAs mode wire file
read_as Octet wire = (wire, refl)
read_as Netascii wire = Reads-exists wire

abbrev Some_accord : Header → List Datagram → Type 0
Some_accord h earlier = (m : Meaning) × (wire : List ℕ) × Accords h m wire earlier

made : (h : Header) (earlier : List Datagram) → OneEnded h earlier → (asked : RequestParts) → FirstAsked h earlier asked → (t : Terms) (agreed : OptionMap) → IsAgreedWith h earlier asked t agreed → Some_accord h earlier
made h earlier lawful asked first t agreed a =
    let passed = transfer_of h earlier in
    let s = settled h earlier lawful asked first t (asked, first, a.known) in
    let limit : (size : ℕ) → t.size ≡ Some size → size / t.blksize + 1 ≤ t.greatest = λ size is.
    (let (octet, get) = a.back size is in subst (λ g. size / t.blksize + 1 ≤ g) (sym a.greatest) (subst (λ b. size / b + 1 ≤ greatest_of h.rollover) (sym a.same) (a.may.size octet size get))) in
    let (wire, c) = carried asked.side t passed s (transfer_spelled h earlier lawful) a.some (let least = two_bytes_within h.rollover in let is = a.greatest in omega arith) limit in
    let (file, r) = read_as asked.mode wire in (
      record { side = asked.side; name = asked.name; mode = asked.mode; requested = asked.options; agreed = agreed; file = file },
      wire,
      record {
        fits = record {
          may_agree = a.may;
          reads = r;
          size = λ octet size get. c.size size (a.sized octet size get);
          numbered = subst (λ b. block_count b wire ≤ greatest_of h.rollover) a.same (subst (λ g. block_count t.blksize wire ≤ g) a.greatest c.numbered);
        };
        asked = λ other also. asked_once h earlier other asked also first;
        oacked = a.oacked;
        plain = a.plain;
        blocks = λ k bytes p. subst (λ b. (k ≤ block_count b wire) × (bytes ≡ block b wire k)) a.same (c.blocks k bytes p);
      },
    )

-- with nothing agreed
plainly : (h : Header) (earlier : List Datagram) (asked : RequestParts) (t : Terms) → AreTermsAfter h asked (transfer_of h earlier) t → t.blksize ≡ 512 → t.greatest ≡ greatest_of h.rollover → t.size ≡ None
    → ((options : OptionMap) → FirstAnswer asked.side (transfer_of h earlier) (Agrees options) → ⊥) → IsAgreedWith h earlier asked t no_options
plainly h earlier asked t known usual greatest unsized none = record {
  known = known;
  may = none_may_be_agreed h.rollover asked;
  greatest = greatest;
  some = omega (arith, usual);
  same = usual ∙ sym usual_size;
  sized = λ octet size get. let both : None ≡ Some (Num size) = sym (none_found (codes "tsize")) ∙ get in absurd (cc);
  back = λ size is. let both : None ≡ Some size = sym unsized ∙ is in absurd (cc);
  oacked = λ options answer. absurd (none options answer);
  plain = λ answer. refl;
}

agrees : (h : Header) (earlier : List Datagram) → OneEnded h earlier → (asked : RequestParts) → FirstAsked h earlier asked → (options : OptionMap) → FirstAnswer asked.side (transfer_of h earlier) (Agrees options)
    → IsAgreedWith h earlier asked (terms_after h asked (Agrees options)) options
agrees h earlier lawful asked first options answer =
    let (d, s) = answer_spelled asked.side (transfer_of h earlier) options answer in
    let eight : 8 ≤ option_or 512 options (codes "blksize") =
    from_eight (map.get options (codes "blksize")) (subst AreInRange (sym s.1.map) (map_in_range s.1.pairs) (codes "blksize")) in
    record {
      known = inr (Agrees options, answer, refl);
      may = may_be_agreed h earlier lawful asked first options answer;
      greatest = refl;
      some = omega (arith, eight);
      same = refl;
      sized = λ octet size get. is_size asked.mode (map.get options (codes "tsize")) size octet get;
      back = λ size is. size_is asked.mode (map.get options (codes "tsize")) size is;
      oacked = λ other also. let e : Agrees options ≡ Agrees other = first_one asked.side (transfer_of h earlier) (Agrees options) (Agrees other) answer also in cc;
      plain = λ also. let e : Agrees options ≡ Begins = first_one asked.side (transfer_of h earlier) (Agrees options) Begins answer also in absurd (cc);
    }

of_request : (h : Header) (earlier : List Datagram) → OneEnded h earlier → (asked : RequestParts) → FirstAsked h earlier asked → Some_accord h earlier
of_request h earlier lawful asked first = elim (answer_cases asked.side (transfer_of h earlier) (transfer_spelled h earlier lawful)) [
  | inl none ↦ made h earlier lawful asked first (plain_terms h asked.side NoReply) no_options
      (plainly h earlier asked (plain_terms h asked.side NoReply) (inl (none, refl)) refl refl refl (λ options answer. not_both asked.side (transfer_of h earlier) (Agrees options) none answer))
  | inr some ↦ by some.0 some.1
]
  where
    by : (a : Answer) → FirstAnswer asked.side (transfer_of h earlier) a → Some_accord h earlier
    by (Agrees options) answer = made h earlier lawful asked first (terms_after h asked (Agrees options)) options (agrees h earlier lawful asked first options answer)
    by Begins answer = made h earlier lawful asked first (plain_terms h asked.side Plain) no_options
        (plainly h earlier asked (plain_terms h asked.side Plain) (inr (Begins, answer, refl)) refl refl refl (λ options other. let e : Agrees options ≡ Begins = first_one asked.side (transfer_of h earlier) (Agrees options) Begins other answer in absurd (cc)))

-- before the first request any meaning will do
abbrev empty : Meaning
empty = record { side = Get; name = []; mode = Octet; requested = no_options; agreed = no_options; file = [] }

of_none : (h : Header) (earlier : List Datagram) → OneEnded h earlier → first_of (asks h) earlier ≡ None → Some_accord h earlier
of_none h earlier lawful none =
    let nothing = none_before h earlier none lawful in (
      empty,
      [],
      record {
        fits = record {
          may_agree = none_may_be_agreed h.rollover (request_of empty);
          reads = refl;
          size = λ octet size get. let both : None ≡ Some (Num size) = sym (none_found (codes "tsize")) ∙ get in absurd (cc);
          numbered = subst (λ b. block_count b [] ≤ greatest_of h.rollover) (sym usual_size) (let least = two_bytes_within h.rollover in omega arith);
        };
        asked = λ asked first. let both : None ≡ Some first.0 = sym none ∙ first.1 in absurd (cc);
        oacked = λ options answer. absurd (subst (λ ds. FirstAnswer Get ds (Agrees options)) nothing answer);
        plain = λ answer. absurd (subst (λ ds. FirstAnswer Get ds Begins) nothing answer);
        blocks = λ k bytes p. elim (subst (HasPassed (Message.Data k bytes)) nothing p) [ inl x ↦ absurd x | inr x ↦ absurd x ];
      },
    )

some_by : (h : Header) (earlier : List Datagram) → OneEnded h earlier → (o : Option Datagram) → first_of (asks h) earlier ≡ o → Some_accord h earlier
some_by h earlier lawful (Some d) is = let (asked, s) = first_asks h earlier d is lawful in of_request h earlier lawful asked (d, is, s)
some_by h earlier lawful None is = of_none h earlier lawful is

pub some_accord : (h : Header) (earlier : List Datagram) → OneEnded h earlier → Some_accord h earlier
some_accord h earlier lawful = some_by h earlier lawful (first_of (asks h) earlier) refl
