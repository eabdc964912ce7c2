-- What the tests of the rules tell: a datagram breaks none of them.
use Rattle.std.proofs.Common.{◌≡◌, ◌≢◌, ◌⊎◌, ℕ, ◌+◌, ◌/◌, ◌%◌, ◌<◌, ◌≤◌, ◌==◌, ◌&&◌, ◌||◌, not, nat_lt, nat_le, Bool, true, false, List, length, Option, Some, None, option_map, inl, inr, refl, sym, subst, ap, ◌∙◌, arith}
use Rattle.std.proofs.lemmas.Bool.{and_parts, or_cases, eqb-true, eq-eqb, leb-true, ltb-true, true≢false, false≢true}
use Rattle.std.proofs.lemmas.Slice.Eq.{bytes_eq-Decides}
use Rattle.std.specs.Str.{bytes_eq}
use Rattle.std.specs.List.{list_all, AllByRecursion}
use Rattle.tftp_packet.specs.{OptionMap, Message, RequestParts, Spells, Side, Get, Put, End, Client, Server}
use Rattle.tftp_packet.specs.Hosts.{Datagram, Header}
use Rattle.tftp_packet.specs.{Dir, In, Out}
use Rattle.tftp_packet.proofs.NoFault.{no_fault}
use Rattle.law_model.specs.Model.Roles.{sender_of}
use Rattle.law_model.specs.Rules.{author_of, Route, asks, first_of, route_of, is_of_transfer, transfer_of, SaysUnknownId, Passed, HasPassed, BlockPassed, IsTop, IsHigh, IsLast, LastIsUnknown, IsNotLengthOf, HasWrongLength, BlocksWait, AckZeroWaits, IsSender, IsAckedAt, IsReachedAt, BlockBreaks, AckBreaks, EndBroken, usable, end_rules, rule_count}
use Rattle.law_model.specs.{Terms, EndRule, PortRule}
use Rattle.law_model.proofs.RulesLemmas.EndRules.{each_end}
use Rattle.tftp_nego.specs.{Holds, NegoFault, AgreementRule, agreement_number, number}
use Rattle.law_end.specs.{number_of, FirstAsked, Agrees, Begins, NotAnswered, FirstAnswer, AreTerms, IsError, IsWrongKind, GoesOn, BlockSent, ClientWentOn, TermsBreak, KindBreaks, MessageBreaks, MessageBroken, Broken, Rule, IsRead, Passes}
use Rattle.law_end.proofs.Spelled.{spelled_once}
use Rattle.tests_worked.proofs.Payloads.{Spelled, datagrams, AllSpelled, all_from}
use Rattle.tests_worked.proofs.Passing.{same_dir, as_block, holds, block_is, passed_as, main_of, main_is, main_spelled, used_of, all_used, used_is, every, some, every_is, some_is, first_asked, first_is, asked_by, asked_is, first_answer, answered_is}
use Rattle.tests_worked.proofs.KeptUsable.{unless, is_end, started, within, not_ahead, zero_may}
use Rattle.tests_worked.proofs.RuleTests.{is_unknown_id, not_foreign, not_wrong, not_peer, answers_well, is_readable, not_error, same_stop, may_precede, is_that, not_request, not_oack, right_kind, kind_is_right, not_asked, not_begun, no_plain_answer, went_on, sent_no_block, is_sender, may_be_zero, size_fits, fits_last, fits_short, fits_size, is_some, is_short, is_below, may_be_last, length_fits, is_next, not_above, not_changed, block_keeps, ack_keeps, end_keeps, is_main, keeps, tested, past_all, keeps_below}

unknown_is : (d : Datagram) (m : Message) → Spells d.payload m → is_unknown_id m ≡ true → SaysUnknownId d
unknown_is d (Message.Error code text) s t = (text, subst (λ c. Spells d.payload (Message.Error c text)) (eqb-true code 5 t) s)
unknown_is d _ s t = absurd (false≢true t)

-- after an ERROR it is that one again, or what may have been sent before it
dir_same : (dir : Dir) → same_dir dir dir ≡ true
dir_same In = refl
dir_same Out = refl

is_that_one : (code : ℕ) (text : List ℕ) (now : Message) → is_that code text now ≡ true → now ≡ Message.Error code text
is_that_one code text (Message.Error c words) t =
    let parts = and_parts (c == code) (bytes_eq words text) t in
    ap (λ n. Message.Error n words) (eqb-true c code parts.0) ∙ ap (Message.Error code) ((bytes_eq-Decides words text).0 parts.1)
is_that_one code text _ t = absurd (false≢true t)

not_before : (dir : Dir) (now : Message) → may_precede dir now ≡ true → (dir ≡ Out) ⊎ IsError now → ⊥
not_before Out now t way = false≢true t
not_before In now t (inl out) = absurd (cc)
not_before In now t (inr (code, text, is)) = false≢true (subst (λ m. not_error m ≡ true) is t)

same_again : (dir : Dir) (now : Message) (code : ℕ) (text : List ℕ) → same_stop dir now dir (Message.Error code text) ≡ true → (now ≡ Message.Error code text → ⊥) → (dir ≡ Out) ⊎ IsError now → ⊥
same_again dir now code text t apart way = elim (or_cases (may_precede dir now) (is_that code text now) (unless (same_dir dir dir) (may_precede dir now || is_that code text now) (dir_same dir) t)) [
  | inl before ↦ not_before dir now before way
  | inr one ↦ apart (is_that_one code text now one)
]

wrong_kind : (a : End) (side : Side) (m : Message) → IsWrongKind a side m → right_kind a side m ≡ false
wrong_kind Client Get (Message.Data k bytes) w = refl
wrong_kind Client Put (Message.Ack j) w = refl
wrong_kind Client Get (Message.Oack options) w = refl
wrong_kind Client Put (Message.Oack options) w = refl
wrong_kind Server Get (Message.Ack j) w = refl
wrong_kind Server Put (Message.Data k bytes) w = refl
wrong_kind Server Get (Message.Request request) w = refl
wrong_kind Server Put (Message.Request request) w = refl
wrong_kind _ _ _ w = absurd w

differs : (x y : ℕ) → not (x == y) ≡ true → x ≡ y → ⊥
differs x y t is = false≢true (subst (λ (b : Bool). not b ≡ true) (eq-eqb x y is) t)

not_last : (t : Terms) (last k long : ℕ) → fits_last t last k long ≡ true → IsNotLengthOf t last k long → ⊥
not_last t last k long e wrong = elim (or_cases (nat_lt k last && long == t.blksize) (k == last && (not (long == t.blksize) && size_fits t.size t.blksize long)) e) [
  | inl below ↦
      let parts = and_parts (nat_lt k last) (long == t.blksize) below in
      let less = ltb-true k last parts.0 in
      let whole = eqb-true long t.blksize parts.1 in
      elim wrong [
        | inl past ↦ omega arith
        | inr (inl early) ↦ early.1 whole
        | inr (inr (inl at)) ↦ let is = at.0 in omega arith
        | inr (inr (inr at)) ↦ let is = at.0 in omega arith
      ]
  | inr here ↦
      let parts = and_parts (k == last) (not (long == t.blksize) && size_fits t.size t.blksize long) here in
      let more = and_parts (not (long == t.blksize)) (size_fits t.size t.blksize long) parts.1 in
      let same = eqb-true k last parts.0 in
      elim wrong [
        | inl past ↦ omega arith
        | inr (inl early) ↦ let less = early.0 in omega arith
        | inr (inr (inl at)) ↦ differs long t.blksize more.0 at.1
        | inr (inr (inr at)) ↦ at.3 (eqb-true long (at.1 % t.blksize) (subst (λ s. size_fits s t.blksize long ≡ true) at.2 more.1))
      ]
]

agreement_few : (broken : AgreementRule) → agreement_number broken ≤ rule_count
agreement_few AgreementRule.OackEmpty = omega arith
agreement_few _ = omega arith

module _ (h : Header) (es : List Spelled) (e : Spelled) (s : AllSpelled es) (here : Spells e.0.payload e.1) where
  abbrev passed : List Datagram
  passed = transfer_of h (datagrams es)

  -- of what the other end can have used
  abbrev used : List Spelled
  used = used_of (main_of h es)

  used_spelled : AllSpelled used
  used_spelled = all_used (main_of h es) (main_spelled h es s)

  used_are : datagrams used ≡ usable passed
  used_are = used_is (main_of h es) ∙ ap usable (main_is h es)

  every_here : (test : Dir → Message → Bool) (dir : Dir) (m : Message) → every test (main_of h es) ≡ true → Passed dir m passed → test dir m ≡ true
  every_here test dir m t p = every_is h es test dir m s t p

  every_way : (test : Dir → Message → Bool) (m : Message) → every test (main_of h es) ≡ true → HasPassed m passed → (dir : Dir) × (test dir m ≡ true)
  every_way test m t p = elim p [ inl came ↦ (In, every_here test In m t came) | inr went ↦ (Out, every_here test Out m t went) ]

  some_here : (test : Dir → Message → Bool) → some test (main_of h es) ≡ true → (dir : Dir) × (m : Message) × (test dir m ≡ true) × Passed dir m passed
  some_here test t = some_is h es test s t

  -- ---- of blocks

  passed_way : (dir : Dir) (m : Message) → Passed dir m passed → HasPassed m passed
  passed_way In m p = inl p
  passed_way Out m p = inr p

  short_one : (u : Terms) (k long : ℕ) (last : ℕ) (bytes : List ℕ) → every (fits_short u k long) (main_of h es) ≡ true → HasPassed (Message.Data last bytes) passed → length bytes < u.blksize
      → fits_last u last k long ≡ true
  short_one u k long last bytes t p less =
      let fits = (every_way (fits_short u k long) (Message.Data last bytes) t p).1 in
      elim (or_cases (nat_le u.blksize (length bytes)) (fits_last u last k long) fits) [
        | inl whole ↦ let most = leb-true u.blksize (length bytes) whole in absurd (omega arith)
        | inr is ↦ is
      ]

  sized_one : (u : Terms) (o : Option ℕ) (k long size : ℕ) → fits_size u o k long ≡ true → o ≡ Some size → fits_last u (size / u.blksize + 1) k long ≡ true
  sized_one u (Some other) k long size t is = let same : other ≡ size = cc in subst (λ n. fits_last u (n / u.blksize + 1) k long ≡ true) same t
  sized_one u None k long size t is = absurd (cc)

  known_last : (u : Terms) (k long last : ℕ) → every (fits_short u k long) (main_of h es) ≡ true → fits_size u u.size k long ≡ true → IsLast u passed last → IsNotLengthOf u last k long → ⊥
  known_last u k long last short sized is wrong = elim is [
    | inl some_short ↦ not_last u last k long (short_one u k long last some_short.0 short some_short.1 some_short.2) wrong
    | inr size ↦ not_last u last k long (subst (λ n. fits_last u n k long ≡ true) (sym size.2) (sized_one u u.size k long size.0 sized size.1)) wrong
  ]

  some_size : (o : Option ℕ) → is_some o ≡ true → o ≡ None → ⊥
  some_size (Some n) t e = absurd (cc)
  some_size None t e = false≢true t

  short_there : (u : Terms) (dir : Dir) (m : Message) → is_short u.blksize dir m ≡ true → Passed dir m passed → LastIsUnknown u passed → ⊥
  short_there u dir m t p none =
      let (k, bytes, is, short) = block_is (λ x. nat_lt (length x.1) u.blksize) m t in
      let less = ltb-true (length bytes) u.blksize short in
      let most = none.all_whole k bytes (subst (λ x. HasPassed x passed) is (passed_way dir m p)) in
      omega arith

  above_all : (k high : ℕ) → 0 < k → every (is_below k) (main_of h es) ≡ true → IsHigh passed high → k ≤ high → ⊥
  above_all k high some_k t is low = elim is.member [
    | inl none ↦ omega arith
    | inr block ↦ let less = ltb-true high k (every_way (is_below k) (Message.Data high block.0) t block.1).1 in omega arith
  ]

  unknown_last : (u : Terms) (k long : ℕ) → may_be_last u (main_of h es) k long ≡ true → LastIsUnknown u passed → long < u.blksize → (high : ℕ) → IsHigh passed high → k ≤ high → ⊥
  unknown_last u k long t none less high is low = elim (or_cases (nat_le u.blksize long) (is_some u.size || (some (is_short u.blksize) (main_of h es) || (nat_lt 0 k && every (is_below k) (main_of h es)))) t) [
    | inl whole ↦ let most = leb-true u.blksize long whole in omega arith
    | inr other ↦ elim (or_cases (is_some u.size) (some (is_short u.blksize) (main_of h es) || (nat_lt 0 k && every (is_below k) (main_of h es))) other) [
      | inl sized ↦ some_size u.size sized none.no_size
      | inr more ↦ elim (or_cases (some (is_short u.blksize) (main_of h es)) (nat_lt 0 k && every (is_below k) (main_of h es)) more) [
        | inl short ↦ let p = some_here (is_short u.blksize) short in short_there u p.0 p.1 p.2 p.3 none
        | inr above ↦ let parts = and_parts (nat_lt 0 k) (every (is_below k) (main_of h es)) above in above_all k high (ltb-true 0 k parts.0) parts.1 is low
      ]
    ]
  ]

  right_length : (u : Terms) (k long : ℕ) → length_fits u (main_of h es) k long ≡ true → HasWrongLength u passed k long → ⊥
  right_length u k long t wrong =
      let a = and_parts (nat_le long u.blksize) (every (fits_short u k long) (main_of h es) && (fits_size u u.size k long && may_be_last u (main_of h es) k long)) t in
      let b = and_parts (every (fits_short u k long) (main_of h es)) (fits_size u u.size k long && may_be_last u (main_of h es) k long) a.1 in
      let c = and_parts (fits_size u u.size k long) (may_be_last u (main_of h es) k long) b.1 in
      elim wrong [
        | inl above ↦ let most = leb-true long u.blksize a.0 in omega arith
        | inr (inl known) ↦ known_last u k long known.0 b.0 c.0 known.1 known.2
        | inr (inr first) ↦ unknown_last u k long c.1 first.0 first.1 first.2.0 first.2.1 first.2.2
      ]

  next_block : (k : ℕ) (dir : Dir) (m : Message) → is_next k dir m ≡ true → Passed dir m passed → (j : ℕ) × BlockPassed Out j passed × (k ≤ j + 1)
  next_block k dir m t p =
      let parts = and_parts (same_dir Out dir) (holds (λ (x : ℕ × List ℕ). nat_le k (x.0 + 1)) (as_block m)) t in
      let (j, bytes, is, low) = block_is (λ x. nat_le k (x.0 + 1)) m parts.1 in
      (j, (bytes, passed_as passed dir Out m (Message.Data j bytes) parts.0 is p), leb-true k (j + 1) low)

  not_skipped : (u : Terms) (k : ℕ) → (not (is_sender u) || (nat_le k 1 || some (is_next k) (main_of h es))) ≡ true → IsSender u → (top : ℕ) → IsTop passed top → top + 1 < k → ⊥
  not_skipped u k t sends top is past = elim (or_cases (nat_le k 1) (some (is_next k) (main_of h es)) (unless (is_sender u) (nat_le k 1 || some (is_next k) (main_of h es)) (is_end u.named (sender_of u.side) sends) t)) [
    | inl first ↦ let low = leb-true k 1 first in omega arith
    | inr next ↦
        let p = some_here (is_next k) next in
        let j = next_block k p.0 p.1 p.2 p.3 in
        let most = is.most j.0 j.1 in
        let high = j.2 in
        omega arith
  ]

  not_back : (u : Terms) (k : ℕ) → (not (is_sender u) || (not (u.windowsize == 1) || every (not_above k) (main_of h es))) ≡ true → IsSender u → u.windowsize ≡ 1 → (top : ℕ) → IsTop passed top → k < top → ⊥
  not_back u k t sends one top is back = elim (or_cases (not (u.windowsize == 1)) (every (not_above k) (main_of h es)) (unless (is_sender u) (not (u.windowsize == 1) || every (not_above k) (main_of h es)) (is_end u.named (sender_of u.side) sends) t)) [
    | inl many ↦ differs u.windowsize 1 many one
    | inr all ↦ elim is.member [
      | inl none ↦ omega arith
      | inr block ↦ let most = leb-true top k (every_here (not_above k) Out (Message.Data top block.0) all block.1) in omega arith
    ]
  ]

  unchanged : (k : ℕ) (bytes other : List ℕ) → every (not_changed k bytes) (main_of h es) ≡ true → HasPassed (Message.Data k other) passed → other ≢ bytes → ⊥
  unchanged k bytes other t p apart = elim (or_cases (not (k == k)) (bytes_eq other bytes) (every_way (not_changed k bytes) (Message.Data k other) t p).1) [
    | inl not_same ↦ differs k k not_same refl
    | inr same ↦ apart ((bytes_eq-Decides other bytes).0 same)
  ]

  block_kept : (u : Terms) (k : ℕ) (bytes : List ℕ) (rule : EndRule) → block_keeps u (main_of h es) k bytes rule ≡ true → BlockBreaks u passed k bytes rule → ⊥
  block_kept u k bytes EndRule.NotStarted t b = started used used_spelled u.side u.reply t (subst (BlocksWait u.side u.reply) (sym used_are) b)
  block_kept u k bytes EndRule.BlockZero t b = differs k 0 t b
  block_kept u k bytes EndRule.BeyondBlock65535 t b =
      let parts = and_parts (nat_le k u.greatest) (not (k == u.greatest) || nat_lt (length bytes) u.blksize) t in
      let few = leb-true k u.greatest parts.0 in
      elim b [
        | inl above ↦ omega (arith, above, few)
        | inr last ↦ elim (or_cases (not (k == u.greatest)) (nat_lt (length bytes) u.blksize) parts.1) [
          | inl other ↦ differs k u.greatest other last.0
          | inr short ↦ let less = ltb-true (length bytes) u.blksize short in let most = last.1 in omega (arith, less, most)
        ]
      ]
  block_kept u k bytes EndRule.BlockLength t b = right_length u k (length bytes) t b
  block_kept u k bytes EndRule.WindowOverrun t b = within used used_spelled u k t b.0 (subst (λ ds. IsAckedAt u ds b.0) (sym used_are) b.1) b.2
  block_kept u k bytes EndRule.BlockSkipped t b = not_skipped u k t b.0 b.1.0 b.1.1 b.1.2
  block_kept u k bytes EndRule.GoneBack t b = not_back u k t b.0 b.1 b.2.0 b.2.1 b.2.2
  block_kept u k bytes EndRule.BlockChanged t b = unchanged k bytes b.0 t b.1 b.2
  block_kept u k bytes EndRule.AckAhead t b = b
  block_kept u k bytes EndRule.AckZero t b = b

  -- ---- of acknowledgements

  ack_kept : (u : Terms) (j : ℕ) (rule : EndRule) → ack_keeps u (main_of h es) j rule ≡ true → AckBreaks u passed j rule → ⊥
  ack_kept u j EndRule.AckAhead t b = not_ahead used used_spelled u j t b.0 (subst (λ ds. IsReachedAt u ds b.0) (sym used_are) b.1) b.2
  ack_kept u j EndRule.AckZero t b = elim (or_cases (not (j == 0)) (may_be_zero u.side u.reply used) t) [
    | inl other ↦ differs j 0 other b.0
    | inr may ↦ zero_may used used_spelled u.side u.reply may (subst (AckZeroWaits u.side u.reply) (sym used_are) b.1)
  ]
  ack_kept u j _ t b = b

  message_kept : (u : Terms) (m : Message) (rule : EndRule) → end_keeps (Some u) (main_of h es) m rule ≡ true → EndBroken u passed m rule → ⊥
  message_kept u (Message.Data k bytes) rule t b = block_kept u k bytes rule t b
  message_kept u (Message.Ack j) rule t b = ack_kept u j rule t b
  message_kept u _ rule t b = b

  -- ---- of ports, requests and OACKs

  abbrev route : Route
  route = route_of h (datagrams es) e.0

  not_foreign_port : not_foreign route ≡ true → route ≡ Route.ForeignPort → ⊥
  not_foreign_port t is = false≢true (subst (λ r. not_foreign r ≡ true) is t)

  not_wrong_port : not_wrong route ≡ true → route ≡ Route.WrongPort → ⊥
  not_wrong_port t is = false≢true (subst (λ r. not_wrong r ≡ true) is t)

  good_answer : answers_well route e.1 ≡ true → (route ≡ Route.NoStrayAnswer) ⊎ ((route ≡ Route.StrayAnswer) × (SaysUnknownId e.0 → ⊥)) → ⊥
  good_answer t b = elim b [
    | inl none ↦ false≢true (subst (λ r. answers_well r e.1 ≡ true) none t)
    | inr bad ↦ bad.1 (unknown_is e.0 e.1 here (subst (λ r. answers_well r e.1 ≡ true) bad.0 t))
  ]

  none_asked : (o : Option Spelled) → option_map (λ (x : Spelled). x.0) o ≡ None → not (not_asked (asked_by o)) ≡ true → ⊥
  none_asked None is t = false≢true t
  none_asked (Some x) is t = absurd (cc)

  has_request : (not (not_asked (asked_by (first_asked h es))) || not_peer route) ≡ true → first_of (asks h) (datagrams es) ≡ None → route ≡ Route.Peer → ⊥
  has_request t none is = elim (or_cases (not (not_asked (asked_by (first_asked h es)))) (not_peer route) t) [
    | inl there ↦ none_asked (first_asked h es) (sym (first_is h es) ∙ none) there
    | inr other ↦ false≢true (subst (λ r. not_peer r ≡ true) is other)
  ]

  -- ---- of messages, where it is known what was asked for first

  module _ (asked : RequestParts) (first : FirstAsked h (datagrams es) asked) (routed : is_of_transfer route ≡ true) where
    on : (b : Bool) → (not (is_main h es e) || b) ≡ true → b ≡ true
    on b t = unless (is_main h es e) b routed t

    asked_here : asked_by (first_asked h es) ≡ Some (Message.Request asked)
    asked_here = asked_is h es asked s first

    not_wrong_kind : (not (is_main h es e) || kind_is_right (author_of h.named e.0.dir) (asked_by (first_asked h es)) e.1) ≡ true → IsWrongKind (author_of h.named e.0.dir) asked.side e.1 → ⊥
    not_wrong_kind t wrong =
        let right : right_kind (author_of h.named e.0.dir) asked.side e.1 ≡ true
        = subst (λ o. kind_is_right (author_of h.named e.0.dir) o e.1 ≡ true) asked_here (on (kind_is_right (author_of h.named e.0.dir) (asked_by (first_asked h es)) e.1) t) in
        true≢false (sym right ∙ wrong_kind (author_of h.named e.0.dir) asked.side e.1 wrong)

    silent : (not (is_main h es e) || every (same_stop e.0.dir e.1) (main_of h es)) ≡ true → GoesOn passed e.0.dir e.1 → ⊥
    silent t (stop, (code, text, is), went, apart, way) =
        let test = on (every (same_stop e.0.dir e.1) (main_of h es)) t in
        same_again e.0.dir e.1 code text (every_here (same_stop e.0.dir e.1) e.0.dir (Message.Error code text) test (subst (λ x. Passed e.0.dir x passed) is went)) (λ one. apart (one ∙ sym is)) way

    first_request : (now : RequestParts) → e.1 ≡ Message.Request now → (not (is_main h es e) || (not_request e.1 || not_asked (asked_by (first_asked h es)))) ≡ true → ⊥
    first_request now says t = elim (or_cases (not_request e.1) (not_asked (asked_by (first_asked h es))) (on (not_request e.1 || not_asked (asked_by (first_asked h es))) t)) [
      | inl no_request ↦ false≢true (subst (λ x. not_request x ≡ true) says no_request)
      | inr none ↦ false≢true (subst (λ o. not_asked o ≡ true) asked_here none)
    ]

    early_request : (now : RequestParts) → e.1 ≡ Message.Request now → (not (is_main h es e) || (not_request e.1 || every went_on (main_of h es))) ≡ true → ClientWentOn passed → ⊥
    early_request now says t more = elim (or_cases (not_request e.1) (every went_on (main_of h es)) (on (not_request e.1 || every went_on (main_of h es)) t)) [
      | inl no_request ↦ false≢true (subst (λ x. not_request x ≡ true) says no_request)
      | inr none ↦ elim more [
        | inl block ↦ false≢true (every_here went_on Out (Message.Data block.0 block.1) none block.2)
        | inr ack ↦ false≢true (every_here went_on Out (Message.Ack ack.0) none ack.1)
      ]
    ]

    not_plain : (oack : OptionMap) → e.1 ≡ Message.Oack oack → (not (is_main h es e) || (not_oack e.1 || no_plain_answer (asked_by (first_asked h es)) (main_of h es))) ≡ true → FirstAnswer asked.side passed Begins → ⊥
    not_plain oack says t answer =
        elim (or_cases (not_oack e.1) (no_plain_answer (asked_by (first_asked h es)) (main_of h es)) (on (not_oack e.1 || no_plain_answer (asked_by (first_asked h es)) (main_of h es)) t)) [
          | inl no_oack ↦ false≢true (subst (λ x. not_oack x ≡ true) says no_oack)
          | inr none ↦
              false≢true (subst (λ o. not_begun o ≡ true) (answered_is h asked.side es Begins s answer)
              (subst (λ o. no_plain_answer o (main_of h es) ≡ true) asked_here none))
        ]

    early_oack : (oack : OptionMap) → e.1 ≡ Message.Oack oack → (not (is_main h es e) || (not_oack e.1 || every sent_no_block (main_of h es))) ≡ true → BlockSent passed → ⊥
    early_oack oack says t (k, bytes, sent) = elim (or_cases (not_oack e.1) (every sent_no_block (main_of h es)) (on (not_oack e.1 || every sent_no_block (main_of h es)) t)) [
      | inl no_oack ↦ false≢true (subst (λ x. not_oack x ≡ true) says no_oack)
      | inr none ↦ false≢true (every_here sent_no_block Out (Message.Data k bytes) none sent)
    ]

  -- it says an OACK, the first one with this fault or another than the first one
  pub record FirstOack (fault : NegoFault) : Type 0 where
    pub asked : RequestParts
    pub first : FirstAsked h (datagrams es) asked
    pub oack : OptionMap
    pub says : e.1 ≡ Message.Oack oack
    pub unanswered : NotAnswered asked.side passed
    pub wrong : Holds h.rollover fault asked oack

  pub record OtherOack : Type 0 where
    pub asked : RequestParts
    pub first : FirstAsked h (datagrams es) asked
    pub oack : OptionMap
    pub says : e.1 ≡ Message.Oack oack
    pub agreed : OptionMap
    pub answered : FirstAnswer asked.side passed (Agrees agreed)
    pub differs : oack ≢ agreed

  -- before the first answer no OACK is a later one
  pub not_answered : (asked : RequestParts) → asked_by (first_asked h es) ≡ Some (Message.Request asked) → first_answer asked.side (main_of h es) ≡ None → OtherOack → ⊥
  not_answered asked is none b =
      let same : Message.Request b.asked ≡ Message.Request asked = some_same (Message.Request b.asked) (Message.Request asked) (sym (asked_is h es b.asked s b.first) ∙ is) in
      let side : b.asked.side ≡ asked.side = request_side b.asked asked same in
      let both : None ≡ Some (Agrees b.agreed) = sym none ∙ sym (ap (λ (x : Side). first_answer x (main_of h es)) side) ∙ answered_is h b.asked.side es (Agrees b.agreed) s b.answered in
      absurd (cc)
    where
      some_same : (a b : Message) → Some a ≡ Some b → a ≡ b
      some_same a b e = cc

      request_side : (a b : RequestParts) → Message.Request a ≡ Message.Request b → a.side ≡ b.side
      request_side a b e = cc

  module _ (t : Option Terms) (known : (u : Terms) → AreTerms h (datagrams es) u → t ≡ Some u) where
    end_kept : (rule : EndRule) → is_of_transfer route ≡ true → (not (is_main h es e) || end_keeps t (main_of h es) e.1 rule) ≡ true → (u : Terms) → AreTerms h (datagrams es) u → EndBroken u passed e.1 rule → ⊥
    end_kept rule routed k u is b = message_kept u e.1 rule (subst (λ o. end_keeps o (main_of h es) e.1 rule ≡ true) (known u is) (unless (is_main h es e) (end_keeps t (main_of h es) e.1 rule) routed k)) b

    -- an OACK that comes first or later breaks none of its rules below n
    pub record OackKeeps (n : ℕ) : Type 0 where
      pub first : (fault : NegoFault) → number fault < n → FirstOack fault → ⊥
      pub changed : 16 < n → OtherOack → ⊥

    -- below n, or any where there are no more than those below n
    abbrev IsEarly : ℕ → ℕ → Type 0
    IsEarly n k = (k < n) ⊎ (past_all ≤ n)

    early : (n k : ℕ) → k ≤ rule_count → IsEarly n k → k < n
    early n k few (inl low) = low
    early n k few (inr all) = omega arith

    kept_early : (n k : ℕ) (test : Bool) → ((nat_le n k && nat_le n rule_count) || test) ≡ true → IsEarly n k → test ≡ true
    kept_early n k test is low = elim (or_cases (nat_le n k && nat_le n rule_count) test is) [
      | inl high ↦
          let parts = and_parts (nat_le n k) (nat_le n rule_count) high in
          let most = leb-true n k parts.0 in
          let few = leb-true n rule_count parts.1 in
          elim low [ inl below ↦ absurd (omega arith) | inr all ↦ absurd (omega arith) ]
      | inr k ↦ k
    ]

    -- none of the rules below n is broken
    pub none_early : (n : ℕ) → OackKeeps n → keeps_below n h t es e ≡ true → (rule : Rule) → IsEarly n (number_of rule) → Broken h (datagrams es) e.0 rule → ⊥
    none_early n o is =
        let end_test = λ (r : EndRule). not (is_main h es e) || end_keeps t (main_of h es) e.1 r in
        let parts = and_parts (list_all (λ r. (nat_le n (number_of r) && nat_le n rule_count) || keeps h t es e r) tested) (list_all (λ r. (nat_le n (number_of (Rule.Block r)) && nat_le n rule_count) || end_test r) end_rules) is in
        by (all_from (λ r. (nat_le n (number_of r) && nat_le n rule_count) || keeps h t es e r) (λ r. IsEarly n (number_of r) → keeps h t es e r ≡ true) (λ r. kept_early n (number_of r) (keeps h t es e r)) tested parts.0)
        (all_from (λ r. (nat_le n (number_of (Rule.Block r)) && nat_le n rule_count) || end_test r) (λ r. IsEarly n (number_of (Rule.Block r)) → end_test r ≡ true) (λ r. kept_early n (number_of (Rule.Block r)) (end_test r)) end_rules parts.1)
      where
        -- by what it says
        said : AllByRecursion (λ r. IsEarly n (number_of r) → keeps h t es e r ≡ true) tested
            → AllByRecursion (λ r. IsEarly n (number_of (Rule.Block r)) → (not (is_main h es e) || end_keeps t (main_of h es) e.1 r) ≡ true) end_rules
            → (rule : Rule) → IsEarly n (number_of rule) → MessageBroken h (datagrams es) e.0 rule → ⊥
        said k l rule low b = of_message b.message (spelled_once e.0.payload e.1 b.message here b.says.spells) rule low b.breaks where
          ends : (f : EndRule) → IsEarly n (number_of (Rule.Block f)) → (not (is_main h es e) || end_keeps t (main_of h es) e.1 f) ≡ true
          ends = each_end (λ f. IsEarly n (number_of (Rule.Block f)) → (not (is_main h es e) || end_keeps t (main_of h es) e.1 f) ≡ true) l

          of_end : (m : Message) → e.1 ≡ m → (r : Rule) → IsEarly n (number_of r) → TermsBreak h b.asked passed m r → ⊥
          of_end m says r below (f, is, u, after, broken) =
              end_kept f b.says.routed (ends f (subst (λ x. IsEarly n (number_of x)) is below)) u (b.asked, b.first, after) (subst (λ x. EndBroken u passed x f) (sym says) broken)

          of_first : (oack : OptionMap) → e.1 ≡ Message.Oack oack → (fault : NegoFault) → number fault ≤ rule_count → IsEarly n (number fault) → NotAnswered b.asked.side passed × Holds h.rollover fault b.asked oack → ⊥
          of_first oack says fault few below is = o.first fault (early n (number fault) few below) (record { asked = b.asked; first = b.first; oack = oack; says = says; unanswered = is.0; wrong = is.1 })

          of_kind : (m : Message) → e.1 ≡ m → (r : Rule) → IsEarly n (number_of r) → KindBreaks h b.asked passed e.0.dir m r → ⊥
          of_kind (Message.Request now) says Rule.RequestChanged below is = first_request b.asked b.first b.says.routed now says (k.1.1.1.1.1.1.0 below)
          of_kind (Message.Request now) says Rule.RequestAfterStart below is = early_request b.asked b.first b.says.routed now says (k.1.1.1.1.1.1.1.0 below) is.1
          of_kind (Message.Request now) says r below is = is
          of_kind (Message.Error code text) says r below is = is
          of_kind (Message.Oack oack) says Rule.ReplyChanged below is = not_plain b.asked b.first b.says.routed oack says (k.1.1.1.1.1.1.1.1.0 below) is
          of_kind (Message.Oack oack) says (Rule.Agreement broken) below is = of_first oack says (NegoFault.Broken broken) (agreement_few broken) below is
          of_kind (Message.Oack oack) says (Rule.Block EndRule.BeyondBlock65535) below is = of_first oack says NegoFault.BeyondBlock65535 (omega arith) below is
          of_kind (Message.Oack oack) says Rule.OackChanged below is =
              o.changed (early n 16 (omega arith) below) (record { asked = b.asked; first = b.first; oack = oack; says = says; agreed = is.0; answered = is.1; differs = is.2 })
          of_kind (Message.Oack oack) says Rule.OackAfterStart below is = early_oack b.asked b.first b.says.routed oack says (k.1.1.1.1.1.1.1.1.1.0 below) is.2
          of_kind (Message.Oack oack) says r below is = is.1
          of_kind (Message.Data k bytes) says r below is = of_end (Message.Data k bytes) says r below is
          of_kind (Message.Ack j) says r below is = of_end (Message.Ack j) says r below is

          of_message : (m : Message) → e.1 ≡ m → (r : Rule) → IsEarly n (number_of r) → MessageBreaks h b.asked passed e.0.dir m r → ⊥
          of_message m says r below (inl (is, wrong)) =
              not_wrong_kind b.asked b.first b.says.routed (k.1.1.1.1.0 (subst (λ x. IsEarly n (number_of x)) is below)) (subst (IsWrongKind (author_of h.named e.0.dir) b.asked.side) (sym says) wrong)
          of_message m says r below (inr (inl (is, goes))) =
              silent b.asked b.first b.says.routed (k.1.1.1.1.1.0 (subst (λ x. IsEarly n (number_of x)) is below)) (subst (GoesOn passed e.0.dir) (sym says) goes)
          of_message m says r below (inr (inr kind)) = of_kind m says r below kind

        by : AllByRecursion (λ r. IsEarly n (number_of r) → keeps h t es e r ≡ true) tested
            → AllByRecursion (λ r. IsEarly n (number_of (Rule.Block r)) → (not (is_main h es e) || end_keeps t (main_of h es) e.1 r) ≡ true) end_rules
            → (rule : Rule) → IsEarly n (number_of rule) → Broken h (datagrams es) e.0 rule → ⊥
        by k l (Rule.Port PortRule.Foreign) low b = not_foreign_port (k.0 low) b
        by k l (Rule.Port PortRule.Wrong) low b = not_wrong_port (k.1.0 low) b
        by k l (Rule.Port PortRule.BadAnswer) low b = good_answer (k.1.1.0 low) b
        by k l Rule.NoRequest low b = has_request (k.1.1.1.0 low) b.0 b.1
        by k l (Rule.Malformed fault) low b = no_fault e.0.payload e.1 fault here.1 b.1.0
        by k l rule low b = said k l rule low b

pub none_below : (n : ℕ) (h : Header) (t : Option Terms) (es : List Spelled) (e : Spelled) (s : AllSpelled es) (here : Spells e.0.payload e.1)
    (known : (u : Terms) → AreTerms h (datagrams es) u → t ≡ Some u) → OackKeeps h es e s here t known n → keeps_below n h t es e ≡ true
    → (rule : Rule) → number_of rule < n → Broken h (datagrams es) e.0 rule → ⊥
none_below n h t es e s here known o is rule low = none_early h es e s here t known n o is rule (inl low)

read_is : (r : Route) (d : Datagram) (m : Message) → Spells d.payload m → is_readable r m ≡ true → IsRead r d
read_is Route.Request d m s t = (m, s)
read_is Route.Peer d m s t = (m, s)
read_is Route.Stray d m s t = tt
read_is Route.StrayAnswer d m s t = unknown_is d m s t
read_is _ d m s t = absurd (false≢true t)

-- the datagram passes
abbrev pub passes_by : Header → Option Terms → List Spelled → Spelled → Bool
passes_by h t es e = is_readable (route_of h (datagrams es) e.0) e.1 && keeps_below past_all h t es e

pub passes_is : (h : Header) (t : Option Terms) (es : List Spelled) (e : Spelled) (s : AllSpelled es) (here : Spells e.0.payload e.1)
    (known : (u : Terms) → AreTerms h (datagrams es) u → t ≡ Some u) → OackKeeps h es e s here t known past_all → passes_by h t es e ≡ true → Passes h (datagrams es) e.0
passes_is h t es e s here known o is =
    let parts = and_parts (is_readable (route_of h (datagrams es) e.0) e.1) (keeps_below past_all h t es e) is in
    record {
      read = read_is (route_of h (datagrams es) e.0) e.0 e.1 here parts.0;
      lawful = λ rule. none_early h es e s here t known past_all o parts.1 rule (inr (omega arith));
    }

-- what is no OACK breaks none of their rules
pub no_oack : (h : Header) (es : List Spelled) (e : Spelled) (s : AllSpelled es) (here : Spells e.0.payload e.1) (t : Option Terms)
    (known : (u : Terms) → AreTerms h (datagrams es) u → t ≡ Some u) (n : ℕ) → not_oack e.1 ≡ true → OackKeeps h es e s here t known n
no_oack h es e s here t known n is = record {
  first = λ fault low b. false≢true (subst (λ x. not_oack x ≡ true) b.says is);
  changed = λ low b. false≢true (subst (λ x. not_oack x ≡ true) b.says is);
}
