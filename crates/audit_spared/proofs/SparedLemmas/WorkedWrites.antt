-- A request to write comes late, and the server answers it again: what it sends of the one before is refused there.
use Rattle.std.proofs.Common.{ap, sym, subst, ◌≡◌, ◌<◌, true, false, List, [], ◌∷◌, Some, None, codes, inl, inr, refl, map, reverse, arith}
use Rattle.std.proofs.lemmas.Bool.{true≢false}
use Rattle.tftp_packet.specs.{Message, OptionValue, RequestParts, no_options, Side, Get, Put, Octet, Client, Server, Spells}
use Rattle.tftp_packet.proofs.NoFault.{no_fault}
use Rattle.tftp_packet.specs.Hosts.{Datagram, Header}
use Rattle.tftp_packet.specs.{Out}
use Rattle.law_model.specs.Model.{Meaning, request_of, block, block_count, blksize_of, Req, Data, Ack, Error, Sent, Took, message_of, Step, view_of}
use Rattle.law_model.specs.Model.Worked.{client as client_does, server as server_does}
use Rattle.law_model.proofs.ModelLemmas.Computed.{Plan, IsPlan, is_run, run_is}
use Rattle.law_model.proofs.ModelLemmas.Defaults.{default_blksize, default_windowsize}
use Rattle.law_model.specs.Rules.{IsFront, Route, transfer_of, author_of, EndBroken}
use Rattle.law_model.specs.{Terms, EndRule, PortRule}
use Rattle.law_end.specs.{Answer, IsAnswer, Agrees, Begins, Broken, Fits, FirstAsked, IsLawful, IsRefused, MessageBreaks, MessageBroken, NotAnswered, Rule, IsWrongKind, Main, Division, datagrams_of, view_in, TransferIds, HasLabel, HaveLabels, number_of, terms_after}
use Rattle.law_end.proofs.Division.Divided.{any_first}
use Rattle.law_end.proofs.Spelled.{spelled_once}
use Rattle.law_end.proofs.FirstBroken.FirstRequests.{request_same, some_same}
use Rattle.law_end.proofs.Whole.NothingAgreed.{none_there, nothing_may_be_agreed_by}
use Rattle.audit_flows.specs.Lines.{Recorded}
use Rattle.audit_flows.specs.Transfers.{ack_of, client, data_of}
use Rattle.audit_flows.specs.Transfers.Worked.{error_of, passes, server}
use Rattle.audit_spared.specs.Spared.{as_served, at_server_of}
use Rattle.audit_spared.specs.Spared.Worked.{asks_to_write, block_acked_again, own_name, write_of, written_late}
use Rattle.audit_spared.proofs.SparedLemmas.ServedEnd.{served_lawful}
use Rattle.audit_spared.proofs.SparedLemmas.WorkedCaptures.{label}
use Rattle.audit_spared.proofs.SparedLemmas.WorkedReads.{ack_spelled, block_spelled, bytes_are, stop_spelled, string_is}

abbrev asked_for : RequestParts
asked_for = record { side = Put; name = codes "f"; mode = Octet; options = no_options }

write_spelled : Spells (write_of (codes "f")) (Message.Request asked_for)
write_spelled = (
  bytes_are (write_of (codes "f")) refl,
  record {
    mode_text = codes "octet";
    pairs = [];
    bytes = refl;
    strung = (string_is (codes "f") refl, (string_is (codes "octet") refl, tt));
    named = tt;
    apart = tt;
    mode = refl;
    options = refl;
    short = λ some. absurd (some refl);
  },
)

zero_spelled : Spells (ack_of 0) (Message.Ack 0)
zero_spelled = let bytes = bytes_are (ack_of 0) refl in ((bytes.0, (bytes.1.0, bytes.1.1.1)), (0, 0, (omega arith, omega arith), refl))

-- ---- the meaning

abbrev meaning : Meaning
meaning = record { side = Put; name = codes "f"; mode = Octet; requested = no_options; agreed = no_options; file = 5 ∷ [] }

abbrev plan : Plan
plan = record { agreed = false; windowsize = 1; blocks = 1 }

one_block : block_count (blksize_of meaning) (5 ∷ []) ≡ 1
one_block = ap (λ b. block_count b (5 ∷ [])) (default_blksize meaning refl)

first_block : 5 ∷ [] ≡ block (blksize_of meaning) (5 ∷ []) 1
first_block = sym (ap (λ b. block b (5 ∷ []) 1) (default_blksize meaning refl))

says_block : Spells (data_of 1) (message_of meaning (5 ∷ []) (Data 1))
says_block = subst (λ b. Spells (data_of 1) (Message.Data 1 b)) first_block block_spelled

is_plan : IsPlan meaning (5 ∷ []) plan
is_plan = record { something = λ e. absurd (true≢false (sym e)); nothing = λ e. refl; windowsize = default_windowsize meaning refl; blocks = one_block }

fits : Fits None meaning (5 ∷ [])
fits = record {
  may_agree = nothing_may_be_agreed_by None (request_of meaning);
  reads = refl;
  size = λ mode size e. absurd (none_there (codes "tsize") (OptionValue.Num size) e);
  numbered = omega (arith, one_block);
}

abbrev h : Header
h = at_server_of 69

shown : (ids : TransferIds) (steps : List Step) (division : Division) (datagrams : List Datagram) → is_run Put plan steps ≡ true → view_in division ≡ view_of Server steps
    → datagrams_of division ≡ reverse datagrams → HaveLabels h meaning (5 ∷ []) ids division → IsLawful h datagrams
shown ids steps division datagrams run view whole labels = (
  meaning,
  5 ∷ [],
  record {
    fits = fits;
    view = view_of Server steps;
    run = (steps, run_is meaning (5 ∷ []) plan steps is_plan run, refl);
    dressed = record { ids = ids; division = division; whole = whole; main = view; labels = labels };
  },
)

-- ---- the capture

abbrev see : Recorded → Datagram
see = as_served own_name client

abbrev ids : TransferIds
ids = record { own = 41000; peer = record { host = own_name client.address; port = 40000 }; asked = [] }

abbrev all_0 : Division
all_0 = label (see (asks_to_write 0)) (Main (Took Req)) ∷ []

abbrev all_1 : Division
all_1 = label (see (passes 1 server client (ack_of 0))) (Main (Sent (Ack 0))) ∷ all_0

abbrev all_2 : Division
all_2 = label (see (passes 2 client server (data_of 1))) (Main (Took (Data 1))) ∷ all_1

abbrev all_3 : Division
all_3 = label (see (passes 3 server client (ack_of 1))) (Main (Sent (Ack 1))) ∷ all_2

abbrev all_4 : Division
all_4 = label (see (asks_to_write 4)) (Main (Took Req)) ∷ all_3

abbrev all_5 : Division
all_5 = label (see (passes 5 server client (ack_of 0))) (Main (Sent (Ack 0))) ∷ all_4

abbrev all_6 : Division
all_6 = label (see (passes 6 client server (error_of 1))) (Main (Took (Error 1 []))) ∷ all_5

abbrev all_7 : Division
all_7 = label (see block_acked_again) (Main (Sent (Ack 1))) ∷ all_6

was_asked : (d : Datagram) (earlier : Division) → d ≡ see (asks_to_write 0) → HasLabel h meaning (5 ∷ []) ids earlier d (Main (Took Req))
was_asked d earlier is = subst (λ e. HasLabel h meaning (5 ∷ []) ids earlier e (Main (Took Req))) (sym is)
    (record { dir = refl; client = refl; server = (refl, λ e. let other : Server ≡ Client = e in absurd (cc)); spells = write_spelled })

sent_0 : (d : Datagram) (earlier : Division) → d ≡ see (passes 1 server client (ack_of 0)) → HasLabel h meaning (5 ∷ []) ids earlier d (Main (Sent (Ack 0)))
sent_0 d earlier is = subst (λ e. HasLabel h meaning (5 ∷ []) ids earlier e (Main (Sent (Ack 0)))) (sym is) (record { dir = refl; client = refl; server = (refl, inl refl); spells = zero_spelled })

sent_1 : (d : Datagram) (earlier : Division) → d ≡ see block_acked_again → HasLabel h meaning (5 ∷ []) ids earlier d (Main (Sent (Ack 1)))
sent_1 d earlier is = subst (λ e. HasLabel h meaning (5 ∷ []) ids earlier e (Main (Sent (Ack 1)))) (sym is) (record { dir = refl; client = refl; server = (refl, inl refl); spells = ack_spelled })

abbrev asks_it : Step
asks_it = client_does (Sent Req)

abbrev is_asked : Step
is_asked = server_does (Took Req)

abbrev sends_0 : Step
sends_0 = server_does (Sent (Ack 0))

abbrev sends_1 : Step
sends_1 = server_does (Sent (Ack 1))

pub all_lawful : IsLawful h (map see (reverse (block_acked_again ∷ written_late)))
all_lawful = shown ids
    (sends_1 ∷ server_does (Took (Error 1 [])) ∷ client_does (Sent (Error 1 [])) ∷ sends_0 ∷ is_asked ∷ sends_1 ∷ server_does (Took (Data 1)) ∷ client_does (Sent (Data 1)) ∷ client_does (Took (Ack 0)) ∷ sends_0 ∷ is_asked ∷ asks_it ∷ [])
    all_7 (map see (reverse (block_acked_again ∷ written_late))) refl refl refl (
      sent_1 (see block_acked_again) all_6 refl,
      (
        record { dir = refl; client = refl; server = (refl, inr (any_first _ _ all_4 refl)); spells = stop_spelled },
        (
          sent_0 (see (passes 5 server client (ack_of 0))) all_4 refl,
          (
            was_asked (see (asks_to_write 4)) all_3 refl,
            (
              sent_1 (see (passes 3 server client (ack_of 1))) all_2 refl,
              (
                record { dir = refl; client = refl; server = (refl, inr (any_first _ _ all_0 refl)); spells = says_block },
                (
                  sent_0 (see (passes 1 server client (ack_of 0))) all_0 refl,
                  (was_asked (see (asks_to_write 0)) [] refl, tt),
                ),
              ),
            ),
          ),
        ),
      ),
    )

-- ---- what is told of the late request

abbrev asking : Datagram
asking = see (asks_to_write 4)

abbrev answering : Datagram
answering = see (passes 5 server client (ack_of 0))

abbrev stopping : Datagram
stopping = see (passes 6 client server (error_of 1))

abbrev acking : Datagram
acking = see block_acked_again

abbrev before : List Datagram
before = stopping ∷ answering ∷ asking ∷ []

abbrev part_0 : Division
part_0 = label asking (Main (Took Req)) ∷ []

abbrev part_1 : Division
part_1 = label answering (Main (Sent (Ack 0))) ∷ part_0

abbrev part_2 : Division
part_2 = label stopping (Main (Took (Error 1 []))) ∷ part_1

part_lawful : IsLawful h (map see (reverse (passes 6 client server (error_of 1) ∷ passes 5 server client (ack_of 0) ∷ asks_to_write 4 ∷ [])))
part_lawful = shown ids (server_does (Took (Error 1 [])) ∷ client_does (Sent (Error 1 [])) ∷ sends_0 ∷ is_asked ∷ asks_it ∷ [])
    part_2 (map see (reverse (passes 6 client server (error_of 1) ∷ passes 5 server client (ack_of 0) ∷ asks_to_write 4 ∷ []))) refl refl refl (
      record { dir = refl; client = refl; server = (refl, inr (any_first _ _ part_0 refl)); spells = stop_spelled },
      (sent_0 answering part_0 refl, (was_asked asking [] refl, tt)),
    )

no_answer : (answer : Answer) (m : Message) → m ≡ Message.Request asked_for → IsAnswer Put m answer → ⊥
no_answer answer (Message.Oack options) is answers = absurd (cc)
no_answer answer (Message.Data k bytes) is answers = absurd (cc)
no_answer answer (Message.Ack j) is answers = absurd (cc)
no_answer answer (Message.Error code text) is answers = absurd (cc)
no_answer (Agrees options) (Message.Request asked) is answers = absurd answers
no_answer Begins (Message.Request asked) is answers = absurd answers

not_answered : NotAnswered Put (asking ∷ [])
not_answered = ((λ answer (m, spells, is). no_answer answer m (spelled_once (write_of (codes "f")) m (Message.Request asked_for) spells write_spelled) is), tt)

none_came : IsFront before 0
none_came = record {
  below = λ k low high. absurd (omega arith);
  next = λ (bytes, passed). elim passed [
    | inl (way, spells) ↦ let same : Message.Data 1 bytes ≡ Message.Error 1 [] = spelled_once (error_of 1) (Message.Data 1 bytes) (Message.Error 1 []) spells stop_spelled in absurd (cc)
    | inr later ↦ elim later [
      | inl (way, spells) ↦ let same : Message.Data 1 bytes ≡ Message.Ack 0 = spelled_once (ack_of 0) (Message.Data 1 bytes) (Message.Ack 0) spells zero_spelled in absurd (cc)
      | inr last ↦ elim last [
        | inl (way, spells) ↦ let same : Message.Data 1 bytes ≡ Message.Request asked_for = spelled_once (write_of (codes "f")) (Message.Data 1 bytes) (Message.Request asked_for) spells write_spelled in absurd (cc)
        | inr none ↦ absurd none
      ]
    ]
  ];
}

-- ---- so the ACK is of a block that did not come

ahead : Broken h before acking (Rule.Block EndRule.AckAhead)
ahead = record {
  message = Message.Ack 1;
  says = record { routed = refl; spells = ack_spelled };
  asked = asked_for;
  first = (asking, refl, write_spelled);
  breaks = inr (inr (EndRule.AckAhead, refl, terms_after h asked_for Begins, inr (Begins, inl (inr (not_answered, (Message.Ack 0, zero_spelled, refl))), refl), (0, inr (refl, none_came), omega arith)));
}

asked_side : (asked : RequestParts) → FirstAsked h before asked → asked.side ≡ Put
asked_side asked (d, found, spells) =
    let this : asking ≡ d = some_same asking d found in
    let same = request_same asked asked_for (spelled_once (write_of (codes "f")) (Message.Request asked) (Message.Request asked_for) (subst (λ (e : Datagram). Spells e.payload (Message.Request asked)) (sym this) spells) write_spelled) in
    ap (λ (r : RequestParts). r.side) same

wrong_kind : (side : Side) → side ≡ Put → IsWrongKind (author_of Server Out) side (Message.Ack 1) → ⊥
wrong_kind Get is wrong = absurd (cc)
wrong_kind Put is wrong = absurd wrong

low_end : (t : Terms) (passed : List Datagram) (e : EndRule) → number_of (Rule.Block e) < 26 → EndBroken t passed (Message.Ack 1) e → ⊥
low_end t passed EndRule.AckAhead low is = absurd (omega arith)
low_end t passed EndRule.AckZero low is = absurd (omega arith)
low_end t passed _ low is = absurd is

none_lower : (rule : Rule) → number_of rule < 26 → MessageBroken h before acking rule → ⊥
none_lower rule low broken = by (subst (λ m. MessageBreaks h broken.asked (transfer_of h before) Out m rule) (spelled_once (ack_of 1) broken.message (Message.Ack 1) broken.says.spells ack_spelled) broken.breaks) where
  by : MessageBreaks h broken.asked (transfer_of h before) Out (Message.Ack 1) rule → ⊥
  by breaks = elim breaks [
    | inl kind ↦ wrong_kind broken.asked.side (asked_side broken.asked broken.first) kind.1
    | inr more ↦ elim more [
      | inl after ↦
          let (stop, (code, text, is), passed, differs, way_out) = after.1 in
          elim passed [
            | inl (way, spells) ↦ absurd (cc)
            | inr later ↦ elim later [
              | inl (way, spells) ↦ let same : stop ≡ Message.Ack 0 = spelled_once (ack_of 0) stop (Message.Ack 0) spells zero_spelled in absurd (cc)
              | inr last ↦ elim last [
                | inl (way, spells) ↦ absurd (cc)
                | inr none ↦ absurd none
              ]
            ]
          ]
      | inr terms ↦ let (e, is, t, are, ends) = terms in low_end t (transfer_of h before) e (subst (λ r. number_of r < 26) is low) ends
    ]
  ]

lower : (rule : Rule) → number_of rule < 26 → Broken h before acking rule → ⊥
lower (Rule.Port PortRule.Foreign) low broken = let both : Route.Peer ≡ Route.ForeignPort = broken in absurd (cc)
lower (Rule.Port PortRule.Wrong) low broken = let both : Route.Peer ≡ Route.WrongPort = broken in absurd (cc)
lower (Rule.Port PortRule.BadAnswer) low broken = elim broken [
  | inl no_answer ↦ let both : Route.Peer ≡ Route.NoStrayAnswer = no_answer in absurd (cc)
  | inr other ↦ let both : Route.Peer ≡ Route.StrayAnswer = other.0 in absurd (cc)
]
lower Rule.NoRequest low broken = let both : Some asking ≡ None = broken.0 in absurd (cc)
lower (Rule.Malformed fault) low broken = no_fault (ack_of 1) (Message.Ack 1) fault ack_spelled.1 broken.1.0
lower (Rule.Agreement r) low broken = none_lower (Rule.Agreement r) low broken
lower (Rule.Block r) low broken = none_lower (Rule.Block r) low broken
lower Rule.WrongKind low broken = none_lower Rule.WrongKind low broken
lower Rule.AfterError low broken = none_lower Rule.AfterError low broken
lower Rule.RequestChanged low broken = none_lower Rule.RequestChanged low broken
lower Rule.RequestAfterStart low broken = none_lower Rule.RequestAfterStart low broken
lower Rule.ReplyChanged low broken = none_lower Rule.ReplyChanged low broken
lower Rule.OackChanged low broken = none_lower Rule.OackChanged low broken
lower Rule.OackAfterStart low broken = none_lower Rule.OackAfterStart low broken

pub acked_again_refused : IsRefused h before acking (Rule.Block EndRule.AckAhead)
acked_again_refused = record {
  lawful = served_lawful own_name client (passes 6 client server (error_of 1) ∷ passes 5 server client (ack_of 0) ∷ asks_to_write 4 ∷ []) part_lawful;
  broken = (ahead, lower);
}
