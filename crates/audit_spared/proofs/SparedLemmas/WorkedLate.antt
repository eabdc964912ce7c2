-- A request comes late: what the server answers it is told of a transfer of its own, and an ACK of the one before is refused there.
use Rattle.std.proofs.Common.{◌≡◌, ◌<◌, ℕ, List, [], ◌∷◌, Some, None, codes, inl, inr, refl, sym, ap, subst, arith}
use Rattle.tftp_packet.specs.{Message, RequestParts, Side, Get, Put, Spells, Server}
use Rattle.tftp_packet.specs.Spelling.{octet_read}
use Rattle.tftp_packet.proofs.NoFault.{no_fault}
use Rattle.tftp_packet.specs.Hosts.{Datagram, Header}
use Rattle.tftp_packet.specs.{In}
use Rattle.law_model.specs.Rules.{IsTop, Route, transfer_of, author_of, EndBroken}
use Rattle.law_model.specs.{Terms, NoReply, EndRule, PortRule}
use Rattle.law_end.specs.{Agrees, Answer, IsAnswer, Begins, Broken, FirstAsked, IsRefused, MessageBreaks, MessageBroken, NotAnswered, Rule, IsWrongKind, number_of, plain_terms}
use Rattle.law_end.proofs.Spelled.{spelled_once}
use Rattle.law_end.proofs.FirstBroken.FirstRequests.{request_same, some_same}
use Rattle.audit_flows.specs.Transfers.{ack_of, client, service}
use Rattle.audit_flows.specs.Transfers.Worked.{error_of, passes, read_of, requests, server}
use Rattle.audit_spared.specs.Spared.{as_served, at_server_of}
use Rattle.audit_spared.specs.Spared.Worked.{own_name}
use Rattle.audit_spared.proofs.SparedLemmas.ServedEnd.{served_lawful}
use Rattle.audit_spared.proofs.SparedLemmas.WorkedReads.{f_spelled, stop_spelled, ack_spelled}
use Rattle.audit_spared.proofs.SparedLemmas.WorkedCaptures.{told_there_lawful}

abbrev h : Header
h = at_server_of 69

abbrev asks_it : Datagram
asks_it = as_served own_name client (requests 3 client service (codes "f"))

abbrev tells_it : Datagram
tells_it = as_served own_name client (passes 4 server client (error_of 1))

abbrev acks_it : Datagram
acks_it = as_served own_name client (passes 5 client server (ack_of 1))

abbrev pub before : List Datagram
before = tells_it ∷ asks_it ∷ []

-- ---- nothing has answered the request, and no block went out

no_answer : (m : Message) (answer : Answer) → ((options : _) → m ≡ Message.Oack options → ⊥) → ((k : ℕ) (bytes : List ℕ) → m ≡ Message.Data k bytes → ⊥) → (other : Message) → other ≡ m → IsAnswer Get other answer → ⊥
no_answer m answer oack block (Message.Oack options) is answers = oack options (sym is)
no_answer m answer oack block (Message.Data k bytes) is answers = block k bytes (sym is)
no_answer m (Agrees options) oack block (Message.Request asked) is answers = absurd answers
no_answer m (Agrees options) oack block (Message.Ack j) is answers = absurd answers
no_answer m (Agrees options) oack block (Message.Error code text) is answers = absurd answers
no_answer m Begins oack block (Message.Request asked) is answers = absurd answers
no_answer m Begins oack block (Message.Ack j) is answers = absurd answers
no_answer m Begins oack block (Message.Error code text) is answers = absurd answers

not_answered : NotAnswered Get before
not_answered = (
  λ answer (m, spells, is). no_answer (Message.Error 1 []) answer (λ o e. absurd (cc)) (λ k b e. absurd (cc)) m (spelled_once (error_of 1) m (Message.Error 1 []) spells stop_spelled) is,
  (
    λ answer (m, spells, is). no_answer (Message.Request (octet_read (codes "f"))) answer (λ o e. absurd (cc)) (λ k b e. absurd (cc)) m (spelled_once (read_of (codes "f")) m (Message.Request (octet_read (codes "f"))) spells f_spelled) is,
    tt,
  ),
)

none_sent : IsTop before 0
none_sent = record {
  member = inl refl;
  most = λ n (bytes, passed). elim passed [
    | inl (way, spells) ↦ let same : Message.Data n bytes ≡ Message.Error 1 [] = spelled_once (error_of 1) (Message.Data n bytes) (Message.Error 1 []) spells stop_spelled in absurd (cc)
    | inr later ↦ elim later [
      | inl (way, spells) ↦ let same : Message.Data n bytes ≡ Message.Request (octet_read (codes "f")) = spelled_once (read_of (codes "f")) (Message.Data n bytes) (Message.Request (octet_read (codes "f"))) spells f_spelled in absurd (cc)
      | inr none ↦ absurd none
    ]
  ];
}

-- ---- so the ACK is of a block that was not sent

ahead : Broken h before acks_it (Rule.Block EndRule.AckAhead)
ahead = record {
  message = Message.Ack 1;
  says = record { routed = refl; spells = ack_spelled };
  asked = octet_read (codes "f");
  first = (asks_it, refl, f_spelled);
  breaks = inr (inr (EndRule.AckAhead, refl, plain_terms h Get NoReply, inl (not_answered, refl), (0, inl (refl, none_sent), omega arith)));
}

asked_side : (asked : RequestParts) → FirstAsked h before asked → asked.side ≡ Get
asked_side asked (d, found, spells) =
    let this : asks_it ≡ d = some_same asks_it d found in
    let same = request_same asked (octet_read (codes "f")) (spelled_once (read_of (codes "f")) (Message.Request asked) (Message.Request (octet_read (codes "f"))) (subst (λ (e : Datagram). Spells e.payload (Message.Request asked)) (sym this) spells) f_spelled) in
    ap (λ (r : RequestParts). r.side) same

wrong_kind : (side : Side) → side ≡ Get → IsWrongKind (author_of Server In) side (Message.Ack 1) → ⊥
wrong_kind Get is wrong = absurd wrong
wrong_kind Put is wrong = absurd (cc)

low_end : (t : Terms) (passed : List Datagram) (e : EndRule) → number_of (Rule.Block e) < 26 → EndBroken t passed (Message.Ack 1) e → ⊥
low_end t passed EndRule.AckAhead low is = absurd (omega arith)
low_end t passed EndRule.AckZero low is = absurd (omega arith)
low_end t passed _ low is = absurd is

none_lower : (rule : Rule) → number_of rule < 26 → MessageBroken h before acks_it rule → ⊥
none_lower rule low broken = by (subst (λ m. MessageBreaks h broken.asked (transfer_of h before) In m rule) (spelled_once (ack_of 1) broken.message (Message.Ack 1) broken.says.spells ack_spelled) broken.breaks) where
  by : MessageBreaks h broken.asked (transfer_of h before) In (Message.Ack 1) rule → ⊥
  by breaks = elim breaks [
    | inl kind ↦ wrong_kind broken.asked.side (asked_side broken.asked broken.first) kind.1
    | inr more ↦ elim more [
      | inl after ↦ elim after.1.4 [
        | inl way ↦ absurd (cc)
        | inr error ↦ let same : Message.Ack 1 ≡ Message.Error error.0 error.1 = error.2 in absurd (cc)
      ]
      | inr terms ↦ let (e, is, t, are, ends) = terms in low_end t (transfer_of h before) e (subst (λ r. number_of r < 26) is low) ends
    ]
  ]

lower : (rule : Rule) → number_of rule < 26 → Broken h before acks_it rule → ⊥
lower (Rule.Port PortRule.Foreign) low broken = let both : Route.Peer ≡ Route.ForeignPort = broken in absurd (cc)
lower (Rule.Port PortRule.Wrong) low broken = let both : Route.Peer ≡ Route.WrongPort = broken in absurd (cc)
lower (Rule.Port PortRule.BadAnswer) low broken = elim broken [
  | inl no_answer ↦ let both : Route.Peer ≡ Route.NoStrayAnswer = no_answer in absurd (cc)
  | inr other ↦ let both : Route.Peer ≡ Route.StrayAnswer = other.0 in absurd (cc)
]
lower Rule.NoRequest low broken = let both : Some asks_it ≡ None = broken.0 in absurd (cc)
lower (Rule.Malformed fault) low broken = no_fault (ack_of 1) (Message.Ack 1) fault ack_spelled.1 broken.1.0
lower (Rule.Agreement r) low broken = none_lower (Rule.Agreement r) low broken
lower (Rule.Block r) low broken = none_lower (Rule.Block r) low broken
lower Rule.WrongKind low broken = none_lower Rule.WrongKind low broken
lower Rule.AfterError low broken = none_lower Rule.AfterError low broken
lower Rule.RequestChanged low broken = none_lower Rule.RequestChanged low broken
lower Rule.RequestAfterStart low broken = none_lower Rule.RequestAfterStart low broken
lower Rule.ReplyChanged low broken = none_lower Rule.ReplyChanged low broken
lower Rule.OackChanged low broken = none_lower Rule.OackChanged low broken
lower Rule.OackAfterStart low broken = none_lower Rule.OackAfterStart low broken

pub late_refused : IsRefused h before acks_it (Rule.Block EndRule.AckAhead)
late_refused = record {
  lawful = served_lawful own_name client (passes 4 server client (error_of 1) ∷ requests 3 client service (codes "f") ∷ []) told_there_lawful;
  broken = (ahead, lower);
}
