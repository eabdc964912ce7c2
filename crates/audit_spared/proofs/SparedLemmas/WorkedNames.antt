-- Who has the client's name tells a server an ERROR, which is taken for the client's; so the client's own is refused.
use Rattle.std.proofs.Common.{◌≡◌, ◌<◌, ℕ, List, [], ◌∷◌, Some, None, codes, inl, inr, refl, ap, subst, arith}
use Rattle.tftp_packet.specs.{Message, Side, Get, Put, Server}
use Rattle.tftp_packet.specs.Spelling.{octet_read}
use Rattle.tftp_packet.proofs.NoFault.{no_fault}
use Rattle.tftp_packet.specs.Hosts.{Datagram, Header}
use Rattle.tftp_packet.specs.{In}
use Rattle.law_model.specs.Rules.{Route, transfer_of, author_of}
use Rattle.law_model.specs.{PortRule}
use Rattle.law_model.proofs.RulesLemmas.EndRules.{from_18}
use Rattle.law_end.specs.{Broken, IsRefused, MessageBreaks, MessageBroken, Rule, IsWrongKind, number_of}
use Rattle.law_end.proofs.Spelled.{spelled_once}
use Rattle.law_end.proofs.FirstBroken.OneMessage.{agreement_from}
use Rattle.audit_flows.specs.Transfers.{client, data_of, service}
use Rattle.audit_flows.specs.Transfers.Worked.{error_of, passes, requests, server}
use Rattle.audit_spared.specs.Spared.{as_served, at_server_of}
use Rattle.audit_spared.specs.Spared.Worked.{one_name}
use Rattle.audit_spared.proofs.SparedLemmas.ServedEnd.{served_lawful}
use Rattle.audit_spared.proofs.SparedLemmas.WorkedReads.{f_spelled, stop_spelled, full_spelled}
use Rattle.audit_spared.proofs.SparedLemmas.WorkedCaptures.{namesake_there_lawful}

abbrev h : Header
h = at_server_of 69

abbrev asks_it : Datagram
asks_it = as_served one_name client (requests 0 client service (codes "f"))

abbrev tells_it : Datagram
tells_it = as_served one_name client (passes 3 client server (error_of 2))

-- what passed before, by the names
abbrev pub before : List Datagram
before = as_served one_name client (passes 2 client server (error_of 1)) ∷ as_served one_name client (passes 1 server client (data_of 1)) ∷ asks_it ∷ []

abbrev code_of : Message → ℕ
code_of (Message.Error code text) = code
code_of m = 0

after_error : Broken h before tells_it Rule.AfterError
after_error = record {
  message = Message.Error 2 [];
  says = record { routed = refl; spells = full_spelled };
  asked = octet_read (codes "f");
  first = (asks_it, refl, f_spelled);
  breaks = inr (inl (refl, (Message.Error 1 [], (1, [], refl), inl (refl, stop_spelled), (λ is. absurd (other is)), inr (2, [], refl))));
} where
  other : Message.Error 2 [] ≡ Message.Error 1 [] → ⊥
  other is = let no : code_of (Message.Error 2 []) ≡ code_of (Message.Error 1 []) = ap code_of is in absurd (omega (arith, no))

wrong_kind : (side : Side) → IsWrongKind (author_of Server In) side (Message.Error 2 []) → ⊥
wrong_kind Get wrong = absurd wrong
wrong_kind Put wrong = absurd wrong

none_kind : MessageBroken h before tells_it Rule.WrongKind → ⊥
none_kind broken = by (subst (λ m. MessageBreaks h broken.asked (transfer_of h before) In m Rule.WrongKind) (spelled_once (error_of 2) broken.message (Message.Error 2 []) broken.says.spells full_spelled) broken.breaks) where
  by : MessageBreaks h broken.asked (transfer_of h before) In (Message.Error 2 []) Rule.WrongKind → ⊥
  by breaks = elim breaks [
    | inl kind ↦ wrong_kind broken.asked.side kind.1
    | inr more ↦ elim more [
      | inl after ↦ let same : Rule.WrongKind ≡ Rule.AfterError = after.0 in absurd (cc)
      | inr none ↦ absurd none
    ]
  ]

lower : (rule : Rule) → number_of rule < 7 → Broken h before tells_it rule → ⊥
lower (Rule.Port PortRule.Foreign) low broken = let both : Route.Peer ≡ Route.ForeignPort = broken in absurd (cc)
lower (Rule.Port PortRule.Wrong) low broken = let both : Route.Peer ≡ Route.WrongPort = broken in absurd (cc)
lower (Rule.Port PortRule.BadAnswer) low broken = elim broken [
  | inl no_answer ↦ let both : Route.Peer ≡ Route.NoStrayAnswer = no_answer in absurd (cc)
  | inr other ↦ let both : Route.Peer ≡ Route.StrayAnswer = other.0 in absurd (cc)
]
lower Rule.NoRequest low broken = let both : Some asks_it ≡ None = broken.0 in absurd (cc)
lower (Rule.Malformed fault) low broken = no_fault (error_of 2) (Message.Error 2 []) fault full_spelled.1 broken.1.0
lower Rule.WrongKind low broken = none_kind broken
lower (Rule.Agreement r) low broken = let high = agreement_from r in absurd (omega (arith, high, low))
lower (Rule.Block r) low broken = let high = from_18 r in absurd (omega (arith, high, low))
lower Rule.AfterError low broken = absurd (omega arith)
lower Rule.RequestChanged low broken = absurd (omega arith)
lower Rule.RequestAfterStart low broken = absurd (omega arith)
lower Rule.ReplyChanged low broken = absurd (omega arith)
lower Rule.OackChanged low broken = absurd (omega arith)
lower Rule.OackAfterStart low broken = absurd (omega arith)

pub other_error_refused : IsRefused h before tells_it Rule.AfterError
other_error_refused = record {
  lawful = served_lawful one_name client (passes 2 client server (error_of 1) ∷ passes 1 server client (data_of 1) ∷ requests 0 client service (codes "f") ∷ []) namesake_there_lawful;
  broken = (after_error, lower);
}
