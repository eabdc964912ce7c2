-- What a message of the transfer breaks, where it is known what was asked for first: all rules are those of messages.
use Rattle.std.proofs.Common.{◌≡◌, ◌<◌, ◌≤◌, true, false, List, Some, None, inl, inr, refl, sym, subst, ap, ◌∙◌, arith}
use Rattle.std.proofs.lemmas.Bool.{false≢true}
use Rattle.tftp_packet.specs.{OptionMap, Message, RequestParts, Spells}
use Rattle.tftp_packet.proofs.NoFault.{no_fault}
use Rattle.tftp_packet.specs.Hosts.{Datagram, Header}
use Rattle.tftp_packet.specs.{Dir}
use Rattle.law_model.specs.Rules.{Route, asks, first_of, route_of, is_of_transfer, transfer_of, PortBroken, EndBroken}
use Rattle.law_model.specs.{PortRule, Terms, EndRule}
use Rattle.law_model.proofs.RulesLemmas.EndRules.{from_18}
use Rattle.tftp_nego.specs.{AgreementRule}
use Rattle.law_end.specs.{number_of, FirstBroken, FirstAsked, Broken, MessageBroken, AreTermsAfter, RequestBreaks, OackBreaks, TermsBreak, KindBreaks, MessageBreaks, Rule}
use Rattle.law_end.proofs.Spelled.{spelled_once}
use Rattle.law_end.proofs.FirstBroken.FirstRequests.{asked_once}

-- ---- the numbers of a message's rules

pub agreement_from : (broken : AgreementRule) → 11 ≤ number_of (Rule.Agreement broken)
agreement_from AgreementRule.OackEmpty = omega arith
agreement_from _ = omega arith

pub port_to : (port : PortRule) → number_of (Rule.Port port) ≤ 3
port_to PortRule.Foreign = omega arith
port_to _ = omega arith

module _ (h : Header) (asked : RequestParts) (passed : List Datagram) (dir : Dir) where
  request_from : (now : RequestParts) (rule : Rule) → RequestBreaks asked passed dir now rule → 8 ≤ number_of rule
  request_from now Rule.RequestChanged b = omega arith
  request_from now Rule.RequestAfterStart b = omega arith
  request_from now rule b = absurd b

  oack_from : (oack : OptionMap) (rule : Rule) → OackBreaks h.rollover asked passed dir oack rule → 8 ≤ number_of rule
  oack_from oack Rule.ReplyChanged b = omega arith
  oack_from oack Rule.OackChanged b = omega arith
  oack_from oack Rule.OackAfterStart b = omega arith
  oack_from oack (Rule.Agreement broken) b = let high = agreement_from broken in omega arith
  oack_from oack (Rule.Block EndRule.BeyondBlock65535) b = omega arith
  oack_from oack rule b = absurd b.1

  terms_from : (m : Message) (rule : Rule) → TermsBreak h asked passed m rule → 8 ≤ number_of rule
  terms_from m rule (e, is, t, at, b) = let high = from_18 e in let same = ap number_of is in omega arith

  -- the rules of one kind stand behind that of ERRORs
  pub kind_from : (m : Message) (rule : Rule) → KindBreaks h asked passed dir m rule → 8 ≤ number_of rule
  kind_from (Message.Request now) rule b = request_from now rule b
  kind_from (Message.Error code text) rule b = absurd b
  kind_from (Message.Oack oack) rule b = oack_from oack rule b
  kind_from (Message.Data k bytes) rule b = terms_from (Message.Data k bytes) rule b
  kind_from (Message.Ack j) rule b = terms_from (Message.Ack j) rule b

  message_from : (m : Message) (rule : Rule) → MessageBreaks h asked passed dir m rule → 6 ≤ number_of rule
  message_from m rule (inl (is, wrong)) = let same = ap number_of is in omega arith
  message_from m rule (inr (inl (is, goes))) = let same = ap number_of is in omega arith
  message_from m rule (inr (inr b)) = let high = kind_from m rule b in omega arith

  -- what breaks a rule of blocks and acknowledgements is a block or an ACK
  pub end_breaks : (m : Message) (t : Terms) → AreTermsAfter h asked passed t → (e : EndRule) → EndBroken t passed m e → MessageBreaks h asked passed dir m (Rule.Block e)
  end_breaks (Message.Data k bytes) t known e b = inr (inr (e, refl, t, known, b))
  end_breaks (Message.Ack j) t known e b = inr (inr (e, refl, t, known, b))
  end_breaks _ t known e b = absurd b

-- ---- which rules a datagram can break

module _ (h : Header) (earlier : List Datagram) (d : Datagram) where
  -- what breaks a rule of ports is none of the transfer
  pub port_off : (port : PortRule) → PortBroken h earlier d port → is_of_transfer (route_of h earlier d) ≡ false
  port_off PortRule.Foreign b = ap is_of_transfer b
  port_off PortRule.Wrong b = ap is_of_transfer b
  port_off PortRule.BadAnswer (inl none) = ap is_of_transfer none
  port_off PortRule.BadAnswer (inr bad) = ap is_of_transfer bad.0

  -- those of ports, where it is none of the transfer
  pub only_ports : is_of_transfer (route_of h earlier d) ≡ false → ((port : PortRule) → PortBroken h earlier d port → ⊥) → (rule : Rule) → Broken h earlier d rule → ⊥
  only_ports off kept (Rule.Port port) b = kept port b
  only_ports off kept Rule.NoRequest b = false≢true (sym off ∙ ap is_of_transfer b.1)
  only_ports off kept (Rule.Malformed fault) b = false≢true (sym off ∙ b.0)
  only_ports off kept rule b = false≢true (sym off ∙ b.says.routed)

  -- those of messages, where it is one of the transfer
  pub only_messages : (m : Message) → is_of_transfer (route_of h earlier d) ≡ true → Spells d.payload m → (first_of (asks h) earlier ≡ None → route_of h earlier d ≡ Route.Peer → ⊥)
      → (rule : Rule) → Broken h earlier d rule → MessageBroken h earlier d rule
  only_messages m on spells begun (Rule.Port port) b = absurd (false≢true (sym (port_off port b) ∙ on))
  only_messages m on spells begun Rule.NoRequest b = absurd (begun b.0 b.1)
  only_messages m on spells begun (Rule.Malformed fault) b = absurd (no_fault d.payload m fault spells.1 b.1.0)
  only_messages m on spells begun rule b = b

-- ---- the message that a datagram says

module _ (h : Header) (earlier : List Datagram) (d : Datagram) (m : Message) (asked : RequestParts)
    (routed : is_of_transfer (route_of h earlier d) ≡ true) (spells : Spells d.payload m) (first : FirstAsked h earlier asked) where
  abbrev Breaks : Rule → Type 0
  Breaks rule = MessageBreaks h asked (transfer_of h earlier) d.dir m rule

  pub breaks_by : (rule : Rule) → MessageBroken h earlier d rule → Breaks rule
  breaks_by rule b =
      subst (λ a. MessageBreaks h a (transfer_of h earlier) d.dir m rule) (asked_once h earlier b.asked asked b.first first)
      (subst (λ x. MessageBreaks h b.asked (transfer_of h earlier) d.dir x rule) (spelled_once d.payload b.message m b.says.spells spells) b.breaks)

  there : (rule : Rule) → Broken h earlier d rule → Breaks rule
  there rule b = breaks_by rule (only_messages h earlier d m routed spells (λ none peer. let both : None ≡ Some first.0 = sym none ∙ first.1 in cc) rule b)

  low : (rule : Rule) → Breaks rule → number_of rule ≤ 5 → ⊥
  low rule b few = let high = message_from h asked (transfer_of h earlier) d.dir m rule b in omega arith

  pub back : (rule : Rule) → Breaks rule → Broken h earlier d rule
  back (Rule.Port port) b = absurd (low (Rule.Port port) b (omega (arith, port_to port)))
  back Rule.NoRequest b = absurd (low Rule.NoRequest b (omega arith))
  back (Rule.Malformed fault) b = absurd (low (Rule.Malformed fault) b (omega arith))
  back rule b = record { message = m; says = record { routed = routed; spells = spells }; asked = asked; first = first; breaks = b }

  -- ---- what is found of it

  pub first_by : (rule : Rule) → Breaks rule → ((other : Rule) → number_of other < number_of rule → Breaks other → ⊥) → FirstBroken h earlier d rule
  first_by rule breaks none = (back rule breaks, λ other low b. none other low (there other b))

  pub lawful_by : ((rule : Rule) → Breaks rule → ⊥) → (rule : Rule) → Broken h earlier d rule → ⊥
  lawful_by none rule b = none rule (there rule b)

  pub none_by : ((rule : Rule) → Broken h earlier d rule → ⊥) → (rule : Rule) → Breaks rule → ⊥
  none_by none rule b = none rule (back rule b)

  pub no_end_by : ((rule : Rule) → Broken h earlier d rule → ⊥) → (t : Terms) → AreTermsAfter h asked (transfer_of h earlier) t → (e : EndRule) → EndBroken t (transfer_of h earlier) m e → ⊥
  no_end_by none t known e b = none_by none (Rule.Block e) (end_breaks h asked (transfer_of h earlier) d.dir m t known e b)
