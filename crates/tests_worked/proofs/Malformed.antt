-- Payloads that are no packets: no earlier rule is broken than the one that they break.
use Rattle.std.proofs.Common.{◌≡◌, ◌<◌, true, List, [], codes, reverse, inl, inr, refl, sym, ◌∙◌, arith, rules}
use Rattle.std.proofs.lemmas.Bool.{false≢true}
use Rattle.tftp_packet.specs.{FirstFault, Holds, number, PacketFault, Short, Opcode, AckLength, MailMode}
use Rattle.tftp_packet.proofs.RequestCases.{mode_fault}
use Rattle.tftp_packet.specs.Hosts.{Datagram, Header}
use Rattle.law_model.specs.Rules.{route_of, is_of_transfer}
use Rattle.law_end.specs.{number_of, Broken, IsRefused, Rule}
use Rattle.law_end.proofs.FirstBroken.OneMessage.{agreement_from, port_off}
use Rattle.tests_worked.specs.{at_client, read_without_its_ack, acknowledges_too_long, asks_for_mail}
use Rattle.law_model.proofs.RulesLemmas.EndRules.{from_18}
use Rattle.tests_worked.proofs.Bases.{plain_begun}

module _ (h : Header) (earlier : List Datagram) (d : Datagram) (routed : is_of_transfer (route_of h earlier d) ≡ true) (asked : Broken h earlier d Rule.NoRequest → ⊥) where
  -- a datagram of the transfer breaks no rule of ports
  pub under_malformed : (rule : Rule) → number_of rule < 5 → Broken h earlier d rule → ⊥
  under_malformed (Rule.Port port) low b = false≢true (sym (port_off h earlier d port b) ∙ routed)
  under_malformed Rule.NoRequest low b = asked b
  under_malformed (Rule.Agreement broken) low b = omega (arith, low, agreement_from broken)
  under_malformed (Rule.Block e) low b = omega (arith, low, from_18 e)
  under_malformed _ low b = omega arith

-- ---- an ACK with a byte too many

too_long : FirstFault acknowledges_too_long.payload AckLength
too_long = ((refl, λ e. omega (arith, e)), before)
  where
    before : (earlier : PacketFault) → number earlier < 3 → Holds earlier acknowledges_too_long.payload → ⊥
    before Short below (inl short) = omega arith
    before Short below (inr (inl data_is, short)) = omega arith
    before Short below (inr (inr error_is, short)) = omega arith
    before Opcode below (inl none) = omega arith
    before Opcode below (inr above) = omega arith
    before _ below x = omega arith

pub ack_length_refused : IsRefused at_client (reverse read_without_its_ack) acknowledges_too_long (Rule.Malformed AckLength)
ack_length_refused = record {
  lawful = plain_begun.lawful;
  broken = ((refl, too_long), under_malformed at_client (reverse read_without_its_ack) acknowledges_too_long refl (λ none. let e = none.0 in cc));
}

-- ---- a request in an obsolete mode

mail_mode : FirstFault asks_for_mail.payload MailMode
mail_mode = mode_fault 1 (inl refl) (codes "a") (codes "mail") [] _ (search rules) (search rules) refl [] refl tt tt tt MailMode refl

pub mail_refused : IsRefused at_client [] asks_for_mail (Rule.Malformed MailMode)
mail_refused = record {
  lawful = tt;
  broken = ((refl, mail_mode), under_malformed at_client [] asks_for_mail refl (λ none. let e = none.1 in cc));
}
