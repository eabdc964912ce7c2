-- A division that follows the routes, with a possible one-sided history, breaks no rule.
use Rattle.std.proofs.Common.{◌≡◌, ℕ, true, List, [], ◌∷◌, Option, Some, None, inl, inr, refl, sym, subst, ap, ◌∙◌}
use Rattle.tftp_packet.specs.{Message, RequestParts, Spells, End, Client, Server}
use Rattle.tftp_packet.specs.Hosts.{Datagram, Header}
use Rattle.law_model.specs.Model.{Meaning, request_of, MachinePacket, Req, Oack, Data, Ack, Error, Deed, Sent, Took, History, message_of, IsOneSided}
use Rattle.law_model.specs.Rules.{Route, asks, first_of, route_of, is_of_transfer, transfer_of, SaysUnknownId, PortBroken}
use Rattle.law_model.specs.{PortRule}
use Rattle.law_end.specs.{Fits, says_of, Label, Main, Stray, Division, datagrams_of, view_in, dir_of, packet_of, request_at, Starts, Accords, packet_route, label_route, SaysAs, AreRouted, Agrees, Begins, Broken, MessageBreaks, Rule, IsRead, Passes, OneEnded}
use Rattle.law_end.proofs.Division.Unasked.{none_view}
use Rattle.law_end.specs.Dress.{StrayAnswer}
use Rattle.law_end.proofs.Spelled.{spelled_once}
use Rattle.law_end.proofs.FirstBroken.FirstAnswered.{first_one, not_both}
use Rattle.law_end.proofs.FirstBroken.OneMessage.{only_ports, only_messages, lawful_by}
use Rattle.law_end.proofs.Accord.FirstSpelled.{request_spelled}
use Rattle.law_end.proofs.Completeness.NextDeed.{deed_keeps, reply_now, wire_blocks}
use Rattle.law_end.proofs.FirstBroken.FirstRequests.{request_same}
use Rattle.law_end.proofs.Division.Placing.{starts_before}

-- ---- where it has no message of the transfer

module _ (h : Header) (earlier : List Datagram) (d : Datagram) where
  -- a stray passes
  pub stray_passes : route_of h earlier d ≡ Route.Stray → Passes h earlier d
  stray_passes is = record {
    read = subst (λ r. IsRead r d) (sym is) tt;
    lawful = only_ports h earlier d (ap is_of_transfer is) kept;
  }
    where
      kept : (port : PortRule) → PortBroken h earlier d port → ⊥
      kept PortRule.Foreign b = let e = sym is ∙ b in cc
      kept PortRule.Wrong b = let e = sym is ∙ b in cc
      kept PortRule.BadAnswer (inl b) = let e = sym is ∙ b in cc
      kept PortRule.BadAnswer (inr b) = let e = sym is ∙ b.0 in cc

  -- and so does an answer to one
  pub answer_passes : route_of h earlier d ≡ Route.StrayAnswer → SaysUnknownId d → Passes h earlier d
  answer_passes is says = record {
    read = subst (λ r. IsRead r d) (sym is) says;
    lawful = only_ports h earlier d (ap is_of_transfer is) kept;
  }
    where
      kept : (port : PortRule) → PortBroken h earlier d port → ⊥
      kept PortRule.Foreign b = let e = sym is ∙ b in cc
      kept PortRule.Wrong b = let e = sym is ∙ b in cc
      kept PortRule.BadAnswer (inl b) = let e = sym is ∙ b in cc
      kept PortRule.BadAnswer (inr b) = b.1 says

  -- the first request passes
  first_lawful : first_of (asks h) earlier ≡ None → route_of h earlier d ≡ Route.Request → (request : RequestParts) → Spells d.payload (Message.Request request) → (rule : Rule) → Broken h earlier d rule → ⊥
  first_lawful none is request spells rule b =
      let said = only_messages h earlier d (Message.Request request) (ap is_of_transfer is) spells (λ unasked peer. let e = sym is ∙ peer in cc) rule b in
      let both : None ≡ Some said.first.0 = sym none ∙ said.first.1 in
      cc

-- ---- all datagrams

module _ (h : Header) (m : Meaning) (wire : List ℕ) (fits : Fits h.rollover m wire) where
  main_read : (q : MachinePacket) (d : Datagram) → Spells d.payload (message_of m wire q) → IsRead (packet_route q) d
  main_read Req d s = (message_of m wire Req, s)
  main_read Oack d s = (message_of m wire Oack, s)
  main_read (Data k) d s = (message_of m wire (Data k), s)
  main_read (Ack j) d s = (message_of m wire (Ack j), s)
  main_read (Error code text) d s = (message_of m wire (Error code text), s)

  main_of : (q : MachinePacket) → is_of_transfer (packet_route q) ≡ true
  main_of Req = refl
  main_of _ = refl

  asks_first : (e : End) → packet_of (request_at e) ≡ Req
  asks_first Client = refl
  asks_first Server = refl

  main_lawful : (d : Datagram) (deed : Deed) (earlier : Division) → AreRouted h m wire earlier → IsOneSided m wire h.named (view_in earlier) → IsOneSided m wire h.named (deed ∷ view_in earlier) → Starts h.named (deed ∷ view_in earlier)
      → route_of h (datagrams_of earlier) d ≡ packet_route (packet_of deed) → d.dir ≡ dir_of deed → Spells d.payload (message_of m wire (packet_of deed))
      → (o : Option Datagram) → first_of (asks h) (datagrams_of earlier) ≡ o → (rule : Rule) → Broken h (datagrams_of earlier) d rule → ⊥
  main_lawful d deed earlier routed own all starts is way spells (Some was) there =
      lawful_by h (datagrams_of earlier) d (message_of m wire (packet_of deed)) (request_of m) (ap is_of_transfer is ∙ main_of (packet_of deed)) spells (was, there, request_spelled h m wire earlier routed was there)
      (λ rule b. deed_keeps h m wire fits earlier routed own deed all rule (subst (λ dir. MessageBreaks h (request_of m) (transfer_of h (datagrams_of earlier)) dir (message_of m wire (packet_of deed)) rule) way b))
  main_lawful d deed earlier routed own all starts is way spells None there =
      let empty = none_view h (says_of m wire) earlier routed starts.1 there in
      let request : packet_of deed ≡ Req = ap packet_of (starts.0.first empty) ∙ asks_first h.named in
      first_lawful h (datagrams_of earlier) d there (is ∙ ap packet_route request) (request_of m) (subst (λ q. Spells d.payload (message_of m wire q)) request spells)

  deed_own : (deed : Deed) (v : History) → IsOneSided m wire h.named (deed ∷ v) → IsOneSided m wire h.named v
  deed_own (Sent p) v all = all.1
  deed_own (Took p) v all = all.1

  label_passes : (d : Datagram) (label : Label) (earlier : Division) → AreRouted h m wire earlier → route_of h (datagrams_of earlier) d ≡ label_route label → SaysAs m wire d label
      → IsOneSided m wire h.named (view_in (record { datagram = d; label = label } ∷ earlier)) → Starts h.named (view_in (record { datagram = d; label = label } ∷ earlier)) → Passes h (datagrams_of earlier) d × IsOneSided m wire h.named (view_in earlier)
  label_passes d (Main deed) earlier routed is says all starts =
      let own = deed_own deed (view_in earlier) all in (
        record {
          read = subst (λ r. IsRead r d) (sym is) (main_read (packet_of deed) d says.1);
          lawful = main_lawful d deed earlier routed own all starts is says.0 says.1 (first_of (asks h) (datagrams_of earlier)) refl;
        },
        own,
      )
  label_passes d Stray earlier routed is says all starts = (stray_passes h (datagrams_of earlier) d is, all)
  label_passes d StrayAnswer earlier routed is says all starts = (answer_passes h (datagrams_of earlier) d is says, all)

  -- every datagram of the division passes after those before it
  pub ruled : (division : Division) → AreRouted h m wire division → IsOneSided m wire h.named (view_in division) → Starts h.named (view_in division) → OneEnded h (datagrams_of division)
  ruled [] routed own starts = tt
  ruled (p ∷ earlier) routed own starts =
      let (passes, before) = label_passes p.datagram p.label earlier routed.2 routed.0 routed.1 own starts in
      (passes, ruled earlier routed.2 before (starts_before h.named p.datagram p.label earlier starts))

  abbrev through : Division → List Datagram
  through division = transfer_of h (datagrams_of division)

  -- and the meaning and the wire are in accord with them
  pub accords : (division : Division) → AreRouted h m wire division → IsOneSided m wire h.named (view_in division) → Accords h m wire (datagrams_of division)
  accords division routed own = record {
    fits = fits;
    asked = λ asked first. request_same asked (request_of m) (spelled_once first.0.payload (Message.Request asked) (Message.Request (request_of m)) first.2 (request_spelled h m wire division routed first.0 first.1));
    oacked = λ options first. elim (reply_now h m wire fits division routed own) [
      | inl none ↦ absurd (not_both m.side (through division) (Agrees options) none first)
      | inr some ↦ elim some [
        | inl x ↦ let e : Agrees m.agreed ≡ Agrees options = first_one m.side (through division) (Agrees m.agreed) (Agrees options) x.1 first in cc
        | inr x ↦ let e : Begins ≡ Agrees options = first_one m.side (through division) Begins (Agrees options) x.1 first in absurd (cc)
      ]
    ];
    plain = λ first. elim (reply_now h m wire fits division routed own) [
      | inl none ↦ absurd (not_both m.side (through division) Begins none first)
      | inr some ↦ elim some [
        | inl x ↦ let e : Agrees m.agreed ≡ Begins = first_one m.side (through division) (Agrees m.agreed) Begins x.1 first in absurd (cc)
        | inr x ↦ x.0
      ]
    ];
    blocks = wire_blocks h m wire fits division routed own;
  }
