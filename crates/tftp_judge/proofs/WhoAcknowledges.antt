-- Of lawful datagrams an ACK comes from the receiver.
use Rattle.std.proofs.Common.{◌≡◌, ℕ, Bool, true, false, List, [], ◌∷◌, Option, Some, None, inl, inr, refl, sym, subst, ap, ◌∙◌}
use Rattle.tftp_packet.specs.{Message, RequestParts, Spells}
use Rattle.tftp_packet.specs.Hosts.{Datagram, Header}
use Rattle.tftp_packet.specs.{Dir, In, Out}
use Rattle.law_model.specs.Rules.{or_this, first_of, asks, route_of, is_of_transfer, transfer_of, author_of, Passed}
use Rattle.law_model.specs.Model.Roles.{sender_of, receiver_of}
use Rattle.law_end.specs.{Passes, OneEnded, FirstAsked, IsWrongKind, Rule}
use Rattle.law_end.proofs.FirstBroken.FirstAnswered.{or_new, main_none, main_some}
use Rattle.law_end.proofs.FirstBroken.OneMessage.{none_by}
use Rattle.law_end.proofs.FirstBroken.FirstRequests.{some_same, first_stays, none_before}
use Rattle.law_end.proofs.Spelled.{spelled_once}
use Rattle.law_end.proofs.Accord.WhoSends.{ack_in_who, ack_out_who}

module _ (h : Header) (asked : RequestParts) (dir : Dir) (j : ℕ) where
  abbrev IsRightKind : List Datagram → Type 0
  IsRightKind passed = Passed dir (Message.Ack j) passed → IsWrongKind (author_of h.named dir) asked.side (Message.Ack j) → ⊥

  right_by : (earlier : List Datagram) (d : Datagram) → Passes h earlier d → OneEnded h earlier → FirstAsked h (d ∷ earlier) asked
      → (FirstAsked h earlier asked → IsRightKind (transfer_of h earlier))
      → (o : Option Datagram) → first_of (asks h) earlier ≡ o → (b : Bool) → is_of_transfer (route_of h earlier d) ≡ b → IsRightKind (transfer_of h (d ∷ earlier))
  right_by earlier d passes lawful first before (Some was) is main routed p wrong = by main routed where
    stays : FirstAsked h earlier asked
    stays = (was, is, subst (λ (x : Datagram). Spells x.payload (Message.Request asked)) (some_same first.0 was (sym first.1 ∙ first_stays (asks h) d was earlier is)) first.2)

    by : (b : Bool) → is_of_transfer (route_of h earlier d) ≡ b → ⊥
    by true of = elim (subst (Passed dir (Message.Ack j)) (main_some (is_of_transfer (route_of h earlier d)) d (transfer_of h earlier) of) p) [
      | inl now ↦ none_by h earlier d (Message.Ack j) asked of now.1 stays passes.lawful Rule.WrongKind (inl (refl, subst (λ way. IsWrongKind (author_of h.named way) asked.side (Message.Ack j)) (sym now.0) wrong))
      | inr more ↦ before stays more wrong
    ]
    by false of = before stays (subst (Passed dir (Message.Ack j)) (main_none (is_of_transfer (route_of h earlier d)) d (transfer_of h earlier) of) p) wrong
  right_by earlier d passes lawful first before None is true routed p wrong =
      let request : d ≡ first.0 = or_new (asks h d) d first.0 (sym (ap (λ o. or_this o (asks h d) d) is) ∙ first.1) in
      let s : Spells d.payload (Message.Request asked) = subst (λ (x : Datagram). Spells x.payload (Message.Request asked)) (sym request) first.2 in
      let alone = main_some (is_of_transfer (route_of h earlier d)) d (transfer_of h earlier) routed ∙ ap (λ ds. d ∷ ds) (none_before h earlier is lawful) in
      elim (subst (Passed dir (Message.Ack j)) alone p) [
        | inl now ↦ not_request (spelled_once d.payload (Message.Request asked) (Message.Ack j) s now.1)
        | inr none ↦ none
      ]
    where
      not_request : Message.Request asked ≡ Message.Ack j → ⊥
      not_request e = cc
  right_by earlier d passes lawful first before None is false routed p wrong =
      subst (Passed dir (Message.Ack j)) (main_none (is_of_transfer (route_of h earlier d)) d (transfer_of h earlier) routed ∙ none_before h earlier is lawful) p

  right_kind : (earlier : List Datagram) → OneEnded h earlier → FirstAsked h earlier asked → IsRightKind (transfer_of h earlier)
  right_kind [] lawful first p wrong = p
  right_kind (d ∷ earlier) lawful first p wrong =
      right_by earlier d lawful.0 lawful.1 first (λ stays q. right_kind earlier lawful.1 stays q) (first_of (asks h) earlier) refl (is_of_transfer (route_of h earlier d)) refl p wrong

pub ack_in_to_sender : (h : Header) (earlier : List Datagram) (asked : RequestParts) (j : ℕ) → OneEnded h earlier → FirstAsked h earlier asked → Passed In (Message.Ack j) (transfer_of h earlier) → h.named ≡ sender_of asked.side
ack_in_to_sender h earlier asked j lawful first p = ack_in_who h.named asked.side j (right_kind h asked In j earlier lawful first p)

pub ack_out_of_receiver : (h : Header) (earlier : List Datagram) (asked : RequestParts) (j : ℕ) → OneEnded h earlier → FirstAsked h earlier asked → Passed Out (Message.Ack j) (transfer_of h earlier) → h.named ≡ receiver_of asked.side
ack_out_of_receiver h earlier asked j lawful first p = ack_out_who h.named asked.side j (right_kind h asked Out j earlier lawful first p)
