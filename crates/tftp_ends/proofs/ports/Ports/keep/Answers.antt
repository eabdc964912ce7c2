use Rattle.std.proofs.Common.{◌≡◌, ◌∙◌, ◌||◌, sym, ap, subst, [], is_some}
use Rattle.std.proofs.lemmas.Bool.{false≢true}
use Rattle.tftp_packet.specs.Hosts.{PeerId, same_peer}
use Rattle.tftp_ends.specs.{StandsFor, among_all, datagram_as, is_noted}
use Rattle.tftp_ends.proofs.KeptIds.{ComesFirst}
use Rattle.tftp_ends.proofs.KeptSteps.{request_stands, peer_stands, error_stands, stray_stands, answer_stands, never_first}
use Rattle.tftp_ends.proofs.ports.Ports.keep.Goals as goal

pub returns-in-Peer-clause-stands : goal.returns-in-Peer-clause-stands
returns-in-Peer-clause-stands c h earlier payload stands is has =
    rw c.sides-in-Peer.ensures (answer_stands h _ earlier (subst (λ k. StandsFor k h earlier) (sym c.self.view_is) stands) (datagram_as c.args.seen.now payload) (sym (ap among_all c.in-Peer.is) ∙ is)
    (ap (λ k. ComesFirst k k.header.named (datagram_as c.args.seen.now payload)) c.self.view_is ∙ sym (c.is_first_answer.ensures payload) ∙ c.if-is_first_answer.true))

pub returns-in-Peer-clause-waits : goal.returns-in-Peer-clause-waits
returns-in-Peer-clause-waits c none is =
    let never = never_first c.args.self.now c.args.self.now.header.named (datagram_as c.args.seen.now []) none in
    absurd (false≢true (sym never ∙ sym (c.is_first_answer.ensures []) ∙ c.if-is_first_answer.true))

pub returns-else-is_first_answer-clause-stands : goal.returns-else-is_first_answer-clause-stands
returns-else-is_first_answer-clause-stands c h earlier payload stands is has =
    peer_stands h c.args.self.now earlier stands (datagram_as c.args.seen.now payload) (sym (ap among_all c.in-Peer.is) ∙ is) has
    (sym (c.is_first_answer.ensures payload) ∙ c.if-is_first_answer.false)

pub returns-else-is_none-clause-stands : goal.returns-else-is_none-clause-stands
returns-else-is_none-clause-stands c h earlier payload stands is has =
    request_stands h c.args.self.now earlier stands (datagram_as c.args.seen.now payload) (sym (ap among_all c.in-Request.is) ∙ is)
    (ap (λ k. is_some k.asked) (sym c.self.view_is) ∙ c.if-is_none.ensures)

pub returns-in-StrayAnswer-clause-stands : goal.returns-in-StrayAnswer-clause-stands
returns-in-StrayAnswer-clause-stands c h earlier payload stands is has =
    error_stands h c.args.self.now earlier stands (datagram_as c.args.seen.now payload) (sym (ap among_all c.in-StrayAnswer.is) ∙ is)

pub returns-in_ok-note-in-Stray-clause-stands : goal.returns-in_ok-note-in-Stray-clause-stands
returns-in_ok-note-in-Stray-clause-stands c h earlier payload stands is has =
    stray_stands h _ earlier (subst (λ k. StandsFor k h earlier) (sym c.self.view_is) stands) (datagram_as c.args.seen.now payload) c.note.new.self (sym (ap among_all c.in-Stray.is) ∙ is)
    (subst (λ p. (other : PeerId) → is_noted other c.note.new.self ≡ (same_peer p other || is_noted other c.self.inside.strays)) c.peer.ensures c.in_ok-note-in-Stray.ensures.ok)
