use Rattle.std.proofs.Common.{◌≡◌, List, [], rules, sym, subst}
use Rattle.tftp_packet.specs.{Message, RequestParts, meaning, Spells, parts, Packet, Client}
use Rattle.judge_tap.specs.{IsOtherError}
use Rattle.judge_tap.proofs.StateFound.{wants_memory}
use Rattle.judge_tap.proofs.keeping.first_request.Goals as goal

pub returns-in_err-asked-clause-breaks : goal.returns-in_err-asked-clause-breaks
returns-in_err-asked-clause-breaks c =
    wants_memory c.args.payload.now (parts c.in-Request.asked) (subst (λ (p : Packet). Spells c.args.payload.now (meaning p)) c.in-Request.is c.in-Ok.ensures.found) c.from_residual.result c.from_residual.ensures.1

pub returns-in_err-note-clause-breaks : goal.returns-in_err-note-clause-breaks
returns-in_err-note-clause-breaks c =
    wants_memory c.args.payload.now (parts c.in-Request.asked) (subst (λ (p : Packet). Spells c.args.payload.now (meaning p)) c.in-Request.is c.in-Ok.ensures.found) c.from_residual-in_err-note.result c.from_residual-in_err-note.ensures.1

pub returns-clause-found : goal.returns-clause-found
returns-clause-found c =
    let asked : parts c.in-Request.asked ≡ c.in_ok-asked.asked = search rules in (
      subst (λ (r : RequestParts). Spells c.args.payload.now (Message.Request r)) asked (subst (λ (p : Packet). Spells c.args.payload.now (meaning p)) c.in-Request.is c.in-Ok.ensures.found),
      λ s d apart source payload. c.in_ok-note.ensures.ok s [] d (c.new-notes.ensures s) apart source (subst (λ (l : List _). Spells l (meaning c.in-Ok.packet)) (sym payload) c.in-Ok.ensures.found)
          (subst (λ (p : Packet). IsOtherError s [] Client (meaning p) → ⊥) (sym c.in-Request.is) (λ other. other)),
    )
