use Rattle.std.proofs.Common.{◌≡◌, true, List, [], ◌∷◌, Option, Some, None, Result, Ok, Err, OnOk, IfErr, inr, refl, rules, sym, subst, ap, ◌∙◌}
use Rattle.std.proofs.lemmas.Bool.{false≢true}
use Rattle.tftp_packet.specs.{End, Message, RequestParts, meaning, Spells, parts, Packet}
use Rattle.tftp_packet.specs.{Rollover}
use Rattle.tftp_packet.specs.Hosts.{Datagram, Header}
use Rattle.law_model.specs.Rules.{Route, route_of, is_of_transfer, transfer_of}
use Rattle.tftp_ends.specs.declared.route.Route.TheVariants as may
use Rattle.law_end.specs.{OneEnded, Passes}
use Rattle.tftp_judge.specs.{FindsOf, JudgeState, Transfer, IsKept, IsTransferAfter, IsNew}
use Rattle.tftp_judge.specs.declared.pass_error.PassError.{PassError}
use Rattle.tftp_judge.proofs.Accepting.{first_passes, message_found, peer_is, request_found}
use Rattle.tftp_judge.proofs.keeping.JudgeState.pass_read.Goals as goal
use Rattle.tftp_judge.proofs.keeping.JudgeState.pass_read.Goals.{else-is_none-via-then-is_none+else-eq, else-is_none-via-else-is_none}

-- what is found of the first request, by whether there was memory for it
began : (h : Header) (earlier : List Datagram) (d : Datagram) (named : End) (rollover : Option Rollover) (asked : RequestParts) (after : Option Transfer) (r : Result (Unit {0}) PassError) → h.named ≡ named → h.rollover ≡ rollover → OneEnded h earlier → earlier ≡ []
    → is_of_transfer (route_of h earlier d) ≡ true → (route_of h earlier d ≡ Route.Peer → ⊥) → Spells d.payload (Message.Request asked)
    → OnOk r ((t : Transfer) × (after ≡ Some t) × (t.asked ≡ asked) × ((i : Header) (e : Datagram) → i.named ≡ named → i.rollover ≡ rollover → Spells e.payload (Message.Request t.asked) → IsTransferAfter t i (e ∷ [])))
    → IfErr r (λ stop. stop ≡ PassError.Memory) → FindsOf h earlier d (IsKept h (d ∷ earlier) after) r
began h earlier d named rollover asked after (Ok _) at follows one none on other spells (t, is, same, begins) wanting =
    let said : Spells d.payload (Message.Request t.asked) = subst (λ (r : RequestParts). Spells d.payload (Message.Request r)) (sym same) spells in
    subst (λ (o : Option Transfer). Passes h earlier d × IsKept h (d ∷ earlier) o) (sym is) (request_found h earlier d t one none on other said (begins h d at follows said))
began h earlier d named rollover asked after (Err stop) at follows one none on other spells begins wanting =
    subst (λ (s : PassError). FindsOf h earlier d (IsKept h (d ∷ earlier) after) (Err s)) (sym wanting) (first_passes h earlier d (Message.Request asked) none on other spells one)

pub returns-in_err-pass-clause-finds : goal.returns-in_err-pass-clause-finds
returns-in_err-pass-clause-finds g c = λ h earlier d at one kept is on dir payload.
    let routed : is_of_transfer (route_of h earlier d) ≡ true = ap is_of_transfer (sym is) ∙ on in
    let spells : Spells d.payload (meaning c.in-Ok.packet) = subst (λ (bytes : List _). Spells bytes (meaning c.in-Ok.packet)) (sym payload) (rw c.in-Ok.is at c.read_packet-read.ensures.found) in
    let there : c.args.self.now.transfer ≡ Some c.in-Some.transfer = sym (ap (λ (k : JudgeState). k.transfer) c.self.view_is) ∙ c.in-Some.is in
    let kept_now : IsKept h earlier (Some c.in-Some.transfer) = subst (λ (t : Option Transfer). IsKept h earlier t) there kept in
    let same : Err c.in_err-pass.field-0.0 ≡ c.from_residual.result = search rules in
    subst (FindsOf h earlier d (IsKept h (d ∷ earlier) (Some c.pass.new.self))) same
    (message_found h earlier d c.args.dir (meaning c.in-Ok.packet) c.in-Some.transfer c.pass.new.self dir routed spells kept_now c.pass.ensures.asked (Err c.in_err-pass.field-0.0)
    (c.in_err-pass.ensures.finds h (transfer_of h earlier) d kept_now.1 (dir, spells)))

pub returns-in-Some-clause-finds : goal.returns-in-Some-clause-finds
returns-in-Some-clause-finds g c = λ h earlier d at one kept is on dir payload.
    let m = meaning c.in-Ok.packet in
    let t = c.in-Some.transfer in
    let passed = transfer_of h earlier in
    let routed : is_of_transfer (route_of h earlier d) ≡ true = ap is_of_transfer (sym is) ∙ on in
    let spells : Spells d.payload m = subst (λ (bytes : List _). Spells bytes m) (sym payload) (rw c.in-Ok.is at c.read_packet-read.ensures.found) in
    let there : c.args.self.now.transfer ≡ Some t = sym (ap (λ (k : JudgeState). k.transfer) c.self.view_is) ∙ c.in-Some.is in
    let kept_now : IsKept h earlier (Some t) = subst (λ (o : Option Transfer). IsKept h earlier o) there kept in
    let found = c.in_ok-pass.ensures.finds h passed d kept_now.1 (dir, spells) in
    message_found h earlier d c.args.dir m t c.keep_oack.new.self dir routed spells kept_now (ap (λ (u : Transfer). u.asked) c.keep_oack.ensures ∙ c.pass.ensures.asked) (Ok tt)
    (found.0, subst (λ (u : Transfer). IsTransferAfter u h (d ∷ passed)) (sym c.keep_oack.ensures) found.1)

pub returns-in-Request-clause-finds : goal.returns-in-Request-clause-finds
returns-in-Request-clause-finds g c = λ h earlier d at one kept is on dir payload.
    let routed : is_of_transfer (route_of h earlier d) ≡ true = ap is_of_transfer (sym is) ∙ on in
    let there : c.args.self.now.transfer ≡ None = sym (ap (λ (k : JudgeState). k.transfer) c.self.view_is) ∙ c.in_default.is in
    let none : earlier ≡ [] = subst (λ (t : Option Transfer). IsKept h earlier t) there kept in
    let spells : Spells d.payload (Message.Request (parts c.in-Request.asked)) =
    subst (λ (p : Packet). Spells d.payload (meaning p)) c.in-Request.is (subst (λ (bytes : List _). Spells bytes (meaning c.in-Ok.packet)) (sym payload) (rw c.in-Ok.is at c.read_packet-read.ensures.found)) in
    let other : route_of h earlier d ≡ Route.Peer → ⊥ = λ peer. elim c.else-is_none.branch [
      | else-is_none-via-then-is_none+else-eq w ↦ let same : c.args.route ≡ may.Peer = peer_is c.args.route (is ∙ peer) in false≢true (rw same at w.if-eq.ensures)
      | else-is_none-via-else-is_none w ↦ search rules
    ] in
    let named : h.named ≡ c.self.inside.header.named = ap (λ (x : Header). x.named) (sym at) ∙ sym (ap (λ (k : JudgeState). k.header.named) c.self.view_is) in
    let follows : h.rollover ≡ c.self.inside.header.rollover = ap (λ (x : Header). x.rollover) (sym at) ∙ sym (ap (λ (k : JudgeState). k.header.rollover) c.self.view_is) in
    began h earlier d c.self.inside.header.named c.self.inside.header.rollover (parts c.in-Request.asked) c.begin.new.self.transfer c.begin.result named follows one none routed other spells c.begin.ensures.begins c.begin.ensures.wanting

-- ---- being out of memory

pub returns-in_err-pass-clause-memory : goal.returns-in_err-pass-clause-memory
returns-in_err-pass-clause-memory g c = λ h earlier d kept is on dir payload want.
    let there : c.args.self.now.transfer ≡ Some c.in-Some.transfer = sym (ap (λ (k : JudgeState). k.transfer) c.self.view_is) ∙ c.in-Some.is in
    let kept_now : IsKept h earlier (Some c.in-Some.transfer) = subst (λ (t : Option Transfer). IsKept h earlier t) there kept in
    let same : Err c.in_err-pass.field-0.0 ≡ c.from_residual.result = search rules in
    inr (
      meaning c.in-Ok.packet,
      record { routed = ap is_of_transfer (sym is) ∙ on; spells = subst (λ (bytes : List _). Spells bytes (meaning c.in-Ok.packet)) (sym payload) (rw c.in-Ok.is at c.read_packet-read.ensures.found) },
      subst (λ w. IsNew (transfer_of h earlier) w (meaning c.in-Ok.packet)) (sym dir) (c.in_err-pass.ensures.memory h (transfer_of h earlier) kept_now.1 (same ∙ want)),
    )

pub returns-in-Err-clause-finds : goal.returns-in-Err-clause-finds
returns-in-Err-clause-finds g c = λ h earlier d at one kept is on dir payload.
    let fault = rw c.in-Err.is at c.read_packet-read.ensures.fault in
    let first = (fault c.in-Err.fault).0 refl in
    search rules
