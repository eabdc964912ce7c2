use Rattle.std.proofs.Common.{◌≡◌, ℕ, List, ◌∷◌, [], true, sym, ap, ◌∙◌, subst}
use Rattle.tftp_capture.specs.{IsPort}
use Rattle.tftp_capture.specs.Commented.Entry.{Comment, Passed}
use Rattle.tftp_packet.specs.Hosts.{Datagram}
use Rattle.tftp_packet.specs.{Dir, In, Out}
use Rattle.audit_views.specs.Views.{IsFed, captured_as}
use Rattle.audit_views.specs.declared.views.party.Party.{Party}
use Rattle.audit_views.specs.Texts.{is_seen}
use Rattle.audit_views.specs.declared.texts.noted.Noted.{Noted}
use Rattle.audit_views.specs.declared.views.held.Held.{Held}
use Rattle.audit_views.proofs.TextsLemmas.Writing.{ShowsNote, added_none, added_one, on_written, shown, unseen}
use Rattle.audit_views.proofs.texts.transfer_text.TransferText.put.Goals as goal

-- its ports are those of its parties
have_ports : (way : Dir) (source target : Party) → IsPort source.end.port → IsPort target.end.port → IsPort (captured_as way source target []).local × IsPort (captured_as way source target []).remote
have_ports Out source target from to = (from, to)
have_ports In source target from to = (to, from)

pub put-requires-clause-local : goal.put-requires-clause-local
put-requires-clause-local g c =
    let whole = c.requires.whole in
    subst IsPort (ap (λ (d : Datagram). d.local) (c.sides-local.ensures [])) (have_ports c.way-dir.result c.args.noted.now.held.source c.args.noted.now.held.target whole.source whole.target).0

pub put-requires-clause-remote : goal.put-requires-clause-remote
put-requires-clause-remote g c =
    let whole = c.requires.whole in
    subst IsPort (ap (λ (d : Datagram). d.remote) (c.sides-local.ensures [])) (have_ports c.way-dir.result c.args.noted.now.held.source c.args.noted.now.held.target whole.source whole.target).1

pub returns-then-not-is_seen-clause-written : goal.returns-then-not-is_seen-clause-written
returns-then-not-is_seen-clause-written g c = λ start header entries h.
    added_none g.W.Write.contents start _ c.args.capture.now header entries (ShowsNote c.args.end c.args.self.now c.args.noted.now) h (λ name w placed ends number noted.
    let x = c.args.self.now.transfer in
    unseen c.args.end name x placed w
    (ap (λ n. is_seen c.args.end n placed w.placed) (sym number) ∙ sym (c.is_seen.ensures placed w.placed ends noted.fed.belongs noted.fed.from noted.fed.to) ∙ c.if-not-is_seen.true))

pub returns-clause-written : goal.returns-clause-written
returns-clause-written g c = λ start header entries h.
    let x = c.args.self.now.transfer in
    let kept : Noted = c.args.noted.now in
    let payload = c.as_slice-payload.result.now in
    let held : Held = record kept.held { payload = payload } in
    let passed : Datagram = record { dir = c.way-dir.result; local = c.sides-local.result.0; host = c.sides-local.result.1.host; remote = c.sides-local.result.1.end.port; payload = payload } in
    let begun = c.in_ok-comment.ensures.written start header entries h in
    on_written c.put.result
    (added_one g.W.Write.contents start _ c.put.new.self header entries c.words.result.now
    passed (ShowsNote c.args.end c.args.self.now kept) c.words.ensures.comment
    (λ name w placed ends number noted.
    let is : is_seen c.args.end x.number placed w.placed ≡ true =
    ap (λ n. is_seen c.args.end n placed w.placed) (sym number) ∙ sym (c.is_seen.ensures placed w.placed ends noted.fed.belongs noted.fed.from noted.fed.to) ∙ c.if-not-is_seen.false in
    let fed : IsFed name w.placed held = subst (λ (l : List ℕ). IsFed name w.placed (record kept.held { payload = l })) (sym c.as_slice-payload.ensures) noted.fed in
    ap (λ (l : List ℕ). Comment l ∷ Passed passed ∷ []) c.words.ensures.words
    ∙ ap (λ (d : Datagram). Comment kept.comment ∷ Passed d ∷ []) (sym (c.sides-local.ensures payload))
    ∙ shown c.args.end name x placed w (record { held = held; comment = kept.comment }) (record { fed = fed; words = noted.words }) is
    c.way-dir.result (c.way-dir.ensures placed w.placed ends number noted.fed.belongs noted.fed.from)))
    (c.put.ensures.written start header _ begun)
