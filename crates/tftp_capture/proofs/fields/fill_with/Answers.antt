use Rattle.std.proofs.Common.{refl}
use Rattle.tftp_capture.specs.{dir_word}
use Rattle.tftp_capture.proofs.Payloads.{filled_whole}
use Rattle.tftp_capture.proofs.Pieces.{has_ports, payload_ends}
use Rattle.tftp_capture.proofs.fields.fill_with.Goals as goal

pub returns-in_default-clause-ends : goal.returns-in_default-clause-ends
returns-in_default-clause-ends c = λ version line count cut.
    let f = c.args.fields in
    (dir_word c.args.dir, f.local.now, f.host.now, f.remote.now, f.digits.now, record { cut = cut; dir = (c.args.dir, refl) }, λ l r sl sr. c.in_default.ensures l sl)

pub returns-in_default-port-clause-ends : goal.returns-in_default-port-clause-ends
returns-in_default-port-clause-ends c = λ version line count cut.
    let f = c.args.fields in
    (dir_word c.args.dir, f.local.now, f.host.now, f.remote.now, f.digits.now, record { cut = cut; dir = (c.args.dir, refl) }, λ l r sl sr. c.in_default-port.ensures r sr)

pub returns-then-not-fill_host-clause-ends : goal.returns-then-not-fill_host-clause-ends
returns-then-not-fill_host-clause-ends c = λ version line count cut.
    let f = c.args.fields in
    (f.host.now, f.digits.now, has_ports version line f.local.now f.host.now f.remote.now f.digits.now c.args.dir _ _ cut c.in-Some.ensures c.in-Some-port.ensures, c.fill_host.ensures.unnamed c.if-not-fill_host.true)

pub returns-clause-ends : goal.returns-clause-ends
returns-clause-ends c = λ version line count cut.
    let f = c.args.fields in
    let named = c.fill_host.ensures.named c.if-not-fill_host.false in
    rw (named.1)
    (payload_ends version count line f.local.now f.host.now f.remote.now f.digits.now c.args.dir _ _ cut c.in-Some.ensures c.in-Some-port.ensures named.0 c.fill_payload.result _ c.fill_payload.ensures)

pub returns-clause-whole : goal.returns-clause-whole
returns-clause-whole c = filled_whole c.args.fields.digits.now _ c.fill_payload.result c.fill_payload.ensures
