use Rattle.std.proofs.Common.{refl, rules}
use Rattle.audit_recording.specs.declared.session.requests.Asked.{Asked}
use Rattle.audit_recording.proofs.SessionLemmas.Requesting.{is_asked}
use Rattle.audit_recording.proofs.session.requests.put_request.Goals as goal

pub returns-in_ok-push : goal.returns-in_ok-push
returns-in_ok-push c named history carried s is place some =
    let one : Asked = record { number = c.args.number; payload = c.as_slice-payload.result } in (
      one,
      is_asked c.args.session.now named history carried s is c.args.key c.args.number c.in-Some.trail.now one (search rules) place refl (search rules),
      search rules,
    )
