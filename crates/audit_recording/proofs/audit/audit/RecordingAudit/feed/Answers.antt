use Rattle.std.proofs.Common.{◌≡◌, ℕ, max, refl, sym, subst, ap, ◌∙◌}
use Rattle.std.specs.Option.{unwrap_or}
use Rattle.tftp_capture.specs.{IsPort}
use Rattle.audit_flows.specs.Lines.{doubts_of, clock, Recorded}
use Rattle.audit_flows.specs.{Endpoint, Place}
use Rattle.audit_views.specs.Parties.{host_name}
use Rattle.audit_flows.specs.Transfers.{IsRecorded, placed}
use Rattle.audit_recording.specs.Audit.{RecordingAudit, time_by}
use Rattle.audit_recording.specs.Judges.{StandsAfter}
use Rattle.audit_recording.proofs.AuditLemmas.Taking.{unwrapped}
use Rattle.audit_recording.proofs.audit.audit.RecordingAudit.feed.Goals as goal

pub returns-clause-stands : goal.returns-clause-stands
returns-clause-stands g c named out passed stands time =
    let old : StandsAfter c.self.inside.judge named host_name out passed = subst (λ (a : RecordingAudit). StandsAfter a.judge named host_name out passed) (sym c.self.view_is) stands in
    let last = ap (λ (a : RecordingAudit). a.last_time) c.self.view_is ∙ time in
    let moment : c.unwrap_or-time.result ≡ time_by c.args.time passed =
    c.unwrap_or-time.ensures ∙ ap (λ (t : ℕ). unwrap_or c.args.time t) last ∙ unwrapped c.args.time passed in
    let d : Recorded = record {
      time = c.unwrap_or-time.result;
      source = c.party_of-source.result.end;
      target = c.party_of-target.result.end;
      payload = c.args.datagram.now.payload.now;
      is_spelled = c.spells_request-is_spelled.result;
    } in
    let of : IsRecorded d c.unwrap_or-time.result c.party_of-source.result.end c.party_of-target.result.end c.args.datagram.now.payload.now c.spells_request-is_spelled.result =
    record { time = refl; source = refl; target = refl; payload = refl; is_spelled = refl } in
    let place = c.in_ok-found.ensures.place named host_name out passed d old of in (
      d,
      record {
        time = moment;
        source = c.party_of-source.ensures.end;
        target = c.party_of-target.ensures.end;
        payload = refl;
        is_spelled = (c.spells_request-is_spelled.ensures.yes, λ r. c.spells_request-is_spelled.ensures.no r.0 r.1);
      },
      (
        place,
        c.in_ok-found.ensures.doubts named host_name out passed d old of
            ∙ ap (λ (q : Place). doubts_of (record { datagram = d; moment = max d.time (clock (placed named passed)); place = q }) (placed named passed)) place,
      ),
      c.in_ok-found.ensures.stands named host_name out passed d old of c.party_of-source.ensures.host c.party_of-target.ensures.host,
      refl,
      record {
        source = (c.party_of-source.ensures.address, subst (λ (e : Endpoint). IsPort e.port) (sym c.party_of-source.ensures.end) c.requires.sound.source_port);
        target = (c.party_of-target.ensures.address, subst (λ (e : Endpoint). IsPort e.port) (sym c.party_of-target.ensures.end) c.requires.sound.target_port);
        bytes = c.requires.sound.bytes;
        fits = c.requires.sound.fits;
      },
    )

pub feed-requires : goal.feed-requires
feed-requires g c = record { short = c.requires.sound.fits }
