use Rattle.std.proofs.Common.{ℕ, Option, refl, sym, ap, ◌∙◌, subst}
use Rattle.net_udp.specs.declared.recording.fate.Fate.TheVariants.{Datagram}
use Rattle.net_pcap.specs.{FrameParts}
use Rattle.audit_recording.specs.Audit.{IsTaken, time_by}
use Rattle.audit_recording.proofs.AuditLemmas.Taking.{fate_here}
use Rattle.audit_recording.proofs.audit.audit.RecordingAudit.take.Goals as goal

pub returns-in_ok-found-in-Datagram-clause-stands : goal.returns-in_ok-found-in-Datagram-clause-stands
returns-in_ok-found-in-Datagram-clause-stands g c named out history passed step after of =
    let fed = c.in_ok-found-in-Datagram.ensures.stands named out passed after.judges after.time in
    let taken = subst (λ (t : Option ℕ). IsTaken c.in-Datagram.datagram (time_by t passed) fed.0) (c.time.ensures ∙ sym (ap (λ (f : FrameParts). f.time) of.frame)) fed.1 in (
      fed.0,
      (c.in-Datagram.datagram, c.in-Datagram.ensures.is, subst (λ (t : Option ℕ). IsTaken c.in-Datagram.datagram (time_by t passed) fed.0) c.time.ensures fed.1),
      fed.2,
      record {
        frames = (passed, Datagram c.in-Datagram.datagram, after.frames, fate_here step c.args.event.now (Datagram c.in-Datagram.datagram) of c.in-Datagram.ensures.is, (fed.0, taken, refl));
        judges = fed.3;
        time = fed.4;
        sound = (fed.5, after.sound);
      },
    )
