use Rattle.std.proofs.Common.{arith, ◌≡◌, ◌++◌, ◌∷◌, ◌∙◌, ap, Bool, Ok, Result, sym, refl, subst}
use Rattle.net_pcap.specs.{PcapFault}
use Rattle.net_streams.specs.{Open}
use Rattle.net_streams.specs.Streams.{standing_after}
use Rattle.net_udp.specs.Recording.{StandsFor, Step, standing_of, with_step}
use Rattle.audit_recording.specs.Audit.{AuditsAfter, IsOfEvent}
use Rattle.audit_views.specs.Parties.{host_name}
use Rattle.audit_recording.proofs.AuditLemmas.Taking.{counted, noted_goes_on}
use Rattle.audit_recording.proofs.JudgesLemmas.Keeping.{many_passed}
use Rattle.audit_recording.proofs.audit.audit.RecordingAudit.next_into.Goals as goal

pub returns-in-Ok-true-clause-continues : goal.returns-in-Ok-true-clause-continues
returns-in-Ok-true-clause-continues g c named out bytes history passed stands after =
    let read = c.in-Ok-true.ensures.continues bytes history stands in
    let step : Step = record {
      frame = c.next_into.new.event.frame.parts;
      likeness = c.next_into.new.event.likeness;
      brought = c.next_into.new.event.brought;
      waits = c.next_into.new.self.waiting;
      came = read.came;
      sent = c.next_into.new.event.sent;
      is_discarded = c.next_into.new.event.is_discarded;
    } in
    let whole = subst (λ (b : Bool). StandsFor c.next_into.new.self (bytes ++ read.taken) (with_step history (Ok b) c.next_into.new.event c.next_into.new.self.waiting read.came)) c.in-Ok-true.field-0-test read.stands in
    let ok : Bool → Result Bool PcapFault = λ b. Ok b in
    let opened : standing_of c.next_into.new.self ≡ Open =
    c.in-Ok-true.ensures.standing ∙ ap (λ (b : Bool). standing_after (ok b)) c.in-Ok-true.field-0-test in
    let read_on = ap ok c.in-Ok-true.field-0-test in
    let number = c.in-Ok-true.ensures.number read_on ∙ sym (c.in-Ok-true.ensures.counts read_on)
    ∙ counted c.next_into.new.self.refused c.next_into.new.self (bytes ++ read.taken) (step ∷ history) whole.1 opened in
    let of : IsOfEvent step history c.next_into.new.event = record {
      number = (let counted_so = number in omega arith);
      frame = refl;
      likeness = refl;
      brought = refl;
      sent = refl;
      is_discarded = refl;
    } in
    let noted = c.note.ensures.stands named out history passed step after (record { frame = refl; likeness = refl; outcome = refl; is_discarded = refl }) in (
      read.taken,
      read.consumed,
      noted_goes_on (StandsFor c.next_into.new.self (bytes ++ read.taken))
          (λ frames datagrams. AuditsAfter c.note.new.self named out frames datagrams)
          named history passed step c.next_into.new.event c.note.result of whole c.note.ensures.no_end c.note.ensures.no_stop noted,
    )

pub returns-in-Ok-true-clause-goes : goal.returns-in-Ok-true-clause-goes
returns-in-Ok-true-clause-goes g c next is other =
    let ok : Bool → Result Bool PcapFault = λ b. Ok b in
    c.in-Ok-true.ensures.standing ∙ ap (λ (b : Bool). standing_after (ok b)) c.in-Ok-true.field-0-test

pub returns-in-Ok-true-clause-many : goal.returns-in-Ok-true-clause-many
returns-in-Ok-true-clause-many g c named out history passed after is =
    many_passed c.args.self.now.judge named host_name out passed after.judges (c.note.ensures.full is)
