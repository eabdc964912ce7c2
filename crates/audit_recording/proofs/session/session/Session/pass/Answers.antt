use Rattle.std.proofs.Common.{◌≡◌, ◌∷◌, ℕ, List, arith, ap, sym, subst, unwrap_or, ◌∙◌}
use Rattle.audit_flows.specs.{Attributed}
use Rattle.audit_views.specs.Parties.{host_name}
use Rattle.audit_views.specs.Views.{IsFed}
use Rattle.audit_views.specs.{Held}
use Rattle.audit_recording.specs.Session.Noted.{AreNotesOf, Noticed, finding, going_back, sharers_of, with_time}
use Rattle.audit_recording.specs.Reasons.Clock.{IsClockAfter, last_of}
use Rattle.audit_recording.specs.Session.Beside.{AreMarksKept, Mark}
use Rattle.audit_recording.specs.Session.Recording.{asking, beginning, joining, marking, passing_at, reached_by, setting_aside, stray_in, straying}
use Rattle.audit_recording.specs.Audit.Audited.{IsAttributed}
use Rattle.audit_recording.specs.Blame.Frames.{Framed, datagrams_of, framed_after}
use Rattle.audit_recording.specs.Blame.Kept.{IsPassing, is_wrong}
use Rattle.audit_recording.specs.Blame.Several.{is_joined}
use Rattle.audit_recording.specs.Session.Strays.{Stray}
use Rattle.audit_recording.specs.Session.Texts.{AreTextsKept}
use Rattle.audit_recording.specs.declared.blame.passing.Passing.{Passing}
use Rattle.audit_recording.specs.declared.session.kept.Kept.{Kept}
use Rattle.audit_recording.proofs.SessionLemmas.Marking.{asking_times, notes_marked}
use Rattle.audit_recording.proofs.SessionLemmas.Recording.{reached_is}
use Rattle.audit_recording.proofs.SessionLemmas.Faults.{not_many}
use Rattle.audit_recording.proofs.session.session.Session.pass.Goals as goal

pub returns-clause-notes : goal.returns-clause-notes
returns-clause-notes c carried s x a is carries later are =
    let event = c.args.event.now in
    let same : c.in-Some.found ≡ a = cc in
    let whole : Noticed = finding (reached_by s.times) (sharers_of event) s in
    let found : AreNotesOf c.find.new.self whole =
    subst (λ (t : Noticed). AreNotesOf c.find.new.self t) (λ i. finding (reached_is c.args.self.now.notes.clock s.times are.clock i) (c.sharers.ensures i) s) (c.in_ok-find.ensures.stands s are) in
    let frame = c.number.ensures ∙ sym carries.frame in
    let time = c.time.ensures ∙ sym carries.time in
    let source = c.party_of-source.ensures.end ∙ sym carries.taken.source in
    let target = c.party_of-target.ensures.end ∙ sym carries.taken.target in
    let mine : Stray = record { source = c.party_of-source.result.end; target = c.party_of-target.result.end; payload = c.args.datagram.now.payload.now; frame = c.number.result } in
    let stray : mine ≡ stray_in x =
    λ i. record { source = source i; target = target i; payload = sym carries.taken.payload i; frame = frame i } in
    let passed : AreNotesOf c.pass.new.self (passing_at x whole) =
    subst (λ (t : Noticed). AreNotesOf c.pass.new.self t)
    (λ i. record whole { times = with_time (time i) whole.times; backwards = going_back (frame i) (time i) whole.times whole.backwards })
    (c.in_ok-pass.ensures.stands whole found) in
    let number = c.number.ensures in
    let more : Noticed = marking a.place x (passing_at x whole) in
    let asked = c.in_ok-ask.ensures.notes more (notes_marked c.pass.new.self a.place x (passing_at x whole) passed) (omega arith) in
    let followed = c.in_ok-follow.ensures.notes (asking c.in-Some.found.place c.number.result more) asked in
    subst (λ (t : Noticed). AreNotesOf c.follow.new.self.notes t) (λ i. setting_aside ((same i).place) (stray i) (asking ((same i).place) (frame i) more)) followed

pub returns-clause-trails : goal.returns-clause-trails
returns-clause-trails c named out history carried d a is carries at handed audit kept =
    let event = c.args.event.now in
    let same : c.in-Some.found ≡ a = cc in
    let judging = c.args.self.now.audit.judge.judging in
    let passing : Passing = record {
      frame = c.number.result;
      time = c.time.result;
      is_doubtful = c.is_doubtful.result;
      has_error = c.has_error.result;
      has_wrong_checksum = c.is_wrong.result;
      is_joined = c.is_joined.result;
      source = c.party_of-source.result.end;
      target = c.party_of-target.result.end;
      payload = c.args.datagram.now.payload;
    } in
    let passes : IsPassing passing d = record {
      frame = c.number.ensures ∙ sym carries.frame;
      time = c.time.ensures ∙ sym carries.time;
      is_doubtful = c.is_doubtful.ensures ∙ sym carries.is_doubtful;
      has_error = c.has_error.ensures ∙ sym carries.has_error;
      has_wrong_checksum = c.is_wrong.ensures ∙ ap is_wrong (c.checksum.ensures ∙ sym carries.checksum);
      is_joined = c.is_joined.ensures ∙ (λ i. is_joined ((c.checksum-2.ensures ∙ sym carries.checksum) i) (sym carries.taken.payload i));
      source = c.party_of-source.ensures.end ∙ sym carries.taken.source;
      target = c.party_of-target.ensures.end ∙ sym carries.taken.target;
      payload = sym carries.taken.payload;
    } in
    let begun = c.in_ok-ask.ensures.trails judging named out d carried (ap (λ (p : Attributed). p.place) same ∙ at.0) passes handed kept in
    c.in_ok-follow.ensures.trails named out history d carried
    (subst (λ (f : Attributed). IsAttributed named (datagrams_of carried) d.datagram f) (sym same) at) passes audit begun

pub returns-clause-texts : goal.returns-clause-texts
returns-clause-texts c named carried d a is carries at kept =
    let f : Framed = framed_after named carried d in
    let same : c.in-Some.found ≡ a = cc in
    let fed : Held = record { place = c.in-Some.found.place; source = c.party_of-source.result; target = c.party_of-target.result; payload = c.args.datagram.now.payload.now } in
    let is_fed : IsFed host_name f.placed fed = record {
      belongs = ap (λ (p : Attributed). p.place) same ∙ at;
      from = carries.taken.source ∙ sym c.party_of-source.ensures.end;
      to = carries.taken.target ∙ sym c.party_of-target.ensures.end;
      carries = carries.taken.payload;
      from_host = c.party_of-source.ensures.host;
      to_host = c.party_of-target.ensures.host;
    } in
    let passing : Passing = record {
      frame = c.number.result;
      time = c.time.result;
      is_doubtful = c.is_doubtful.result;
      has_error = c.has_error.result;
      has_wrong_checksum = c.is_wrong.result;
      is_joined = c.is_joined.result;
      source = c.party_of-source.result.end;
      target = c.party_of-target.result.end;
      payload = c.args.datagram.now.payload;
    } in
    let passes : IsPassing passing d = record {
      frame = c.number.ensures ∙ sym carries.frame;
      time = c.time.ensures ∙ sym carries.time;
      is_doubtful = c.is_doubtful.ensures ∙ sym carries.is_doubtful;
      has_error = c.has_error.ensures ∙ sym carries.has_error;
      has_wrong_checksum = c.is_wrong.ensures ∙ ap is_wrong (c.checksum.ensures ∙ sym carries.checksum);
      is_joined = c.is_joined.ensures ∙ (λ i. is_joined ((c.checksum-2.ensures ∙ sym carries.checksum) i) (sym carries.taken.payload i));
      source = c.party_of-source.ensures.end ∙ sym carries.taken.source;
      target = c.party_of-target.ensures.end ∙ sym carries.taken.target;
      payload = sym carries.taken.payload;
    } in
    let noted = c.in_ok-note.ensures.texts named d carried is_fed passes kept in
    subst (λ (k : Kept). AreTextsKept k named (d ∷ carried)) (sym c.follow.ensures.kept) noted

pub returns-in_err-find-clause-memory : goal.returns-in_err-find-clause-memory
returns-in_err-find-clause-memory c many = not_many c.from_residual.result c.from_residual.ensures.1 many

pub returns-in_err-pass-clause-memory : goal.returns-in_err-pass-clause-memory
returns-in_err-pass-clause-memory c many = not_many c.from_residual-in_err-pass.result c.from_residual-in_err-pass.ensures.1 many

pub returns-in_err-ask-clause-memory : goal.returns-in_err-ask-clause-memory
returns-in_err-ask-clause-memory c many = not_many c.from_residual-in_err-ask.result c.from_residual-in_err-ask.ensures.1 many

pub returns-in_err-note-clause-memory : goal.returns-in_err-note-clause-memory
returns-in_err-note-clause-memory c many = not_many c.from_residual-in_err-note.result c.from_residual-in_err-note.ensures.1 many

pub returns-in_err-follow-clause-memory : goal.returns-in_err-follow-clause-memory
returns-in_err-follow-clause-memory c many = not_many c.from_residual-in_err-follow.result c.from_residual-in_err-follow.ensures.1 many

pub returns-clause-marks : goal.returns-clause-marks
returns-clause-marks c named out history carried s d a is carries at handed audit trails_kept later are gone kept =
    let event = c.args.event.now in
    let same : c.in-Some.found ≡ a = cc in
    let judging = c.args.self.now.audit.judge.judging in
    let whole : Noticed = finding (reached_by s.times) (sharers_of event) s in
    let found : AreNotesOf c.find.new.self whole =
    subst (λ (t : Noticed). AreNotesOf c.find.new.self t) (λ i. finding (reached_is c.args.self.now.notes.clock s.times are.clock i) (c.sharers.ensures i) s) (c.in_ok-find.ensures.stands s are) in
    let frame = c.number.ensures ∙ sym carries.frame in
    let time = c.time.ensures ∙ sym carries.time in
    let source = c.party_of-source.ensures.end ∙ sym carries.taken.source in
    let passed : AreNotesOf c.pass.new.self (passing_at d whole) =
    subst (λ (t : Noticed). AreNotesOf c.pass.new.self t)
    (λ i. record whole { times = with_time (time i) whole.times; backwards = going_back (frame i) (time i) whole.times whole.backwards })
    (c.in_ok-pass.ensures.stands whole found) in
    let number = c.number.ensures in
    let before : Noticed = passing_at d whole in
    let passing : Passing = record {
      frame = c.number.result;
      time = c.time.result;
      is_doubtful = c.is_doubtful.result;
      has_error = c.has_error.result;
      has_wrong_checksum = c.is_wrong.result;
      is_joined = c.is_joined.result;
      source = c.party_of-source.result.end;
      target = c.party_of-target.result.end;
      payload = c.args.datagram.now.payload;
    } in
    let passes : IsPassing passing d = record {
      frame = frame;
      time = time;
      is_doubtful = c.is_doubtful.ensures ∙ sym carries.is_doubtful;
      has_error = c.has_error.ensures ∙ sym carries.has_error;
      has_wrong_checksum = c.is_wrong.ensures ∙ ap is_wrong (c.checksum.ensures ∙ sym carries.checksum);
      is_joined = c.is_joined.ensures ∙ (λ i. is_joined ((c.checksum-2.ensures ∙ sym carries.checksum) i) (sym carries.taken.payload i));
      source = source;
      target = c.party_of-target.ensures.end ∙ sym carries.taken.target;
      payload = sym carries.taken.payload;
    } in
    let place = ap (λ (p : Attributed). p.place) same ∙ at.0 in
    let asked = c.in_ok-ask.ensures.notes before passed (omega arith) in
    let clock : IsClockAfter c.ask.new.notes.clock before.times =
    subst (λ (l : List ℕ). IsClockAfter c.ask.new.notes.clock l) (asking_times c.in-Some.found.place c.number.result before) asked.clock in
    let begun = c.in_ok-ask.ensures.trails judging named out d carried place passes handed trails_kept in
    let first = c.in_ok-ask.ensures.marks named out d carried before s.beside place handed passed (omega arith) gone kept in
    let followed = c.in_ok-follow.ensures.marks named out history d carried before.times
    (beginning c.in-Some.found.place (unwrap_or c.time.result (last_of before.times)) s.beside)
    (subst (λ (f : Attributed). IsAttributed named (datagrams_of carried) d.datagram f) (sym same) at) passes audit begun clock first in
    subst (λ (l : List Mark). AreMarksKept c.follow.new.self.unplaced c.follow.new.self.trails out l)
    (λ i. straying ((same i).place) d before.times (joining ((same i).place) d.time (beginning ((same i).place) (unwrap_or (time i) (last_of before.times)) s.beside))) followed
