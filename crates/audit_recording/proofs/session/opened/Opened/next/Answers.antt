use Rattle.std.proofs.Common.{◌++◌, true, false}
use Rattle.std.proofs.KnownBytes.{Consumes-trans}
use Rattle.net_pcap.proofs.Lossless.{more_classic}
use Rattle.net_udp.specs.Recording.{StandsFor}
use Rattle.audit_recording.specs.Session.Kept.{IsSessionAfter}
use Rattle.audit_recording.specs.Session.Opened.{HasRead, left_of}
use Rattle.audit_recording.specs.declared.session.session.Session.{Session}
use Rattle.audit_recording.proofs.SessionLemmas.Faults.{counted_back, counted_fault, reads_counted}
use Rattle.audit_recording.proofs.SessionLemmas.Opened.{how_ended, may_lose_too, whole_then}
use Rattle.audit_recording.proofs.session.opened.Opened.next.Goals as goal

pub returns-clause-goes_on : goal.returns-clause-goes_on
returns-clause-goes_on g c named out history carried s file read is =
    let now = c.next-goes_on.ensures.goes_on named out read.0 history carried s read.2 is in
    let lose = c.args.self.now.may_lose in
    let after : Session = c.next-goes_on.new.self in
    reads_counted (λ frames datagrams noticed. StandsFor c.next-goes_on.new.recording (read.0 ++ now.0) frames × IsSessionAfter after named out frames datagrams noticed)
    (λ frames datagrams noticed. HasRead g.R.Read.remaining file (record c.args.self.now { reader = c.next-goes_on.new.reader; recording = c.next-goes_on.new.recording; event = c.next-goes_on.new.event; frames = c.count.new.frames }) frames
    × IsSessionAfter (record after { notes = record after.notes { may_lose = lose } }) named out frames datagrams noticed) history carried s c.args.self.now.frames c.count.new.frames c.next-goes_on.result c.count.result c.count.ensures read.3.1
    (λ frames datagrams noticed count p. (
      (read.0 ++ now.0, Consumes-trans file _ _ read.0 now.0 read.1 now.1, p.0, (λ quiet. more_classic read.0 now.0 (read.3.0 quiet), count)),
      may_lose_too lose after named out frames datagrams noticed p.1,
    )) now.2

pub returns-clause-ends : goal.returns-clause-ends
returns-clause-ends g c e = how_ended (c.next-goes_on.ensures.ends (counted_back c.args.self.now.frames c.count.new.frames c.next-goes_on.result c.count.result false c.count.ensures e))

pub returns-clause-at_end : goal.returns-clause-at_end
returns-clause-at_end g c began e over = c.next-goes_on.ensures.at_end began (counted_back c.args.self.now.frames c.count.new.frames c.next-goes_on.result c.count.result false c.count.ensures e) over

pub returns-clause-goes : goal.returns-clause-goes
returns-clause-goes g c e = c.next-goes_on.ensures.goes (counted_back c.args.self.now.frames c.count.new.frames c.next-goes_on.result c.count.result true c.count.ensures e)

pub returns-clause-fault : goal.returns-clause-fault
returns-clause-fault g c e = c.next-goes_on.ensures.fault (counted_back c.args.self.now.frames c.count.new.frames c.next-goes_on.result c.count.result true c.count.ensures e)

pub returns-clause-whole : goal.returns-clause-whole
returns-clause-whole g c e over =
    whole_then c.next-goes_on.new.recording c.args.session.now.notes c.next-goes_on.new.self.notes
    (c.next-goes_on.ensures.ends (counted_back c.args.self.now.frames c.count.new.frames c.next-goes_on.result c.count.result false c.count.ensures e)) over

pub returns-clause-why : goal.returns-clause-why
returns-clause-why g c named out history carried s file read is =
    counted_fault file history c.args.self.now.frames c.count.new.frames c.next-goes_on.result c.count.result c.count.ensures (c.args.self.now.recording, read.0, left_of g.R.Read.remaining c.args.self.now, read.1, read.2) read.3.1
    (c.next-goes_on.ensures.many named out history carried s is)
