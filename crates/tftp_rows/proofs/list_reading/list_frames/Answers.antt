use Rattle.std.proofs.Common.{rules, ap, ◌+◌, Ok}
use Rattle.audit_recording.specs.Session.Kept.{IsSessionAfter}
use Rattle.audit_recording.specs.Session.Opened.{HasRead, IsKnownOf, left_of}
use Rattle.tftp_rows.specs.ListedWhole.{numbers_in}
use Rattle.tftp_rows.proofs.FaultLemmas.{same_fault}
use Rattle.tftp_rows.proofs.ListedLemmas.{end_on, frame_on, frame_on_for, over_on_for, stops_listing, stops_over}
use Rattle.tftp_rows.proofs.ReadingLemmas.{frame_came, many_frames, none_came}
use Rattle.tftp_rows.proofs.TellingLemmas.{on_err}
use Rattle.tftp_rows.proofs.list_reading.list_frames.Goals as goal

pub loop-turn-init : goal.loop-turn-init
loop-turn-init g c = record { listed = λ begun file named was. (was, search rules); goes = λ began. began }

pub returns-then-not-branch-clause-listed : goal.returns-then-not-branch-clause-listed
returns-then-not-branch-clause-listed g c begun file named was =
    let so = (c.loop-turn.invariant.listed begun file named was).0 in
    end_on g.W.Write.contents begun c.loop-turn.lister (HasRead g.R.Read.remaining file c.loop-turn.opened) (HasRead g.R.Read.remaining file c.next.new.self) c.loop-turn.session c.next.new.session named so
    (none_came (λ frames datagrams noticed. HasRead g.R.Read.remaining file c.next.new.self frames × IsSessionAfter c.next.new.session named (numbers_in so.entries) frames datagrams noticed) so.history so.carried so.noticed _ c.if-not-branch.true
    (c.in_ok-next.ensures.goes_on named (numbers_in so.entries) so.history so.carried so.noticed file so.read so.session_is))

pub returns-then-not-branch-clause-ends : goal.returns-then-not-branch-clause-ends
returns-then-not-branch-clause-ends g c = c.in_ok-next.ensures.ends (ap Ok c.if-not-branch.true)

pub returns-then-not-branch-clause-at_end : goal.returns-then-not-branch-clause-at_end
returns-then-not-branch-clause-at_end g c began over = c.in_ok-next.ensures.at_end (c.loop-turn.invariant.goes began) (ap Ok c.if-not-branch.true) over

pub loop-turn-preserved : goal.loop-turn-preserved
loop-turn-preserved g c = record {
  listed = λ begun file named was.
      let so = (c.loop-turn.invariant.listed begun file named was).0 in
      let came = frame_came (λ frames datagrams noticed. HasRead g.R.Read.remaining file c.next.new.self frames × IsSessionAfter c.next.new.session named (numbers_in so.entries) frames datagrams noticed) so.history so.carried so.noticed _ c.if-not-branch.false
      (c.in_ok-next.ensures.goes_on named (numbers_in so.entries) so.history so.carried so.noticed file so.read so.session_is) in
      let one = frame_on g.W.Write.contents begun c.loop-turn.lister (HasRead g.R.Read.remaining file c.loop-turn.opened) (HasRead g.R.Read.remaining file c.next.new.self) c.loop-turn.session c.next.new.session named came.0 came.1 came.2 so came.3 came.4 in
      over_on_for g.W.Write.contents (c.loop-turn._turn + 1) begun c.loop-turn.lister c.list_over.new.self (HasRead g.R.Read.remaining file c.next.new.self) c.next.new.session c.list_over.new.session named one
      (c.in_ok-list_over.ensures.turns named (numbers_in one.entries) one.history one.carried one.noticed one.session_is)
      (frame_on_for g.W.Write.contents c.loop-turn._turn begun c.loop-turn.lister (HasRead g.R.Read.remaining file c.loop-turn.opened) (HasRead g.R.Read.remaining file c.next.new.self) c.loop-turn.session c.next.new.session named came.0 came.1 came.2 so came.3 came.4
      (c.loop-turn.invariant.listed begun file named was).1);
  goes = λ began. c.in_ok-next.ensures.goes (ap Ok c.if-not-branch.false);
}

pub returns-in_err-next-clause-part : goal.returns-in_err-next-clause-part
returns-in_err-next-clause-part g c begun file named was =
    on_err c.from_residual.result
    (stops_listing g.W.Write.contents {Q = IsKnownOf c.loop-turn.opened} begun c.loop-turn.lister file (left_of g.R.Read.remaining c.loop-turn.opened) c.loop-turn.opened.recording c.loop-turn.session named (c.loop-turn.invariant.listed begun file named was).0)

pub returns-in_err-list_over-clause-part : goal.returns-in_err-list_over-clause-part
returns-in_err-list_over-clause-part g c begun file named was =
    let so = (c.loop-turn.invariant.listed begun file named was).0 in
    let came = frame_came (λ frames datagrams noticed. HasRead g.R.Read.remaining file c.next.new.self frames × IsSessionAfter c.next.new.session named (numbers_in so.entries) frames datagrams noticed) so.history so.carried so.noticed _ c.if-not-branch.false
    (c.in_ok-next.ensures.goes_on named (numbers_in so.entries) so.history so.carried so.noticed file so.read so.session_is) in
    let one = frame_on g.W.Write.contents begun c.loop-turn.lister (HasRead g.R.Read.remaining file c.loop-turn.opened) (HasRead g.R.Read.remaining file c.next.new.self) c.loop-turn.session c.next.new.session named came.0 came.1 came.2 so came.3 came.4 in
    on_err c.from_residual-in_err-list_over.result
    (stops_over g.W.Write.contents {Q = IsKnownOf c.next.new.self} begun c.loop-turn.lister c.list_over.new.self file (left_of g.R.Read.remaining c.next.new.self) c.next.new.self.recording c.next.new.session named one
    (c.in_err-list_over.ensures.part named (numbers_in one.entries) one.history one.carried one.noticed one.session_is))

pub returns-clause-part : goal.returns-clause-part
returns-clause-part g c begun file named was =
    stops_listing g.W.Write.contents {Q = IsKnownOf c.loop-turn.opened} begun c.loop-turn.lister file (left_of g.R.Read.remaining c.loop-turn.opened) c.loop-turn.opened.recording c.loop-turn.session named (c.loop-turn.invariant.listed begun file named was).0

pub returns-clause-why : goal.returns-clause-why
returns-clause-why g c begun file named was =
    let listed = c.loop-turn.invariant.listed begun file named was in
    many_frames (IsKnownOf c.loop-turn.opened) file (left_of g.R.Read.remaining c.loop-turn.opened) c.loop-turn.opened.recording listed.0.history c.loop-turn._turn listed.0.read listed.1 (search rules)

pub returns-in_err-next-clause-why : goal.returns-in_err-next-clause-why
returns-in_err-next-clause-why g c begun file named was =
    let so = (c.loop-turn.invariant.listed begun file named was).0 in
    same_fault c.from_residual.result _ _ c.from_residual.ensures.1 (c.in_err-next.ensures.why named (numbers_in so.entries) so.history so.carried so.noticed file so.read so.session_is)
