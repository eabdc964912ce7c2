use Rattle.std.proofs.Common.{rules, ap, refl, Ok, ◌∙◌}
use Rattle.audit_recording.specs.Session.Opened.{HasRead, IsKnownOf, IsReadFaultOf, left_of}
use Rattle.audit_recording.proofs.SessionLemmas.Reading.{frame_on_for, many_read, none_on}
use Rattle.audit_recording.proofs.SessionLemmas.Faults.{same_fault}
use Rattle.audit_recording.proofs.session.opened.read_frames.Goals as goal

pub loop-turn-init : goal.loop-turn-init
loop-turn-init g c = record { read = λ file named was. (was, search rules); goes = λ began. began; wanted = refl }

pub returns-then-not-branch-clause-read : goal.returns-then-not-branch-clause-read
returns-then-not-branch-clause-read g c file named was =
    let so = (c.loop-turn.invariant.read file named was).0 in
    none_on (HasRead g.R.Read.remaining file c.loop-turn.opened) (HasRead g.R.Read.remaining file c.next.new.self) c.loop-turn.session c.next.new.session named so _ c.if-not-branch.true
    (c.in_ok-next.ensures.goes_on named _ so.history so.carried so.noticed file so.read so.is)

pub returns-then-not-branch-clause-ends : goal.returns-then-not-branch-clause-ends
returns-then-not-branch-clause-ends g c = c.in_ok-next.ensures.ends (ap Ok c.if-not-branch.true)

pub returns-then-not-branch-clause-at_end : goal.returns-then-not-branch-clause-at_end
returns-then-not-branch-clause-at_end g c began over = c.in_ok-next.ensures.at_end (c.loop-turn.invariant.goes began) (ap Ok c.if-not-branch.true) over

pub loop-turn-preserved : goal.loop-turn-preserved
loop-turn-preserved g c = record {
  read = λ file named was.
      let so = c.loop-turn.invariant.read file named was in
      frame_on_for (HasRead g.R.Read.remaining file c.loop-turn.opened) (HasRead g.R.Read.remaining file c.next.new.self) c.loop-turn.session c.next.new.session named c.loop-turn._turn so _ c.if-not-branch.false
      (c.in_ok-next.ensures.goes_on named _ so.0.history so.0.carried so.0.noticed file so.0.read so.0.is);
  goes = λ began. c.in_ok-next.ensures.goes (ap Ok c.if-not-branch.false);
  wanted = c.in_ok-next.ensures.wanted ∙ c.loop-turn.invariant.wanted;
}

pub returns-in_err-next-clause-why : goal.returns-in_err-next-clause-why
returns-in_err-next-clause-why g c file named was =
    let so = (c.loop-turn.invariant.read file named was).0 in
    same_fault c.from_residual.result _ (IsReadFaultOf file) c.from_residual.ensures.1 (c.in_err-next.ensures.why named _ so.history so.carried so.noticed file so.read so.is)

pub returns-clause-why : goal.returns-clause-why
returns-clause-why g c file named was =
    many_read {Q = IsKnownOf c.loop-turn.opened} file (left_of g.R.Read.remaining c.loop-turn.opened) c.loop-turn.opened.recording c.loop-turn.session named c.loop-turn._turn (c.loop-turn.invariant.read file named was) (search rules)
