use Rattle.std.proofs.Common.{rules, ap, ◌∷◌, ◌+◌, ◌∙◌, refl, subst, sym, Ok}
use Rattle.audit_recording.specs.Session.Kept.{IsSessionAfter}
use Rattle.audit_recording.specs.Session.Opened.{HasRead, IsKnownOf, left_of, may_lose_in}
use Rattle.tftp_rows.specs.Whole.{IsReadOn, numbers_of}
use Rattle.tftp_rows.proofs.FaultLemmas.{same_fault}
use Rattle.tftp_rows.proofs.ReadingLemmas.{frame_came, many_frames, none_came, one_frame_more, read_end, read_one, stops_telling, stops_there, told_over_for}
use Rattle.tftp_rows.proofs.TellingLemmas.{on_err}
use Rattle.tftp_rows.proofs.reading.tell_frames.Goals as goal

pub loop-turn-init : goal.loop-turn-init
loop-turn-init g c = record { told = λ begun file named was. (was, search rules); goes = λ began. began; stays = refl; judging = refl }

pub returns-then-not-branch-clause-told : goal.returns-then-not-branch-clause-told
returns-then-not-branch-clause-told g c begun file named was =
    let so = (c.loop-turn.invariant.told begun file named was).0 in
    subst (λ lose. IsReadOn g.W.Write.contents begun c.loop-turn.teller lose (HasRead g.R.Read.remaining file c.next.new.self) c.next.new.session named) (sym (c.in_ok-next.ensures.stays ∙ c.loop-turn.invariant.stays))
    (read_end g.W.Write.contents (may_lose_in c.args.opened.now) begun c.loop-turn.teller (HasRead g.R.Read.remaining file c.loop-turn.opened) (HasRead g.R.Read.remaining file c.next.new.self) c.loop-turn.session c.next.new.session named so.0 so.1 so.2 so.3 so.4 c.in_ok-next.ensures.judging
    (none_came (λ frames datagrams noticed. HasRead g.R.Read.remaining file c.next.new.self frames × IsSessionAfter c.next.new.session named (numbers_of so.3) frames datagrams noticed) so.0 so.1 so.2 _ c.if-not-branch.true
    (c.in_ok-next.ensures.goes_on named (numbers_of so.3) so.0 so.1 so.2 file so.4.read so.4.session_is)))

pub returns-then-not-branch-clause-ends : goal.returns-then-not-branch-clause-ends
returns-then-not-branch-clause-ends g c = c.in_ok-next.ensures.ends (ap Ok c.if-not-branch.true)

pub returns-then-not-branch-clause-at_end : goal.returns-then-not-branch-clause-at_end
returns-then-not-branch-clause-at_end g c began over = c.in_ok-next.ensures.at_end (c.loop-turn.invariant.goes began) (ap Ok c.if-not-branch.true) over

pub loop-turn-preserved : goal.loop-turn-preserved
loop-turn-preserved g c = record {
  told = λ begun file named was.
      let so = (c.loop-turn.invariant.told begun file named was).0 in
      let came = frame_came (λ frames datagrams noticed. HasRead g.R.Read.remaining file c.next.new.self frames × IsSessionAfter c.next.new.session named (numbers_of so.3) frames datagrams noticed) so.0 so.1 so.2 _ c.if-not-branch.false
      (c.in_ok-next.ensures.goes_on named (numbers_of so.3) so.0 so.1 so.2 file so.4.read so.4.session_is) in
      let one = read_one g.W.Write.contents (may_lose_in c.args.opened.now) begun c.loop-turn.teller (HasRead g.R.Read.remaining file c.loop-turn.opened) (HasRead g.R.Read.remaining file c.next.new.self) c.loop-turn.session c.next.new.session named came.0 so.0 so.1 came.1 so.2 came.2 so.3 so.4 c.in_ok-next.ensures.judging came.3 came.4 in
      told_over_for g.W.Write.contents (may_lose_in c.args.opened.now) (c.loop-turn._turn + 1) begun c.loop-turn.teller c.tell_over.new.self c.next.new.session.notes.may_lose (HasRead g.R.Read.remaining file c.next.new.self) c.next.new.session c.tell_over.new.session named (came.0 ∷ so.0) came.1 came.2 so.3 one c.in_ok-tell_over.ensures.judging
      (c.in_ok-next.ensures.may_lose ∙ (c.in_ok-next.ensures.stays ∙ c.loop-turn.invariant.stays))
      (c.in_ok-tell_over.ensures.turns named (numbers_of so.3) (came.0 ∷ so.0) came.1 came.2 one.session_is)
      (one_frame_more c.loop-turn._turn came.0 so.0 (c.loop-turn.invariant.told begun file named was).1);
  goes = λ began. c.in_ok-next.ensures.goes (ap Ok c.if-not-branch.false);
  stays = c.in_ok-next.ensures.stays ∙ c.loop-turn.invariant.stays;
  judging = c.in_ok-tell_over.ensures.judging ∙ (c.in_ok-next.ensures.judging ∙ c.loop-turn.invariant.judging);
}

pub returns-in_err-next-clause-part : goal.returns-in_err-next-clause-part
returns-in_err-next-clause-part g c begun file named was =
    on_err c.from_residual.result
    (stops_there g.W.Write.contents (may_lose_in c.args.opened.now) {Q = IsKnownOf c.loop-turn.opened} begun c.loop-turn.teller file (left_of g.R.Read.remaining c.loop-turn.opened) c.loop-turn.opened.recording c.loop-turn.session c.args.session.now.audit.judge.judging named (c.loop-turn.invariant.told begun file named was).0 c.loop-turn.invariant.judging
    (λ bytes frames both none. both.0 (c.loop-turn.invariant.stays ∙ none)))

pub returns-in_err-tell_over-clause-part : goal.returns-in_err-tell_over-clause-part
returns-in_err-tell_over-clause-part g c begun file named was =
    let so = (c.loop-turn.invariant.told begun file named was).0 in
    let came = frame_came (λ frames datagrams noticed. HasRead g.R.Read.remaining file c.next.new.self frames × IsSessionAfter c.next.new.session named (numbers_of so.3) frames datagrams noticed) so.0 so.1 so.2 _ c.if-not-branch.false
    (c.in_ok-next.ensures.goes_on named (numbers_of so.3) so.0 so.1 so.2 file so.4.read so.4.session_is) in
    let one = read_one g.W.Write.contents (may_lose_in c.args.opened.now) begun c.loop-turn.teller (HasRead g.R.Read.remaining file c.loop-turn.opened) (HasRead g.R.Read.remaining file c.next.new.self) c.loop-turn.session c.next.new.session named came.0 so.0 so.1 came.1 so.2 came.2 so.3 so.4 c.in_ok-next.ensures.judging came.3 came.4 in
    on_err c.from_residual-in_err-tell_over.result
    (stops_telling g.W.Write.contents (may_lose_in c.args.opened.now) {Q = IsKnownOf c.next.new.self} begun c.loop-turn.teller c.tell_over.new.self c.next.new.session.notes.may_lose file (left_of g.R.Read.remaining c.next.new.self) c.next.new.self.recording c.next.new.session c.args.session.now.audit.judge.judging named (came.0 ∷ so.0) came.1 came.2 so.3 one
    (c.in_ok-next.ensures.judging ∙ c.loop-turn.invariant.judging)
    (c.in_ok-next.ensures.may_lose ∙ (c.in_ok-next.ensures.stays ∙ c.loop-turn.invariant.stays))
    (c.in_err-tell_over.ensures.part named (numbers_of so.3) (came.0 ∷ so.0) came.1 came.2 one.session_is)
    (λ bytes frames both none. both.0 (c.in_ok-next.ensures.stays ∙ (c.loop-turn.invariant.stays ∙ none))))

pub returns-clause-part : goal.returns-clause-part
returns-clause-part g c begun file named was =
    stops_there g.W.Write.contents (may_lose_in c.args.opened.now) {Q = IsKnownOf c.loop-turn.opened} begun c.loop-turn.teller file (left_of g.R.Read.remaining c.loop-turn.opened) c.loop-turn.opened.recording c.loop-turn.session c.args.session.now.audit.judge.judging named (c.loop-turn.invariant.told begun file named was).0 c.loop-turn.invariant.judging
    (λ bytes frames both none. both.0 (c.loop-turn.invariant.stays ∙ none))

pub returns-clause-why : goal.returns-clause-why
returns-clause-why g c begun file named was =
    let told = c.loop-turn.invariant.told begun file named was in
    many_frames (IsKnownOf c.loop-turn.opened) file (left_of g.R.Read.remaining c.loop-turn.opened) c.loop-turn.opened.recording told.0.0 c.loop-turn._turn told.0.4.read told.1 (search rules)

pub returns-in_err-next-clause-why : goal.returns-in_err-next-clause-why
returns-in_err-next-clause-why g c begun file named was =
    let so = (c.loop-turn.invariant.told begun file named was).0 in
    same_fault c.from_residual.result _ _ c.from_residual.ensures.1 (c.in_err-next.ensures.why named (numbers_of so.3) so.0 so.1 so.2 file so.4.read so.4.session_is)
