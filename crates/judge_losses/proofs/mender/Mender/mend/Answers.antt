use Rattle.std.proofs.Common.{◌+◌, ◌<◌, ◌∷◌, ◌++◌, sym, ap, ◌∙◌, subst, arith}
use Rattle.tftp_capture.specs.{datagram_of}
use Rattle.tftp_judge.specs.{IsJudgeAfter, Judge}
use Rattle.judge_losses.specs.Mended.{Mender}
use Rattle.judge_losses.specs.declared.place.Place.{Place}
use Rattle.judge_losses.proofs.Mending.{mended_at, mended_whole}
use Rattle.judge_losses.proofs.mender.Mender.mend.Goals.{then-put-gt0-via-then-put-gt0, then-put-gt0-via-else-put-gt0+then-put-gt0-2}
use Rattle.judge_losses.proofs.mender.Mender.mend.Goals as goal

-- some were put in before it
pub returns-in_ok-keep-clause-mends : goal.returns-in_ok-keep-clause-mends
returns-in_ok-keep-clause-mends c = λ h recorded mended.
    let (put, judged, came, sent) = c.in_ok-put.ensures.puts h mended.all mended.judged in
    let took = c.in_ok-take.ensures in
    let kept = c.in_ok-keep.ensures in
    let inside = c.self.view_is in
    let fed = took.judged h (put ++ mended.all) judged in
    let count = ap (λ (m : Mender). m.recorded) inside in
    let now = ap (λ (m : Mender). m.recorded) c.keep.view_is in
    let place : Place = record { before = c.keep.inside.recorded; came = c.in_ok-put.put.came; sent = c.in_ok-put.put.sent } in
    let some : 0 < place.came + place.sent = elim c.then-put-gt0.branch [
      | then-put-gt0-via-then-put-gt0 w ↦ omega (arith, w.if-put-gt0.true)
      | then-put-gt0-via-else-put-gt0+then-put-gt0-2 w ↦ omega (arith, w.if-put-gt0-2.true)
    ] in
    mended_at c.args.self.now c.keep-then-put-gt0.new.self h recorded put (datagram_of c.args.datagram.now) mended
    (subst (λ (j : Judge). IsJudgeAfter j h (datagram_of c.args.datagram.now ∷ (put ++ mended.all))) (ap (λ (m : Mender). m.judge) (sym inside) ∙ sym kept.judge) fed)
    (omega (arith, kept.recorded, now, count, took.recorded, c.in_ok-put.ensures.recorded))
    (kept.gave_up ∙ ap (λ (m : Mender). m.gave_up) inside ∙ took.gave_up ∙ c.in_ok-put.ensures.gave_up)
    place
    (kept.places ∙ ap (λ ps. place ∷ ps) (ap (λ (m : Mender). m.places) inside ∙ took.places ∙ c.in_ok-put.ensures.places))
    (omega (arith, now, count, took.recorded, c.in_ok-put.ensures.recorded))
    came sent some

-- none were
pub returns-else-put-gt0-2-clause-mends : goal.returns-else-put-gt0-2-clause-mends
returns-else-put-gt0-2-clause-mends c = λ h recorded mended.
    let (put, judged, came, sent) = c.in_ok-put.ensures.puts h mended.all mended.judged in
    let took = c.in_ok-take.ensures in
    let inside = c.self.view_is in
    let fed = took.judged h (put ++ mended.all) judged in
    let count = ap (λ (m : Mender). m.recorded) inside in
    mended_whole c.args.self.now _ h recorded put (datagram_of c.args.datagram.now) mended
    (subst (λ (j : Judge). IsJudgeAfter j h (datagram_of c.args.datagram.now ∷ (put ++ mended.all))) (ap (λ (m : Mender). m.judge) (sym inside)) fed)
    (omega (arith, count, took.recorded, c.in_ok-put.ensures.recorded))
    (ap (λ (m : Mender). m.gave_up) inside ∙ took.gave_up ∙ c.in_ok-put.ensures.gave_up)
    (ap (λ (m : Mender). m.places) inside ∙ took.places ∙ c.in_ok-put.ensures.places)
    (omega (arith, came, c.if-put-gt0.false))
    (omega (arith, sent, c.if-put-gt0-2.false))
