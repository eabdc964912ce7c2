use Rattle.std.proofs.Common.{Ok, ◌∙◌, ap, subst}
use Rattle.tftp_rows.specs.declared.remarks.Remarks.{Remarks}
use Rattle.tftp_match.specs.Captures.{IsCaptureOf, IsNoted, capture_of}
use Rattle.tftp_match.proofs.MatchingLemmas.{kept_is}
use Rattle.tftp_match.proofs.UnreadLemmas.{unread_is}
use Rattle.tftp_match.proofs.judging.begun.Goals as goal

pub returns-clause-begun : goal.returns-clause-begun
returns-clause-begun g c =
    let file = g.R.Read.remaining c.args.reader in
    let capture = capture_of g.R.Read.remaining c.in-Some.source in
    let kept = kept_is c.begin-source.result c.told.result c.in-Some.source (λ source. IsCaptureOf c.as_slice.result.now file (capture_of g.R.Read.remaining source)) _ _ c.told.ensures.some c.told.ensures.none (c.in_ok-source.was ∙ ap Ok c.in-Some.is) c.begin-source.ensures.begun in (
      subst (λ named. IsCaptureOf named file capture) c.as_slice.ensures.value kept.0,
      subst (λ (m : Remarks g.row.E.Denot). IsNoted m.program.now c.args.file.now c.args.request.now.services.items capture (g.E.Write.contents m.errors.0) (g.E.Write.contents c.tell_of.new.remarks.errors.0)) kept.1
          (c.in_ok-tell_of.ensures.noted c.args.request.now.services.items),
    )

pub returns-in_default-clause-unread : goal.returns-in_default-clause-unread
returns-in_default-clause-unread g c = unread_is c.begin-source.result c.told.result _ _ _ c.told.ensures.some c.told.ensures.none (c.in_ok-source.was ∙ ap Ok c.in_default.is) c.begin-source.ensures.why
