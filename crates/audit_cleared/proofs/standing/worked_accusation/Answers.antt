use Rattle.std.proofs.Common.{◌≡◌, true, false, [], Some, refl, sym, ◌∙◌, ap}
use Rattle.audit_views.specs.Views.Worked.{first_transfer}
use Rattle.audit_recording.specs.Blame.Frames.{Framed, whole_of}
use Rattle.audit_recording.specs.Blame.Worked.{in_even_frames}
use Rattle.audit_recording.specs.declared.rows.row.Point.TheVariants as point
use Rattle.audit_cleared.specs.Accused.{is_doubtful_there}
use Rattle.audit_cleared.specs.Worked.{asked_before}
use Rattle.audit_cleared.proofs.Accusing.{accuses}
use Rattle.audit_cleared.proofs.standing.worked_accusation.Goals as goal

pub returns-clause-accused : goal.returns-clause-accused
returns-clause-accused c = record {
  transfer = first_transfer;
  blamed = _;
  opens = refl;
  refused = accuses;
  at = refl;
  in_frame = refl;
  doubtless = refl;
}

some_one : {X : Type 0} (x y : X) → Some x ≡ Some y → x ≡ y
some_one x y is = cc

pub returns-clause-in_one_frame : goal.returns-clause-in_one_frame
returns-clause-in_one_frame c number rule a = sym a.in_frame ∙ ap (λ (f : Framed). f.carried.frame) (sym (some_one _ a.blamed a.at))

pub returns-clause-not_doubtful : goal.returns-clause-not_doubtful
returns-clause-not_doubtful c rule frame a =
    let both : true ≡ false = ap (λ f. is_doubtful_there point.Client 1 (whole_of [] (in_even_frames asked_before)) f) (some_one _ a.blamed a.at) ∙ a.doubtless in absurd (cc)
