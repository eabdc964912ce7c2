use Rattle.std.proofs.Common.{◌==◌, ◌++◌, [], ◌∙◌, ap, if◌then◌else◌}
use Rattle.audit_recording.specs.Session.Lines.{ports_text}
use Rattle.audit_recording.specs.Session.Strays.{asked_ports}
use Rattle.tftp_rows.specs.Remarks.{none_lines}
use Rattle.tftp_rows.proofs.remarks.rest_of.Goals as goal

pub returns : goal.returns
returns c s noted = c.in_ok-put_absence.ensures s noted ∙ ap (λ lines. lines ++ (if c.args.told == 0 then none_lines (ports_text (asked_ports s.strays)) else [])) (c.in_ok-lines.ensures s noted)
