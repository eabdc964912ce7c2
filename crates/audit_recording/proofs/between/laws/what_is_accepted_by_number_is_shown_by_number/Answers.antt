use Rattle.std.proofs.Common.{Some}
use Rattle.law_tap.specs.{AreApart}
use Rattle.law_tap.proofs.TapUnrolled.{shows_back}
use Rattle.audit_recording.specs.Between.{sides_by}
use Rattle.audit_recording.proofs.between.laws.what_is_accepted_by_number_is_shown_by_number.Goals as goal

pub returns : goal.returns
returns c r s given m apart bytes (taken, are, (lawful, (wire, shows), writable)) =
    let k = sides_by (Some r) s in
    let there : AreApart k = record { server = apart.server; asked = apart.asked } in
    (wire, shows_back r k there m wire given taken bytes are shows)
