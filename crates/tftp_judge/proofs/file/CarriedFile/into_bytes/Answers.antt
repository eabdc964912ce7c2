use Rattle.std.proofs.Common.{ap, sym, subst, ◌∙◌}
use Rattle.law_end.specs.{ReadsAs}
use Rattle.law_end.proofs.Whole.CarriedFile.{carried_file-is}
use Rattle.tftp_judge.proofs.file.CarriedFile.into_bytes.Goals as goal

pub returns-in-Netascii : goal.returns-in-Netascii
returns-in-Netascii c =
    let wire = c.self.inside.wire.items in
    let file = c.decode_in_place.new.text.items in
    carried_file-is c.self.inside.mode wire file (subst (λ m. ReadsAs m wire file) (sym c.in-Netascii.is) c.decode_in_place.ensures) ∙ ap (λ p. p.1) c.self.view_is
