use Rattle.std.proofs.Common.{◌≡◌, length, ap, subst, arith}
use Rattle.law_end.specs.{carried_file, written_wire}
use Rattle.tftp_judge.proofs.CameCanonical.{came_canonical}
use Rattle.tftp_judge.proofs.file.CarriedFile.into_file_bytes.Goals as goal

pub returns-clause-canonical : goal.returns-clause-canonical
returns-clause-canonical c =
    let wire = c.self.inside.wire.items in
    let mode = c.self.inside.mode in
    let long : length wire ≡ length (written_wire mode (carried_file mode wire)) = omega (arith, c.if-self-len.false, c.len.ensures, c.self.invariant.1) in
    subst (λ m. wire ≡ written_wire m (carried_file m wire)) (ap (λ p. p.0) c.self.view_is) (came_canonical mode wire long)
