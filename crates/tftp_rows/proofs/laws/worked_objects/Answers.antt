use Rattle.std.proofs.Common.{refl}
use Rattle.std.specs.Fmt.{digits}
use Rattle.json.specs.Print.{escape_byte, print_from}
use Rattle.tftp_rows.proofs.laws.worked_objects.Goals as goal

pub returns-clause-row : goal.returns-clause-row
unfolding digits escape_byte print_from
returns-clause-row c r p e s t o = rw p.file (rw p.number (rw p.place (rw p.frame (rw p.accused (rw p.words (rw p.reasons (rw e (rw s (rw t (rw o refl))))))))))

pub returns-clause-escaped : goal.returns-clause-escaped
unfolding escape_byte print_from
returns-clause-escaped c = refl
