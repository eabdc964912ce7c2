use Rattle.std.proofs.Common.{refl}
use Rattle.std.specs.Fmt.{digits}
use Rattle.json.specs.Print.{escape_byte, print_from}
use Rattle.tftp_match.proofs.laws.worked_objects.Goals as goal

pub returns-clause-matched : goal.returns-clause-matched
unfolding digits escape_byte print_from
returns-clause-matched c client server named = rw named.client_file (rw named.client_number (rw named.server_file (rw named.server_number refl)))

pub returns-clause-unmatched : goal.returns-clause-unmatched
returns-clause-unmatched c = refl

pub returns-clause-words : goal.returns-clause-words
returns-clause-words c = refl
