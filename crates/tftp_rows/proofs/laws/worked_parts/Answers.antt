use Rattle.std.proofs.Common.{refl}
use Rattle.std.specs.Fmt.{digits}
use Rattle.std.specs.Net.Text.{hex, hex_groups_text, ipv6_text}
use Rattle.tftp_rows.specs.Times.{seconds_text}
use Rattle.tftp_rows.proofs.laws.worked_parts.Goals as goal

pub returns-clause-wide : goal.returns-clause-wide
unfolding digits hex hex_groups_text ipv6_text
returns-clause-wide c = refl

pub returns-clause-slow : goal.returns-clause-slow
unfolding digits seconds_text
returns-clause-slow c = refl

pub returns-clause-quiet : goal.returns-clause-quiet
unfolding digits
returns-clause-quiet c = refl
