use Rattle.std.proofs.Common.{refl}
use Rattle.std.specs.Fmt.{digits}
use Rattle.std.specs.Net.Text.{hex, hex_groups_text, ipv6_text}
use Rattle.audit_views.proofs.parties.laws.worked_names.Goals as goal

pub returns-clause-ipv4 : goal.returns-clause-ipv4
unfolding digits
returns-clause-ipv4 c = refl

pub returns-clause-ipv6 : goal.returns-clause-ipv6
unfolding hex hex_groups_text ipv6_text
returns-clause-ipv6 c = refl

pub returns-clause-mapped : goal.returns-clause-mapped
unfolding digits hex hex_groups_text ipv6_text
returns-clause-mapped c = refl
