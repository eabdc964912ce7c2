use Rattle.std.proofs.Common.{◌≡◌, ◌≢◌, ℕ, false, List, [], length, nat_eq, ap, ◌∙◌}
use Rattle.std.proofs.lemmas.Bool.{false≢true}
use Rattle.tftp_packet.proofs.Strings.{only_more}
use Rattle.tftp_packet.proofs.text.only_string.Goals as goal

not_empty : (rest : List ℕ) → false ≡ nat_eq (length rest) 0 → rest ≢ []
not_empty rest test none = false≢true (test ∙ ap (λ r. nat_eq (length r) 0) none)

pub returns-else-is_empty : goal.returns-else-is_empty
returns-else-is_empty c = only_more c.in_ok-only.only.now c.in_ok-only.rest.now c.args.bytes.now c.in_ok-only.ensures.0 c.in_ok-only.ensures.1 (not_empty c.in_ok-only.rest.now c.if-is_empty.ensures)
