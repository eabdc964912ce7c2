use Rattle.law_tap.proofs.WorkedTap.{both_tap, both_client, both_server}
use Rattle.law_tap.proofs.worked.exchange_that_both_ends_refuse_is_lawful_at_a_tap.Goals as goal

pub returns : goal.returns
returns c = record { tap = both_tap; client = both_client; server = both_server }
