use Rattle.law_tap.proofs.WorkedTap.{nothing_tap, nothing_client, nothing_server}
use Rattle.law_tap.proofs.worked.ack_of_nothing_is_lawful_nowhere.Goals as goal

pub returns : goal.returns
returns c = record { tap = nothing_tap; client = nothing_client; server = nothing_server }
