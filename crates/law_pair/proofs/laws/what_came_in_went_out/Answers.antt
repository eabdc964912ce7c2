use Rattle.law_pair.proofs.CommonMeaning.{to_client, to_server}
use Rattle.law_pair.proofs.laws.what_came_in_went_out.Goals as goal

pub returns : goal.returns
returns c = record { to_client = to_client; to_server = to_server }
