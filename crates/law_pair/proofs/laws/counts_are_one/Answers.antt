use Rattle.law_pair.proofs.Counted.{passed_one, none_to_client, none_to_server}
use Rattle.law_pair.proofs.laws.counts_are_one.Goals as goal

pub returns : goal.returns
returns c = record { one = passed_one; to_client = none_to_client; to_server = none_to_server }
