use Rattle.law_pair.proofs.MatchedCaptures.{client_goes_on_to, server_goes_on_to, stuck_to, matched_to_one}
use Rattle.law_pair.proofs.laws.merging_captures_needs_no_choice.Goals as goal

pub returns : goal.returns
returns c = record { client = client_goes_on_to; server = server_goes_on_to; stuck = stuck_to; one = matched_to_one }
