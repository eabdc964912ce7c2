use Rattle.law_pair.proofs.Together.{client_seen, server_seen, merged_views, together}
use Rattle.law_pair.proofs.laws.consistent_is_lawful_and_merged.Goals as goal

pub returns : goal.returns
returns c = record { client = client_seen; server = server_seen; merged = merged_views; together = together }
