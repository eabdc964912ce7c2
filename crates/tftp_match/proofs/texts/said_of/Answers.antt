use Rattle.judge_pair.specs.MatchTexts.Said.{IsPairSaidBy}
use Rattle.tftp_match.proofs.texts.said_of.Goals as goal

pub returns : goal.returns
returns g c =
    let j = c.judge_pair_by.ensures in
    let said : IsPairSaidBy c.args.rollover (g.R.Read.remaining c.new-client.result.0) (g.R.Read.remaining c.judge_pair_by.new.client.0) (g.S.Read.remaining c.new-server.result.0) (g.S.Read.remaining c.judge_pair_by.new.server.0) c.judge_pair_by.new.client.1 c.judge_pair_by.new.server.1 c.judge_pair_by.result.client c.judge_pair_by.result.server c.judge_pair_by.result.together =
    record {
      at_client = record { judged = j.client_judged; ended = j.client_ended; read = j.client_read; tally = j.client_tally; whole = j.client_whole; exact = j.client_exact };
      at_server = record { judged = j.server_judged; ended = j.server_ended; read = j.server_read; tally = j.server_tally; whole = j.server_whole; exact = j.server_exact };
      numbers = j.matched;
      why = j.apart;
    } in
    record {
      client_left = g.R.Read.remaining c.judge_pair_by.new.client.0;
      server_left = g.S.Read.remaining c.judge_pair_by.new.server.0;
      client_failed = c.judge_pair_by.new.client.1;
      server_failed = c.judge_pair_by.new.server.1;
      said = rw c.new-client.ensures at (rw c.new-server.ensures at said);
    }
