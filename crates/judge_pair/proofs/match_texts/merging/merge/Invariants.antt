use Rattle.std.proofs.Common.{◌≡◌, ◌<◌, ◌+◌, None}
use Rattle.tftp_packet.specs.{End}
use Rattle.net_streams.specs.{Standing}
use Rattle.judge_pair.specs.Judge.{IsNumbered, side_at}
use Rattle.judge_pair.specs.MatchTexts.{BothRun, lines_left, seen}
use Rattle.judge_pair.proofs.match_texts.merging.merge.Given as goal

-- what the two judges stood for, they stand for
abbrev pub invariant-loop-client : goal.invariant-loop-client
invariant-loop-client g l = record {
  client_ready : l.client.halt ≡ None → l.client.capture.standing ≡ Standing.Open;
  server_ready : l.server.halt ≡ None → l.server.capture.standing ≡ Standing.Open;
  client_lines : l.client.halt ≡ None → l.pair.client.judge.fed < l.client.capture.handed;
  server_lines : l.server.halt ≡ None → l.pair.server.judge.fed < l.server.capture.handed;
  numbered : (e : End) → IsNumbered (side_at e l.fn.pair) → IsNumbered (side_at e l.pair);
  runs : BothRun l.rollover (seen (g.R.Read.remaining l.fn.client_reader.0) l.fn.client_reader.1 l.fn.client.halt l.fn.client.capture) (seen (g.S.Read.remaining l.fn.server_reader.0) l.fn.server_reader.1 l.fn.server.halt l.fn.server.capture) l.fn.pair
      (seen (g.R.Read.remaining l.client_reader.0) l.client_reader.1 l.client.halt l.client.capture) (seen (g.S.Read.remaining l.server_reader.0) l.server_reader.1 l.server.halt l.server.capture) l.pair;
}

abbrev pub decreases-loop-client : goal.decreases-loop-client
decreases-loop-client g l = lines_left l.client.halt l.client.capture.handed + lines_left l.server.halt l.server.capture.handed
