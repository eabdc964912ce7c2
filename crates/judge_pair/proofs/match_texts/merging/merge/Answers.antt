use Rattle.std.proofs.Common.{◌<◌, sym, subst}
use Rattle.tftp_packet.specs.{Client, Server}
use Rattle.tftp_judge.specs.{Judge}
use Rattle.judge_pair.proofs.MatchTextsLemmas.Both.{client_goes, server_goes}
use Rattle.judge_pair.proofs.match_texts.merging.merge.Goals as goal

pub loop-client-preserved-then-goes_on : goal.loop-client-preserved-then-goes_on
loop-client-preserved-then-goes_on g c =
    let i = c.loop-client.invariant in
    let e = c.read_on.ensures in
    record {
      client_ready = e.open;
      server_ready = i.server_ready;
      client_lines = e.lines;
      server_lines = λ none. subst (λ (j : Judge). j.fed < c.loop-client.server.capture.handed) (sym e.other.0) (i.server_lines none);
      numbered = λ which was. e.numbered which (i.numbered which was);
      runs = client_goes c.args.rollover _ _ _ _ _ c.loop-client.pair c.read_on.new.pair i.runs _ e.runs e.other;
    }

pub loop-client-preserved : goal.loop-client-preserved
loop-client-preserved g c =
    let i = c.loop-client.invariant in
    let e = c.read_on-then-goes_on-2.ensures in
    record {
      client_ready = i.client_ready;
      server_ready = e.open;
      client_lines = λ none. subst (λ (j : Judge). j.fed < c.loop-client.client.capture.handed) (sym e.other.0) (i.client_lines none);
      server_lines = e.lines;
      numbered = λ which was. e.numbered which (i.numbered which was);
      runs = server_goes c.args.rollover _ _ _ _ _ c.loop-client.pair c.read_on-then-goes_on-2.new.pair i.runs _ e.runs e.other;
    }

pub read_on-requires-clause-numbered : goal.read_on-requires-clause-numbered
read_on-requires-clause-numbered g c = λ r is. c.loop-client.invariant.numbered Client (c.requires.numbered r Client is)

pub read_on-requires-then-goes_on-2-clause-numbered : goal.read_on-requires-then-goes_on-2-clause-numbered
read_on-requires-then-goes_on-2-clause-numbered g c = λ r is. c.loop-client.invariant.numbered Server (c.requires.numbered r Server is)
