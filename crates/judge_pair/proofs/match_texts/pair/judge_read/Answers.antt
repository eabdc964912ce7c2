use Rattle.std.proofs.Common.{inl, inr}
use Rattle.tftp_judge.proofs.TextFound.{found_no_header}
use Rattle.judge_pair.proofs.MatchTextsLemmas.Begun.{has_begun, is_stopped}
use Rattle.judge_pair.proofs.MatchTextsLemmas.Halting.{judged_of}
use Rattle.judge_pair.proofs.match_texts.pair.judge_read.Goals as goal

pub returns-in-Err : goal.returns-in-Err
returns-in-Err g c =
    let e = c.in-Err.ensures in
    let s = c.judge_text.ensures in
    record {
      at_client = judged_of c.args.rollover _ _ _ _ (found_no_header c.args.rollover (g.R.Read.remaining c.args.client.now.0) (g.R.Read.remaining c.begin.new.reader.0) c.begin.new.reader.1 c.in-Err.fault e.err e.end e.read e.tally);
      at_server = record { judged = s.judged; ended = s.ended; read = s.read; tally = s.tally; whole = s.whole; exact = s.exact };
      numbers = tt;
      why = inl (is_stopped (g.R.Read.remaining c.args.client.now.0) (g.R.Read.remaining c.begin.new.reader.0) c.in-Err.fault e.err e.end);
    }

pub returns-in-Ok-begin : goal.returns-in-Ok-begin
returns-in-Ok-begin g c =
    let e = c.in-Ok.ensures in
    let s = c.in-Ok-begin.ensures in
    c.judge_begun.ensures (g.R.Read.remaining c.args.client.now.0) (g.S.Read.remaining c.args.server.now.0)
    (has_begun c.args.rollover (g.R.Read.remaining c.args.client.now.0) (g.R.Read.remaining c.begin.new.reader.0) c.begin.new.reader.1 c.in-Ok.capture e.ok.0 e.ok.1 e.ok.2 e.open e.clean)
    (has_begun c.args.rollover (g.S.Read.remaining c.args.server.now.0) (g.S.Read.remaining c.begin-2.new.reader.0) c.begin-2.new.reader.1 c.in-Ok-begin.capture s.ok.0 s.ok.1 s.ok.2 s.open s.clean)

pub returns-in-Err-begin : goal.returns-in-Err-begin
returns-in-Err-begin g c =
    let e = c.in-Ok.ensures in
    let s = c.in-Err-begin.ensures in
    record {
      at_client = c.judge_alone.ensures (g.R.Read.remaining c.args.client.now.0) (has_begun c.args.rollover (g.R.Read.remaining c.args.client.now.0) (g.R.Read.remaining c.begin.new.reader.0) c.begin.new.reader.1 c.in-Ok.capture e.ok.0 e.ok.1 e.ok.2 e.open e.clean);
      at_server = judged_of c.args.rollover _ _ _ _ (found_no_header c.args.rollover (g.S.Read.remaining c.args.server.now.0) (g.S.Read.remaining c.begin-2.new.reader.0) c.begin-2.new.reader.1 c.in-Err-begin.fault s.err s.end s.read s.tally);
      numbers = tt;
      why = inr (is_stopped (g.S.Read.remaining c.args.server.now.0) (g.S.Read.remaining c.begin-2.new.reader.0) c.in-Err-begin.fault s.err s.end);
    }
