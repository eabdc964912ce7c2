use Rattle.std.proofs.Common.{[], Ok, Err, ap, ◌∙◌, subst, arith}
use Rattle.std.specs.Io.KnownBytes.{prepend_known}
use Rattle.std.proofs.lemmas.Result.{err_from_is_err_and}
use Rattle.tftp_capture.specs.{IsReadFault, IsReadStanding}
use Rattle.tftp_judge.specs.{IsJudgeAfter, header_by}
use Rattle.tftp_judge.proofs.TakenText.{none_taken}
use Rattle.tftp_judge.proofs.Follows.{follows_on, found_fault, found_meaning, found_refused, found_unfinished, still_clean, reads_or_clean}
use Rattle.tftp_judge.proofs.TextFound.{Found, found_ended, found_exact, found_judged, found_no_header, found_tally, found_whole}
use Rattle.tftp_judge.proofs.text.judge_text.Given.{Over}
use Rattle.tftp_judge.proofs.text.judge_text.Goals as goal

-- ---- the header is not read

no_header : (g : Over) (c : goal.After-from_residual g) → Found c.args.rollover (g.R.Read.remaining c.args.reader.now.0) (g.R.Read.remaining c.begin.new.reader.0) c.begin.new.reader.1 c.from_residual.result
no_header g c =
    let p = err_from_is_err_and c.from_residual.result c.from_residual.ensures.1 in
    let e = c.in_err-capture.ensures in
    rw (p.1, p.2)
    (found_no_header c.args.rollover (g.R.Read.remaining c.args.reader.now.0) (g.R.Read.remaining c.begin.new.reader.0) c.begin.new.reader.1 c.in_err-capture.field-0.0 e.err e.end e.read e.tally)

pub returns-in_err-capture-clause-judged : goal.returns-in_err-capture-clause-judged
returns-in_err-capture-clause-judged g c = found_judged _ _ _ _ _ (no_header g c)

pub returns-in_err-capture-clause-whole : goal.returns-in_err-capture-clause-whole
returns-in_err-capture-clause-whole g c = found_whole _ _ _ _ _ (no_header g c)

pub returns-in_err-capture-clause-exact : goal.returns-in_err-capture-clause-exact
returns-in_err-capture-clause-exact g c = found_exact _ _ _ _ _ (no_header g c)

-- ---- the loop

pub loop-datagram-init : goal.loop-datagram-init
loop-datagram-init g c =
    let e = c.in_ok-capture.ensures in
    let begun = e.ok in
    record {
      goes = e.open;
      clean = e.clean;
      lines = omega (arith, c.new-judge.ensures.fed, e.line);
      follows = record {
        read = begun.0;
        datagrams = [];
        consumed = begun.1;
        goes_on = begun.2;
        passed = [];
        taken = none_taken c.args.rollover c.in_ok-capture.capture.header;
        accepted = subst (λ h. IsJudgeAfter c.new-judge.result h []) (c.with_rollover-header.ensures ∙ ap (header_by c.args.rollover) c.header.ensures) c.new-judge.ensures;
      };
    }

pub next_into-requires : goal.next_into-requires
next_into-requires g c = record { told = λ reads. absurd (subst IsReadStanding c.loop-datagram.invariant.goes reads) }

-- the reader has stopped
stopped : (g : Over) (c : goal.After-drop-capture-inside-in_err-next_into g) → Found c.args.rollover (g.R.Read.remaining c.args.reader.now.0) (g.R.Read.remaining c.next_into.new.reader.0) c.next_into.new.reader.1 c.from_residual-in_err-next_into.result
stopped g c =
    let p = err_from_is_err_and c.from_residual-in_err-next_into.result c.from_residual-in_err-next_into.ensures.1 in
    let e = c.in_err-next_into.ensures in
    let fault = c.in_err-next_into.field-0.0 in
    let i = c.loop-datagram.invariant in
    rw (p.1, p.2)
    (found_fault c.args.rollover (g.R.Read.remaining c.args.reader.now.0) (prepend_known c.loop-datagram.capture.lines.ahead (g.R.Read.remaining c.loop-datagram.reader.0)) (g.R.Read.remaining c.next_into.new.reader.0) c.loop-datagram.capture c.next_into.new.self
    c.loop-datagram.judge i.goes i.follows fault c.next_into.new.reader.1 e.continues e.standing (e.near i.goes) (e.cut i.goes) (e.drained i.goes) e.read
    (reads_or_clean (IsReadFault fault) c.next_into.new.reader.1 c.loop-datagram.reader.1 e.tally i.clean))

pub returns-in_err-next_into-clause-judged : goal.returns-in_err-next_into-clause-judged
returns-in_err-next_into-clause-judged g c = found_judged _ _ _ _ _ (stopped g c)

pub returns-in_err-next_into-clause-ended : goal.returns-in_err-next_into-clause-ended
returns-in_err-next_into-clause-ended g c = found_ended _ _ _ _ _ (stopped g c)

pub returns-in_err-next_into-clause-tally : goal.returns-in_err-next_into-clause-tally
returns-in_err-next_into-clause-tally g c = found_tally _ _ _ _ _ (stopped g c)

pub returns-in_err-next_into-clause-whole : goal.returns-in_err-next_into-clause-whole
returns-in_err-next_into-clause-whole g c = found_whole _ _ _ _ _ (stopped g c)

pub returns-in_err-next_into-clause-exact : goal.returns-in_err-next_into-clause-exact
returns-in_err-next_into-clause-exact g c = found_exact _ _ _ _ _ (stopped g c)

-- ---- a datagram was read

pub take-requires : goal.take-requires
take-requires g c =
    let rises = c.in_ok-next_into.ensures.rises (ap Ok c.if-branch.true) in
    record {
      few = omega (arith, c.loop-datagram.invariant.lines, rises, c.in_ok-next_into.ensures.line);
      short = c.in_ok-next_into.ensures.fits (ap Ok c.if-branch.true);
    }

-- the judge has refused it
refused : (g : Over) (c : goal.After-drop-capture-inside-in_err-take-2 g) → Found c.args.rollover (g.R.Read.remaining c.args.reader.now.0) (g.R.Read.remaining c.next_into.new.reader.0) c.next_into.new.reader.1 c.from_residual-in_err-take.result
refused g c =
    let p = err_from_is_err_and c.from_residual-in_err-take.result c.from_residual-in_err-take.ensures.1 in
    let e = c.in_ok-next_into.ensures in
    let i = c.loop-datagram.invariant in
    rw (p.1, p.2)
    (found_refused c.args.rollover (g.R.Read.remaining c.args.reader.now.0) (prepend_known c.loop-datagram.capture.lines.ahead (g.R.Read.remaining c.loop-datagram.reader.0)) (g.R.Read.remaining c.next_into.new.reader.0) c.loop-datagram.capture c.next_into.new.self
    c.loop-datagram.judge i.goes i.follows c.next_into.new.datagram (rw c.if-branch.true at e.continues) (rw c.if-branch.true at e.standing) e.header c.in_err-take.field-0.0 c.next_into.new.reader.1
    (still_clean c.next_into.new.reader.1 c.loop-datagram.reader.1 e.tally i.clean) (e.near i.goes) (λ now taken. c.in_err-take.ensures.refuses (header_by c.args.rollover c.loop-datagram.capture.header) i.follows.passed now i.follows.accepted taken))

pub returns-in_err-take-clause-judged : goal.returns-in_err-take-clause-judged
returns-in_err-take-clause-judged g c = found_judged _ _ _ _ _ (refused g c)

pub returns-in_err-take-clause-ended : goal.returns-in_err-take-clause-ended
returns-in_err-take-clause-ended g c = found_ended _ _ _ _ _ (refused g c)

pub returns-in_err-take-clause-read : goal.returns-in_err-take-clause-read
returns-in_err-take-clause-read g c = (refused g c).failing

pub returns-in_err-take-clause-tally : goal.returns-in_err-take-clause-tally
returns-in_err-take-clause-tally g c = found_tally _ _ _ _ _ (refused g c)

pub returns-in_err-take-clause-whole : goal.returns-in_err-take-clause-whole
returns-in_err-take-clause-whole g c = found_whole _ _ _ _ _ (refused g c)

pub returns-in_err-take-clause-exact : goal.returns-in_err-take-clause-exact
returns-in_err-take-clause-exact g c = found_exact _ _ _ _ _ (refused g c)

pub loop-datagram-smaller : goal.loop-datagram-smaller
loop-datagram-smaller g c =
    let rises = c.in_ok-next_into.ensures.rises (ap Ok c.if-branch.true) in
    omega (arith, rises, c.in_ok-next_into.ensures.line)

pub loop-datagram-preserved : goal.loop-datagram-preserved
loop-datagram-preserved g c =
    let e = c.in_ok-next_into.ensures in
    let i = c.loop-datagram.invariant in
    let rises = e.rises (ap Ok c.if-branch.true) in
    let ready = rw c.if-branch.true at e.standing in
    record {
      goes = ready;
      clean = still_clean c.next_into.new.reader.1 c.loop-datagram.reader.1 e.tally i.clean;
      lines = omega (arith, i.lines, rises, c.in_ok-take.ensures.counts);
      follows = follows_on c.args.rollover (g.R.Read.remaining c.args.reader.now.0) (prepend_known c.loop-datagram.capture.lines.ahead (g.R.Read.remaining c.loop-datagram.reader.0)) (g.R.Read.remaining c.next_into.new.reader.0) c.loop-datagram.capture c.next_into.new.self
          c.loop-datagram.judge i.goes i.follows c.next_into.new.datagram (rw c.if-branch.true at e.continues) ready e.header c.take.new.self
          (λ now taken. (c.in_ok-take.ensures.accepts (header_by c.args.rollover c.loop-datagram.capture.header) i.follows.passed now i.follows.accepted taken).1);
    }

-- ---- the text has ended

unfinished : (g : Over) (c : goal.After-drop-capture-inside-in_err-finish-2 g) → Found c.args.rollover (g.R.Read.remaining c.args.reader.now.0) (g.R.Read.remaining c.next_into.new.reader.0) c.next_into.new.reader.1 c.from_residual-in_err-finish.result
unfinished g c =
    let p = err_from_is_err_and c.from_residual-in_err-finish.result c.from_residual-in_err-finish.ensures.1 in
    let e = c.in_ok-next_into.ensures in
    let i = c.loop-datagram.invariant in
    let none = c.if-branch.false in
    rw (p.1, p.2)
    (found_unfinished c.args.rollover (g.R.Read.remaining c.args.reader.now.0) (prepend_known c.loop-datagram.capture.lines.ahead (g.R.Read.remaining c.loop-datagram.reader.0)) (g.R.Read.remaining c.next_into.new.reader.0) c.loop-datagram.capture c.next_into.new.self
    c.loop-datagram.judge i.goes i.follows (rw none at e.continues) (rw none at e.standing) e.header (e.end i.goes (ap Ok none)) c.next_into.new.reader.1
    (still_clean c.next_into.new.reader.1 c.loop-datagram.reader.1 e.tally i.clean) c.in_err-finish.field-0.0
    (λ count is. (c.in_err-finish.ensures.joins (header_by c.args.rollover c.loop-datagram.capture.header) i.follows.passed count i.follows.accepted (ap Err is)).2) c.in_err-finish.ensures.verdict)

pub returns-in_err-finish-clause-judged : goal.returns-in_err-finish-clause-judged
returns-in_err-finish-clause-judged g c = found_judged _ _ _ _ _ (unfinished g c)

pub returns-in_err-finish-clause-ended : goal.returns-in_err-finish-clause-ended
returns-in_err-finish-clause-ended g c = found_ended _ _ _ _ _ (unfinished g c)

pub returns-in_err-finish-clause-tally : goal.returns-in_err-finish-clause-tally
returns-in_err-finish-clause-tally g c = found_tally _ _ _ _ _ (unfinished g c)

pub returns-in_err-finish-clause-whole : goal.returns-in_err-finish-clause-whole
returns-in_err-finish-clause-whole g c = found_whole _ _ _ _ _ (unfinished g c)

pub returns-in_err-finish-clause-exact : goal.returns-in_err-finish-clause-exact
returns-in_err-finish-clause-exact g c = found_exact _ _ _ _ _ (unfinished g c)

meant : (g : Over) (c : goal.After-drop-capture-inside-3 g) → Found c.args.rollover (g.R.Read.remaining c.args.reader.now.0) (g.R.Read.remaining c.next_into.new.reader.0) c.next_into.new.reader.1 (Ok c.in_ok-finish.field-0)
meant g c =
    let e = c.in_ok-next_into.ensures in
    let i = c.loop-datagram.invariant in
    let none = c.if-branch.false in
    found_meaning c.args.rollover (g.R.Read.remaining c.args.reader.now.0) (prepend_known c.loop-datagram.capture.lines.ahead (g.R.Read.remaining c.loop-datagram.reader.0)) (g.R.Read.remaining c.next_into.new.reader.0) c.loop-datagram.capture c.next_into.new.self
    c.loop-datagram.judge i.goes i.follows (rw none at e.continues) (rw none at e.standing) e.header (e.end i.goes (ap Ok none)) c.next_into.new.reader.1
    (still_clean c.next_into.new.reader.1 c.loop-datagram.reader.1 e.tally i.clean) c.in_ok-finish.field-0 c.in_ok-finish.ensures.verdict

pub returns-clause-judged : goal.returns-clause-judged
returns-clause-judged g c = found_judged _ _ _ _ _ (meant g c)

pub returns-clause-ended : goal.returns-clause-ended
returns-clause-ended g c = found_ended _ _ _ _ _ (meant g c)

pub returns-clause-tally : goal.returns-clause-tally
returns-clause-tally g c = found_tally _ _ _ _ _ (meant g c)

pub returns-clause-whole : goal.returns-clause-whole
returns-clause-whole g c = found_whole _ _ _ _ _ (meant g c)

pub returns-clause-exact : goal.returns-clause-exact
returns-clause-exact g c = found_exact _ _ _ _ _ (meant g c)
