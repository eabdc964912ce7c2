use Rattle.std.proofs.Common.{[], Ok, ap, subst, arith, reverse}
use Rattle.std.specs.Io.KnownBytes.{prepend_known}
use Rattle.tftp_capture.specs.{IsReadStanding}
use Rattle.tftp_judge.specs.{unnumbered}
use Rattle.judge_losses.specs.Mended.{IsMended}
use Rattle.judge_losses.proofs.Reading.{found_missing, mends_on, whole_missing}
use Rattle.judge_losses.proofs.text.missing_with.Goals as goal

pub loop-datagram-init : goal.loop-datagram-init
loop-datagram-init g c =
    let e = c.in_ok-capture.ensures in
    let begun = e.ok in
    record {
      goes = e.open;
      lines = omega (arith, c.new-mender.ensures.count, e.line);
      mends = record {
        read = begun.0;
        datagrams = [];
        consumed = begun.1;
        goes_on = begun.2;
        mended = subst (λ h. IsMended c.new-mender.result h []) c.header.ensures c.new-mender.ensures;
      };
    }

pub next_into-requires : goal.next_into-requires
next_into-requires g c = record { told = λ reads. absurd (subst IsReadStanding c.loop-datagram.invariant.goes reads) }

pub feed-requires : goal.feed-requires
feed-requires g c =
    let rises = c.in_ok-next_into.ensures.rises (ap Ok c.if-branch.true) in
    record {
      few = omega (arith, c.loop-datagram.invariant.lines, rises, c.in_ok-next_into.ensures.line);
      short = c.in_ok-next_into.ensures.fits (ap Ok c.if-branch.true);
    }

pub loop-datagram-smaller : goal.loop-datagram-smaller
loop-datagram-smaller g c =
    let rises = c.in_ok-next_into.ensures.rises (ap Ok c.if-branch.true) in
    omega (arith, rises, c.in_ok-next_into.ensures.line)

pub loop-datagram-preserved : goal.loop-datagram-preserved
loop-datagram-preserved g c =
    let e = c.in_ok-next_into.ensures in
    let i = c.loop-datagram.invariant in
    let rises = e.rises (ap Ok c.if-branch.true) in
    let ready = rw c.if-branch.true at e.standing in
    record {
      goes = ready;
      lines = omega (arith, i.lines, rises, c.in_ok-feed.ensures.counts);
      mends = mends_on (g.R.Read.remaining c.args.reader.now.0) (prepend_known c.loop-datagram.capture.lines.ahead (g.R.Read.remaining c.loop-datagram.reader.0)) (g.R.Read.remaining c.next_into.new.reader.0) c.loop-datagram.capture c.next_into.new.self
          c.loop-datagram.mender i.goes i.mends c.next_into.new.datagram (rw c.if-branch.true at e.continues) ready e.header c.feed.new.self
          (c.in_ok-feed.ensures.mends c.loop-datagram.capture.header (reverse (unnumbered i.mends.datagrams)) i.mends.mended);
    }

pub returns-clause-found : goal.returns-clause-found
returns-clause-found g c =
    let e = c.in_ok-next_into.ensures in
    let i = c.loop-datagram.invariant in
    let none = c.if-branch.false in
    found_missing (g.R.Read.remaining c.args.reader.now.0) (prepend_known c.loop-datagram.capture.lines.ahead (g.R.Read.remaining c.loop-datagram.reader.0)) (g.R.Read.remaining c.next_into.new.reader.0) c.loop-datagram.capture c.next_into.new.self
    c.loop-datagram.mender i.goes i.mends (rw none at e.continues) (rw none at e.standing) e.header (e.end i.goes (ap Ok none)) c.into_places.result.items
    (c.into_places.ensures c.loop-datagram.capture.header (reverse (unnumbered i.mends.datagrams)) i.mends.mended)

pub returns-clause-whole : goal.returns-clause-whole
returns-clause-whole g c = λ text is. whole_missing _ _ c.into_places.result.items (returns-clause-found g c) text is
