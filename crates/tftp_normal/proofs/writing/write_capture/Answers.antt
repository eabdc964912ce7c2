use Rattle.std.proofs.Common.{arith}
use Rattle.net_streams.proofs.StreamsLemmas.Gathering.{stops_now, writes_err}
use Rattle.tftp_normal.specs.{normal_header, normal_datagrams_by}
use Rattle.tftp_normal.proofs.TextPut.{count_of_all, begin_fails, opening_fails, windows_fail, written, close_fails, closed}
use Rattle.tftp_normal.proofs.writing.write_capture.Goals as goal

pub returns-in_err-capture : goal.returns-in_err-capture
returns-in_err-capture g c =
    writes_err g.W.Write.contents c.args.writer.now c.begin.new.writer c.from_residual.result _ c.from_residual.ensures.0
    (begin_fails c.args.rollover c.args.transfer.now g.W.Write.contents _ _ c.in_err-capture.ensures.adds)

pub returns-in_err-put_opening : goal.returns-in_err-put_opening
returns-in_err-put_opening g c =
    let begun = c.in_ok-capture.ensures in
    let stop = c.in_err-put_opening.ensures in
    writes_err g.W.Write.contents c.args.writer.now c.put_opening.new.writer c.from_residual-in_err-put_opening.result _ c.from_residual-in_err-put_opening.ensures.0
    (stops_now g.W.Write.contents c.args.writer.now c.put_opening.new.writer _ begun.adds.0 stop.failed
    (opening_fails c.args.rollover c.args.transfer.now g.W.Write.contents _ _ _ begun.begun c.put_opening.new.writer (stop.part begun.adds.1)))

pub put_windows-requires-clause-few : goal.put_windows-requires-clause-few
put_windows-requires-clause-few g c =
    let none = c.in_ok-capture.ensures.begun.are in
    let first = c.in_ok-put_opening.ensures.2.counted in
    let all = count_of_all c.args.rollover c.args.transfer.now c.requires.window in
    let few = c.requires.few in
    omega (arith, none, first, all, few)

pub returns-in_err-put_windows : goal.returns-in_err-put_windows
returns-in_err-put_windows g c =
    let begun = c.in_ok-capture.ensures in
    let opened = c.in_ok-put_opening.ensures in
    let stop = c.in_err-put_windows.ensures in
    writes_err g.W.Write.contents c.args.writer.now c.put_windows.new.writer c.from_residual-in_err-put_windows.result _ c.from_residual-in_err-put_windows.ensures.0
    (stops_now g.W.Write.contents c.args.writer.now c.put_windows.new.writer _ begun.adds.0 stop.failed
    (windows_fail c.args.rollover c.args.transfer.now g.W.Write.contents _ _ _ begun.begun _ _ opened.2 c.put_windows.new.writer (stop.part opened.1)))

pub returns : goal.returns
returns g c =
    let begun = c.in_ok-capture.ensures in
    let opened = c.in_ok-put_opening.ensures in
    let put = c.in_ok-put_windows.ensures in
    let all = written c.args.rollover c.args.transfer.now g.W.Write.contents _ _ _ begun.begun _ _ opened.2 _ _ put.2 in
    closed g.W.Write.contents c.args.writer.now c.put_windows.new.writer c.close.new.writer c.close.result _ _ begun.adds.0 put.1 c.close.ensures.writes (c.close.ensures.written _ normal_header (normal_datagrams_by c.args.rollover c.args.transfer.now) all)
    (close_fails c.args.rollover c.args.transfer.now g.W.Write.contents _ _ _ begun.begun _ _ opened.2 _ _ put.2 c.close.new.writer)
