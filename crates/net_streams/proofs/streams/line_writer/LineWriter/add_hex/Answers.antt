use Rattle.std.proofs.Common.{rules, drop, ◌+◌, ◌-◌}
use Rattle.hex.specs.Hex.{encode_lower}
use Rattle.net_streams.proofs.StreamsLemmas.Gathering.{adds_err, gathers_none, gathers_more, gathers_prefix, stops_now}
use Rattle.net_streams.proofs.DigitsLemmas.Encoding.{encode-nil, encode_more, encode_rest}
use Rattle.net_streams.proofs.streams.line_writer.LineWriter.add_hex.Goals as goal

pub loop-done-init : goal.loop-done-init
loop-done-init g c = record { within = search rules; added = (search rules, search rules, rw encode-nil (gathers_none _ _)) }

pub returns-in_err-add_digits : goal.returns-in_err-add_digits
returns-in_err-add_digits g c =
    let bytes = c.args.bytes.now in
    let done = c.loop-done.done in
    let size = c.min-size.result in
    let before = c.loop-done.invariant.added in
    let stop = c.in_err-add_digits.ensures.adds in
    record {
      adds =
          adds_err g.W.Write.contents c.args.self.now c.add_digits.new.self c.from_residual.result _ c.from_residual.ensures.0
          (stops_now g.W.Write.contents c.args.self.now c.add_digits.new.self _ before.0 stop.failed
          (rw (encode_rest bytes done size) (gathers_prefix _ _ _ _ _ _ _ (encode_lower (drop (done + size - done) (drop done bytes))) before.2 (stop.part before.1))));
    }

pub loop-done-preserved : goal.loop-done-preserved
loop-done-preserved g c =
    let before = c.loop-done.invariant.added in
    let more = c.in_ok-add_digits.ensures.adds in
    record {
      within = search rules;
      added = (before.0, more.1, rw (encode_more c.args.bytes.now c.loop-done.done c.min-size.result) (gathers_more _ _ _ _ _ _ _ _ before.2 more.2));
    }
