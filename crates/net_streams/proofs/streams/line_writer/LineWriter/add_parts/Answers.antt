use Rattle.std.proofs.Common.{refl}
use Rattle.net_streams.proofs.StreamsLemmas.Gathering.{adds_err, adds_more, stops_after, stops_short}
use Rattle.net_streams.proofs.streams.line_writer.LineWriter.add_parts.Goals as goal

pub returns-in_err-add : goal.returns-in_err-add
returns-in_err-add g c =
    let contents = g.W.Write.contents in
    let start = c.args.self.now in
    let stop = stops_short contents start c.add.new.self _ _ _ refl c.in_err-add.ensures.adds in
    record { adds = adds_err contents start c.add.new.self c.from_residual.result _ c.from_residual.ensures.0 stop }

pub returns-in_err-add_hex : goal.returns-in_err-add_hex
returns-in_err-add_hex g c =
    let contents = g.W.Write.contents in
    let start = c.args.self.now in
    let head = stops_short contents c.add.new.self c.add_hex.new.self _ _ _ refl c.in_err-add_hex.ensures.adds in
    let stop = stops_after contents start c.add.new.self c.add_hex.new.self _ _ c.in_ok-add.ensures.adds head in
    record { adds = adds_err contents start c.add_hex.new.self c.from_residual-in_err-add_hex.result _ c.from_residual-in_err-add_hex.ensures.0 stop }

pub returns-in_err-add_hex-2 : goal.returns-in_err-add_hex-2
returns-in_err-add_hex-2 g c =
    let contents = g.W.Write.contents in
    let start = c.args.self.now in
    let last = c.add_hex-2.new.self in
    let rest = stops_short contents c.add_hex.new.self last _ _ _ refl c.in_err-add_hex-2.ensures.adds in
    let digits = stops_after contents c.add.new.self c.add_hex.new.self last _ _ c.in_ok-add_hex.ensures.adds rest in
    let stop = stops_after contents start c.add.new.self last _ _ c.in_ok-add.ensures.adds digits in
    record { adds = adds_err contents start last c.from_residual-in_err-add_hex-2.result _ c.from_residual-in_err-add_hex-2.ensures.0 stop }

pub returns : goal.returns
returns g c =
    let contents = g.W.Write.contents in
    let last = c.add-2.new.self in
    let rest = adds_more contents c.add_hex.new.self c.add_hex-2.new.self last c.add-2.result _ _ c.in_ok-add_hex-2.ensures.adds c.add-2.ensures.adds in
    let digits = adds_more contents c.add.new.self c.add_hex.new.self last c.add-2.result _ _ c.in_ok-add_hex.ensures.adds rest in
    record { adds = adds_more contents c.args.self.now c.add.new.self last c.add-2.result _ _ c.in_ok-add.ensures.adds digits }
