use Rattle.std.proofs.Common.{◌≡◌, ◌∙◌, rules}
use Rattle.tftp_capture.specs.{end_word, header_of}
use Rattle.net_streams.proofs.StreamsLemmas.Gathering.{adds_same}
use Rattle.tftp_capture.proofs.Spelling.{header_pieces}
use Rattle.tftp_capture.proofs.writer.put_header.Goals as goal
use Rattle.tftp_capture.proofs.writer.put_header.Goals.{in-Client, in-Server}

pub returns : goal.returns
returns g c =
    let named : c.match-header.named.now ≡ end_word c.args.header.now.named = elim c.match-header.branch [ in-Client w ↦ search rules | in-Server w ↦ search rules ] in
    let are = header_pieces c.args.version (header_of c.args.header.now) c.first_line.result.now c.match-header.named.now c.as_bytes-service.result.now c.first_line.ensures named (c.as_bytes-service.ensures.value ∙ c.format.ensures.text) in
    record { adds = adds_same g.W.Write.contents c.args.writer.now c.add_all.new.self c.add_all.result _ _ are c.add_all.ensures.adds }
