use Rattle.std.proofs.Common.{◌++◌, codes, decimal, inl, inr, refl, ap, ◌∙◌}
use Rattle.tftp_packet.specs.{meaning}
use Rattle.net_streams.proofs.StreamsLemmas.Gathering.{adds_err, line_added, stops_short}
use Rattle.tftp_capture.specs.{dir_word}
use Rattle.tftp_commands.specs.{beside, message_text}
use Rattle.tftp_commands.proofs.Lines.{line_pieces, payload_said}
use Rattle.tftp_commands.proofs.show.put_datagram.Goals as goal

pub returns-in_err-add_all : goal.returns-in_err-add_all
returns-in_err-add_all g c =
    let said = payload_said c.args.numbers.now.rollover c.args.numbers.now.highest c.args.datagram.now.payload c.read_packet-packet.result (rw c.as_slice.ensures at c.read_packet-packet.ensures.found) (rw c.as_slice.ensures at c.read_packet-packet.ensures.fault) in
    let are = line_pieces c.args.number c.args.datagram.now.dir c.as_bytes.result.now c.dir_name.result.now said.0 (c.as_bytes.ensures.value ∙ c.format.ensures.text) c.dir_name.ensures in
    record {
      adds = (
        decimal c.args.number ++ codes " " ++ dir_word c.args.datagram.now.dir ++ codes " " ++ said.0 ++ codes "\n",
        (said.0, said.1, refl),
        adds_err g.W.Write.contents c.args.writer.now c.add_all.new.self c.from_residual.result _ c.from_residual.ensures.0 (stops_short g.W.Write.contents c.args.writer.now c.add_all.new.self _ _ _ are c.in_err-add_all.ensures.adds),
      );
    }

pub returns-in-Ok : goal.returns-in-Ok
returns-in-Ok g c =
    let text = message_text (meaning c.in-Ok.packet) ++ beside c.args.numbers.now.rollover c.args.numbers.now.highest (meaning c.in-Ok.packet) in
    let are = line_pieces c.args.number c.args.datagram.now.dir c.as_bytes.result.now c.dir_name.result.now text (c.as_bytes.ensures.value ∙ c.format.ensures.text) c.dir_name.ensures in
    let found = rw c.as_slice.ensures at c.in-Ok.ensures.found in
    record {
      adds = (
        decimal c.args.number ++ codes " " ++ dir_word c.args.datagram.now.dir ++ codes " " ++ text ++ codes "\n",
        (text, inl (meaning c.in-Ok.packet, found, refl), refl),
        line_added g.W.Write.contents c.args.writer.now c.add_all.new.self c.put_packet.new.writer c.put_packet.result _ _ _ are c.in_ok-add_all.ensures.adds c.put_packet.ensures.adds,
      );
    }

pub returns-in-Err : goal.returns-in-Err
returns-in-Err g c =
    let text = codes "malformed " ++ c.packet_fault_name.result.now in
    let are = line_pieces c.args.number c.args.datagram.now.dir c.as_bytes.result.now c.dir_name.result.now text (c.as_bytes.ensures.value ∙ c.format.ensures.text) c.dir_name.ensures in
    let first = ((rw c.as_slice.ensures at c.in-Err.ensures.fault) c.in-Err.fault).0 refl in
    record {
      adds = (
        decimal c.args.number ++ codes " " ++ dir_word c.args.datagram.now.dir ++ codes " " ++ text ++ codes "\n",
        (text, inr (c.in-Err.fault, first, ap (λ l. codes "malformed " ++ l) c.packet_fault_name.ensures), refl),
        line_added g.W.Write.contents c.args.writer.now c.add_all.new.self c.add_all-in-Err.new.self c.add_all-in-Err.result _ _ _ are c.in_ok-add_all.ensures.adds c.add_all-in-Err.ensures.adds,
      );
    }
