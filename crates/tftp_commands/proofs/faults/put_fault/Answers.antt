use Rattle.std.proofs.Common.{◌∙◌}
use Rattle.net_streams.proofs.StreamsLemmas.Gathering.{adds_same}
use Rattle.tftp_commands.proofs.FaultLines.{read_pieces, text_pieces}
use Rattle.tftp_commands.proofs.faults.put_fault.Goals as goal

pub returns-in-Text : goal.returns-in-Text
returns-in-Text g c =
    let are = text_pieces c.in-Text.line c.in-Text.fault c.as_bytes.result.now c.text_fault_name.result.now (c.as_bytes.ensures.value ∙ c.format.ensures.text) c.text_fault_name.ensures in
    record { adds = rw c.in-Text.is (adds_same g.W.Write.contents c.args.writer.now c.add_all.new.self c.add_all.result _ _ are c.add_all.ensures.adds) }

pub returns-in-Read : goal.returns-in-Read
returns-in-Read g c =
    let are = read_pieces c.in-Read.line c.as_bytes-in-Read.result.now (c.as_bytes-in-Read.ensures.value ∙ c.format-in-Read.ensures.text) in
    record { adds = rw c.in-Read.is (adds_same g.W.Write.contents c.args.writer.now c.add_all-in-Read.new.self c.add_all-in-Read.result _ _ are c.add_all-in-Read.ensures.adds) }

pub returns-in-Memory : goal.returns-in-Memory
returns-in-Memory g c = record { adds = rw c.in-Memory.is c.add.ensures.adds }
