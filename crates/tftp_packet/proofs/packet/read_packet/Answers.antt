use Rattle.std.specs.Prelude.{Err}
use Rattle.tftp_packet.specs.{Short}
use Rattle.tftp_packet.proofs.Judged.{all_bytes, found_of, written_of, only_of, fault_of, judged_short}
use Rattle.tftp_packet.proofs.packet.read_packet.Goals as goal

pub returns-then-payload-lt2-clause-fault : goal.returns-then-payload-lt2-clause-fault
returns-then-payload-lt2-clause-fault c = fault_of c.args.payload.now (Err Short) (judged_short c.args.payload.now c.if-payload-lt2.true)

pub returns-in-1-clause-found : goal.returns-in-1-clause-found
returns-in-1-clause-found c = found_of c.args.payload.now _ (all_bytes c.args.payload.now c.type_inv.payload) c.read_request.ensures

pub returns-in-1-clause-written : goal.returns-in-1-clause-written
returns-in-1-clause-written c = written_of c.args.payload.now _ c.read_request.ensures

pub returns-in-1-clause-only : goal.returns-in-1-clause-only
returns-in-1-clause-only c = only_of c.args.payload.now _ c.read_request.ensures

pub returns-in-1-clause-fault : goal.returns-in-1-clause-fault
returns-in-1-clause-fault c = fault_of c.args.payload.now _ c.read_request.ensures

pub returns-in-2-clause-found : goal.returns-in-2-clause-found
returns-in-2-clause-found c = found_of c.args.payload.now _ (all_bytes c.args.payload.now c.type_inv.payload) c.read_request-in-2.ensures

pub returns-in-2-clause-written : goal.returns-in-2-clause-written
returns-in-2-clause-written c = written_of c.args.payload.now _ c.read_request-in-2.ensures

pub returns-in-2-clause-only : goal.returns-in-2-clause-only
returns-in-2-clause-only c = only_of c.args.payload.now _ c.read_request-in-2.ensures

pub returns-in-2-clause-fault : goal.returns-in-2-clause-fault
returns-in-2-clause-fault c = fault_of c.args.payload.now _ c.read_request-in-2.ensures

pub returns-in-3-clause-found : goal.returns-in-3-clause-found
returns-in-3-clause-found c = found_of c.args.payload.now _ (all_bytes c.args.payload.now c.type_inv.payload) c.read_data.ensures

pub returns-in-3-clause-written : goal.returns-in-3-clause-written
returns-in-3-clause-written c = written_of c.args.payload.now _ c.read_data.ensures

pub returns-in-5-clause-found : goal.returns-in-5-clause-found
returns-in-5-clause-found c = found_of c.args.payload.now _ (all_bytes c.args.payload.now c.type_inv.payload) c.read_error.ensures

pub returns-in-5-clause-written : goal.returns-in-5-clause-written
returns-in-5-clause-written c = written_of c.args.payload.now _ c.read_error.ensures

pub returns-in-6-clause-found : goal.returns-in-6-clause-found
returns-in-6-clause-found c = found_of c.args.payload.now _ (all_bytes c.args.payload.now c.type_inv.payload) c.read_oack.ensures

pub returns-in-6-clause-written : goal.returns-in-6-clause-written
returns-in-6-clause-written c = written_of c.args.payload.now _ c.read_oack.ensures

pub returns-in-6-clause-only : goal.returns-in-6-clause-only
returns-in-6-clause-only c = only_of c.args.payload.now _ c.read_oack.ensures

pub returns-in-6-clause-fault : goal.returns-in-6-clause-fault
returns-in-6-clause-fault c = fault_of c.args.payload.now _ c.read_oack.ensures
