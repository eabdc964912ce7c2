use Rattle.std.proofs.Common.{sym, subst, arith}
use Rattle.std.proofs.lemmas.Result.{err_from_is_err_and}
use Rattle.tftp_packet.specs.{FirstFault}
use Rattle.tftp_packet.proofs.Judged.{all_bytes, after_opcode}
use Rattle.tftp_packet.proofs.OackCases.{oack_fault}
use Rattle.tftp_packet.proofs.packet.read_oack.Goals as goal

pub returns-in_err-options : goal.returns-in_err-options
returns-in_err-options c =
    let p = err_from_is_err_and c.from_residual.result c.from_residual.ensures.1 in
    let payload = after_opcode c.args.payload.now 6 c.requires (omega arith) (omega arith) (all_bytes c.args.payload.now c.type_inv.payload) in
    rw (p.1, p.2) (subst (λ x. FirstFault x c.in_err-options.field-0.0) (sym payload) (oack_fault _ c.in_err-options.field-0.0 c.in_err-options.ensures.err))
