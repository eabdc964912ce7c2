use Rattle.tftp_packet.proofs.Judged.{all_bytes}
use Rattle.judge_tap.proofs.reading.holds_bytes.Goals as goal

pub returns : goal.returns
returns c = all_bytes c.args.payload.now c.type_inv.payload
