use Rattle.std.proofs.Common.{◌≡◌, ◌-◌, take, drop, length, arith}
use Rattle.tftp_packet.specs.{Message, opcode_of}
use Rattle.tftp_packet.proofs.Judged.{all_bytes, bytes_but, as_place, numbered}
use Rattle.tftp_packet.proofs.packet.block_of.Goals as goal

pub returns-clause-written : goal.returns-clause-written
returns-clause-written c =
    let is : opcode_of c.args.payload.now ≡ 3 = omega (arith, c.if-opcode-ne3.false, c.opcode.ensures) in
    (numbered c.args.payload.now 3 c.read_u16.result is (omega arith) (omega arith) (all_bytes c.args.payload.now c.type_inv.payload) c.if-payload-lt4.false c.read_u16.ensures).1

pub returns-clause-spelled : goal.returns-clause-spelled
returns-clause-spelled c =
    let is : opcode_of c.args.payload.now ≡ 3 = omega (arith, c.if-opcode-ne3.false, c.opcode.ensures) in
    let bytes = all_bytes c.args.payload.now c.type_inv.payload in
    (bytes_but (Message.Data c.read_u16.result (take (length c.args.payload.now - 4) (drop 4 c.args.payload.now))) c.args.payload.now bytes, as_place c.args.payload.now (take (length c.args.payload.now - 4) (drop 4 c.args.payload.now)) 3 c.read_u16.result (numbered c.args.payload.now 3 c.read_u16.result is (omega arith) (omega arith) bytes c.if-payload-lt4.false c.read_u16.ensures).0)
