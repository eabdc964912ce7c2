use Rattle.std.proofs.Common.{◌≡◌, ◌↔◌, ℕ, IsTrue, ap, subst}
use Rattle.tftp_packet.specs.{Message, Packet, meaning}
use Rattle.tftp_judge.specs.{HasSentIn, flags_of}
use Rattle.judge_pair.specs.Judge.{Side}
use Rattle.judge_pair.proofs.JudgeLemmas.Sides.{other_sent_by}
use Rattle.judge_pair.proofs.judge.side.Side.has_sent_packet.Goals as goal

is_ack : (p : Packet) (j : ℕ) → meaning p ≡ Message.Ack j → p ≡ Packet.Ack j
is_ack (Packet.Request asked) j is = absurd (cc)
is_ack (Packet.Data k bytes) j is = absurd (cc)
is_ack (Packet.Ack k) j is = cc
is_ack (Packet.Error code text) j is = absurd (cc)
is_ack (Packet.Oack options) j is = absurd (cc)

pub returns-in_default : goal.returns-in_default
returns-in_default g c = λ h read after.
    other_sent_by c.args.self.now h read after (meaning c.args.packet.now) (λ j is. c.in_default.not-Ack j (is_ack c.args.packet.now j is)) (flags_of c.numbers.result.now) c.has_sent.result
    (subst (λ o. IsTrue c.has_sent.result ↔ HasSentIn o (flags_of c.numbers.result.now) (meaning c.args.packet.now)) (ap (λ (s : Side). s.judge.state.transfer) c.self.view_is) c.has_sent.ensures)
