use Rattle.std.proofs.Common.{ℕ, List, sym, ap, subst, ◌∙◌, take}
use Rattle.net_udp.specs.Frames.{headed_wrong, pair, IsSized, shown, udp_checksum}
use Rattle.net_udp.proofs.FramesLemmas.Datagrams.{has_one, headed, not_headed}
use Rattle.net_udp.proofs.frames.packet.IpPacket.checksum.Goals as goal

pub returns-in_default : goal.returns-in_default
returns-in_default c = λ bytes has sized. absurd (c.in_default.ensures bytes has)

pub returns-in_default-sized : goal.returns-in_default-sized
returns-in_default-sized c = λ bytes has sized. absurd (c.in_default-sized.ensures.sized (subst IsSized (has_one c.args.protocol c.args.content.now bytes _ has c.in-Some.ensures) sized))

pub returns-then-is_headed_right : goal.returns-then-is_headed_right
returns-then-is_headed_right c = λ bytes has sized.
    let same = has_one c.args.protocol c.args.content.now _ bytes c.in-Some.ensures has in
    let udp = c.in-Some-sized.ensures.sized ∙ ap (λ (l : List ℕ). take (pair l 4) l) same in
    headed _ _ _ _ (sym c.is_headed_right.ensures ∙ c.if-is_headed_right.true) (c.udp_checksum.ensures ∙ ap (udp_checksum c.args.self.now.source c.args.self.now.target) udp)

pub returns : goal.returns
returns c = λ bytes has sized.
    let same = has_one c.args.protocol c.args.content.now _ bytes c.in-Some.ensures has in
    let udp = c.in-Some-sized.ensures.sized ∙ ap (λ (l : List ℕ). take (pair l 4) l) same in
    not_headed _ _ _ _ (sym c.is_headed_right.ensures ∙ c.if-is_headed_right.false) (c.headed_wrong.ensures ∙ ap (headed_wrong (shown c.args.self.now)) udp)
