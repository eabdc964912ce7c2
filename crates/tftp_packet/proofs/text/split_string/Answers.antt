use Rattle.std.proofs.Common.{◌≡◌, ◌≤◌, length, take, subst, arith}
use Rattle.tftp_packet.specs.{IsString}
use Rattle.tftp_packet.proofs.Strings.{string_on}
use Rattle.tftp_packet.proofs.text.split_string.Goals as goal

pub returns : goal.returns
returns c =
    let bytes = c.args.bytes.now in
    let low : c.min-near.result ≤ length bytes = omega arith in
    let all : c.loop-end.end ≡ c.min-near.result = omega arith in
    string_on bytes c.in_ok-far.far.now c.in_ok-far.after.now c.min-near.result low (subst (λ n. IsString (take n bytes)) all c.loop-end.invariant) c.in_ok-far.ensures.1 c.in_ok-far.ensures.0
