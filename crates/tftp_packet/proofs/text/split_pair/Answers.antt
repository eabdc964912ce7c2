use Rattle.tftp_packet.proofs.PairStrings.{no_name, no_text, pair_front, stands_first}
use Rattle.tftp_packet.proofs.text.split_pair.Goals as goal

pub returns-in_err-name : goal.returns-in_err-name
returns-in_err-name c = rw c.from_residual.ensures (no_name c.args.bytes.now c.in_err-name.ensures)

pub returns-in_err-text : goal.returns-in_err-text
returns-in_err-text c = rw c.from_residual-in_err-text.ensures (no_text c.in_ok-name.name.now c.in_ok-name.rest.now c.args.bytes.now c.in_ok-name.ensures.0 c.in_err-text.ensures c.in_ok-name.ensures.1)

pub returns : goal.returns
returns c =
    let parts = pair_front c.in_ok-name.name.now c.in_ok-name.rest.now c.in_ok-text.text.now c.in_ok-text.after.now c.args.bytes.now
    c.in_ok-name.ensures.0 c.in_ok-name.ensures.1 c.in_ok-text.ensures.0 c.in_ok-text.ensures.1 in (
      parts.0,
      parts.1,
      stands_first c.in_ok-name.name.now c.in_ok-name.rest.now c.in_ok-text.text.now c.in_ok-text.after.now c.args.bytes.now c.in_ok-name.ensures.0 c.in_ok-name.ensures.1 c.in_ok-text.ensures.1,
    )
