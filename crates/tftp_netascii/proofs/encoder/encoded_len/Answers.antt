use Rattle.std.proofs.Common.{ap, sym, ◌∙◌, ◌+◌, length}
use Rattle.tftp_netascii.proofs.CanonicalLemmas.{length-canonical_wire}
use Rattle.tftp_netascii.proofs.encoder.encoded_len.Goals as goal

pub returns : goal.returns
returns c =
    let file = c.args.file.now in
    ap (λ n. length file + n) c.control_count.ensures ∙ sym (length-canonical_wire file)
