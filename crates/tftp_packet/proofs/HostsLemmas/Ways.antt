-- Ways differ.
use Rattle.std.proofs.Common.{◌≡◌}
use Rattle.tftp_packet.specs.declared.hosts.dir.Dir.TheVariants.{In, Out}

pub in_not_out : In ≡ Out → ⊥
in_not_out e = absurd (cc)

pub out_not_in : Out ≡ In → ⊥
out_not_in e = absurd (cc)
