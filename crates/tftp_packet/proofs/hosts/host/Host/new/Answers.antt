use Rattle.std.proofs.Common.{rules}
use Rattle.tftp_packet.proofs.HostsLemmas.Hosts.{held}
use Rattle.tftp_packet.proofs.hosts.host.Host.new.Goals as goal

pub invariant_of-result : goal.invariant_of-result
invariant_of-result c =
    rw c.copy_from_slice.ensures.after (held c.args.bytes.now (record {
      some = search rules;
      few = search rules;
      signs = search rules;
    }))
