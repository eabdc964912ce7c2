use Rattle.std.proofs.Common.{◌++◌, take, arith}
use Rattle.std.proofs.lemmas.Grind.{common_steps}
use Rattle.net_streams.proofs.StreamsLemmas.Taking.{taken_step}
use Rattle.net_pcap.proofs.skip.skip.Goals as goal

pub reads-preserved : goal.reads-preserved
reads-preserved g c =
    let held = c.fill.new.self.bytes in
    let some = c.min-some.result in
    let bytes = c.reads.invariant.taken.0 in
    record {
      tally = grind (arith, common_steps);
      taken = (
        bytes ++ take some held,
        rw c.consume.ensures.value (taken_step _ _ _ bytes held some c.reads.invariant.taken.1 c.fill.ensures.kept),
        grind (arith, common_steps),
      );
    }
