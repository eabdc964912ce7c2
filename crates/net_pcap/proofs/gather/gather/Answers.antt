use Rattle.std.proofs.Common.{◌≡◌, ◌++◌, take, ap, ◌∙◌, append_assoc, arith}
use Rattle.std.proofs.lemmas.Grind.{common_steps}
use Rattle.net_streams.proofs.StreamsLemmas.Taking.{taken_step}
use Rattle.net_pcap.proofs.gather.gather.Goals as goal

pub reads-preserved : goal.reads-preserved
reads-preserved g c =
    let held = c.fill.new.self.bytes in
    let count = c.min-count.result in
    let bytes = c.reads.invariant.taken.0 in
    let grew : c.extend_from_slice.new.self.items ≡ c.reads.piece.items ++ take count held = rw (← c.as_slice-held.ensures) (grind (arith, common_steps)) in
    record {
      tally = grind (arith, common_steps);
      few = grind (arith, common_steps);
      roomy = omega (arith, c.reads.invariant.roomy, c.extend_from_slice.ensures.capacity);
      taken = (
        bytes ++ take count held,
        rw c.consume.ensures.value (taken_step _ _ _ bytes held count c.reads.invariant.taken.1 c.fill.ensures.kept),
        grew ∙ ap (λ l. l ++ take count held) c.reads.invariant.taken.2 ∙ append_assoc c.args.piece.now.items bytes (take count held),
      );
    }
