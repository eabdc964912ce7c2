use Rattle.std.proofs.Common.{ap, refl}
use Rattle.tftp_rows.proofs.ListingLemmas.{asked_of, ended_of}
use Rattle.tftp_rows.proofs.listing.ListRow.of.Goals as goal

pub returns : goal.returns
returns c judging x named carried h = record {
  number = refl;
  client = ap (λ y. y.client) h.own.transfer;
  server = c.server.ensures judging x named carried h.own;
  asked = asked_of c.in_ok-asked.asked c.args.trail.now _ (rw c.as_slice.ensures.value at c.in_ok-asked.ensures) h.begun;
  datagrams = h.own.count;
  first_frame = h.own.first;
  last_frame = h.own.last;
  ended = ended_of c.in_ok-ended.ended c.args.trail.now c.args.now x named carried c.ending-ending.result c.undelivered.result c.at_server-undelivered.result c.undelivered.ensures c.at_server-undelivered.ensures
      (c.ending-ending.ensures judging x named carried h.own) c.in_ok-ended.ensures;
  times = c.of-3.ensures judging x named carried h.own;
}
