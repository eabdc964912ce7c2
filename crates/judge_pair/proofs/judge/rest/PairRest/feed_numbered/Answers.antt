use Rattle.tftp_capture.specs.{datagram_of}
use Rattle.law_model.specs.Rules.{transfer_of}
use Rattle.tftp_judge.proofs.Taken.{as_taken}
use Rattle.judge_pair.proofs.judge.rest.PairRest.feed_numbered.Goals as goal

pub returns-clause-client : goal.returns-clause-client
returns-clause-client g c = λ is h k client server d after unrolled.
    c.take.ensures.client is h k client server d after (as_taken c.args.rollover (transfer_of h client) (datagram_of c.args.datagram.now) d unrolled)

pub returns-clause-server : goal.returns-clause-server
returns-clause-server g c = λ is h k client server d after unrolled.
    c.take.ensures.server is h k client server d after (as_taken c.args.rollover (transfer_of k server) (datagram_of c.args.datagram.now) d unrolled)

pub returns-clause-refuses_client : goal.returns-clause-refuses_client
returns-clause-refuses_client g c = λ is h k client server d after unrolled.
    c.take.ensures.refuses_client is h k client server d after (as_taken c.args.rollover (transfer_of h client) (datagram_of c.args.datagram.now) d unrolled)

pub returns-clause-refuses_server : goal.returns-clause-refuses_server
returns-clause-refuses_server g c = λ is h k client server d after unrolled.
    c.take.ensures.refuses_server is h k client server d after (as_taken c.args.rollover (transfer_of k server) (datagram_of c.args.datagram.now) d unrolled)

pub returns-clause-counting_client : goal.returns-clause-counting_client
returns-clause-counting_client g c = λ is h k client server d after unrolled.
    c.take.ensures.counting_client is h k client server d after (as_taken c.args.rollover (transfer_of h client) (datagram_of c.args.datagram.now) d unrolled)

pub returns-clause-counting_server : goal.returns-clause-counting_server
returns-clause-counting_server g c = λ is h k client server d after unrolled.
    c.take.ensures.counting_server is h k client server d after (as_taken c.args.rollover (transfer_of k server) (datagram_of c.args.datagram.now) d unrolled)
