use Rattle.std.proofs.Common.{refl}
use Rattle.tftp_capture.specs.{datagram_of}
use Rattle.judge_pair.proofs.judge.rest.PairRest.feed.Goals as goal

pub returns-clause-refuses_client : goal.returns-clause-refuses_client
returns-clause-refuses_client g c = λ is h k client server after none.
    c.take.ensures.refuses_client is h k client server (datagram_of c.args.datagram.now) after (refl, refl) none

pub returns-clause-refuses_server : goal.returns-clause-refuses_server
returns-clause-refuses_server g c = λ is h k client server after none.
    c.take.ensures.refuses_server is h k client server (datagram_of c.args.datagram.now) after (refl, refl) none
