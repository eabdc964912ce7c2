use Rattle.std.proofs.Common.{List, Some}
use Rattle.tftp_packet.specs.{Rollover}
use Rattle.tftp_packet.specs.Hosts.{Datagram, Header}
use Rattle.law_end.specs.{OneEnded}
use Rattle.law_rollover.specs.{IsUnrolled}
use Rattle.tftp_capture.specs.{datagram_of}
use Rattle.law_model.specs.Rules.{transfer_of}
use Rattle.tftp_judge.proofs.Taken.{as_taken, as_unrolled, taken_there}
use Rattle.judge_pair.proofs.judge.pair.PairJudge.feed_numbered.Goals as goal

-- what it is read as is there
unrolls : (r : Rollover) (h : Header) (read : List Datagram) (here : Datagram) → OneEnded h read → (d : Datagram) × IsUnrolled r (transfer_of h read) here d
unrolls r h read here lawful = let (now, taken) = taken_there (Some r) h read here lawful in (now, as_unrolled r (transfer_of h read) here now taken)

pub returns-clause-client : goal.returns-clause-client
returns-clause-client g c = λ is h k client server d after unrolled.
    c.take.ensures.client is h k client server d after (as_taken c.args.rollover (transfer_of h client) (datagram_of c.args.datagram.now) d unrolled)

pub returns-clause-server : goal.returns-clause-server
returns-clause-server g c = λ is h k client server d after unrolled.
    c.take.ensures.server is h k client server d after (as_taken c.args.rollover (transfer_of k server) (datagram_of c.args.datagram.now) d unrolled)

pub returns-clause-refuses_client : goal.returns-clause-refuses_client
returns-clause-refuses_client g c = λ is h k client server d after unrolled.
    c.take.ensures.refuses_client is h k client server d after (as_taken c.args.rollover (transfer_of h client) (datagram_of c.args.datagram.now) d unrolled)

pub returns-clause-refuses_server : goal.returns-clause-refuses_server
returns-clause-refuses_server g c = λ is h k client server d after unrolled.
    c.take.ensures.refuses_server is h k client server d after (as_taken c.args.rollover (transfer_of k server) (datagram_of c.args.datagram.now) d unrolled)

pub returns-clause-counting_client : goal.returns-clause-counting_client
returns-clause-counting_client g c = λ is h k client server d after unrolled.
    c.take.ensures.counting_client is h k client server d after (as_taken c.args.rollover (transfer_of h client) (datagram_of c.args.datagram.now) d unrolled)

pub returns-clause-counting_server : goal.returns-clause-counting_server
returns-clause-counting_server g c = λ is h k client server d after unrolled.
    c.take.ensures.counting_server is h k client server d after (as_taken c.args.rollover (transfer_of k server) (datagram_of c.args.datagram.now) d unrolled)

pub returns-clause-unrolls_client : goal.returns-clause-unrolls_client
returns-clause-unrolls_client g c = λ h k client server after.
    unrolls c.args.rollover h client (datagram_of c.args.datagram.now) after.own_side.lawful

pub returns-clause-unrolls_server : goal.returns-clause-unrolls_server
returns-clause-unrolls_server g c = λ h k client server after.
    unrolls c.args.rollover k server (datagram_of c.args.datagram.now) after.other_side.lawful
